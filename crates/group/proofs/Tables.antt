-- How the world of a group follows its table: sizes, single beds, and one record that changes.
use Rattle.std.proofs.Common.{◌≡◌, ℕ, zero, suc, ◌<◌, ◌≤◌, Bool, true, false, cond, leb, ◌⊎◌, ◌∷◌, map, length, get_or, take, set, replicate, Ok, Err, Result, sym, refl, ap, ◌∙◌, inl, inr, arith, length-take-le, get_or-take}
use mathlib.Core.Logic.{∥∥₁_map, ∥∥₁_elim}
use lib.Seq.{take-set-lt, map-set, set-get_or}
use Rattle.std.proofs.lemmas.List.{get_or_default, length-map, get_or-map, take-replicate}
use Rattle.std.specs.List.{AllByRecursion}
use Rattle.std.proofs.ByRecursion.{All-set, All-get_or}
use Rattle.std.proofs.lemmas.Bool.{leb-true, leb-false, cases_lt}
use Rattle.codec.specs.Limits.{max_beds}
use Rattle.memory.specs.Meaning.{Slots}
use Rattle.decision.specs.Meaning.{Board}
use Rattle.group.specs.World.{Bed, World, off_bed, changed}
use Rattle.group.specs.Outcome.{Answer, on_running}
use Rattle.group.specs.Record.{bed_of, BedSound}
use Rattle.group.specs.Table.{beds_of, world_of, no_record, record_of, placed, admission}
use Rattle.group.specs.Admission.{admitted}
use Rattle.group.specs.declared.bed.BedRecord.{BedRecord}
use Rattle.group.specs.declared.bed.Event.{Event}
use Rattle.group.specs.declared.bed.Event.TheVariants as ev
use Rattle.group.specs.declared.bed.Phase.{Phase}
use Rattle.group.specs.declared.bed.Phase.TheVariants.{Off}
use Rattle.group.specs.declared.refusal.Refusal.{Refusal}
use Rattle.group.specs.declared.refusal.Refusal.TheVariants as rf
use Rattle.group.specs.declared.table.Table.{Table}

pub fits : (t : Table) → t.size.count ≤ length t.beds
fits t = omega (arith, t.room, t.size.most)

pub in_table : (t : Table) (i : ℕ) → i < t.size.count → i < length t.beds
in_table t i low = omega (arith, low, fits t)

pub table_size : (t : Table) → length (beds_of t) ≡ t.size.count
table_size t = length-map (take t.size.count t.beds) bed_of ∙ length-take-le t.size.count t.beds (fits t)

-- inside the table, it does not matter what a place past the records would read as
pub record_is : (t : Table) (i : ℕ) (r : BedRecord) → i < length t.beds → get_or t.beds i r ≡ record_of t i
record_is t i r low = get_or_default t.beds i r no_record low

-- the bed that a record shows
pub table_bed : (t : Table) (b : ℕ) (d : BedRecord) → b < t.size.count → get_or (beds_of t) b off_bed ≡ bed_of (get_or t.beds b d)
table_bed t b d low =
    get_or-map bed_of (take t.size.count t.beds) b d off_bed (omega (arith, length-take-le t.size.count t.beds (fits t)))
    ∙ ap bed_of (get_or-take t.size.count t.beds b d low)

-- one record changed, and so one bed of the world
pub beds_set : (t : Table) (i : ℕ) (r : BedRecord) → i < t.size.count → map bed_of (take t.size.count (set t.beds i r)) ≡ set (beds_of t) i (bed_of r)
beds_set t i r low = ap (map bed_of) (take-set-lt t.size.count t.beds i r low) ∙ map-set bed_of (take t.size.count t.beds) i r

pub table_changed : (t : Table) (kept : Slots) (board : Board) (b i : ℕ) (r : BedRecord) (x : Bed) → i ≡ b → b < t.size.count → bed_of r ≡ x →
    ◌≡◌ {A = World} (record { beds = map bed_of (take t.size.count (set t.beds i r)); kept = kept; board = board }) (changed (world_of t kept board) b x)
table_changed t kept board b i r x e low shows =
    ap (λ l. record { beds = l; kept = kept; board = board })
    (ap (λ k. map bed_of (take t.size.count (set t.beds k r))) e ∙ beds_set t b r low ∙ ap (set (beds_of t) b) shows)

-- a record put back as it was
pub table_unchanged : (t : Table) (kept : Slots) (board : Board) (i : ℕ) (r : BedRecord) → r ≡ record_of t i →
    ◌≡◌ {A = World} (record { beds = map bed_of (take t.size.count (set t.beds i r)); kept = kept; board = board }) (world_of t kept board)
table_unchanged t kept board i r e = ap (λ l. record { beds = map bed_of (take t.size.count l); kept = kept; board = board }) (ap (set t.beds i) e ∙ set-get_or t.beds i no_record)

-- what holds of the records still holds when a sound one comes in
pub table_sound : (t : Table) (i : ℕ) (r : BedRecord) → BedSound t.size.count r → ∥ AllByRecursion (BedSound t.size.count) (set t.beds i r) ∥₁
table_sound t i r s = ∥∥₁_map t.sound (λ a. All-set (BedSound t.size.count) t.beds i r s a)

-- ---- the first rows of every call

module _ (t : Table) (kept : Slots) (board : Board) (b : ℕ) where
  -- the rows of a call on a running bed, and what comes after them
  abbrev Rows : Answer → World → Type 0 → Type 0
  Rows a w' Rest = on_running (world_of t kept board) b (λ _ _. Rest) a w'

  pub no_bed : {Rest : Type 0} → t.size.count ≤ b → Rows (Err rf.NoBed) (world_of t kept board) Rest
  no_bed l = inl (omega (arith, table_size t, l), (refl, refl))

  pub is_off_lem : {Rest : Type 0} → b < t.size.count → (record_of t b).phase ≡ Off → Rows (Err rf.BedOff) (world_of t kept board) Rest
  is_off_lem low off = inr ((λ l. omega (arith, table_size t, l)), inl (ap (λ (x : Bed). x.phase) (table_bed t b no_record low) ∙ off, (refl, refl)))

  pub runs : {Rest : Type 0} (a : Answer) (w' : World) → b < t.size.count → ((record_of t b).phase ≡ Off → ⊥) → Rest → Rows a w' Rest
  runs a w' low on h = inr ((λ l. omega (arith, table_size t, l)), inr ((λ e. on (sym (ap (λ (x : Bed). x.phase) (table_bed t b no_record low)) ∙ e)), h))

-- ---- a new table

map-replicate : (n : ℕ) (r : BedRecord) → map bed_of (replicate n r) ≡ replicate n (bed_of r)
map-replicate zero r = refl
map-replicate (suc n) r = ap (λ l. bed_of r ∷ l) (map-replicate n r)

pub new_beds : (n : ℕ) (r : BedRecord) → n ≤ max_beds → bed_of r ≡ off_bed → map bed_of (take n (replicate max_beds r)) ≡ replicate n off_bed
new_beds n r most off = ap (map bed_of) (take-replicate n max_beds r most) ∙ map-replicate n r ∙ ap (replicate n) off

-- ---- what an admission says

-- refused: no such bed, or the phase does not admit the event
pub admit_refuses : (t : Table) (b : ℕ) (event : Event) (e : Refusal) → Err e ≡ admission t b event →
    ((t.size.count ≤ b) × (e ≡ rf.NoBed)) ⊎ ((b < t.size.count) × (admitted (record_of t b).phase event ≡ Err e))
admit_refuses t b event e h = go (leb t.size.count b) (admitted (record_of t b).phase event) refl refl h
  where
    go : (x : Bool) (y : Result Phase Refusal) → leb t.size.count b ≡ x → admitted (record_of t b).phase event ≡ y → ◌≡◌ {A = Result (ℕ × Phase) Refusal} (Err e) (cond x (Err rf.NoBed) (placed b y)) →
        ((t.size.count ≤ b) × (e ≡ rf.NoBed)) ⊎ ((b < t.size.count) × (admitted (record_of t b).phase event ≡ Err e))
    go true y p q k = inl (leb-true _ _ p, cc)
    go false (Ok z) p q k = absurd (let z : ◌≡◌ {A = ℕ} 0 1 = cc in omega arith)
    go false (Err f) p q k = inr (leb-false _ _ p, (let s : f ≡ e = cc in q ∙ ap Err s))

pub admit_accepts : (t : Table) (b : ℕ) (event : Event) (i : ℕ) (p : Phase) → Ok (i, p) ≡ admission t b event → (i ≡ b) × (b < t.size.count) × (admitted (record_of t b).phase event ≡ Ok p)
admit_accepts t b event i p h = go (leb t.size.count b) (admitted (record_of t b).phase event) refl refl h
  where
    go : (x : Bool) (y : Result Phase Refusal) → leb t.size.count b ≡ x → admitted (record_of t b).phase event ≡ y → ◌≡◌ {A = Result (ℕ × Phase) Refusal} (Ok (i, p)) (cond x (Err rf.NoBed) (placed b y)) →
        (i ≡ b) × (b < t.size.count) × (admitted (record_of t b).phase event ≡ Ok p)
    go true y q r k = absurd (let z : ◌≡◌ {A = ℕ} 0 1 = cc in omega arith)
    go false (Ok z) q r k = let e : ◌≡◌ {A = ℕ × Phase} (i, p) (b, z) = cc in (ap (λ (x : ℕ × Phase). x.0) e, leb-false _ _ q, r ∙ ap (λ (x : ℕ × Phase). Ok x.1) (sym e))
    go false (Err f) q r k = absurd (let z : ◌≡◌ {A = ℕ} 0 1 = cc in omega arith)

-- or the bed runs
running_only : (x : Phase) (event : Event) (p : Phase) → ((event ≡ ev.Use) ⊎ (event ≡ ev.Off)) → admitted x event ≡ Ok p → x ≡ Off → ⊥
running_only x event p (inl u) h off = let y : admitted x event ≡ Err rf.BedOff = ap (λ z. admitted z event) off ∙ ap (admitted Off) u in let z : ◌≡◌ {A = ℕ} 0 1 = cc in omega arith
running_only x event p (inr u) h off = let y : admitted x event ≡ Err rf.BedOff = ap (λ z. admitted z event) off ∙ ap (admitted Off) u in let z : ◌≡◌ {A = ℕ} 0 1 = cc in omega arith

pub record Admitted (t : Table) (b i : ℕ) : Type 0 where
  pub place : i ≡ b
  pub low : b < t.size.count
  pub on : (record_of t b).phase ≡ Off → ⊥
  pub index : i < t.size.count
  pub inside : i < length t.beds

pub admits_running : (t : Table) (b : ℕ) (event : Event) (i : ℕ) (p : Phase) → ((event ≡ ev.Use) ⊎ (event ≡ ev.Off)) → Ok (i, p) ≡ admission t b event → Admitted t b i
admits_running t b event i p which h =
    let a = admit_accepts t b event i p h in
    record {
      place = a.0;
      low = a.1;
      on = running_only (record_of t b).phase event p which a.2;
      index = omega (arith, a.0, a.1);
      inside = omega (arith, a.0, a.1, fits t);
    }

-- ---- what holds of every record

never : IsProp ⊥
never x y = absurd x

-- what no sound table allows is not so
pub unsound : (t : Table) → (AllByRecursion (BedSound t.size.count) t.beds → ⊥) → ⊥
unsound t f = ∥∥₁_elim t.sound never f

-- a bound that every sound record has
pub bounded : (t : Table) (i a b : ℕ) → i < length t.beds → (BedSound t.size.count (record_of t i) → a ≤ b) → a ≤ b
bounded t i a b low f =
    elim (cases_lt b a) [
      | inl l ↦ absurd (unsound t (λ s. let h = f (All-get_or (BedSound t.size.count) t.beds i no_record low s) in omega arith))
      | inr l ↦ l
    ]

-- a record that is sound if the one before it was
pub table_still_sound : (t : Table) (i : ℕ) (r : BedRecord) → i < length t.beds → (BedSound t.size.count (record_of t i) → BedSound t.size.count r) → ∥ AllByRecursion (BedSound t.size.count) (set t.beds i r) ∥₁
table_still_sound t i r low f =
    ∥∥₁_map t.sound (λ a. All-set (BedSound t.size.count) t.beds i r (f (All-get_or (BedSound t.size.count) t.beds i no_record low a)) a)
