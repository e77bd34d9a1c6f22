-- What a propose comes to before it keeps anything.
use Rattle.std.proofs.Common.{◌≡◌, ℕ, ◌<◌, ◌⊎◌, List, length, take, Ok, Err, Result, sym, refl, ap, ◌∙◌, subst, inl, inr, arith}
use Rattle.std.proofs.ByRecursion.{All-get_or}
use Rattle.codec.specs.Limits.{batch_tickets}
use Rattle.codec.specs.TicketList.{Sound}
use Rattle.codec.specs.Value.{BatchValue}
use Rattle.codec.specs.declared.refusal.WriteRefusal.{WriteRefusal}
use Rattle.codec.specs.declared.refusal.WriteRefusal.TheVariants as wr
use Rattle.codec.specs.declared.ticket.Ticket.{Ticket}
use Rattle.codec.specs.declared.value.Value.{Value}
use Rattle.codec.proofs.ListEdits.{edit_laws}
use Rattle.memory.specs.Meaning.{Slots}
use Rattle.decision.specs.Meaning.{Board}
use Rattle.group.specs.Limits.{set_tickets}
use Rattle.group.specs.World.{Bed, bed}
use Rattle.group.specs.Calls.{proposing}
use Rattle.group.specs.Admission.{admitted}
use Rattle.group.specs.Record.{bed_of, BedSound, waiting_in}
use Rattle.group.specs.Table.{world_of, no_record, record_of, admission}
use Rattle.group.specs.declared.bed.Event.{Event}
use Rattle.group.specs.declared.bed.Event.TheVariants as ev
use Rattle.group.specs.declared.bed.Phase.{Phase}
use Rattle.group.specs.declared.bed.Phase.TheVariants.{Off, Idle, Waiting}
use Rattle.group.specs.declared.refusal.Refusal.{Refusal}
use Rattle.group.specs.declared.refusal.Refusal.TheVariants as rf
use Rattle.group.specs.declared.table.Table.{Table}
use Rattle.group.proofs.Replays.{waiting_runs}
use Rattle.group.proofs.Tables.{table_bed, fits, unsound, no_bed, is_off_lem, runs, admit_refuses, admit_accepts}

-- the two events that propose
abbrev pub Proposes : Event → Type 0
Proposes event = (event ≡ ev.Propose) ⊎ (event ≡ ev.Trip)

refuses : (x : Phase) (event : Event) (e : Refusal) → Proposes event → admitted x event ≡ Err e → ((x ≡ Off) × (e ≡ rf.BedOff)) ⊎ ((x ≡ Waiting) × (e ≡ rf.Waiting))
refuses Off event e (inl u) h = let z = ap (admitted Off) u in inl (refl, cc)
refuses Off event e (inr u) h = let z = ap (admitted Off) u in inl (refl, cc)
refuses Idle event e (inl u) h = let y = ap (admitted Idle) u in let z : ◌≡◌ {A = ℕ} 0 1 = cc in absurd (omega arith)
refuses Idle event e (inr u) h = let y = ap (admitted Idle) u in let z : ◌≡◌ {A = ℕ} 0 1 = cc in absurd (omega arith)
refuses Waiting event e (inl u) h = let z = ap (admitted Waiting) u in inr (refl, cc)
refuses Waiting event e (inr u) h = let z = ap (admitted Waiting) u in inr (refl, cc)

accepts : (x : Phase) (event : Event) (p : Phase) → Proposes event → admitted x event ≡ Ok p → x ≡ Idle
accepts Off event p (inl u) h = let y = ap (admitted Off) u in let z : ◌≡◌ {A = ℕ} 0 1 = cc in absurd (omega arith)
accepts Off event p (inr u) h = let y = ap (admitted Off) u in let z : ◌≡◌ {A = ℕ} 0 1 = cc in absurd (omega arith)
accepts Idle event p which h = refl
accepts Waiting event p (inl u) h = let y = ap (admitted Waiting) u in let z : ◌≡◌ {A = ℕ} 0 1 = cc in absurd (omega arith)
accepts Waiting event p (inr u) h = let y = ap (admitted Waiting) u in let z : ◌≡◌ {A = ℕ} 0 1 = cc in absurd (omega arith)

-- an idle bed of the group
pub record IdleAt (t : Table) (b i : ℕ) : Type 0 where
  pub place : i ≡ b
  pub low : b < t.size.count
  pub idle : (record_of t b).phase ≡ Idle
  pub index : i < t.size.count
  pub inside : i < length t.beds

pub admits_idle : (t : Table) (b : ℕ) (event : Event) (i : ℕ) (p : Phase) → Proposes event → Ok (i, p) ≡ admission t b event → IdleAt t b i
admits_idle t b event i p which h =
    let a = admit_accepts t b event i p h in
    record { place = a.0; low = a.1; idle = accepts (record_of t b).phase event p which a.2; index = omega (arith, a.0, a.1); inside = omega (arith, a.0, a.1, fits t) }

module _ (t : Table) (kept : Slots) (board : Board) (b : ℕ) where
  shows : b < t.size.count → bed (world_of t kept board) b ≡ bed_of (record_of t b)
  shows low = table_bed t b no_record low

  pub propose_refused : (event : Event) (e : Refusal) → Proposes event → Err e ≡ admission t b event → proposing (world_of t kept board) b (λ _ _. ⊥) (Err e) (world_of t kept board)
  propose_refused event e which h =
      elim (admit_refuses t b event e h) [
        | inl p ↦ subst (λ x. proposing (world_of t kept board) b (λ _ _. ⊥) (Err x) (world_of t kept board)) (sym p.1) (no_bed t kept board b p.0)
        | inr p ↦
            elim (refuses (record_of t b).phase event e which p.1) [
              | inl o ↦ subst (λ x. proposing (world_of t kept board) b (λ _ _. ⊥) (Err x) (world_of t kept board)) (sym o.1) (is_off_lem t kept board b p.0 o.0)
              | inr o ↦
                  subst (λ x. proposing (world_of t kept board) b (λ _ _. ⊥) (Err x) (world_of t kept board)) (sym o.1)
                  (runs t kept board b (Err rf.Waiting) (world_of t kept board) p.0 (λ z. waiting_runs (sym o.0 ∙ z))
                  (inl (ap (λ (x : Bed). x.phase) (shows p.0) ∙ o.0, (refl, refl))))
            ]
      ]

-- the first of a sound set are a batch
pub batch_has_form : (t : Table) (b i : ℕ) → IdleAt t b i → (ts : List Ticket) (r : Result Value WriteRefusal) (e : WriteRefusal) → ts ≡ take batch_tickets (waiting_in (record_of t i).waiting) → BatchValue t.size.count ts r → r ≡ Err e → ⊥
batch_has_form t b i on ts r e same h f = go e (subst (BatchValue t.size.count ts) f h)
  where
    go : (e : WriteRefusal) → BatchValue t.size.count ts (Err e) → ⊥
    go wr.NoRoom k = k
    go wr.NoForm k =
        unsound t (λ all.
        let s = All-get_or (BedSound t.size.count) t.beds i no_record on.inside all in
        k (subst (Sound t.size.count batch_tickets) (sym same) (edit_laws.first_sound t.size.count set_tickets batch_tickets (waiting_in (record_of t i).waiting) s.set)))
