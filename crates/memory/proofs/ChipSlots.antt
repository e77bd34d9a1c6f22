-- What the cells of a slot say of what it holds.
use Rattle.std.proofs.Common.{◌≡◌, ℕ, ◌+◌, ◌<◌, ◌≤◌, Bool, true, false, cond, ltb, ◌⊎◌, List, length, get_or, take, drop, Some, None, Option, refl, inl, inr, ⊎_elim, arith, length-drop, length-take, ext_get_or}
use Rattle.std.proofs.lemmas.Grind.{common_steps}
use Rattle.std.proofs.lemmas.Bool.Decides.{nat_tests}
use Rattle.std.proofs.lemmas.List.{get_or-take, get_or-drop}
use Rattle.std.proofs.lemmas.Bool.{cases_order, and_parts, ltb-true}
use Rattle.memory.specs.Meaning.{Elsewhere}
use Rattle.codec.specs.Limits.{max_beds, max_batch_bytes}
use Rattle.memory.specs.Limits.{slot_count, slot_index, placed}
use Rattle.memory.specs.Chip.{slot_cells, mark_place, chip_cells, start, counted, slot_holds, chip_holds}

-- no cell outside the slot whose first cell is p is changed
pub record Beside (before after : List ℕ) (p : ℕ) : Type 0 where
  pub below : (k : ℕ) → k < p → get_or after k 0 ≡ get_or before k 0
  pub above : (k : ℕ) → p + slot_cells ≤ k → get_or after k 0 ≡ get_or before k 0

pub slot_none : (cells : List ℕ) (p : ℕ) → (get_or cells (p + mark_place) 0 ≡ 165 → ⊥) → slot_holds cells p ≡ None
slot_none cells p h = grind (arith, common_steps, nat_tests, h)

-- a stretch of two lists that agree there
pub same_part : (a b : List ℕ) (p n : ℕ) → p + n ≤ length a → p + n ≤ length b
    → ((k : ℕ) → k < n → get_or a (p + k) 0 ≡ get_or b (p + k) 0) → take n (drop p a) ≡ take n (drop p b)
same_part a b p n la lb h =
    ext_get_or 0 _ _ (simp (length-take, length-drop) (omega arith))
    (λ i i_in. let i_lt : i < n = omega (arith, simp (length-take, length-drop) at i_in) in
    rw (get_or-take n (drop p a) i 0 i_lt, get_or-take n (drop p b) i 0 i_lt, get_or-drop p a i 0, get_or-drop p b i 0) (h i i_lt))

-- the bytes that stand from p on
pub part_is : (a bytes : List ℕ) (p : ℕ) → p + length bytes ≤ length a
    → ((k : ℕ) → k < length bytes → get_or a (p + k) 0 ≡ get_or bytes k 0) → take (length bytes) (drop p a) ≡ bytes
part_is a bytes p la h =
    ext_get_or 0 _ _ (simp (length-take, length-drop) (omega arith))
    (λ i i_in. let i_lt : i < length bytes = omega (arith, simp (length-take, length-drop) at i_in) in
    rw (get_or-take (length bytes) (drop p a) i 0 i_lt, get_or-drop p a i 0) (h i i_lt))

pub slot_is : (cells bytes : List ℕ) (p : ℕ) → p + slot_cells ≤ length cells → 1 ≤ length bytes → length bytes ≤ max_batch_bytes
    → get_or cells p 0 ≡ length bytes → get_or cells (p + mark_place) 0 ≡ 165
    → ((k : ℕ) → k < length bytes → get_or cells (p + 1 + k) 0 ≡ get_or bytes k 0) → slot_holds cells p ≡ Some bytes
slot_is cells bytes p room some most len mark data_is =
    let n_is : counted (get_or cells p 0) ≡ length bytes = omega arith in
    let part : take (length bytes) (drop (p + 1) cells) ≡ bytes = part_is cells bytes (p + 1) (omega arith) data_is in
    grind (arith, common_steps, nat_tests)

pub slot_same : (a b : List ℕ) (p : ℕ) → p + slot_cells ≤ length a → p + slot_cells ≤ length b
    → ((k : ℕ) → p ≤ k → k < p + slot_cells → get_or a k 0 ≡ get_or b k 0) → slot_holds a p ≡ slot_holds b p
slot_same a b p la lb h =
    let e66 : get_or a (p + mark_place) 0 ≡ get_or b (p + mark_place) 0 = h (p + mark_place) (omega arith) (omega arith) in
    let e0 : get_or a p 0 ≡ get_or b p 0 = h p (omega arith) (omega arith) in
    let part : take (counted (get_or b p 0)) (drop (p + 1) a) ≡ take (counted (get_or b p 0)) (drop (p + 1) b)
    = same_part a b (p + 1) (counted (get_or b p 0)) (omega arith) (omega arith) (λ k k_in. h (p + 1 + k) (omega arith) (omega arith)) in
    cc

-- two slots lie apart
pub apart : (b s bed slot : ℕ) → s < slot_count → slot < slot_count → ((b ≡ bed) → (s ≡ slot) → ⊥)
    → (start b s + slot_cells ≤ start bed slot) ⊎ (start bed slot + slot_cells ≤ start b s)
apart b s bed slot s_in slot_in ne =
    ⊎_elim (λ (e : slot_index b s ≡ slot_index bed slot). absurd (ne (omega arith) (omega arith)))
    (⊎_elim (λ (l : slot_index b s < slot_index bed slot). inl (omega arith)) (λ (l : slot_index bed slot < slot_index b s). inr (omega arith)))
    (cases_order (slot_index b s) (slot_index bed slot))

-- what a placed slot shows
pub placed_holds : (cells : List ℕ) (bed slot : ℕ) → bed < max_beds → slot < slot_count → chip_holds cells bed slot ≡ slot_holds cells (start bed slot)
placed_holds cells bed slot b_in s_in =
    grind (arith, common_steps, nat_tests)

-- every slot that lies beside is as it was
same_where : (t : Bool) (x y : Option (List ℕ)) → (t ≡ true → x ≡ y) → cond t x None ≡ cond t y None
same_where true x y h = h refl
same_where false x y h = refl

pub chip_elsewhere : (before after : List ℕ) (bed slot : ℕ) → chip_cells ≤ length before → chip_cells ≤ length after → slot < slot_count
    → Beside before after (start bed slot) → Elsewhere (chip_holds before) bed slot (chip_holds after)
chip_elsewhere before after bed slot lb la slot_in w b s ne =
    same_where (placed b s) _ _ (λ t.
    let a = and_parts (ltb b max_beds) (ltb s slot_count) t in
    let b_in = ltb-true b max_beds a.0 in
    let s_in = ltb-true s slot_count a.1 in
    slot_same after before (start b s) (omega arith) (omega arith)
    (λ k low high. ⊎_elim (λ (f : start b s + slot_cells ≤ start bed slot). w.below k (omega arith)) (λ (f : start bed slot + slot_cells ≤ start b s). w.above k (omega arith)) (apart b s bed slot s_in slot_in ne)))
