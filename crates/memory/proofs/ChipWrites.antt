-- What stands in each cell after the first `count` of a keep are written.
use Rattle.std.proofs.Common.{◌≡◌, ℕ, zero, suc, ◌+◌, ◌-◌, ◌<◌, ◌≤◌, List, length, get_or, set, refl, ◌∙◌, add-one, arith, length-set, get_or-set_other}
use Rattle.std.proofs.lemmas.Grind.{common_steps}
use Rattle.std.proofs.lemmas.Bool.Decides.{nat_tests}
use Rattle.codec.specs.Limits.{max_batch_bytes}
use Rattle.memory.specs.Chip.{slot_cells, mark_place, keep_place, keep_cell, written}

-- what stands at k after a write at i
pub hit : (l : List ℕ) (i k v : ℕ) → i < length l → k ≡ i → get_or (set l i v) k 0 ≡ v
hit l i k v h e = grind (arith, common_steps, nat_tests)

pub missed : (l : List ℕ) (i k v : ℕ) → (k ≡ i → ⊥) → get_or (set l i v) k 0 ≡ get_or l k 0
missed l i k v h = get_or-set_other l i k v 0 h

-- the loop's step
pub written_step : (cells : List ℕ) (p : ℕ) (bytes : List ℕ) (i : ℕ)
    → written cells p bytes (i + 1) ≡ set (written cells p bytes i) (p + keep_place (length bytes) i) (keep_cell bytes i)
written_step cells p bytes i = rw add-one

pub length-written : (cells : List ℕ) (p : ℕ) (bytes : List ℕ) (count : ℕ) → length (written cells p bytes count) ≡ length cells
length-written cells p bytes zero = refl
length-written cells p bytes (suc k) = length-set (written cells p bytes k) (p + keep_place (length bytes) k) (keep_cell bytes k) ∙ length-written cells p bytes k

pub record Written (before after : List ℕ) (p : ℕ) (bytes : List ℕ) (count : ℕ) : Type 0 where
  pub length_cell : 0 < count → get_or after p 0 ≡ length bytes
  pub bytes_cells : (k : ℕ) → k < length bytes → k + 1 < count → get_or after (p + 1 + k) 0 ≡ get_or bytes k 0
  pub mark_cell : length bytes + 1 < count → get_or after (p + mark_place) 0 ≡ 165
  pub mark_kept : count ≤ length bytes + 1 → get_or after (p + mark_place) 0 ≡ get_or before (p + mark_place) 0
  pub below : (k : ℕ) → k < p → get_or after k 0 ≡ get_or before k 0
  pub above : (k : ℕ) → p + slot_cells ≤ k → get_or after k 0 ≡ get_or before k 0

more : (before after bytes : List ℕ) (p i q v : ℕ) → p + slot_cells ≤ length after → 1 ≤ length bytes → length bytes ≤ max_batch_bytes → i < length bytes + 2
    → (i ≤ length bytes → q ≡ i) → (length bytes < i → q ≡ mark_place)
    → (i ≡ 0 → v ≡ length bytes) → ((k : ℕ) → i ≡ k + 1 → k < length bytes → v ≡ get_or bytes k 0) → (length bytes < i → v ≡ 165)
    → Written before after p bytes i → Written before (set after (p + q) v) p bytes (suc i)
more before after bytes p i q v room some most i_in front last v_first v_middle v_last w =
    let q_in : p + q < length after = grind arith in
    record {
      length_cell = λ h. grind (arith, hit, missed);
      bytes_cells = λ k h₁ h₂. grind (arith, hit, missed);
      mark_cell = λ h. grind (arith, hit, missed);
      mark_kept = λ h. grind (arith, hit, missed);
      below = λ k h. grind (arith, hit, missed);
      above = λ k h. grind (arith, hit, missed);
    }

pub written_is : (cells : List ℕ) (p : ℕ) (bytes : List ℕ) (count : ℕ) → p + slot_cells ≤ length cells → 1 ≤ length bytes → length bytes ≤ max_batch_bytes → count ≤ length bytes + 2
    → Written cells (written cells p bytes count) p bytes count
written_is cells p bytes zero room some most h = record {
  length_cell = λ z. absurd (omega arith);
  bytes_cells = λ k h₁ h₂. absurd (omega arith);
  mark_cell = λ z. absurd (omega arith);
  mark_kept = λ z. refl;
  below = λ k z. refl;
  above = λ k z. refl;
}
written_is cells p bytes (suc i) room some most h =
    let long : p + slot_cells ≤ length (written cells p bytes i) = omega (arith, length-written cells p bytes i) in
    more cells (written cells p bytes i) bytes p i (keep_place (length bytes) i) (keep_cell bytes i) long some most (omega arith)
    (λ z. grind (arith, nat_tests)) (λ z. grind (arith, nat_tests))
    (λ z. grind (arith, nat_tests)) (λ k e z. let s : i - 1 ≡ k = omega arith in grind (arith, nat_tests)) (λ z. grind (arith, nat_tests))
    (written_is cells p bytes i room some most (omega arith))
