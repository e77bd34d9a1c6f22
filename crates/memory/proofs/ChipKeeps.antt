-- What a keep and a torn keep do at their slot.
use Rattle.std.proofs.Common.{◌≡◌, ℕ, ◌+◌, ◌<◌, ◌≤◌, true, false, leb, ◌⊎◌, List, length, get_or, set, Some, None, Option, Result, sym, refl, ◌∙◌, subst, inl, inr, ⊎_elim, arith, length-set}
use Rattle.std.proofs.lemmas.Grind.{common_steps}
use Rattle.std.proofs.lemmas.Bool.Decides.{nat_tests}
use Rattle.std.proofs.lemmas.Bool.{cases_eq, cases_lt, cases_Bool, cond-true, cond-false, eq-eqb, le-leb, lt-leb}
use Rattle.codec.specs.Limits.{max_batch_bytes}
use Rattle.memory.specs.Keep.{keep_bytes}
use Rattle.memory.specs.declared.keep.Keep.{Keep}
use Rattle.memory.specs.Chip.{slot_cells, mark_place, chip_cells, start, keep_place, written, full, slot_holds, chip_holds, keep_cells, torn_cells}
use Rattle.memory.specs.Meaning.{Within, KeepAnswer, Keeps, Tears}
use Rattle.memory.specs.declared.refusal.MemoryRefusal.{MemoryRefusal}
use Rattle.memory.proofs.ChipSlots.{Beside, slot_none, slot_is, placed_holds, chip_elsewhere}
use Rattle.memory.proofs.ChipWrites.{hit, missed, Written, written_is, length-written}

-- a keep is within the limits
pub within_keep : (k : Keep) → Within k.place.bed k.place.slot (length (keep_bytes k))
within_keep k = k.within

-- what a torn keep leaves in its slot
pub record SlotTorn (before after : List ℕ) (p : ℕ) (bytes : List ℕ) («at» : ℕ) : Type 0 where
  pub either : slot_holds before p ≡ None → (slot_holds after p ≡ None) ⊎ (slot_holds after p ≡ Some bytes)
  pub nothing : slot_holds before p ≡ None → «at» ≡ 0 → slot_holds after p ≡ None
  pub whole : slot_holds before p ≡ None → length bytes + 2 ≤ «at» → slot_holds after p ≡ Some bytes
  pub stays : (old : List ℕ) → slot_holds before p ≡ Some old → slot_holds after p ≡ Some old
  pub beside : Beside before after p

-- an empty slot has no mark
unmarked : (cells : List ℕ) (p : ℕ) → slot_holds cells p ≡ None → get_or cells (p + mark_place) 0 ≡ 165 → ⊥
unmarked cells p e m = grind (arith, common_steps, eq-eqb)

-- all cells of a keep are written
pub written_holds : (cells : List ℕ) (p : ℕ) (bytes : List ℕ) → p + slot_cells ≤ length cells → 1 ≤ length bytes → length bytes ≤ max_batch_bytes
    → slot_holds (written cells p bytes (length bytes + 2)) p ≡ Some bytes
written_holds cells p bytes room some most =
    let w = written_is cells p bytes (length bytes + 2) room some most (omega arith) in
    slot_is (written cells p bytes (length bytes + 2)) bytes p (omega (arith, length-written cells p bytes (length bytes + 2))) some most
    (w.length_cell (omega arith)) (w.mark_cell (omega arith)) (λ k h. w.bytes_cells k h (omega arith))

pub written_beside : (cells : List ℕ) (p : ℕ) (bytes : List ℕ) → p + slot_cells ≤ length cells → 1 ≤ length bytes → length bytes ≤ max_batch_bytes
    → Beside cells (written cells p bytes (length bytes + 2)) p
written_beside cells p bytes room some most =
    let w = written_is cells p bytes (length bytes + 2) room some most (omega arith) in record { below = w.below; above = w.above }

-- `at` cells are written, and junk into the next
pub torn_part : (before : List ℕ) (p : ℕ) (bytes : List ℕ) («at» junk : ℕ) → p + slot_cells ≤ length before → 1 ≤ length bytes → length bytes ≤ max_batch_bytes
    → «at» < length bytes + 2 → slot_holds before p ≡ None → SlotTorn before (set (written before p bytes «at») (p + keep_place (length bytes) «at») junk) p bytes «at»
torn_part before p bytes «at» junk room_before some most short empty =
    let mid : List ℕ = written before p bytes «at» in
    let q : ℕ = keep_place (length bytes) «at» in
    part mid q (written_is before p bytes «at» room_before some most (omega arith)) (omega (arith, length-written before p bytes «at»))
    (λ z. grind (arith, nat_tests)) (λ z. grind (arith, nat_tests))
  where
    part : (mid : List ℕ) (q : ℕ) → Written before mid p bytes «at» → p + slot_cells ≤ length mid → («at» ≤ length bytes → q ≡ «at») → (length bytes < «at» → q ≡ mark_place)
        → SlotTorn before (set mid (p + q) junk) p bytes «at»
    part mid q w room front last =
        let long : p + slot_cells ≤ length (set mid (p + q) junk) = simp length-set (omega arith) in
        let q_in : q < slot_cells = grind arith in
        let no_mark : «at» ≤ length bytes → slot_holds (set mid (p + q) junk) p ≡ None
        = λ h. slot_none (set mid (p + q) junk) p (λ m. unmarked before p empty (grind (arith, missed))) in
        let marked : length bytes < «at» → junk ≡ 165 → slot_holds (set mid (p + q) junk) p ≡ Some bytes
        = λ h j. slot_is (set mid (p + q) junk) bytes p long some most (grind (arith, missed)) (grind (arith, hit)) (λ k k_in. grind (arith, missed)) in
        let other : length bytes < «at» → (junk ≡ 165 → ⊥) → slot_holds (set mid (p + q) junk) p ≡ None
        = λ h j. slot_none (set mid (p + q) junk) p (λ m. j (grind (arith, hit))) in
        record {
          either = λ e. ⊎_elim (λ (h : «at» < length bytes + 1). inl (no_mark (omega arith)))
              (λ h. ⊎_elim (λ (j : junk ≡ 165). inr (marked (omega arith) j)) (λ j. inl (other (omega arith) j)) (cases_eq junk 165))
              (cases_lt «at» (length bytes + 1));
          nothing = λ e z. no_mark (omega arith);
          whole = λ e z. absurd (omega arith);
          stays = λ old e. grind (arith, common_steps);
          beside = record { below = λ k h. grind (arith, missed); above = λ k h. grind (arith, missed) };
        }

unchanged : (cells : List ℕ) (p : ℕ) → Beside cells cells p
unchanged cells p = record { below = λ k h. refl; above = λ k h. refl }

keep_beside : (cells : List ℕ) (p : ℕ) (bytes : List ℕ) → p + slot_cells ≤ length cells → 1 ≤ length bytes → length bytes ≤ max_batch_bytes → Beside cells (keep_cells cells p bytes) p
unfolding keep_cells
keep_beside cells p bytes room some most = grind (arith, written_beside, unchanged)

keep_takes : (cells : List ℕ) (p : ℕ) (bytes : List ℕ) → p + slot_cells ≤ length cells → 1 ≤ length bytes → length bytes ≤ max_batch_bytes → slot_holds cells p ≡ None → slot_holds (keep_cells cells p bytes) p ≡ Some bytes
unfolding keep_cells
keep_takes cells p bytes room some most e = grind (arith, common_steps, written_holds)

keep_stays : (cells : List ℕ) (p : ℕ) (bytes old : List ℕ) → slot_holds cells p ≡ Some old → slot_holds (keep_cells cells p bytes) p ≡ Some old
unfolding keep_cells
keep_stays cells p bytes old e = grind (arith, common_steps)

keep_length : (cells : List ℕ) (p : ℕ) (bytes : List ℕ) → length (keep_cells cells p bytes) ≡ length cells
unfolding keep_cells
keep_length cells p bytes = grind (arith, common_steps, length-written)

-- a keep on a chip is a keep
pub chip_keeps : (cells : List ℕ) (bed slot : ℕ) (bytes : List ℕ) (r : Result (Unit {0}) MemoryRefusal) → chip_cells ≤ length cells → Within bed slot (length bytes)
    → KeepAnswer (slot_holds cells (start bed slot)) bytes r → Keeps (chip_holds cells) bed slot bytes r (chip_holds (keep_cells cells (start bed slot) bytes))
chip_keeps cells bed slot bytes r big w a =
    let p : ℕ = start bed slot in
    let bed_in = w.place.bed_in in
    let slot_in = w.place.slot_in in
    let room : p + slot_cells ≤ length cells = omega arith in
    let h = placed_holds cells bed slot bed_in slot_in in
    let h' = placed_holds (keep_cells cells p bytes) bed slot bed_in slot_in in
    let n = keep_length cells p bytes in
    record {
      outside = λ o. absurd (o w);
      inside = λ _. subst (λ (x : Option (List ℕ)). KeepAnswer x bytes r) (sym h) a;
      takes = λ _ e. h' ∙ keep_takes cells p bytes room w.some w.most (sym h ∙ e);
      stays = λ old e. h' ∙ keep_stays cells p bytes old (sym h ∙ e);
      elsewhere = chip_elsewhere cells (keep_cells cells p bytes) bed slot big (omega arith) slot_in (keep_beside cells p bytes room w.some w.most);
    }

-- ---- torn keeps

torn_full : (cells : List ℕ) (p : ℕ) (bytes : List ℕ) («at» junk : ℕ) → full cells p ≡ true → torn_cells cells p bytes «at» junk ≡ cells
unfolding torn_cells
torn_full cells p bytes «at» junk f = cond-true (full cells p) _ _ f

torn_whole : (cells : List ℕ) (p : ℕ) (bytes : List ℕ) («at» junk : ℕ) → full cells p ≡ false → length bytes + 2 ≤ «at» → torn_cells cells p bytes «at» junk ≡ written cells p bytes (length bytes + 2)
unfolding torn_cells
torn_whole cells p bytes «at» junk f h = cond-false (full cells p) _ _ f ∙ cond-true (leb (length bytes + 2) «at») _ _ (le-leb (length bytes + 2) «at» h)

torn_broken : (cells : List ℕ) (p : ℕ) (bytes : List ℕ) («at» junk : ℕ) → full cells p ≡ false → «at» < length bytes + 2
    → torn_cells cells p bytes «at» junk ≡ set (written cells p bytes «at») (p + keep_place (length bytes) «at») junk
unfolding torn_cells
torn_broken cells p bytes «at» junk f h = cond-false (full cells p) _ _ f ∙ cond-false (leb (length bytes + 2) «at») _ _ (lt-leb (length bytes + 2) «at» h)

torn-length : (cells : List ℕ) (p : ℕ) (bytes : List ℕ) («at» junk : ℕ) → length (torn_cells cells p bytes «at» junk) ≡ length cells
unfolding torn_cells
torn-length cells p bytes «at» junk = grind (arith, common_steps, length-set, length-written)

slot_torn : (cells : List ℕ) (p : ℕ) (bytes : List ℕ) («at» junk : ℕ) → p + slot_cells ≤ length cells → 1 ≤ length bytes → length bytes ≤ max_batch_bytes
    → SlotTorn cells (torn_cells cells p bytes «at» junk) p bytes «at»
slot_torn cells p bytes «at» junk room some most = elim (cases_Bool (full cells p)) [
  | inl f ↦ subst (λ (l : List ℕ). SlotTorn cells l p bytes «at») (sym (torn_full cells p bytes «at» junk f)) (record {
    either = λ e. grind (arith, common_steps);
    nothing = λ e z. e;
    whole = λ e z. grind (arith, common_steps);
    stays = λ old e. e;
    beside = unchanged cells p;
  })
  | inr f ↦ elim (cases_lt «at» (length bytes + 2)) [
    | inl h ↦ subst (λ (l : List ℕ). SlotTorn cells l p bytes «at») (sym (torn_broken cells p bytes «at» junk f h)) (torn_part cells p bytes «at» junk room some most h (cond-false (full cells p) _ _ f))
    | inr h ↦ subst (λ (l : List ℕ). SlotTorn cells l p bytes «at») (sym (torn_whole cells p bytes «at» junk f h)) (record {
      either = λ e. inr (written_holds cells p bytes room some most);
      nothing = λ e z. absurd (omega arith);
      whole = λ e z. written_holds cells p bytes room some most;
      stays = λ old e. grind (arith, common_steps);
      beside = written_beside cells p bytes room some most;
    })
  ]
]

-- a torn keep on a chip is a torn keep whose number is 2
pub chip_tears : (cells : List ℕ) (bed slot : ℕ) (bytes : List ℕ) («at» junk : ℕ) → chip_cells ≤ length cells → Within bed slot (length bytes)
    → Tears 2 (chip_holds cells) bed slot bytes «at» (chip_holds (torn_cells cells (start bed slot) bytes «at» junk))
chip_tears cells bed slot bytes «at» junk big w =
    let p : ℕ = start bed slot in
    let bed_in = w.place.bed_in in
    let slot_in = w.place.slot_in in
    let room : p + slot_cells ≤ length cells = omega arith in
    let h = placed_holds cells bed slot bed_in slot_in in
    let h' = placed_holds (torn_cells cells p bytes «at» junk) bed slot bed_in slot_in in
    let n = torn-length cells p bytes «at» junk in
    let t = slot_torn cells p bytes «at» junk room w.some w.most in
    record {
      outside = λ o. absurd (o w);
      either = λ _ e. ⊎_elim (λ x. inl (h' ∙ x)) (λ x. inr (h' ∙ x)) (t.either (sym h ∙ e));
      nothing = λ _ e z. h' ∙ t.nothing (sym h ∙ e) z;
      whole = λ _ e z. h' ∙ t.whole (sym h ∙ e) z;
      stays = λ old e. h' ∙ t.stays old (sym h ∙ e);
      elsewhere = chip_elsewhere cells (torn_cells cells p bytes «at» junk) bed slot big (omega arith) slot_in t.beside;
    }
