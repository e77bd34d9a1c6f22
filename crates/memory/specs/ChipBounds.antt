-- A slot of a chip holds nothing or 1 to 65 bytes, whatever its cells are; assumes that there are enough cells.
use Rattle.std.specs.Prelude.{◌≡◌, ℕ, ◌+◌, ◌-◌, ◌≤◌, min, Bool, true, false, cond, List, length, take, drop, Some, None, Option, nat_lt, slice_index, refl}
use Rattle.std.proofs.Common.{sym, ap, ◌∙◌, arith, length-take, length-drop}
use Rattle.std.proofs.lemmas.Bool.{and_parts, ltb-true}
use Rattle.codec.specs.Limits.{max_beds}
use Rattle.memory.specs.Limits.{slot_count, placed}
use Rattle.memory.specs.Meaning.{Bounded}
use Rattle.memory.specs.Chip.{chip_cells, start, counted, full, slot_holds, chip_holds}

-- what a test lets through
through : {X : Type 0} (t : Bool) (o : Option X) (v : X) → cond t o None ≡ Some v → (t ≡ true) × (o ≡ Some v)
through true o v e = (refl, e)
through false o v e = absurd (let z : ◌≡◌ {A = ℕ} 0 1 = cc in omega arith)

some_same : (x v : List ℕ) → Some x ≡ Some v → x ≡ v
some_same x v e = cc

pub chip_bounded : (cells : List ℕ) → chip_cells ≤ length cells → Bounded (chip_holds cells)
chip_bounded cells big bed slot v e =
    let p = through (placed bed slot) (slot_holds cells (start bed slot)) v e in
    let a = and_parts (nat_lt bed max_beds) (nat_lt slot slot_count) p.0 in
    let bed_in = ltb-true bed max_beds a.0 in
    let slot_in = ltb-true slot slot_count a.1 in
    let q = through (full cells (start bed slot)) _ v p.1 in
    let same = some_same (take (counted (slice_index cells (start bed slot))) (drop (start bed slot + 1) cells)) v q.1 in
    let len : length v ≡ min (counted (slice_index cells (start bed slot))) (length cells - (start bed slot + 1)) = sym (ap length same) ∙ simp (length-take, length-drop) in
    record { place = record { bed_in = bed_in; slot_in = slot_in }; some = omega arith; most = omega arith }
