-- What a table means; assumes nothing.
use Rattle.std.specs.Prelude.{◌≡◌, ℕ, ◌<◌, ◌≤◌, Bool, true, false, cond, List, length, Some, None, Option, nat_lt, slice_index_or, refl}
use Rattle.std.proofs.Common.{subst, arith}
use Rattle.std.proofs.lemmas.Bool.{and_parts, ltb-true}
use Rattle.codec.specs.Limits.{max_beds, max_batch_bytes}
use Rattle.codec.specs.Value.{value_bytes, shown}
use Rattle.codec.specs.declared.value.Value.{Value}
use Rattle.codec.proofs.Values.{value_some, value_most}
use Rattle.memory.specs.Limits.{slot_count, slot_index, placed}
use Rattle.memory.specs.Meaning.{Bounded, Within}

-- the number that a table names: it has no cells of its own
abbrev pub table_named : ℕ
table_named = 0

abbrev pub table_holds : List (Option Value) → ℕ → ℕ → Option (List ℕ)
table_holds slots bed slot = cond (placed bed slot) (shown (slice_index_or slots (slot_index bed slot) None)) None

-- what a slot shows has 1 to 65 bytes
within : (bed slot : ℕ) (b : Bool) (o : Option Value) (v : List ℕ) → (b ≡ true → (bed < max_beds) × (slot < slot_count))
    → ◌≡◌ {A = Option (List ℕ)} (cond b (shown o) None) (Some v) → Within bed slot (length v)
within bed slot true (Some x) v p e =
    let q : value_bytes x ≡ v = cc in
    let i = p refl in
    record { place = record { bed_in = i.0; slot_in = i.1 }; some = subst (λ (l : List ℕ). 1 ≤ length l) q (value_some x); most = subst (λ (l : List ℕ). length l ≤ max_batch_bytes) q (value_most x) }
within bed slot true None v p e = absurd (let z : ◌≡◌ {A = ℕ} 0 1 = cc in omega arith)
within bed slot false o v p e = absurd (let z : ◌≡◌ {A = ℕ} 0 1 = cc in omega arith)

pub table_bounded : (slots : List (Option Value)) → Bounded (table_holds slots)
table_bounded slots bed slot v e =
    within bed slot (placed bed slot) (slice_index_or slots (slot_index bed slot) None) v
    (λ t. let a = and_parts (nat_lt bed max_beds) (nat_lt slot slot_count) t in (ltb-true bed max_beds a.0, ltb-true slot slot_count a.1)) e
