-- A number in a range, at any layer; assumes nothing.
use Rattle.std.specs.Prelude.{ℕ, cond, ◌||◌, List, Ok, Err, Result, nat_le, nat_lt}
use Rattle.codec.specs.Chain.{and_then, raise}
use Rattle.codec.specs.Number.{number_at}
use Rattle.codec.specs.declared.number.NumberFault.{NumberFault}

-- a number at a place that is to be at least `least` and below `end`, with the faults of the layer that reads it
unfoldable pub ranged_at : {F : Type 0} → (NumberFault → F) → (ℕ → F) → List ℕ → ℕ → ℕ → ℕ → Result (ℕ × ℕ) F
ranged_at number range bs at least end =
    and_then (raise number (number_at bs at)) (λ v next. cond (nat_lt v least || nat_le end v) (Err (range at)) (Ok (v, next)))
