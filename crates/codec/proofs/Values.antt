-- A value has 1 to 65 bytes, and a row of places with none shows none.
use Rattle.std.proofs.Common.{◌≡◌, ℕ, ◌≤◌, Bool, cond, length, get_or, replicate, None, Option, arith}
use Rattle.std.proofs.lemmas.Bool.Decides.{nat_tests}
use lib.ListN.{get_or-replicate}
use Rattle.std.proofs.lemmas.Grind.{common_steps}
use Rattle.codec.specs.Limits.{max_batch_bytes}
use Rattle.codec.specs.Value.{value_bytes, shown}
use Rattle.codec.specs.declared.value.Value.{Value}

pub value_some : (v : Value) → 1 ≤ length (value_bytes v)
value_some v = v.some

pub value_most : (v : Value) → length (value_bytes v) ≤ max_batch_bytes
value_most v = v.most

-- wherever a row of nothing is read, nothing is there
nothing_there : (n i : ℕ) → get_or {A = Option Value} (replicate n None) i None ≡ None
nothing_there n i = grind (arith, common_steps, get_or-replicate {A = Option Value})

-- a table with nothing in it shows nothing, within its limits and outside
pub empty_shows : (b : Bool) (n i : ℕ) → cond b (shown (get_or (replicate n None) i None)) None ≡ None
empty_shows b n i = grind (arith, nat_tests, nothing_there n i)
