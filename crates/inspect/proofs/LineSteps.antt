-- The number of beds of a line.
use Rattle.std.proofs.Common.{◌≡◌, ℕ, ◌-◌, ◌≤◌, List, get_or, Some, None, Option, arith, MatchOption}
use Rattle.std.proofs.lemmas.Bool.Decides.{nat_tests}
use Rattle.std.specs.Option.{ok_or}
use Rattle.codec.specs.Chain.{map_ok}
use Rattle.codec.specs.declared.beds.Beds.{Beds}
use Rattle.inspect.specs.Line.{beds_of}
use Rattle.inspect.specs.declared.fault.LineFault.TheVariants as lf

pub beds_read : (cs : List ℕ) (d : ℕ) (o : Option Beds) → MatchOption o (1 ≤ d → d ≤ 8 → ⊥) (λ b. b.count ≡ d) → d ≡ get_or cs 2 0 - 48
    → get_or cs 1 0 ≡ 32 → 48 ≤ get_or cs 2 0 → get_or cs 2 0 ≤ 57 → get_or cs 3 32 ≡ 32 → map_ok (λ b. b.count) (ok_or o lf.Beds) ≡ beds_of cs
beds_read cs d None h e s low high b = grind (arith, nat_tests)
beds_read cs d (Some x) h e s low high b = grind (arith, nat_tests)
