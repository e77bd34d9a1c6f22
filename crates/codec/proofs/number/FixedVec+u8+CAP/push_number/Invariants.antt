use Rattle.std.proofs.Common.{◌≡◌, ℕ, ◌<◌, ◌++◌}
use Rattle.codec.specs.Number.{groups, form}
use Rattle.codec.proofs.Numbers.{room}
use Rattle.codec.proofs.number.FixedVec+u8+CAP.push_number.Given as goal

-- with k groups left for the rest, the bytes so far and they are the bytes before and the form
abbrev pub invariant-loop-rest : goal.invariant-loop-rest
invariant-loop-rest g l = (k : ℕ) × (0 < k) × (l.rest < room k) × (l.self.items ++ groups k l.rest ≡ l.initial.self.items ++ form l.value)

abbrev pub decreases-loop-rest : goal.decreases-loop-rest
decreases-loop-rest g l = l.rest
