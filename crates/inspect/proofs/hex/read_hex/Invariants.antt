use Rattle.std.proofs.Common.{◌≡◌, ◌-◌, length, drop, vec_items}
use Rattle.inspect.specs.Hex.{hex_at}
use Rattle.inspect.proofs.HexSteps.{after}
use Rattle.inspect.proofs.hex.read_hex.Given as goal

-- what is left of the line gives the rest of the bytes
abbrev pub invariant-loop-character : goal.invariant-loop-character
invariant-loop-character l = hex_at l.start (drop l.start l.line) ≡ after (vec_items l.bytes) (hex_at l.at (drop l.at l.line))

abbrev pub decreases-loop-character : goal.decreases-loop-character
decreases-loop-character l = length l.line - l.at
