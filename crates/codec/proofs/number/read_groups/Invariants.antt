use Rattle.std.proofs.Common.{◌≡◌, ◌+◌, ◌<◌}
use Rattle.codec.proofs.Numbers.{room, So}
use Rattle.codec.proofs.number.read_groups.Given as goal

-- what is left of the bytes gives the rest of the value
abbrev pub invariant-loop-i : goal.invariant-loop-i
invariant-loop-i l = (l.next ≡ l.at + l.i) × (l.scale ≡ room l.i) × (l.value < l.scale) × So l.bytes l.at l.i l.value l.scale l.next
