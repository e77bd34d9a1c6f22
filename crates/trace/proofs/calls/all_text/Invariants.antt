use Rattle.std.proofs.Common.{◌+◌, ◌*◌, ◌≤◌}
use Rattle.trace.proofs.calls.all_text.Given as goal

-- at most the slots that were read so far are full
abbrev pub invariant-loop-bed : goal.invariant-loop-bed
invariant-loop-bed g l = l.full ≤ 32 * l.bed-counter

abbrev pub invariant-loop-slot : goal.invariant-loop-slot
invariant-loop-slot g l = l.full ≤ 32 * l.bed + l.slot-counter
