use Rattle.std.proofs.Common.{◌≡◌}
use Rattle.memory.specs.Keep.{keep_start, keep_bytes}
use Rattle.memory.specs.Chip.{written}
use Rattle.memory.proofs.chip.Chip.write_cells.Given as goal

abbrev pub invariant-loop-i : goal.invariant-loop-i
invariant-loop-i l = l.self.cells.now ≡ written l.initial.self.cells.now (keep_start l.keep) (keep_bytes l.keep) l.i
