use Rattle.std.proofs.Common.{rules}
use Rattle.memory.proofs.ChipWrites.{written_step}
use Rattle.memory.proofs.chip.Chip.write_cells.Goals as goal

pub loop-i-preserved : goal.loop-i-preserved
loop-i-preserved c = search (rules, written_step)
