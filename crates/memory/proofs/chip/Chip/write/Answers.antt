use Rattle.std.proofs.Common.{Ok, rules, arith}
use Rattle.std.proofs.lemmas.Grind.{common_steps}
use Rattle.memory.specs.Keep.{keep_bytes}
use Rattle.memory.specs.Chip.{keep_cells}
use Rattle.memory.proofs.ChipKeeps.{within_keep, chip_keeps}
use Rattle.memory.proofs.chip.Chip.write.Goals as goal

pub returns-in-Some-clause-cells : goal.returns-in-Some-clause-cells
unfolding keep_cells
returns-in-Some-clause-cells c = grind (arith, common_steps)

pub returns-in-None-clause-cells : goal.returns-in-None-clause-cells
unfolding keep_cells
returns-in-None-clause-cells c = search rules

pub returns-in-None-clause-keeps : goal.returns-in-None-clause-keeps
returns-in-None-clause-keeps c =
    let chip = c.args.self.now in
    let keep = c.args.keep.now in
    let e = returns-in-None-clause-cells c in
    rw e (chip_keeps chip.cells.now keep.place.bed keep.place.slot (keep_bytes keep) (Ok tt) chip.big (within_keep keep) (search rules))
