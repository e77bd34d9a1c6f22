use Rattle.std.proofs.Common.{arith}
use Rattle.std.proofs.lemmas.Grind.{common_steps}
use Rattle.std.proofs.lemmas.Bool.Decides.{nat_tests}
use Rattle.memory.specs.Keep.{keep_bytes}
use Rattle.memory.specs.Chip.{torn_cells}
use Rattle.memory.proofs.ChipKeeps.{within_keep, chip_tears}
use Rattle.memory.proofs.chip.Chip.tear.Goals as goal

pub returns-then-is_some-clause-cells : goal.returns-then-is_some-clause-cells
unfolding torn_cells
returns-then-is_some-clause-cells c = grind (arith, common_steps)

pub returns-then-at-count-clause-cells : goal.returns-then-at-count-clause-cells
unfolding torn_cells
returns-then-at-count-clause-cells c = grind (arith, common_steps, nat_tests)

pub returns-then-at-count-clause-tears : goal.returns-then-at-count-clause-tears
returns-then-at-count-clause-tears c =
    let chip = c.args.self.now in
    let keep = c.args.keep.now in
    let e = returns-then-at-count-clause-cells c in
    rw e (chip_tears chip.cells.now keep.place.bed keep.place.slot (keep_bytes keep) c.args.at c.args.junk chip.big (within_keep keep))

pub returns-else-at-count-clause-cells : goal.returns-else-at-count-clause-cells
unfolding torn_cells
returns-else-at-count-clause-cells c = grind (arith, common_steps, nat_tests)

pub returns-else-at-count-clause-tears : goal.returns-else-at-count-clause-tears
returns-else-at-count-clause-tears c =
    let chip = c.args.self.now in
    let keep = c.args.keep.now in
    let e = returns-else-at-count-clause-cells c in
    rw e (chip_tears chip.cells.now keep.place.bed keep.place.slot (keep_bytes keep) c.args.at c.args.junk chip.big (within_keep keep))
