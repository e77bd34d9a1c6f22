use Rattle.group.proofs.Tables.{new_beds}
use Rattle.group.proofs.table.Table.new.Goals as goal

pub returns : goal.returns
returns c = new_beds c.args.size.count c.off.result c.args.size.most c.off.ensures.bed
