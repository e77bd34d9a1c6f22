use Rattle.memory.proofs.Tables.{empty_table}
use Rattle.memory.proofs.table.Table.new.Goals as goal

pub returns : goal.returns
returns c = empty_table
