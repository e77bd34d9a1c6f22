use Rattle.std.proofs.Common.{◌∙◌}
use Rattle.std.proofs.lemmas.List.{length-set}
use Rattle.group.proofs.Tables.{beds_set, table_sound}
use Rattle.group.proofs.table.Table.enter.Goals as goal

pub invariant_of-self : goal.invariant_of-self
invariant_of-self c =
    let t = c.args.self.now in
    record { room = length-set t.beds c.args.index c.args.own ∙ t.room; sound = table_sound t c.args.index c.args.own c.requires.sound }

pub returns : goal.returns
returns c = beds_set c.args.self.now c.args.index c.args.own c.requires.low
