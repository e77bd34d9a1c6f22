use Rattle.std.proofs.Common.{set, ap, ◌∙◌}
use Rattle.std.proofs.lemmas.List.{length-set}
use Rattle.group.specs.Table.{beds_of}
use Rattle.group.proofs.Tables.{beds_set, table_sound}
use Rattle.group.proofs.table.Table.cut.Goals as goal

pub invariant_of-self : goal.invariant_of-self
invariant_of-self c =
    let t = c.args.self.now in
    record { room = length-set t.beds c.args.index _ ∙ t.room; sound = table_sound t c.args.index c.off.result (c.off.ensures.sound t.size.count) }

pub returns : goal.returns
returns c = let t = c.args.self.now in beds_set t c.args.index c.off.result c.requires ∙ ap (set (beds_of t) c.args.index) c.off.ensures.bed
