use Rattle.std.proofs.Common.{Ok, refl, ◌∙◌, inr}
use Rattle.std.proofs.lemmas.List.{length-set}
use Rattle.group.specs.declared.bed.Event.TheVariants as ev
use Rattle.group.specs.declared.call.Reply.TheVariants.{Done}
use Rattle.group.proofs.Tables.{table_changed, table_sound, runs, admits_running}
use Rattle.group.proofs.table.Table.off.Goals as goal

pub invariant_of-self : goal.invariant_of-self
invariant_of-self c =
    let t = c.args.self.now in
    record { room = length-set t.beds c.in_ok-index.index c.off.result ∙ t.room; sound = table_sound t c.in_ok-index.index c.off.result (c.off.ensures.sound t.size.count) }

pub returns : goal.returns
returns c kept board =
    let t = c.args.self.now in
    let a = admits_running t c.args.bed ev.Off c.in_ok-index.index c.in_ok-index.field-0-1 (inr refl) c.in_ok-index.ensures in
    runs t kept board c.args.bed (Ok Done) _ a.low a.on (refl, table_changed t kept board c.args.bed c.in_ok-index.index c.off.result _ a.place a.low c.off.ensures.bed)
