use Rattle.std.proofs.Common.{arith, rules}
use Rattle.std.proofs.lemmas.Grind.{common_steps}
use Rattle.codec.specs.Limits.{batch_tickets}
use Rattle.codec.specs.TicketList.{Sound}
use Rattle.codec.proofs.ListWrites.{sound_ranged, batch_short}
use Rattle.codec.proofs.batch.batch_form.Goals as goal

pub push_list-requires : goal.push_list-requires
push_list-requires c =
    let s : Sound c.args.beds.count batch_tickets c.args.tickets.now = search rules in
    let short = batch_short _ _ c.args.beds.most s in
    (search rules, (sound_ranged _ _ _ c.args.beds.most s, (omega (arith, s.few), grind (arith, common_steps))))
