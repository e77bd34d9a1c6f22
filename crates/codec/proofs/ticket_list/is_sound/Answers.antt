use Rattle.std.proofs.Common.{[], take, refl, arith, rules}
use Rattle.std.proofs.lemmas.Grind.{common_steps}
use Rattle.std.proofs.lemmas.List.{take_more, take_all}
use Rattle.codec.specs.TicketList.{none}
use Rattle.codec.proofs.TicketLists.{after_push, after_sound}
use Rattle.codec.proofs.ticket_list.is_sound.Goals as goal

pub loop-i-preserved : goal.loop-i-preserved
loop-i-preserved c =
    let ts = c.args.tickets.now in
    rw (take_more ts c.loop-i.i none c.loop-i-test.true)
    (after_push c.args.beds.count [] (take c.loop-i.i ts) _ c.loop-i.invariant (search rules) (grind (arith, common_steps)) (grind (arith, common_steps)))

pub returns : goal.returns
returns c =
    let ts = c.args.tickets.now in
    let a = after_sound c.args.beds.count ts (rw (take_all c.loop-i.i ts c.loop-i-test.false) at c.loop-i.invariant) in
    (λ _. record { ranged = a.0; rising = a.1; apart = a.2; few = c.if-tickets-most.false }, λ _. refl)
