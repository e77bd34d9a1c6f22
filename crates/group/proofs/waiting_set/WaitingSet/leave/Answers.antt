use Rattle.std.proofs.Common.{not, rules, tests}
use Rattle.std.proofs.lemmas.Fn.{filter_same}
use Rattle.codec.specs.TicketList.{known}
use Rattle.group.specs.Record.{queued_in}
use Rattle.group.proofs.waiting_set.WaitingSet.leave.Goals as goal

pub returns : goal.returns
returns c = filter_same _ (λ t. not (known t (queued_in c.args.queue.now))) _ (λ x b f k. search (rules, tests)) _ _ c.retain.ensures.filtered
