use Rattle.std.proofs.Common.{rules}
use Rattle.codec.specs.Limits.{max_beds}
use Rattle.codec.specs.Ticket.{InRange}
use Rattle.codec.proofs.ListWrites.{each_at, ticket_room}
use Rattle.codec.proofs.ticket_list.FixedVec+u8+CAP.push_list.Goals as goal

pub push_ticket-requires : goal.push_ticket-requires
push_ticket-requires g c =
    let ts = c.args.tickets.now in
    let l = c.loop-ticket in (
      search rules,
      (
        each_at (InRange max_beds) ts l.ticket-index c.requires.ranged c.loop-ticket-test.true,
        ticket_room c.args.self.now.items l.self.items ts l.ticket-index c.loop-ticket-test.true l.invariant _ c.requires.room,
      ),
    )
