use Rattle.std.proofs.Common.{◌≡◌, ◌++◌, drop}
use Rattle.codec.specs.TicketList.{tickets_bytes, list_bytes}
use Rattle.codec.proofs.ticket_list.FixedVec+u8+CAP.push_list.Given as goal

-- the bytes so far and those of the tickets still to come are the bytes before and the list
abbrev pub invariant-loop-ticket : goal.invariant-loop-ticket
invariant-loop-ticket g l = l.self.items ++ tickets_bytes (drop l.ticket-index l.tickets) ≡ l.fn.self.items ++ list_bytes l.tickets
