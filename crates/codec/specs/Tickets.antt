-- What a fixed list of tickets holds; assumes nothing.
use Rattle.std.specs.Prelude.{List}
use Rattle.codec.specs.FixedVec.{FixedVec}
use Rattle.codec.specs.declared.ticket.Ticket.{Ticket}

abbrev pub Tickets : Type 0
Tickets = FixedVec Ticket

abbrev pub listed : Tickets → List Ticket
listed l = l.items
