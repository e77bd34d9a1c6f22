use Rattle.std.proofs.Common.{[], take}
use Rattle.codec.proofs.TicketLists.{After}
use Rattle.codec.proofs.ticket_list.is_sound.Given as goal

-- the tickets looked at so far are sound
abbrev pub invariant-loop-i : goal.invariant-loop-i
invariant-loop-i l = After l.beds.count [] (take l.i l.tickets)
