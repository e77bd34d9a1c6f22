-- The limits of a group beside those of the byte forms; assumes nothing. src/limits.rt has the same numbers for the code.
use Rattle.std.specs.Prelude.{ℕ}
use Rattle.codec.specs.Limits.{packet_tickets}

-- the most tickets that wait with a bed: one packet tells of them all
abbrev pub set_tickets : ℕ
set_tickets = packet_tickets

-- the most tickets of a queue: eight in each of 32 rounds
abbrev pub queue_tickets : ℕ
queue_tickets = 256
