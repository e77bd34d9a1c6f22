-- What becomes of the tickets of a packet that a bed hears; assumes nothing.
use Rattle.std.specs.Prelude.{ℕ, ◌+◌, cond, ◌||◌, List, [], ◌∷◌, length, nat_lt}
use Rattle.codec.specs.Edits.{placed}
use Rattle.codec.specs.TicketList.{known}
use Rattle.codec.specs.declared.ticket.Ticket.{Ticket}
use Rattle.group.specs.Limits.{set_tickets}

-- the set so far, how many tickets it took and how many found it full
pub record Hearing : Type 0 where
  pub set : List Ticket
  pub taken : ℕ
  pub full : ℕ

abbrev pub unheard : List Ticket → Hearing
unheard set = record { set = set; taken = 0; full = 0 }

-- one ticket more in the set, and one more that found it full
abbrev pub took : Hearing → Ticket → Hearing
took h t = record { set = placed t h.set; taken = h.taken + 1; full = h.full }

abbrev pub missed : Hearing → Hearing
missed h = record { set = h.set; taken = h.taken; full = h.full + 1 }

-- a known identity, in the set or in the queue, is skipped; another is taken while there is room
abbrev pub hear_one : List Ticket → Hearing → Ticket → Hearing
hear_one queue h t = cond (known t h.set || known t queue) h (cond (nat_lt (length h.set) set_tickets) (took h t) (missed h))

-- tickets in their order
abbrev pub hear_all : List Ticket → Hearing → List Ticket → Hearing
hear_all queue h [] = h
hear_all queue h (t ∷ ts) = hear_all queue (hear_one queue h t) ts
