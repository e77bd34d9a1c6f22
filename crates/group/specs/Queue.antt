-- Queues: what it is to append a batch, and at which place an identity stands; assumes nothing.
use Rattle.std.specs.Prelude.{◌≡◌, ℕ, cond, List, [], ◌∷◌, ◌++◌, Some, Option}
use Rattle.std.specs.List.{slice_get, position}
use Rattle.codec.specs.Ticket.{same_identity}
use Rattle.codec.specs.TicketList.{known}
use Rattle.codec.specs.declared.ticket.Ticket.{Ticket}

-- a ticket stands somewhere in a list
abbrev pub Holds : List Ticket → Ticket → Type 0
Holds ts t = (place : ℕ) × (slice_get ts place ≡ Some t)

-- one ticket more at the end, unless its identity is there
abbrev pub added : List Ticket → Ticket → List Ticket
added queue t = cond (known t queue) queue (queue ++ t ∷ [])

-- the tickets of a batch in their order, but for identities that are there
abbrev pub append : List Ticket → List Ticket → List Ticket
append queue [] = queue
append queue (t ∷ ts) = append (added queue t) ts

-- the first place at which the identity of a ticket stands
abbrev pub place_of : Ticket → List Ticket → Option ℕ
place_of t queue = position (λ x. same_identity x t) queue
