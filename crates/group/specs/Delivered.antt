-- What the decisions of the first rounds come to as a queue; assumes nothing.
use Rattle.std.specs.Prelude.{ℕ, zero, suc, List, [], Some, None, Ok, Err, Option, Result}
use Rattle.codec.specs.Batch.{batch_of}
use Rattle.codec.specs.declared.ticket.Ticket.{Ticket}
use Rattle.codec.specs.declared.whole.WholeFault.{WholeFault}
use Rattle.group.specs.Queue.{append}

abbrev pub readable : Result (List Ticket) WholeFault → List Ticket
readable (Ok ts) = ts
readable (Err f) = []

-- the tickets of a proposal or a decision, for a group of n beds; none if there is none
abbrev pub tickets_in : ℕ → Option (List ℕ) → List Ticket
tickets_in n None = []
tickets_in n (Some bytes) = readable (batch_of n bytes)

-- the decisions of all rounds below this one, appended in order
abbrev pub delivered : ℕ → (ℕ → Option (List ℕ)) → ℕ → List Ticket
delivered n decision zero = []
delivered n decision (suc round) = append (delivered n decision round) (tickets_in n (decision round))
