-- Batches: their bytes, and what is read from bytes at once; assumes that bytes are below 256.
use Rattle.std.specs.Prelude.{◌≡◌, ℕ, List, Ok, Err, Result}
use Rattle.codec.specs.Limits.{batch_tickets}
use Rattle.codec.specs.TicketList.{Sound, list_bytes}
use Rattle.codec.specs.Tickets.{Tickets, listed}
use Rattle.codec.specs.Reading.{batch_reading, tickets_of}
use Rattle.codec.specs.declared.ticket.Ticket.{Ticket}
use Rattle.codec.specs.declared.whole.WholeFault.{WholeFault}

-- the bytes of a batch
abbrev pub batch_bytes : List Ticket → List ℕ
batch_bytes = list_bytes

-- bytes are those of a sound batch, for a group of n beds
pub record IsBatch (n : ℕ) (bs : List ℕ) (ts : List Ticket) : Type 0 where
  pub sound : Sound n batch_tickets ts
  pub bytes : bs ≡ batch_bytes ts

-- the tickets of a batch, or the first fault
unfoldable pub batch_of : ℕ → List ℕ → Result (List Ticket) WholeFault
batch_of n bs = tickets_of (batch_reading n bs)

-- what is read: the one sound batch that has these bytes, or that there is none
abbrev pub ReadBatch : ℕ → List ℕ → Result Tickets WholeFault → Type 0
ReadBatch n bs (Ok l) = IsBatch n bs (listed l)
ReadBatch n bs (Err f) = (ts : List Ticket) → IsBatch n bs ts → ⊥
