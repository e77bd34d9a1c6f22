-- The laws of appending and of hearing, in the subject's words.
use Rattle.std.specs.Prelude.{◌≡◌, ℕ, ◌+◌, ◌<◌, ◌≤◌, true, ◌||◌, ◌⊎◌, List, ◌++◌, length}
use Rattle.codec.specs.Ticket.{InRange}
use Rattle.codec.specs.TicketList.{Each, Apart, Sound, known}
use Rattle.codec.specs.declared.ticket.Ticket.{Ticket}
use Rattle.group.specs.Limits.{set_tickets}
use Rattle.group.specs.Queue.{Holds, append}
use Rattle.group.specs.Hearing.{unheard, hear_all}

-- a batch appended to a queue
pub record AppendLaws : Type 0 where
  -- what was queued stays, at its place
  pub begins : (queue ts : List Ticket) → (rest : List Ticket) × (append queue ts ≡ queue ++ rest)
  -- no identity comes twice
  pub apart : (queue ts : List Ticket) → Apart queue → Apart (append queue ts)
  -- every identity of the batch is then queued
  pub takes : (queue ts : List Ticket) (t : Ticket) → known t ts ≡ true → known t (append queue ts) ≡ true
  -- every ticket is then the queue's or the batch's
  pub only : (queue ts : List Ticket) (t : Ticket) → Holds (append queue ts) t → Holds queue t ⊎ Holds ts t
  pub length : (queue ts : List Ticket) → length (append queue ts) ≤ length queue + length ts

-- tickets heard, with a set of at most 16
pub record HearLaws : Type 0 where
  -- the set stays sound
  pub sound : (n : ℕ) (queue set ts : List Ticket) → Each (InRange n) ts → Sound n set_tickets set → Sound n set_tickets (hear_all queue (unheard set) ts).set
  -- every ticket of the set is then the set's or the packet's
  pub only : (queue set ts : List Ticket) (t : Ticket) → Holds (hear_all queue (unheard set) ts).set t → Holds set t ⊎ Holds ts t
  -- it has grown by those that were taken
  pub grows : (queue set ts : List Ticket) → length (hear_all queue (unheard set) ts).set ≡ length set + (hear_all queue (unheard set) ts).taken
  -- if none found it full, all are known then; if one did, it is full
  pub all : (queue set ts : List Ticket) → (hear_all queue (unheard set) ts).full ≡ 0 → Each (λ t. (known t (hear_all queue (unheard set) ts).set || known t queue) ≡ true) ts
  pub full : (queue set ts : List Ticket) → 0 < (hear_all queue (unheard set) ts).full → set_tickets ≤ length (hear_all queue (unheard set) ts).set
  -- no ticket is counted twice
  pub counted : (queue set ts : List Ticket) → (hear_all queue (unheard set) ts).taken + (hear_all queue (unheard set) ts).full ≤ length ts
