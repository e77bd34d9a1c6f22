-- The bed that a bed record shows, and what holds of every record; assumes nothing.
use Rattle.std.specs.Prelude.{◌≡◌, ℕ, ◌+◌, ◌*◌, ◌<◌, ◌≤◌, Bool, true, false, ◌||◌, List, length, Ok, Err, Result}
use Rattle.codec.specs.Limits.{batch_tickets}
use Rattle.codec.specs.Ticket.{InRange}
use Rattle.codec.specs.TicketList.{Sound, known}
use Rattle.codec.specs.Edits.{placed}
use Rattle.codec.specs.declared.ticket.Ticket.{Ticket}
use Rattle.decision.specs.Limits.{round_count}
use Rattle.group.specs.Limits.{set_tickets}
use Rattle.group.specs.Hearing.{Hearing, unheard, hear_all}
use Rattle.group.specs.Calls.{collected}
use Rattle.group.specs.World.{Bed}
use Rattle.group.specs.declared.bed.Phase.TheVariants.{Waiting}
use Rattle.group.specs.declared.waiting_set.WaitingSet.{WaitingSet}
use Rattle.group.specs.declared.queue.Queue.{Queue}
use Rattle.group.specs.declared.bed.BedRecord.{BedRecord}
use Rattle.group.specs.declared.call.Heard.{Heard}
use Rattle.group.specs.declared.refusal.Refusal.{Refusal}
use Rattle.group.specs.declared.refusal.Refusal.TheVariants as rf

abbrev pub waiting_in : WaitingSet → List Ticket
waiting_in s = s.tickets.items

abbrev pub queued_in : Queue → List Ticket
queued_in q = q.tickets.items

abbrev pub bed_of : BedRecord → Bed
bed_of r = record { phase = r.phase; round = r.round; heard = r.heard; waiting = waiting_in r.waiting; queue = queued_in r.queue }

-- what holds of a record at every moment, in a group of n beds: the set is sound and the queue has room for the rounds still to come
pub record BedSound (n : ℕ) (r : BedRecord) : Type 0 where
  pub set : Sound n set_tickets (waiting_in r.waiting)
  pub queue_len : length (queued_in r.queue) ≤ batch_tickets * r.round
  pub round : r.round ≤ round_count
  pub waits : r.phase ≡ Waiting → r.round < round_count

-- the bed knows the identity of a ticket
abbrev pub record_knows : BedRecord → Ticket → Bool
record_knows r t = known t (waiting_in r.waiting) || known t (queued_in r.queue)

-- a record with another set
abbrev pub with_waiting : BedRecord → WaitingSet → BedRecord
with_waiting r s = record { phase = r.phase; round = r.round; heard = r.heard; waiting = s; queue = r.queue }

-- a new ticket for the set: refused if it is known or the set is full, else it comes to its place and nothing else changes
pub record TakesIn (t : Ticket) (r : BedRecord) (a : Result (Unit {0}) Refusal) (r' : BedRecord) : Type 0 where
  pub known : record_knows r t ≡ true → (a ≡ Err rf.Known) × (r' ≡ r)
  pub full : record_knows r t ≡ false → set_tickets ≤ length (waiting_in r.waiting) → (a ≡ Err rf.SetFull) × (r' ≡ r)
  pub takes : record_knows r t ≡ false → length (waiting_in r.waiting) < set_tickets →
      (a ≡ Ok tt) × (waiting_in r'.waiting ≡ placed t (waiting_in r.waiting)) × (r' ≡ with_waiting r r'.waiting)

-- a ticket of its origin is made if its fields are in their ranges
pub record MakesTicket (t : Ticket) (a : Result Ticket Refusal) : Type 0 where
  pub made : InRange (t.origin + 1) t → a ≡ Ok t
  pub refused : (InRange (t.origin + 1) t → ⊥) → a ≡ Err rf.Field

-- ---- hearing

-- the set of a record and the counts so far
abbrev pub hearing_of : BedRecord → Heard → Hearing
hearing_of r h = record { set = waiting_in r.waiting; taken = h.taken; full = h.full }

-- one ticket heard, and nothing but the set changed
pub record HearsOne (t : Ticket) (h : Heard) (r : BedRecord) (h' : Heard) (r' : BedRecord) : Type 0 where
  pub known : record_knows r t ≡ true → (h' ≡ h) × (r' ≡ r)
  pub full : record_knows r t ≡ false → set_tickets ≤ length (waiting_in r.waiting) → (h' ≡ record { taken = h.taken; full = h.full + 1 }) × (r' ≡ r)
  pub takes : record_knows r t ≡ false → length (waiting_in r.waiting) < set_tickets →
      (h' ≡ record { taken = h.taken + 1; full = h.full }) × (waiting_in r'.waiting ≡ placed t (waiting_in r.waiting)) × (r' ≡ with_waiting r r'.waiting)

-- all tickets of a packet, and nothing but the set changed
pub record HearsAll (ts : List Ticket) (r : BedRecord) (h : Heard) (r' : BedRecord) : Type 0 where
  pub hearing : hearing_of r' h ≡ hear_all (queued_in r.queue) (unheard (waiting_in r.waiting)) ts
  pub rest : r' ≡ with_waiting r r'.waiting

-- a record with another heard round
abbrev pub with_heard : BedRecord → ℕ → BedRecord
with_heard r heard = record { phase = r.phase; round = r.round; heard = heard; waiting = r.waiting; queue = r.queue }

-- ---- collecting

pub record CollectsBatch (ts : List Ticket) (r r' : BedRecord) : Type 0 where
  pub bed : bed_of r' ≡ collected (bed_of r) ts
  pub queue_len : length (queued_in r'.queue) ≤ length (queued_in r.queue) + length ts
