-- What comes of bytes, part by part: head, tickets, and the end or a fault; assumes nothing.
use Rattle.std.specs.Prelude.{◌≡◌, ℕ, zero, suc, ◌+◌, ◌-◌, Bool, cond, ◌&&◌, List, [], ◌∷◌, ◌++◌, length, take, drop, Ok, Err, Result, ◌==◌, nat_lt, slice_index}
use Rattle.codec.specs.Limits.{batch_tickets, packet_tickets, max_round}
use Rattle.codec.specs.Chain.{and_then, raise, map_ok}
use Rattle.codec.specs.Ranged.{ranged_at}
use Rattle.codec.specs.Ticket.{ticket_bytes}
use Rattle.codec.specs.TicketList.{count_at, next_at}
use Rattle.codec.specs.Tickets.{listed}
use Rattle.codec.specs.declared.ticket.Ticket.{Ticket}
use Rattle.codec.specs.declared.ticket_list.ListFault.{ListFault}
use Rattle.codec.specs.declared.whole.WholeFault.{WholeFault}
use Rattle.codec.specs.declared.whole.WholeFault.TheVariants as wf
use Rattle.codec.specs.declared.reader.Head.{Head}
use Rattle.codec.specs.declared.reader.Head.TheVariants as hd
use Rattle.codec.specs.declared.reader.Part.{Part}
use Rattle.codec.specs.declared.reader.Part.TheVariants as pt
use Rattle.codec.specs.declared.reader.Stage.{Stage}
use Rattle.codec.specs.declared.reader.Stage.TheVariants as st
use Rattle.codec.specs.declared.reader.Reader.{Reader}

-- the parts that come, and how they end: a ticket with its offset, its stretch of the bytes and its value; the end with
-- the number of bytes; or the first fault
pub data Reading : Type 0 where
  head : Head → Reading → Reading
  ticket : ℕ → List ℕ → Ticket → Reading → Reading
  ended : ℕ → Reading
  faulty : WholeFault → Reading

-- how many parts come, the end and the fault counted
abbrev pub part_count : Reading → ℕ
part_count (head h r) = suc (part_count r)
part_count (ticket at bytes t r) = suc (part_count r)
part_count (ended at) = 1
part_count (faulty f) = 1

-- the first of the parts that a result gives, and what comes after it
abbrev pub head_first : Result (Head × ℕ) WholeFault → (Head → ℕ → Reading) → Reading
head_first (Ok p) rest = head p.0 (rest p.0 p.1)
head_first (Err f) rest = faulty f

abbrev pub ticket_first : List ℕ → ℕ → Result (Ticket × ℕ) ListFault → (Ticket → ℕ → Reading) → Reading
ticket_first bs at (Ok p) rest = ticket at (take (p.1 - at) (drop at bs)) p.0 (rest p.0 p.1)
ticket_first bs at (Err f) rest = faulty (wf.List f)

-- so many tickets from a place on, after those seen, and the end
abbrev pub list_reading : ℕ → List ℕ → ℕ → List Ticket → ℕ → Reading
list_reading n bs zero seen at = cond (nat_lt at (length bs)) (faulty (wf.Spare at)) (ended at)
list_reading n bs (suc due) seen at =
    ticket_first bs at (next_at n bs seen at) (λ t next. list_reading n bs due (seen ++ t ∷ []) next)

-- the head of a batch: a count
unfoldable pub batch_head : List ℕ → ℕ → Result (Head × ℕ) WholeFault
batch_head bs most = and_then (raise wf.List (count_at bs 0 most)) (λ count next. Ok (hd.Batch count, next))

-- the mark of a packet: "JOB" and 47
abbrev pub mark : List ℕ
mark = 0x4A ∷ 0x4F ∷ 0x42 ∷ 0x47 ∷ []

abbrev pub marked : List ℕ → Bool
marked bs = slice_index bs 0 == 0x4A && (slice_index bs 1 == 0x4F && (slice_index bs 2 == 0x42 && slice_index bs 3 == 0x47))

-- a packet's bed or round at a place, below `end`
abbrev pub head_at : List ℕ → ℕ → ℕ → Result (ℕ × ℕ) WholeFault
head_at bs at end = ranged_at wf.Number wf.Head bs at 0 end

-- the head of a packet: the mark, the bed, the round and a count
unfoldable pub packet_head : ℕ → List ℕ → ℕ → Result (Head × ℕ) WholeFault
packet_head n bs most =
    cond (nat_lt (length bs) (length mark)) (Err wf.Short) (cond (marked bs)
    (and_then (head_at bs (length mark) n) (λ bed a.
    and_then (head_at bs a (max_round + 1)) (λ round b.
    and_then (raise wf.List (count_at bs b most)) (λ count c.
    Ok (hd.Packet bed round count, c)))))
    (Err wf.Mark))

abbrev pub count_of : Head → ℕ
count_of (hd.Batch count) = count
count_of (hd.Packet bed round count) = count

-- what comes from a stage on
abbrev pub comes : Stage → ℕ → List ℕ → ℕ → List Ticket → ℕ → Reading
comes st.BatchHead n bs due seen at = head_first (batch_head bs due) (λ h next. list_reading n bs (count_of h) seen next)
comes st.PacketHead n bs due seen at = head_first (packet_head n bs due) (λ h next. list_reading n bs (count_of h) seen next)
comes st.List n bs due seen at = list_reading n bs due seen at

-- what comes of a batch, and of a packet, for a group of n beds
unfoldable pub batch_reading : ℕ → List ℕ → Reading
batch_reading n bs = comes st.BatchHead n bs batch_tickets [] 0

unfoldable pub packet_reading : ℕ → List ℕ → Reading
packet_reading n bs = comes st.PacketHead n bs packet_tickets [] 0

-- what is still to come of a reader
unfoldable pub remaining : Reader → Reading
remaining s = comes s.stage s.beds.count s.bytes.now s.due (listed s.seen) s.place

-- the tickets that a reader has handed out
abbrev pub seen_by : Reader → List Ticket
seen_by s = listed s.seen

-- a reader that has passed the head
pub record Begun (s : Reader) (h : Head) (next : ℕ) (t : Reader) : Type 0 where
  pub stage : t.stage ≡ st.List
  pub due : t.due ≡ count_of h
  pub place : t.place ≡ next
  pub bytes : t.bytes ≡ s.bytes
  pub beds : t.beds ≡ s.beds
  pub seen : t.seen ≡ s.seen

-- What a reader hands out is the first of what was to come, and the rest is still to come; a ticket is then among those
-- handed out. At the end and at a fault the reader stays, so that it answers the same again.
abbrev pub Steps : Reader → Result Part WholeFault → Reader → Type 0
Steps s (Ok (pt.Head h)) t = (remaining s ≡ head h (remaining t)) × (seen_by t ≡ seen_by s)
Steps s (Ok (pt.Ticket offset bytes value)) t = (remaining s ≡ ticket offset bytes.now value (remaining t)) × (seen_by t ≡ seen_by s ++ value ∷ [])
Steps s (Ok pt.End) t = (remaining s ≡ ended (length s.bytes.now)) × (t ≡ s)
Steps s (Err f) t = (remaining s ≡ faulty f) × (t ≡ s)

-- the parts that a list of tickets is to give from a place on: each ticket with its form, and the end
abbrev pub parts_at : ℕ → List Ticket → Reading
parts_at at [] = ended at
parts_at at (t ∷ ts) = ticket at (ticket_bytes t) t (parts_at (at + length (ticket_bytes t)) ts)

-- ---- all at once

-- the tickets of all parts, or the fault
abbrev pub tickets_of : Reading → Result (List Ticket) WholeFault
tickets_of (head h r) = tickets_of r
tickets_of (ticket at bytes t r) = map_ok (λ ts. t ∷ ts) (tickets_of r)
tickets_of (ended at) = Ok []
tickets_of (faulty f) = Err f
