-- What each call that may change a group does: which refusal, or which answer, and what stands then; assumes the meanings of memory
-- and decision service. All is determined but which proposal is decided and in which call, and what a torn keep leaves between
-- its two limits; both come from those meanings.
use Rattle.std.specs.Prelude.{◌≡◌, ℕ, ◌+◌, ◌<◌, ◌≤◌, max, Bool, true, cond, not, ◌||◌, ◌⊎◌, List, [], length, take, drop, Some, None, Ok, Err, Result, ◌≢◌, nat_lt, slice_set}
use Rattle.codec.specs.Limits.{batch_tickets}
use Rattle.codec.specs.Ticket.{InRange}
use Rattle.codec.specs.TicketList.{known}
use Rattle.std.specs.List.{filter}
use Rattle.codec.specs.Edits.{placed}
use Rattle.codec.specs.Batch.{batch_bytes, IsBatch, batch_of}
use Rattle.codec.specs.Packet.{packet_bytes, IsPacket, packet_of}
use Rattle.codec.specs.declared.ticket.Ticket.{Ticket}
use Rattle.codec.specs.declared.value.Value.{Value}
use Rattle.codec.specs.declared.whole.Source.TheVariants as so
use Rattle.codec.specs.declared.whole.WholeFault.{WholeFault}
use Rattle.memory.specs.Meaning.{Keeps, Tears}
use Rattle.memory.specs.declared.refusal.MemoryRefusal.TheVariants as mr
use Rattle.decision.specs.Limits.{round_count}
use Rattle.decision.specs.Meaning.{Puts, Polls}
use Rattle.decision.specs.declared.refusal.DecisionRefusal.{DecisionRefusal}
use Rattle.decision.specs.declared.refusal.DecisionRefusal.TheVariants as dr
use Rattle.decision.specs.declared.service.PutAnswer.{PutAnswer}
use Rattle.group.specs.Limits.{set_tickets}
use Rattle.group.specs.Queue.{append}
use Rattle.group.specs.Hearing.{Hearing, unheard, hear_all}
use Rattle.group.specs.World.{World, Bed, bed, size, off_bed, changed}
use Rattle.group.specs.Outcome.{Answer, Outcome, refused, row, on_running, faulty}
use Rattle.group.specs.Replay.{Replay}
use Rattle.group.specs.declared.bed.Phase.TheVariants.{Off, Idle, Waiting}
use Rattle.group.specs.declared.call.Call.{Call}
use Rattle.group.specs.declared.call.Call.TheVariants as call
use Rattle.group.specs.declared.call.Heard.{Heard}
use Rattle.group.specs.declared.call.Reply.TheVariants as rp
use Rattle.group.specs.declared.call.SentPacket.{SentPacket}
use Rattle.group.specs.declared.refusal.Refusal.{Refusal}
use Rattle.group.specs.declared.refusal.Refusal.TheVariants as rf

-- ---- off

abbrev pub OffDoes : World → ℕ → Outcome
OffDoes w b = on_running w b (λ a w'. (a ≡ Ok rp.Done) × (w' ≡ changed w b off_bed))

-- ---- submit

abbrev pub ticket_of : ℕ → ℕ → ℕ → ℕ → Ticket
ticket_of b number paths sheet = record { paths = paths; origin = b; number = number; sheet = sheet }

abbrev pub with_set : Bed → List Ticket → Bed
with_set x ts = record { phase = x.phase; round = x.round; heard = x.heard; waiting = ts; queue = x.queue }

-- the bed knows the identity of a ticket
abbrev pub knows : Bed → Ticket → Bool
knows x t = known t x.waiting || known t x.queue

abbrev pub SubmitDoes : World → ℕ → ℕ → ℕ → ℕ → Outcome
SubmitDoes w b number paths sheet =
    let t : Ticket = ticket_of b number paths sheet in
    let x : Bed = bed w b in
    on_running w b
    (row w (InRange (size w) t → ⊥) rf.Field
    (row w (knows x t ≡ true) rf.Known
    (row w (set_tickets ≤ length x.waiting) rf.SetFull
    (λ a w'. (a ≡ Ok (rp.Submitted t)) × (w' ≡ changed w b (with_set x (placed t x.waiting)))))))

-- ---- send

abbrev pub sent_bytes : SentPacket → List ℕ
sent_bytes p = p.bytes.items

-- a packet with these bytes
abbrev pub sent_packet : List ℕ → SentPacket
sent_packet bytes = record { bytes = record { items = bytes; spare = [] } }

-- the packet that a bed would send now
abbrev pub own_packet : World → ℕ → List ℕ
own_packet w b = packet_bytes b (bed w b).round (bed w b).waiting

pub record Sends (w : World) (b : ℕ) (a : Answer) (w' : World) : Type 0 where
  pub packet : SentPacket
  pub bytes : sent_bytes packet ≡ own_packet w b
  pub answer : a ≡ Ok (rp.Sent packet)
  pub after : w' ≡ w

abbrev pub SendDoes : World → ℕ → ℕ → Outcome
SendDoes w b room = on_running w b (row w (room < length (own_packet w b)) rf.NoRoom (Sends w b))

-- the answer of a send that fills a buffer: the packet is the first bytes of it
abbrev pub sent_answer : Result ℕ Refusal → List ℕ → Answer
sent_answer (Ok len) buffer = Ok (rp.Sent (sent_packet (take len buffer)))
sent_answer (Err r) buffer = Err r

-- past the packet the buffer is as it was, and all of it after a refusal
abbrev pub BufferAfter : Result ℕ Refusal → List ℕ → List ℕ → Type 0
BufferAfter (Ok len) was buffer = (len ≤ length was) × (length buffer ≡ length was) × (drop len buffer ≡ drop len was)
BufferAfter (Err r) was buffer = buffer ≡ was

-- ---- hear

-- what becomes of the tickets that a bed hears
abbrev pub heard_by : Bed → List Ticket → Hearing
heard_by x ts = hear_all x.queue (unheard x.waiting) ts

-- how many were taken, and how many found the set full
abbrev pub counts_of : Hearing → Heard
counts_of h = record { taken = h.taken; full = h.full }

-- a later round than its own and than any that it heard of before is remembered
abbrev pub later_of : ℕ → ℕ → ℕ → ℕ
later_of own heard round = cond (nat_lt own round) (max heard round) heard

abbrev pub hearing : Bed → ℕ → List Ticket → Bed
hearing x round ts =
    record { phase = x.phase; round = x.round; heard = later_of x.round x.heard round; waiting = (heard_by x ts).set; queue = x.queue }

-- the bytes are a sound packet, and its round and tickets are heard
pub record Hears (w : World) (b : ℕ) (bytes : List ℕ) (a : Answer) (w' : World) : Type 0 where
  pub from : ℕ
  pub round : ℕ
  pub tickets : List Ticket
  pub packet : IsPacket (size w) bytes from round tickets
  pub answer : a ≡ Ok (rp.Heard (counts_of (heard_by (bed w b) tickets)))
  pub after : w' ≡ changed w b (hearing (bed w b) round tickets)

-- the bytes are no packet: their first fault is told
pub record HearsFaulty (w : World) (b : ℕ) (bytes : List ℕ) (a : Answer) (w' : World) : Type 0 where
  pub fault : WholeFault
  pub read : packet_of (size w) bytes ≡ Err fault
  pub refusal : refused w (faulty fault b (bed w b).round so.Packet) a w'

abbrev pub HearDoes : World → ℕ → List ℕ → Outcome
HearDoes w b bytes = on_running w b (λ a w'. HearsFaulty w b bytes a w' ⊎ Hears w b bytes a w')

-- ---- propose and trip

-- the batch that a bed would propose now: the first of its set
abbrev pub own_batch : Bed → List ℕ
own_batch x = batch_bytes (take batch_tickets x.waiting)

-- no ticket waits, and the bed has heard of no round above its own
abbrev pub NoReason : Bed → Type 0
NoReason x = (x.waiting ≡ []) × (x.heard ≤ x.round)

-- the rows of a propose before it keeps anything
abbrev pub proposing : World → ℕ → Outcome → Outcome
proposing w b rest =
    let x : Bed = bed w b in
    on_running w b
    (row w (x.phase ≡ Waiting) rf.Waiting
    (row w (round_count ≤ x.round) rf.LastRound
    (row w (NoReason x) rf.Nothing rest)))

abbrev pub waiting_now : Bed → Bed
waiting_now x = record { phase = Waiting; round = x.round; heard = x.heard; waiting = x.waiting; queue = x.queue }

-- the slot of the bed's round holds other bytes than it would propose
pub record HoldsOther (w : World) (b : ℕ) : Type 0 where
  pub old : List ℕ
  pub held : w.kept b (bed w b).round ≡ Some old
  pub differs : old ≡ own_batch (bed w b) → ⊥

-- the batch is kept, then it is put, and the bed waits
pub record Proposes (w : World) (b : ℕ) (a : Answer) (w' : World) : Type 0 where
  pub keeps : Keeps w.kept b (bed w b).round (own_batch (bed w b)) (Ok tt) w'.kept
  pub put_answer : Result PutAnswer DecisionRefusal
  pub puts : Puts w.board b (bed w b).round (own_batch (bed w b)) put_answer w'.board
  pub beds : w'.beds ≡ slice_set w.beds b (waiting_now (bed w b))
  pub answer : a ≡ Ok rp.Done

abbrev pub ProposeDoes : World → ℕ → Outcome
ProposeDoes w b = proposing w b (row w (HoldsOther w b) (rf.Memory mr.Differs) (Proposes w b))

-- the keep is torn after `at` finished cells, nothing is put, and the bed is off
pub record Trips (named : ℕ) (w : World) (b «at» : ℕ) (a : Answer) (w' : World) : Type 0 where
  pub tears : Tears named w.kept b (bed w b).round (own_batch (bed w b)) «at» w'.kept
  pub board : w'.board ≡ w.board
  pub beds : w'.beds ≡ slice_set w.beds b off_bed
  pub answer : a ≡ Ok rp.Done

abbrev pub TripDoes : ℕ → World → ℕ → ℕ → Outcome
TripDoes named w b «at» = proposing w b (Trips named w b «at»)

-- ---- collect

-- the decided tickets are appended, the round is over, and queued identities leave the set
abbrev pub collected : Bed → List Ticket → Bed
collected x ts =
    let queue : List Ticket = append x.queue ts in
    record { phase = Idle; round = x.round + 1; heard = x.heard; waiting = filter (λ t. not (known t queue)) x.waiting; queue = queue }

-- what a poll for bed b's round leaves to be done, by the decision that then stands
pub data Collected (w : World) (b : ℕ) (a : Answer) (w' : World) : Type 0 where
  undecided : w'.board.decision (bed w b).round ≡ None → a ≡ Err (rf.Service dr.Undecided) → w'.beds ≡ w.beds → Collected w b a w'
  bad_decided : (bytes : List ℕ) (f : WholeFault) → w'.board.decision (bed w b).round ≡ Some bytes → batch_of (size w) bytes ≡ Err f →
      a ≡ Err (faulty f b (bed w b).round so.Service) → w'.beds ≡ w.beds → Collected w b a w'
  decided : (bytes : List ℕ) (ts : List Ticket) → w'.board.decision (bed w b).round ≡ Some bytes → IsBatch (size w) bytes ts →
      a ≡ Ok rp.Done → w'.beds ≡ slice_set w.beds b (collected (bed w b) ts) → Collected w b a w'

pub record Collects (w : World) (b : ℕ) (a : Answer) (w' : World) : Type 0 where
  pub kept : w'.kept ≡ w.kept
  pub poll_answer : Result Value DecisionRefusal
  pub polls : Polls w.board (bed w b).round poll_answer w'.board
  pub outcome : Collected w b a w'

-- the rows of a collect before it polls
abbrev pub collecting : World → ℕ → Outcome → Outcome
collecting w b rest = on_running w b (row w ((bed w b).phase ≡ Idle) rf.Idle rest)

abbrev pub CollectDoes : World → ℕ → Outcome
CollectDoes w b = collecting w b (Collects w b)

-- ---- start

-- a replay that came to its end leaves the bed running; one that met faulty bytes leaves it off
abbrev pub StartEnds : World → ℕ → Result Bed Refusal → Outcome
StartEnds w b (Ok x) a w' = (a ≡ Ok rp.Done) × (w'.beds ≡ slice_set w.beds b x)
StartEnds w b (Err r) a w' = (a ≡ Err r) × (w'.beds ≡ w.beds)

pub record Starts (w : World) (b : ℕ) (a : Answer) (w' : World) : Type 0 where
  pub kept : w'.kept ≡ w.kept
  pub end : Result Bed Refusal
  pub replay : Replay (size w) (w.kept b) b 0 [] w.board end w'.board
  pub ends : StartEnds w b end a w'

-- the rows of a start before it replays
abbrev pub starting : World → ℕ → Outcome → Outcome
starting w b rest = row w (size w ≤ b) rf.NoBed (row w ((bed w b).phase ≢ Off) rf.Running rest)

abbrev pub StartDoes : World → ℕ → Outcome
StartDoes w b = starting w b (Starts w b)

-- ---- all of them, over a memory that names so many cells

abbrev pub Does : ℕ → World → Call → Outcome
Does named w (call.Start b) = StartDoes w b
Does named w (call.Submit b number paths sheet) = SubmitDoes w b number paths sheet
Does named w (call.Send b room) = SendDoes w b room
Does named w (call.Hear b bytes) = HearDoes w b bytes.now
Does named w (call.Propose b) = ProposeDoes w b
Does named w (call.Trip b «at» junk) = TripDoes named w b «at»
Does named w (call.Collect b) = CollectDoes w b
Does named w (call.Off b) = OffDoes w b
