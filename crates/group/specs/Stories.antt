-- Stories: histories that a new group of two beds can live, call by call, so that the law is seen to speak of something; assumes nothing.
use Rattle.std.specs.Prelude.{◌≡◌, ℕ, List, [], ◌∷◌, ◌++◌, map, Ok}
use Rattle.std.specs.Borrow.{Bor}
use Rattle.codec.specs.declared.ticket.Ticket.{Ticket}
use Rattle.group.specs.World.{World, bed, size}
use Rattle.group.specs.Outcome.{Answer}
use Rattle.group.specs.Calls.{ticket_of}
use Rattle.group.specs.Replay.{started}
use Rattle.group.specs.History.{Event, History, New, Lived}
use Rattle.group.specs.Validity.{OnlySentHeard}
use Rattle.group.specs.Delivery.{Ripe, AllHold}
use Rattle.group.specs.declared.bed.Phase.TheVariants.{Idle, Waiting}
use Rattle.group.specs.declared.call.Call.{Call}
use Rattle.group.specs.declared.call.Call.TheVariants as call
use Rattle.group.specs.declared.call.Reply.{Reply}
use Rattle.group.specs.declared.call.Reply.TheVariants as rp
use Rattle.group.specs.declared.call.SentPacket.{SentPacket}

-- calls and what each answered; all of a story are accepted
abbrev pub Steps : Type 0
Steps = List (Call × Reply)

abbrev pub steps_of : History → List (Call × Answer)
steps_of = map (λ (e : Event). (e.call, e.answer))

-- a new group of two beds, over a memory that names two cells, can live these steps, and then this holds of the history and of what stands
pub record Story (steps : Steps) (Then : History → World → Type 0) : Type 0 where
  pub first : World
  pub new : New first
  pub beds : size first ≡ 2
  pub history : History
  pub last : World
  pub lived : Lived 2 first history last
  pub told : steps_of history ≡ map (λ (s : Call × Reply). (s.0, Ok s.1)) steps
  pub then : Then history last

-- two jobs, one of each bed: number 7 of bed 0, and number 4 of bed 1 with fewer paths
abbrev pub job : Ticket
job = ticket_of 0 7 300 2

abbrev pub rival : Ticket
rival = ticket_of 1 4 100 1

abbrev pub submit_job : Call × Reply
submit_job = (call.Submit 0 7 300 2, rp.Submitted job)

abbrev pub submit_rival : Call × Reply
submit_rival = (call.Submit 1 4 100 1, rp.Submitted rival)

abbrev pub done : Call → Call × Reply
done c = (c, rp.Done)

-- ---- a crash in mid-write

-- power fails after three cells of the keep, and bed 0 comes back
abbrev pub crash : Steps
crash = done (call.Start 0) ∷ submit_job ∷ done (call.Trip 0 3 0) ∷ done (call.Start 0) ∷ []

-- the batch was lost: the bed is where it was, without its set
abbrev pub Lost : Type 0
Lost = Story crash (λ h w. bed w 0 ≡ started Idle 0 [])

-- the batch was kept: the bed waits with it as its proposal, and when both beds have proposed it collects it
abbrev pub Saved : Type 0
Saved = Story crash (λ h w. bed w 0 ≡ started Waiting 0 [])

abbrev pub Served : Type 0
Served =
    Story (crash ++ (done (call.Start 1) ∷ submit_rival ∷ done (call.Propose 1) ∷ done (call.Collect 0) ∷ []))
    (λ h w. bed w 0 ≡ started Idle 1 (job ∷ []))

-- ---- a late bed

-- the bytes of a packet, lent to a call
abbrev pub lent : List ℕ → Bor (List ℕ)
lent bytes = record { ref_ptr = (0, 0); now = bytes }

-- bed 1 starts when bed 0 has cut its first job; it hears of the later round, goes through the first with nothing of its own, and has the
-- same queue
abbrev pub Late : Type 0
Late =
    (packet : SentPacket) × (bytes : Bor (List ℕ)) × Story
    (done (call.Start 0) ∷ submit_job ∷ done (call.Propose 0) ∷ done (call.Collect 0) ∷ done (call.Start 1) ∷ (call.Send 0 135, rp.Sent packet)
    ∷ (call.Hear 1 bytes, rp.Heard (record { taken = 0; full = 0 })) ∷ done (call.Propose 1) ∷ done (call.Collect 1) ∷ [])
    (λ h w. OnlySentHeard h × ((bed w 0).queue ≡ job ∷ []) × ((bed w 1).queue ≡ job ∷ []))

-- ---- different proposals

-- both beds propose what they have; one of the two is decided, and the other job comes in the next round
abbrev pub Rivals : Type 0
Rivals =
    Story
    (done (call.Start 0) ∷ done (call.Start 1) ∷ submit_job ∷ submit_rival ∷ done (call.Propose 0) ∷ done (call.Propose 1) ∷ done (call.Collect 0) ∷ done (call.Collect 1)
    ∷ done (call.Propose 1) ∷ done (call.Collect 1) ∷ [])
    (λ h w. ((bed w 0).queue ≡ job ∷ []) × ((bed w 1).queue ≡ job ∷ rival ∷ []))

-- ---- one job, proposed by all

-- bed 1 hears of bed 0's job, and both propose it; the last call is one of which delivery speaks
abbrev pub Shared : Type 0
Shared =
    (packet : SentPacket) × (bytes : Bor (List ℕ)) × Story
    (done (call.Start 0) ∷ done (call.Start 1) ∷ submit_job ∷ (call.Send 0 135, rp.Sent packet) ∷ (call.Hear 1 bytes, rp.Heard (record { taken = 1; full = 0 })) ∷ done (call.Propose 0)
    ∷ done (call.Propose 1) ∷ done (call.Collect 1) ∷ [])
    (λ h w. (past : History) × (e : Event) × (h ≡ past ++ (e ∷ [])) × OnlySentHeard h × Ripe e 1 × AllHold e.before 0 job)

pub record Stories : Type 0 where
  pub lost : Lost
  pub saved : Saved
  pub served : Served
  pub late : Late
  pub rivals : Rivals
  pub shared : Shared
