-- Recovery: a bed that starts has again all that it ever showed, wherever the power failed; assumes nothing.
use Rattle.std.specs.Prelude.{◌≡◌, ℕ, ◌<◌, true, ◌⊎◌, List, [], ◌∷◌, ◌++◌, is_some, Some, None}
use Rattle.codec.specs.declared.ticket.Ticket.{Ticket}
use Rattle.decision.specs.Limits.{round_count}
use Rattle.group.specs.World.{World, Bed, bed, size}
use Rattle.group.specs.History.{Event, History, Accepted}
use Rattle.group.specs.Delivered.{delivered}
use Rattle.group.specs.declared.bed.Phase.TheVariants.{Off, Idle, Waiting}
use Rattle.group.specs.declared.call.Call.TheVariants as call

-- the queue of a running bed, and for one that is off the queue that it had before
abbrev pub queue_or : Bed → List Ticket → List Ticket
queue_or x before = elim x.phase [ Off ↦ before | Idle ↦ x.queue | Waiting ↦ x.queue ]

-- the queue that bed b had when it last ran, and `before` if it never did
abbrev pub last_queue : ℕ → List Ticket → History → List Ticket
last_queue b before [] = before
last_queue b before (e ∷ h) = last_queue b (queue_or (bed e.after b) before) h

-- the bed has kept something in the round, and the round is decided
abbrev pub Passed : World → ℕ → ℕ → Type 0
Passed w b round = (is_some (w.kept b round) ≡ true) × (is_some (w.board.decision round) ≡ true)

-- how bed b stands after a start, where it last had this queue
pub record Recovered (last : List Ticket) (w : World) (b : ℕ) : Type 0 where
  -- the queue begins with the one that the bed last had
  pub begins : (rest : List Ticket) × ((bed w b).queue ≡ last ++ rest)
  -- it is what all rounds before the bed's decided
  pub replayed : (bed w b).queue ≡ delivered (size w) w.board.decision (bed w b).round
  -- the bed's round is the first in which it has kept nothing or which has no decision, else it is 32
  pub passed : (round : ℕ) → round < (bed w b).round → Passed w b round
  pub first : ((bed w b).round ≡ round_count) ⊎ (((bed w b).round < round_count) × (Passed w b (bed w b).round → ⊥))
  -- where it has kept something it waits with that as its proposal, and there is no decision; else it is idle
  pub waits : (bytes : List ℕ) → w.kept b (bed w b).round ≡ Some bytes →
      ((bed w b).phase ≡ Waiting) × (w.board.proposal b (bed w b).round ≡ Some bytes) × (w.board.decision (bed w b).round ≡ None)
  pub idles : w.kept b (bed w b).round ≡ None → (bed w b).phase ≡ Idle

abbrev pub Recovery : World → History → Type 0
Recovery w h =
    (past rest : History) (e : Event) → h ≡ past ++ (e ∷ rest) →
    (b : ℕ) → e.call ≡ call.Start b → b < size e.before → (bed e.before b).phase ≡ Off →
    Accepted e.answer × Recovered (last_queue b [] past) e.after b
