-- Delivery: what all proposals of a round hold is queued, once enough beds have proposed; assumes what the service says is enough.
use Rattle.std.specs.Prelude.{◌≡◌, ℕ, ◌<◌, true, List, ◌∷◌, ◌++◌, Some}
use Rattle.codec.specs.TicketList.{known}
use Rattle.codec.specs.declared.ticket.Ticket.{Ticket}
use Rattle.decision.specs.Meaning.{Enough}
use Rattle.group.specs.World.{World, bed, size}
use Rattle.group.specs.History.{Event, History, Accepted}
use Rattle.group.specs.Delivered.{tickets_in}
use Rattle.group.specs.declared.bed.Phase.TheVariants.{Waiting}
use Rattle.group.specs.declared.call.Call.TheVariants as call

-- every proposal that stands in the round holds the identity of this ticket
abbrev pub AllHold : World → ℕ → Ticket → Type 0
AllHold w round t =
    (c : ℕ) (bytes : List ℕ) → c < size w → w.board.proposal c round ≡ Some bytes → known t (tickets_in (size w) (Some bytes)) ≡ true

-- a collect of a bed that waits in a round in which enough beds, more than half, have proposed
pub record Ripe (e : Event) (b : ℕ) : Type 0 where
  pub call : e.call ≡ call.Collect b
  pub in_group : b < size e.before
  pub waits : (bed e.before b).phase ≡ Waiting
  pub enough : Enough e.before.board (bed e.before b).round

-- it is accepted, and then the queue has the identity that all those proposals hold
abbrev pub Delivery : World → History → Type 0
Delivery w h =
    (past rest : History) (e : Event) → h ≡ past ++ (e ∷ rest) →
    (b : ℕ) (t : Ticket) → Ripe e b → AllHold e.before (bed e.before b).round t →
    Accepted e.answer × (known t (bed e.after b).queue ≡ true)
