-- What the calls that change nothing answer; assumes nothing. To waive a receipt is to give it up: that asks nothing and is never refused.
use Rattle.std.specs.Prelude.{ℕ, Bool, true, false, cond, length, Some, None, Ok, Err, Option, Result, nat_le}
use Rattle.std.specs.List.{slice_get}
use Rattle.codec.specs.TicketList.{known}
use Rattle.codec.specs.declared.ticket.Ticket.{Ticket}
use Rattle.group.specs.Queue.{place_of}
use Rattle.group.specs.World.{World, Bed, bed, size}
use Rattle.group.specs.declared.bed.Phase.{Phase}
use Rattle.group.specs.declared.bed.Phase.TheVariants.{Off, Idle, Waiting}
use Rattle.group.specs.declared.question.State.{State}
use Rattle.group.specs.declared.question.Standing.{Standing}
use Rattle.group.specs.declared.question.Standing.TheVariants as sd
use Rattle.group.specs.declared.receipt.Receipt.{Receipt}
use Rattle.group.specs.declared.receipt.Redeemed.{Redeemed}
use Rattle.group.specs.declared.receipt.Redeemed.TheVariants as rd
use Rattle.group.specs.declared.receipt.Unredeemed.{Unredeemed}
use Rattle.group.specs.declared.refusal.Refusal.{Refusal}
use Rattle.group.specs.declared.refusal.Refusal.TheVariants as rf

-- an answer for a bed of the group, and refusal 2 for any other
abbrev pub of_group : {A : Type 0} → World → ℕ → Result A Refusal → Result A Refusal
of_group w b r = cond (nat_le (size w) b) (Err rf.NoBed) r

abbrev pub is_off : Phase → Bool
is_off Off = true
is_off Idle = false
is_off Waiting = false

-- an answer for a running bed
abbrev pub of_running : {A : Type 0} → World → ℕ → Result A Refusal → Result A Refusal
of_running w b r = of_group w b (cond (is_off (bed w b).phase) (Err rf.BedOff) r)

-- how a bed stands; zeros if it is off
abbrev pub state_of : Bed → State
state_of x =
    cond (is_off x.phase) (record { phase = Off; round = 0; waiting = 0; queued = 0 })
    (record { phase = x.phase; round = x.round; waiting = length x.waiting; queued = length x.queue })

abbrev pub state_answer : World → ℕ → Result State Refusal
state_answer w b = of_group w b (Ok (state_of (bed w b)))

abbrev pub found : Option Ticket → Result Ticket Refusal
found None = Err rf.Place
found (Some t) = Ok t

-- the ticket at a place of the queue, counted from 0
abbrev pub ticket_answer : World → ℕ → ℕ → Result Ticket Refusal
ticket_answer w b place = of_running w b (found (slice_get (bed w b).queue place))

abbrev standing : Option ℕ → Bool → Standing
standing (Some place) waits = sd.Queued place
standing None true = sd.Waiting
standing None false = sd.Unknown

-- where a ticket stands at a bed
abbrev pub standing_at : Bed → Ticket → Standing
standing_at x t = standing (place_of t x.queue) (known t x.waiting)

-- where the ticket of a receipt stands at the bed that took it; a refused redeem, and one of a ticket that still waits, hand the
-- receipt back
abbrev pub redeem_answer : World → Ticket → Result Standing Refusal
redeem_answer w t = of_running w t.origin (Ok (standing_at (bed w t.origin) t))

-- what a redeem hands out: a receipt of a ticket that waits comes back, and so does that of a refused redeem
abbrev pub redeemed : Result Standing Refusal → Receipt → Result Redeemed Unredeemed
redeemed (Ok (sd.Queued place)) receipt = Ok (rd.Queued place)
redeemed (Ok sd.Waiting) receipt = Ok (rd.Waiting receipt)
redeemed (Ok sd.Unknown) receipt = Ok rd.Unknown
redeemed (Err refusal) receipt = Err (record { refusal = refusal; receipt = receipt })
