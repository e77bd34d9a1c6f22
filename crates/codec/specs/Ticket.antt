-- Tickets: ranges, identity, order, byte form, and what stands at a place of the bytes; assumes nothing.
use Rattle.std.specs.Prelude.{ℕ, ◌+◌, ◌<◌, ◌≤◌, Bool, cond, ◌&&◌, List, ◌++◌, Ok, Result, ◌==◌, nat_lt}
use Rattle.codec.specs.Limits.{max_paths, min_number, max_number, max_sheet}
use Rattle.codec.specs.Chain.{and_then}
use Rattle.codec.specs.Number.{form}
use Rattle.codec.specs.Ranged.{ranged_at}
use Rattle.codec.specs.declared.ticket.Ticket.{Ticket}
use Rattle.codec.specs.declared.ticket.TicketFault.{TicketFault}
use Rattle.codec.specs.declared.ticket.TicketFault.TheVariants as tf

-- every field is in its range, for a group of n beds
pub record InRange (n : ℕ) (t : Ticket) : Type 0 where
  pub paths : t.paths ≤ max_paths
  pub origin : t.origin < n
  pub least : min_number ≤ t.number
  pub number : t.number ≤ max_number
  pub sheet : t.sheet ≤ max_sheet

-- one identity: origin and number
unfoldable pub same_identity : Ticket → Ticket → Bool
same_identity s t = s.origin == t.origin && s.number == t.number

-- ticket order: fewer paths, then the lower origin, then the lower number
unfoldable pub stands_before : Ticket → Ticket → Bool
stands_before s t =
    cond (s.paths == t.paths)
    (cond (s.origin == t.origin) (nat_lt s.number t.number) (nat_lt s.origin t.origin))
    (nat_lt s.paths t.paths)

abbrev pub field_at : List ℕ → ℕ → ℕ → ℕ → Result (ℕ × ℕ) TicketFault
field_at = ranged_at tf.Number tf.Range

-- what stands at a place, for a group of n beds: a ticket and the place after it, or a fault
unfoldable pub ticket_at : ℕ → List ℕ → ℕ → Result (Ticket × ℕ) TicketFault
ticket_at n bs at =
    and_then (field_at bs at 0 (max_paths + 1)) (λ paths a.
    and_then (field_at bs a 0 n) (λ origin b.
    and_then (field_at bs b min_number (max_number + 1)) (λ number c.
    and_then (field_at bs c 0 (max_sheet + 1)) (λ sheet d.
    Ok (record { paths = paths; origin = origin; number = number; sheet = sheet }, d)))))

-- the bytes of a ticket
unfoldable pub ticket_bytes : Ticket → List ℕ
ticket_bytes t = form t.paths ++ form t.origin ++ form t.number ++ form t.sheet
