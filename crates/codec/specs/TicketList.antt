-- Lists of tickets: what makes one sound, its bytes, and what stands at a place after other tickets; assumes the laws of ticket order.
use Rattle.std.specs.Prelude.{◌≡◌, ℕ, ◌+◌, ◌≤◌, Bool, true, false, cond, List, [], ◌∷◌, ◌++◌, length, Ok, Err, Result}
use Rattle.std.specs.List.{list_any}
use Rattle.codec.specs.Chain.{and_then, raise}
use Rattle.codec.specs.Number.{form}
use Rattle.codec.specs.Ranged.{ranged_at}
use Rattle.codec.specs.Ticket.{same_identity, stands_before, InRange, ticket_at, ticket_bytes}
use Rattle.codec.specs.declared.ticket.Ticket.{Ticket}
use Rattle.codec.specs.declared.ticket_list.ListFault.{ListFault}
use Rattle.codec.specs.declared.ticket_list.ListFault.TheVariants as lf

-- what a place past the end of a list reads as
abbrev pub none : Ticket
none = record { paths = 0; origin = 0; number = 0; sheet = 0 }

-- ---- sound lists

-- a fact holds of each ticket
abbrev pub Each : (Ticket → Type 0) → List Ticket → Type 0
Each P [] = Unit {0}
Each P (t ∷ ts) = P t × Each P ts

-- a relation holds between each ticket and every later one
abbrev pub Pairs : (Ticket → Ticket → Type 0) → List Ticket → Type 0
Pairs R [] = Unit {0}
Pairs R (t ∷ ts) = Each (R t) ts × Pairs R ts

-- each ticket stands before every later one
abbrev pub Rising : List Ticket → Type 0
Rising = Pairs (λ t u. stands_before t u ≡ true)

-- no identity occurs twice
abbrev pub Apart : List Ticket → Type 0
Apart = Pairs (λ t u. same_identity t u ≡ false)

-- what a batch or a packet may list, for a group of n beds and with at most so many tickets
pub record Sound (n most : ℕ) (ts : List Ticket) : Type 0 where
  pub ranged : Each (InRange n) ts
  pub rising : Rising ts
  pub apart : Apart ts
  pub few : length ts ≤ most

-- ---- tests against the tickets before

-- whether the identity of a ticket is among others
abbrev pub known : Ticket → List Ticket → Bool
known t xs = list_any (λ x. same_identity x t) xs

-- whether a ticket stands after the last of others
abbrev pub follows : Ticket → List Ticket → Bool
follows t [] = true
follows t (x ∷ []) = stands_before x t
follows t (x ∷ y ∷ ys) = follows t (y ∷ ys)

-- ---- bytes

abbrev pub tickets_bytes : List Ticket → List ℕ
tickets_bytes [] = []
tickets_bytes (t ∷ ts) = ticket_bytes t ++ tickets_bytes ts

-- a count and that many tickets
unfoldable pub list_bytes : List Ticket → List ℕ
list_bytes ts = form (length ts) ++ tickets_bytes ts

-- a count at a place, at most so much
abbrev pub count_at : List ℕ → ℕ → ℕ → Result (ℕ × ℕ) ListFault
count_at bs at most = ranged_at lf.Number lf.Count bs at 0 (most + 1)

-- the ticket at a place, after those seen before it: its order is tested first, then its identity
unfoldable pub next_at : ℕ → List ℕ → List Ticket → ℕ → Result (Ticket × ℕ) ListFault
next_at n bs seen at =
    and_then (raise lf.Ticket (ticket_at n bs at)) (λ t next.
    cond (follows t seen) (cond (known t seen) (Err (lf.Repeated at)) (Ok (t, next))) (Err (lf.Order at)))
