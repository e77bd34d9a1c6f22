-- The examples that were worked by hand; assumes nothing. Bytes are in hexadecimal.
use Rattle.std.specs.Prelude.{◌≡◌, ℕ, true, List, [], ◌∷◌, replicate, Some, None, Ok, Err, Option, Result}
use Rattle.codec.specs.Number.{form}
use Rattle.codec.specs.Ticket.{stands_before}
use Rattle.codec.specs.Batch.{batch_bytes, batch_of}
use Rattle.codec.specs.Report.{cause_number, whole_report}
use Rattle.codec.specs.declared.report.Layer.{Layer}
use Rattle.codec.specs.declared.report.Layer.TheVariants as la
use Rattle.codec.specs.declared.ticket.Ticket.{Ticket}
use Rattle.codec.specs.declared.whole.WholeFault.{WholeFault}
use Rattle.memory.specs.Chip.{chip_cells, start, chip_holds, torn_cells}

abbrev ticket : ℕ → ℕ → ℕ → ℕ → Ticket
ticket paths origin number sheet = record { paths = paths; origin = origin; number = number; sheet = sheet }

-- the tickets, or the fault as the number of its cause, its place and its layer
abbrev told : Result (List Ticket) WholeFault → Result (List Ticket) (ℕ × ℕ × Layer)
told (Ok ts) = Ok ts
told (Err f) = Err (cause_number (whole_report f).cause, (whole_report f).place, (whole_report f).layer)

-- what a batch comes to, for a group of n beds
abbrev batch : ℕ → List ℕ → Result (List Ticket) (ℕ × ℕ × Layer)
batch n bytes = told (batch_of n bytes)

-- a fact holds of groups of every size
abbrev EveryGroup : (ℕ → Type 0) → Type 0
EveryGroup P = P 1 × P 2 × P 3 × P 4 × P 5 × P 6 × P 7 × P 8

-- the bytes of numbers
pub record Numbers : Type 0 where
  pub three_hundred : form 300 ≡ 0xAC ∷ 0x02 ∷ []
  pub a_million : form 1000000 ≡ 0xC0 ∷ 0x84 ∷ 0x3D ∷ []

-- what batches come to
pub record Batches : Type 0 where
  pub long_zero : EveryGroup (λ n. batch n (0x80 ∷ 0x00 ∷ []) ≡ Err (2, 0, la.Number))
  pub empty : EveryGroup (λ n. batch n (0x00 ∷ []) ≡ Ok [])
  pub one_ticket : batch 2 (0x01 ∷ 0xAC ∷ 0x02 ∷ 0x01 ∷ 0x05 ∷ 0x07 ∷ []) ≡ Ok (ticket 300 1 5 7 ∷ [])
  pub no_such_bed : batch 1 (0x01 ∷ 0xAC ∷ 0x02 ∷ 0x01 ∷ 0x05 ∷ 0x07 ∷ []) ≡ Err (3, 3, la.Ticket)
  pub not_rising : EveryGroup (λ n. batch n (0x02 ∷ 0x05 ∷ 0x00 ∷ 0x01 ∷ 0x00 ∷ 0x05 ∷ 0x00 ∷ 0x01 ∷ 0x00 ∷ []) ≡ Err (4, 5, la.List))
  pub repeated : EveryGroup (λ n. batch n (0x02 ∷ 0x05 ∷ 0x00 ∷ 0x01 ∷ 0x00 ∷ 0x06 ∷ 0x00 ∷ 0x01 ∷ 0x00 ∷ []) ≡ Err (5, 5, la.List))
  pub spare : EveryGroup (λ n. batch n (0x00 ∷ 0x00 ∷ []) ≡ Err (6, 1, la.Whole))
  pub too_many_paths : EveryGroup (λ n. batch n (0x01 ∷ 0xC1 ∷ 0x84 ∷ 0x3D ∷ 0x00 ∷ 0x01 ∷ 0x00 ∷ []) ≡ Err (3, 1, la.Ticket))
  pub written : batch_bytes (ticket 300 1 5 7 ∷ []) ≡ 0x01 ∷ 0xAC ∷ 0x02 ∷ 0x01 ∷ 0x05 ∷ 0x07 ∷ []

-- at equal paths the lower origin comes first, whatever the numbers
pub record Order : Type 0 where
  pub lower_origin : stands_before (ticket 5 0 9 0) (ticket 5 1 1 0) ≡ true

-- a chip whose cells are all 00, after a torn keep of the byte 00 for bed 0 in slot 0: two cells were finished, and the junk
-- is in the mark cell
abbrev torn : ℕ → Option (List ℕ)
torn junk = chip_holds (torn_cells (replicate chip_cells 0x00) (start 0 0) (0x00 ∷ []) 2 junk) 0 0

pub record Chip : Type 0 where
  pub broken_off : torn 0x00 ≡ None
  pub as_good_as_done : torn 0xA5 ≡ Some (0x00 ∷ [])

-- all of them
pub record Worked : Type 0 where
  pub numbers : Numbers
  pub batches : Batches
  pub order : Order
  pub chip : Chip
