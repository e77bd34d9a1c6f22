-- How the cells of a chip lie, what they mean, and how a keep writes them; assumes nothing of what was in them.
use Rattle.std.specs.Prelude.{◌≡◌, ℕ, zero, suc, ◌+◌, ◌-◌, ◌*◌, min, max, Bool, cond, List, length, take, drop, Some, None, Option, ◌==◌, nat_le, slice_index, slice_set}
use Rattle.codec.specs.Limits.{max_batch_bytes}
use Rattle.memory.specs.Limits.{slot_index, placed}

-- ---- where

-- a slot is a length cell, the data cells and a mark cell
abbrev pub slot_cells : ℕ
slot_cells = 67

abbrev pub mark_place : ℕ
mark_place = 66

abbrev pub chip_cells : ℕ
chip_cells = 17152

-- a keep writes so many cells beside its bytes, the length and the mark: the number that a chip names
abbrev pub chip_named : ℕ
chip_named = 2

-- the first cell of a slot
abbrev pub start : ℕ → ℕ → ℕ
start bed slot = slot_cells * slot_index bed slot

-- ---- what

-- the mark of a full slot
abbrev pub mark : ℕ
mark = 0xA5

-- a length cell of 0 counts as 1, above 65 as 65
abbrev pub counted : ℕ → ℕ
counted n = max 1 (min n max_batch_bytes)

-- the slot whose first cell is p is full
abbrev pub full : List ℕ → ℕ → Bool
full cells p = slice_index cells (p + mark_place) == mark

abbrev pub slot_holds : List ℕ → ℕ → Option (List ℕ)
slot_holds cells p = cond (full cells p) (Some (take (counted (slice_index cells p)) (drop (p + 1) cells))) None

-- what a chip means; every image of its cells has a meaning
abbrev pub chip_holds : List ℕ → ℕ → ℕ → Option (List ℕ)
chip_holds cells bed slot = cond (placed bed slot) (slot_holds cells (start bed slot)) None

-- ---- how a keep writes: the length, the bytes, then the mark

-- where in its slot cell i of a keep of so many bytes lies
abbrev pub keep_place : ℕ → ℕ → ℕ
keep_place len i = cond (nat_le i len) i mark_place

-- what cell i of a keep is to hold
abbrev pub keep_cell : List ℕ → ℕ → ℕ
keep_cell bytes i = cond (i == 0) (length bytes) (cond (nat_le i (length bytes)) (slice_index bytes (i - 1)) mark)

-- the cells after the first `count` of a keep are written
abbrev pub written : List ℕ → ℕ → List ℕ → ℕ → List ℕ
written cells p bytes zero = cells
written cells p bytes (suc k) = slice_set (written cells p bytes k) (p + keep_place (length bytes) k) (keep_cell bytes k)

-- a keep into an empty slot writes all cells, and into a full one none
unfoldable pub keep_cells : List ℕ → ℕ → List ℕ → List ℕ
keep_cells cells p bytes = cond (full cells p) cells (written cells p bytes (length bytes + chip_named))

-- power fails after `at` finished cells of a keep, and the cell then under way holds the junk
unfoldable pub torn_cells : List ℕ → ℕ → List ℕ → ℕ → ℕ → List ℕ
torn_cells cells p bytes «at» junk =
    cond (full cells p) cells
    (cond (nat_le (length bytes + chip_named) «at») (written cells p bytes (length bytes + chip_named))
    (slice_set (written cells p bytes «at») (p + keep_place (length bytes) «at») junk))

-- every cell is 00
abbrev pub Blank : List ℕ → Type 0
Blank cells = (k : ℕ) → slice_index cells k ≡ 0
