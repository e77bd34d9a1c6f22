-- What a line asks of an image of a chip, and what is printed for it; assumes nothing.
use Rattle.std.specs.Prelude.{ℕ, zero, suc, ◌+◌, cond, List, [], ◌∷◌, ◌++◌, length, drop, is_some, Some, None, Ok, Err, codes, decimal, Option, Result, nat_lt}
use Rattle.codec.specs.Reading.{batch_reading}
use Rattle.codec.specs.Limits.{max_beds}
use Rattle.memory.specs.Limits.{slot_count}
use Rattle.memory.specs.Meaning.{Slots}
use Rattle.memory.specs.Chip.{chip_cells, chip_holds}
use Rattle.inspect.specs.Answer.{row, parts_text, refusal_text}
use Rattle.inspect.specs.declared.fault.LineFault.{LineFault}
use Rattle.inspect.specs.declared.fault.LineFault.TheVariants as lf

-- the name of the file follows the letter, the number of beds and the spaces after them
abbrev pub file_of : List ℕ → Result (List ℕ) LineFault
file_of cs = cond (nat_lt 4 (length cs)) (Ok (drop 4 cs)) (Err lf.NoFile)

-- a slot that holds something: where it is, how many bytes, and what they come to as a batch
abbrev pub slot_text : ℕ → ℕ → ℕ → Option (List ℕ) → List ℕ
slot_text n bed slot None = []
slot_text n bed slot (Some v) =
    row (codes "bed " ∷ decimal bed ∷ codes " slot " ∷ decimal slot ∷ codes " bytes " ∷ decimal (length v) ∷ []) ++ parts_text (length v) (batch_reading n v)

-- what the first k slots of a bed come to
unfoldable pub slots_text : ℕ → Slots → ℕ → ℕ → List ℕ
slots_text n m bed zero = []
slots_text n m bed (suc k) = slots_text n m bed k ++ slot_text n bed k (m bed k)

-- what all slots of the first k beds come to
unfoldable pub beds_text : ℕ → Slots → ℕ → List ℕ
beds_text n m zero = []
beds_text n m (suc k) = beds_text n m k ++ slots_text n m k slot_count

-- how many of the first k slots of a bed are empty
unfoldable pub empty_slots : Slots → ℕ → ℕ → ℕ
empty_slots m bed zero = 0
empty_slots m bed (suc k) = empty_slots m bed k + cond (is_some (m bed k)) 0 1

-- how many slots of the first k beds are empty
unfoldable pub empty_of_beds : Slots → ℕ → ℕ
empty_of_beds m zero = 0
empty_of_beds m (suc k) = empty_of_beds m k + empty_slots m k slot_count

-- what a memory holds, bed by bed and slot by slot, and how many slots are empty
abbrev pub memory_text : ℕ → Slots → List ℕ
memory_text n m = beds_text n m max_beds ++ row (codes "empty " ∷ decimal (empty_of_beds m max_beds) ∷ [])

-- what is printed for an image, on the line of this number
abbrev pub image_text : ℕ → ℕ → List ℕ → List ℕ
image_text number n cells = cond (nat_lt (length cells) chip_cells) (refusal_text number (lf.FewCells (length cells))) (memory_text n (chip_holds cells))
