-- What is said of a line that cannot be read, and what memory leaves of a reading; assumes nothing.
use Rattle.std.specs.Prelude.{◌≡◌, ℕ, List, ◌++◌, Ok, Err, codes, decimal, Result}
use Rattle.memory.specs.Chip.{chip_cells}
use Rattle.memory.specs.Refusal.{refusal_number}
use Rattle.memory.specs.declared.refusal.MemoryRefusal.TheVariants.{Cells}
use Rattle.inspect.specs.declared.fault.LineFault.{LineFault}
use Rattle.inspect.specs.declared.fault.LineFault.TheVariants as lf
use Rattle.inspect.specs.declared.fault.LineError.{LineError}
use Rattle.inspect.specs.declared.fault.LineError.TheVariants as le

abbrev pub line_words : LineFault → List ℕ
line_words lf.Empty = codes "the line is empty"
line_words lf.Letter = codes "the line begins with neither b, c nor p"
line_words lf.NoBeds = codes "no space and number of beds follow the letter"
line_words lf.Beds = codes "the number of beds is not one digit, 1 to 8"
line_words (lf.NotHex offset) = codes "the character at offset " ++ (decimal offset ++ codes " is no hexadecimal digit")
line_words (lf.HalfPair offset) = codes "a pair of digits lacks its second at offset " ++ decimal offset
line_words lf.NoFile = codes "no name of a file follows the number of beds"
line_words lf.Unread = codes "the file cannot be read"
line_words (lf.FewCells cells) =
    codes "refusal " ++ (decimal (refusal_number Cells) ++ (codes ", the file has " ++ (decimal cells ++ (codes " cells and a chip has " ++ decimal chip_cells))))

-- goes on with what was read; a fault ends all
abbrev pub and_then : {A B F : Type 0} → Result A F → (A → Result B F) → Result B F
and_then (Ok x) k = k x
and_then (Err f) k = Err f

-- what was read, seen through `of`, is what there is to read, unless memory failed
abbrev pub Reads : {A B : Type 0} → (A → B) → Result A LineError → Result B LineFault → Type 0
Reads of (Ok x) there = there ≡ Ok (of x)
Reads of (Err (le.Fault f)) there = there ≡ Err f
Reads of (Err (le.Memory e)) there = Unit {0}
