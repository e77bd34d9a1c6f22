-- Where a keep goes on a chip, and which bytes it keeps; assumes nothing.
use Rattle.std.specs.Prelude.{ℕ, List}
use Rattle.memory.specs.Chip.{start}
use Rattle.memory.specs.declared.place.Place.{Place}
use Rattle.memory.specs.declared.keep.Keep.{Keep}

-- the first cell of a place
abbrev pub place_start : Place → ℕ
place_start p = start p.bed p.slot

abbrev pub keep_start : Keep → ℕ
keep_start k = place_start k.place

abbrev pub keep_bytes : Keep → List ℕ
keep_bytes k = k.bytes.now
