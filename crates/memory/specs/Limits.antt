-- The limits of a memory beside those of the byte forms; assumes nothing.
use Rattle.std.specs.Prelude.{ℕ, ◌+◌, ◌*◌, Bool, ◌&&◌, nat_lt}
use Rattle.codec.specs.Limits.{max_beds}

-- the slots of a bed, one for each round
abbrev pub slot_count : ℕ
slot_count = 32

-- the slots of all beds, those of bed 0 first
abbrev pub all_slots : ℕ
all_slots = 256

abbrev pub slot_index : ℕ → ℕ → ℕ
slot_index bed slot = slot_count * bed + slot

-- whether there is such a bed and slot
abbrev pub placed : ℕ → ℕ → Bool
placed bed slot = nat_lt bed max_beds && nat_lt slot slot_count
