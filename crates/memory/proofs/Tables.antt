-- A new table holds nothing.
use Rattle.std.proofs.Common.{◌≡◌, ℕ, replicate, None}
use Rattle.codec.proofs.Values.{empty_shows}
use Rattle.memory.specs.Limits.{all_slots, slot_index, placed}
use Rattle.memory.specs.Table.{table_holds}

pub empty_table : (bed slot : ℕ) → table_holds (replicate all_slots None) bed slot ≡ None
empty_table bed slot = empty_shows (placed bed slot) all_slots (slot_index bed slot)
