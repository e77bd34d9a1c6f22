-- The world that the table of a group shows, with what its memory holds and what stands at its service; assumes nothing.
use Rattle.std.specs.Prelude.{ℕ, cond, List, [], map, take, Ok, Err, Result, nat_le, slice_index_or}
use Rattle.memory.specs.Meaning.{Slots}
use Rattle.decision.specs.Meaning.{Board}
use Rattle.group.specs.World.{Bed, World}
use Rattle.group.specs.Record.{bed_of}
use Rattle.group.specs.Admission.{admitted}
use Rattle.group.specs.declared.bed.BedRecord.{BedRecord}
use Rattle.group.specs.declared.bed.Event.{Event}
use Rattle.group.specs.declared.bed.Phase.{Phase}
use Rattle.group.specs.declared.bed.Phase.TheVariants.{Off}
use Rattle.group.specs.declared.refusal.Refusal.{Refusal}
use Rattle.group.specs.declared.refusal.Refusal.TheVariants as rf
use Rattle.group.specs.declared.table.Table.{Table}

-- as many beds as the group has
abbrev pub beds_of : Table → List Bed
beds_of t = map bed_of (take t.size.count t.beds)

abbrev pub world_of : Table → Slots → Board → World
world_of t kept board = record { beds = beds_of t; kept = kept; board = board }

-- what a place past the records reads as
abbrev pub no_record : BedRecord
no_record = record {
  phase = Off;
  round = 0;
  heard = 0;
  waiting = record { tickets = record { items = []; spare = [] } };
  queue = record { tickets = record { items = []; spare = [] } };
}

abbrev pub record_of : Table → ℕ → BedRecord
record_of t b = slice_index_or t.beds b no_record

abbrev pub placed : ℕ → Result Phase Refusal → Result (ℕ × Phase) Refusal
placed b (Ok p) = Ok (b, p)
placed b (Err e) = Err e

-- a bed of the group and its phase after an event, or why the event is not admitted
abbrev pub admission : Table → ℕ → Event → Result (ℕ × Phase) Refusal
admission t b event = cond (nat_le t.size.count b) (Err rf.NoBed) (placed b (admitted (record_of t b).phase event))
