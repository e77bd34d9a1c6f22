-- The numbers of a group's refusals; assumes nothing. Those of its memory and its service keep their own.
use Rattle.std.specs.Prelude.{ℕ}
use Rattle.memory.specs.Refusal.{refusal_number as memory_number}
use Rattle.decision.specs.Refusal.{refusal_number as service_number}
use Rattle.group.specs.declared.refusal.Refusal.{Refusal}
use Rattle.group.specs.declared.refusal.Refusal.TheVariants as rf

abbrev pub refusal_number : Refusal → ℕ
refusal_number rf.NoBed = 2
refusal_number rf.BedOff = 3
refusal_number rf.Running = 4
refusal_number rf.Field = 5
refusal_number rf.Known = 6
refusal_number rf.SetFull = 7
refusal_number rf.NoRoom = 8
refusal_number (rf.Faulty f) = 9
refusal_number rf.Waiting = 10
refusal_number rf.LastRound = 11
refusal_number rf.Nothing = 12
refusal_number rf.Idle = 13
refusal_number rf.Place = 15
refusal_number (rf.Memory r) = memory_number r
refusal_number (rf.Service r) = service_number r
