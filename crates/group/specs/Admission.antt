-- Which events a bed admits in which phase, and its phase after each; assumes nothing.
use Rattle.std.specs.Prelude.{Ok, Err, Result}
use Rattle.group.specs.declared.bed.Event.{Event}
use Rattle.group.specs.declared.bed.Event.TheVariants as ev
use Rattle.group.specs.declared.bed.Phase.{Phase}
use Rattle.group.specs.declared.bed.Phase.TheVariants.{Off, Idle, Waiting}
use Rattle.group.specs.declared.refusal.Refusal.{Refusal}
use Rattle.group.specs.declared.refusal.Refusal.TheVariants as rf

abbrev pub admitted : Phase → Event → Result Phase Refusal
admitted Off ev.Start = Ok Idle
admitted Off ev.Use = Err rf.BedOff
admitted Off ev.Propose = Err rf.BedOff
admitted Off ev.Trip = Err rf.BedOff
admitted Off ev.Collect = Err rf.BedOff
admitted Off ev.Off = Err rf.BedOff
admitted Idle ev.Start = Err rf.Running
admitted Idle ev.Use = Ok Idle
admitted Idle ev.Propose = Ok Waiting
admitted Idle ev.Trip = Ok Off
admitted Idle ev.Collect = Err rf.Idle
admitted Idle ev.Off = Ok Off
admitted Waiting ev.Start = Err rf.Running
admitted Waiting ev.Use = Ok Waiting
admitted Waiting ev.Propose = Err rf.Waiting
admitted Waiting ev.Trip = Err rf.Waiting
admitted Waiting ev.Collect = Ok Idle
admitted Waiting ev.Off = Ok Off
