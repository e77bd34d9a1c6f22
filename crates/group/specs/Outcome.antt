-- What a call may come to, and the rows of the refusal table: the first that fits is given; assumes nothing.
use Rattle.std.specs.Prelude.{◌≡◌, ℕ, ◌≤◌, ◌⊎◌, Err, Result}
use Rattle.codec.specs.declared.whole.Source.{Source}
use Rattle.codec.specs.declared.whole.WholeFault.{WholeFault}
use Rattle.group.specs.World.{World, bed, size}
use Rattle.group.specs.declared.bed.Phase.TheVariants.{Off}
use Rattle.group.specs.declared.call.Reply.{Reply}
use Rattle.group.specs.declared.refusal.Refusal.{Refusal}
use Rattle.group.specs.declared.refusal.Refusal.TheVariants as rf

abbrev pub Answer : Type 0
Answer = Result Reply Refusal

-- which answers may come, and with each which world may stand after the call
abbrev pub Outcome : Type 1
Outcome = Answer → World → Type 0

-- refused, and everything as it was
abbrev pub refused : World → Refusal → Outcome
refused w r a w' = (a ≡ Err r) × (w' ≡ w)

-- a row of the table: where it fits the call is refused, and where it does not the rows after it decide
abbrev pub row : World → Type 0 → Refusal → Outcome → Outcome
row w Fits r rest a w' = (Fits × refused w r a w') ⊎ ((Fits → ⊥) × rest a w')

-- the rows of every call on a running bed
abbrev pub on_running : World → ℕ → Outcome → Outcome
on_running w b rest = row w (size w ≤ b) rf.NoBed (row w ((bed w b).phase ≡ Off) rf.BedOff rest)

-- faulty bytes, by the bed that read them, its round and what it read them from
abbrev pub faulty : WholeFault → ℕ → ℕ → Source → Refusal
faulty f b round source = rf.Faulty (record { fault = f; site = record { bed = b; round = round; source = source } })
