-- What stands at one moment: the beds, what is kept, and what stands at the decision service; assumes nothing.
use Rattle.std.specs.Prelude.{◌≡◌, ℕ, List, [], length, slice_index_or, slice_set}
use Rattle.codec.specs.declared.ticket.Ticket.{Ticket}
use Rattle.memory.specs.Meaning.{Slots}
use Rattle.decision.specs.Meaning.{Board}
use Rattle.group.specs.declared.bed.Phase.{Phase}
use Rattle.group.specs.declared.bed.Phase.TheVariants.{Off}

-- one bed: its phase, its round, the highest later round that it heard of, its waiting set and its queue
pub record Bed : Type 0 where
  pub phase : Phase
  pub round : ℕ
  pub heard : ℕ
  pub waiting : List Ticket
  pub queue : List Ticket

-- the beds of the group in their order, the slots of all beds, and the proposals and decisions
pub record World : Type 0 where
  pub beds : List Bed
  pub kept : Slots
  pub board : Board

abbrev pub size : World → ℕ
size w = length w.beds

-- a bed without power
abbrev pub off_bed : Bed
off_bed = record { phase = Off; round = 0; heard = 0; waiting = []; queue = [] }

-- past the group's beds there is only an off bed
abbrev pub bed : World → ℕ → Bed
bed w b = slice_index_or w.beds b off_bed

-- a running bed is idle or waiting
abbrev pub Running : World → ℕ → Type 0
Running w b = (bed w b).phase ≡ Off → ⊥

-- one bed as given, and all else as it was
abbrev pub changed : World → ℕ → Bed → World
changed w b x = record { beds = slice_set w.beds b x; kept = w.kept; board = w.board }
