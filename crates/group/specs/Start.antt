-- One round of a start, and what holds of a record that is being replayed; assumes the meaning of the decision service.
use Rattle.std.specs.Prelude.{◌≡◌, ℕ, suc, ◌*◌, ◌<◌, ◌≤◌, List, length, Ok, Err, Option, Result}
use Rattle.codec.specs.Limits.{batch_tickets}
use Rattle.memory.specs.Meaning.{Slots}
use Rattle.decision.specs.Limits.{round_count}
use Rattle.decision.specs.Meaning.{Board}
use Rattle.group.specs.World.{Bed}
use Rattle.group.specs.Replay.{Replay, started}
use Rattle.group.specs.Calls.{starting}
use Rattle.group.specs.Table.{world_of, record_of}
use Rattle.group.specs.Record.{bed_of, BedSound, queued_in}
use Rattle.group.specs.declared.bed.BedRecord.{BedRecord}
use Rattle.group.specs.declared.bed.Phase.TheVariants.{Off, Idle}
use Rattle.group.specs.declared.proposal.Replayed.{Replayed}
use Rattle.group.specs.declared.proposal.Replayed.TheVariants as re
use Rattle.group.specs.declared.refusal.Refusal.{Refusal}
use Rattle.group.specs.declared.table.Table.{Table}

-- a record that is being replayed: idle, with an empty set, and a queue with room for the rounds still to come
pub record StartSound (r : BedRecord) : Type 0 where
  pub bed : bed_of r ≡ started Idle r.round (queued_in r.queue)
  pub queue_len : length (queued_in r.queue) ≤ batch_tickets * r.round
  pub round : r.round ≤ round_count

-- how a replay from here goes on, given how it goes on from there
abbrev pub From : ℕ → (ℕ → Option (List ℕ)) → ℕ → BedRecord → Board → BedRecord → Board → Type 0
From n slots b r s r' s' =
    (end : Result Bed Refusal) (s'' : Board) → Replay n slots b r'.round (queued_in r'.queue) s' end s'' → Replay n slots b r.round (queued_in r.queue) s end s''

-- a round that was passed, the end of the replay, or faulty bytes
abbrev pub ReplaysRound : ℕ → (ℕ → Option (List ℕ)) → ℕ → BedRecord → Board → Result Replayed Refusal → BedRecord → Board → Type 0
ReplaysRound n slots b r s (Ok re.Round) r' s' = (r'.round ≡ suc r.round) × StartSound r' × From n slots b r s r' s'
ReplaysRound n slots b r s (Ok re.End) r' s' = Replay n slots b r.round (queued_in r.queue) s (Ok (bed_of r')) s' × BedSound n r'
ReplaysRound n slots b r s (Err e) r' s' = Replay n slots b r.round (queued_in r.queue) s (Err e) s'

-- a bed of the group that is off, where its record stands, or refused by one of the rows of a start
abbrev pub MakesStart : Table → ℕ → Result ℕ Refusal → Type 0
MakesStart t b (Ok i) = (i ≡ b) × (b < t.size.count) × ((record_of t b).phase ≡ Off)
MakesStart t b (Err e) = (kept : Slots) (board : Board) → starting (world_of t kept board) b (λ _ _. ⊥) (Err e) (world_of t kept board)
