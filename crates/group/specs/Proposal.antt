-- What a bed would keep and propose; assumes nothing.
use Rattle.std.specs.Prelude.{◌≡◌, ℕ, ◌<◌, Ok, Err, Result}
use Rattle.codec.specs.Value.{value_bytes}
use Rattle.memory.specs.Meaning.{Slots}
use Rattle.decision.specs.Limits.{round_count}
use Rattle.decision.specs.Meaning.{Board}
use Rattle.group.specs.Calls.{proposing, collecting, own_batch, NoReason}
use Rattle.group.specs.Record.{bed_of}
use Rattle.group.specs.Table.{world_of, record_of}
use Rattle.group.specs.declared.bed.Phase.TheVariants.{Idle, Waiting}
use Rattle.group.specs.declared.proposal.Proposal.{Proposal}
use Rattle.group.specs.declared.proposal.Turn.{Turn}
use Rattle.group.specs.declared.refusal.Refusal.{Refusal}
use Rattle.group.specs.declared.table.Table.{Table}

-- the bed may propose, and this is its batch
pub record Proposable (t : Table) (b : ℕ) (p : Proposal) : Type 0 where
  pub low : b < t.size.count
  pub index : p.turn.index ≡ b
  pub idle : (record_of t b).phase ≡ Idle
  pub left : (record_of t b).round < round_count
  pub reason : NoReason (bed_of (record_of t b)) → ⊥
  pub round : p.turn.round ≡ (record_of t b).round
  pub batch : value_bytes p.batch ≡ own_batch (bed_of (record_of t b))

-- refused by one of the rows of a propose, or a proposal
abbrev pub MakesProposal : Table → ℕ → Result Proposal Refusal → Type 0
MakesProposal t b (Ok p) = Proposable t b p
MakesProposal t b (Err e) = (kept : Slots) (board : Board) → proposing (world_of t kept board) b (λ _ _. ⊥) (Err e) (world_of t kept board)

-- the bed waits in this round
pub record Collectable (t : Table) (b : ℕ) (p : Turn) : Type 0 where
  pub low : b < t.size.count
  pub index : p.index ≡ b
  pub waits : (record_of t b).phase ≡ Waiting
  pub round : p.round ≡ (record_of t b).round

-- refused by one of the rows of a collect, or a round
abbrev pub MakesTurn : Table → ℕ → Result Turn Refusal → Type 0
MakesTurn t b (Ok p) = Collectable t b p
MakesTurn t b (Err e) = (kept : Slots) (board : Board) → collecting (world_of t kept board) b (λ _ _. ⊥) (Err e) (world_of t kept board)
