-- The laws of what is enough, for those who use a service; assumes nothing of how many proposals that is.
use Rattle.std.specs.Prelude.{◌≡◌, ℕ, ◌<◌, true, is_some}
use Rattle.decision.specs.Meaning.{Board, Enough}

-- this bed has a proposal in the round
abbrev pub Proposed : Board → ℕ → ℕ → Type 0
Proposed s round bed = is_some (s.proposal bed round) ≡ true

pub record EnoughLaws : Type 0 where
  -- where there are enough, a bed of the group has one
  pub one : (s : Board) (round : ℕ) → Enough s round → (bed : ℕ) × (bed < s.beds) × Proposed s round bed
  -- enough stay enough while no proposal is lost
  pub kept : (s s' : Board) (round : ℕ) → s'.beds ≡ s.beds → ((bed : ℕ) → Proposed s round bed → Proposed s' round bed) → Enough s round → Enough s' round
  -- all the beds are enough
  pub all : (s : Board) (round : ℕ) → 0 < s.beds → ((bed : ℕ) → bed < s.beds → Proposed s round bed) → Enough s round
