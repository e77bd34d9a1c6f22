-- A new table holds nothing.
use Rattle.std.proofs.Common.{◌≡◌, ℕ, zero, suc, ◌&&◌, Bool, cond, ltb, replicate, None, get_or}
use Rattle.codec.specs.Limits.{max_beds}
use Rattle.codec.specs.Value.{shown}
use Rattle.codec.proofs.Values.{empty_shows}
use Rattle.decision.specs.Limits.{round_count}
use Rattle.decision.specs.declared.ballots.Tally.{Tally}
use Rattle.decision.specs.Ballots.{tally_at, table_proposal, table_decision}

abbrev pub empty : Tally
empty = record { proposals = replicate max_beds None; decision = None }

record Nothing (t : Tally) : Type 0 where
  pub proposals : (b : Bool) (bed : ℕ) → cond b (shown (get_or t.proposals bed None)) None ≡ None
  pub decision : (b : Bool) → cond b (shown t.decision) None ≡ None

nothing : (n round : ℕ) → Nothing (tally_at (replicate n empty) round)
nothing zero round = record { proposals = λ b bed. empty_shows b 0 bed; decision = λ b. empty_shows b 0 0 }
nothing (suc n) zero = record { proposals = λ b bed. empty_shows b max_beds bed; decision = λ b. empty_shows b 0 0 }
nothing (suc n) (suc round) = nothing n round

pub empty_proposals : (beds bed round : ℕ) → table_proposal beds (replicate round_count empty) bed round ≡ None
empty_proposals beds bed round = (nothing round_count round).proposals (ltb bed beds && ltb round round_count) bed

pub empty_decisions : (round : ℕ) → table_decision (replicate round_count empty) round ≡ None
empty_decisions round = (nothing round_count round).decision (ltb round round_count)
