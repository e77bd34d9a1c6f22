-- What stands in the tables of a service, and the exact rules by which the two services decide; assumes nothing.
use Rattle.std.specs.Prelude.{◌≡◌, ℕ, zero, suc, ◌<◌, ◌≤◌, Bool, true, false, cond, ◌&&◌, List, [], length, Some, None, Ok, Err, Option, Result, ◌≢◌, nat_lt, slice_index_or, MatchOption, refl}
use Rattle.std.proofs.Common.{subst, arith}
use Rattle.std.proofs.lemmas.Bool.{and_parts, ltb-true}
use Rattle.codec.specs.Limits.{max_batch_bytes}
use Rattle.codec.specs.Value.{value_bytes, shown}
use Rattle.codec.proofs.Values.{value_some, value_most}
use Rattle.codec.specs.declared.value.Value.{Value}
use Rattle.decision.specs.Limits.{round_count}
use Rattle.decision.specs.Meaning.{Board, Within, Bounded, Enough}
use Rattle.decision.specs.declared.refusal.DecisionRefusal.{DecisionRefusal}
use Rattle.decision.specs.declared.refusal.DecisionRefusal.TheVariants.{Limits}
use Rattle.decision.specs.declared.service.PutAnswer.{PutAnswer}
use Rattle.decision.specs.declared.service.PutAnswer.TheVariants.{Taken, Had}
use Rattle.decision.specs.declared.ballots.Ballots.{Ballots}
use Rattle.decision.specs.declared.ballots.Tally.{Tally}

-- what stands in a round
abbrev pub tally_at : List Tally → ℕ → Tally
tally_at rounds round = slice_index_or rounds round (record { proposals = []; decision = None })

-- what a bed has proposed in a round
abbrev pub proposed_at : List Tally → ℕ → ℕ → Option Value
proposed_at rounds bed round = slice_index_or (tally_at rounds round).proposals bed None

abbrev pub table_proposal : ℕ → List Tally → ℕ → ℕ → Option (List ℕ)
table_proposal beds rounds bed round = cond (nat_lt bed beds && nat_lt round round_count) (shown (proposed_at rounds bed round)) None

abbrev pub table_decision : List Tally → ℕ → Option (List ℕ)
table_decision rounds round = cond (nat_lt round round_count) (shown (tally_at rounds round).decision) None

abbrev pub board_of : Ballots → Board
board_of b = record {
  beds = b.beds.count;
  proposal = table_proposal b.beds.count b.rounds;
  decision = table_decision b.rounds;
}

-- a proposal recorded where there is none, and nothing else
pub record Proposes (s : Board) (bed round : ℕ) (bytes : List ℕ) (r : Result PutAnswer DecisionRefusal) (s' : Board) : Type 0 where
  pub outside : (Within s.beds bed round (length bytes) → ⊥) → r ≡ Err Limits
  pub taken : Within s.beds bed round (length bytes) → s.proposal bed round ≡ None → (r ≡ Ok Taken) × (s'.proposal bed round ≡ Some bytes)
  pub had : (old : List ℕ) → Within s.beds bed round (length bytes) → s.proposal bed round ≡ Some old → (r ≡ Ok Had) × (s'.proposal bed round ≡ Some old)
  pub same_beds : s'.beds ≡ s.beds
  pub others : (b k : ℕ) → (b ≡ bed → k ≢ round) → s'.proposal b k ≡ s.proposal b k
  pub same_decisions : (k : ℕ) → s'.decision k ≡ s.decision k

-- one, or where it is missing the other
abbrev pub or_else : Option (List ℕ) → Option (List ℕ) → Option (List ℕ)
or_else None o = o
or_else (Some v) o = Some v

-- the proposal of the lowest of the first k beds that has one in the round
abbrev pub lowest_below : Board → ℕ → ℕ → Option (List ℕ)
lowest_below s round zero = None
lowest_below s round (suc k) = or_else (lowest_below s round k) (s.proposal k round)

-- r is the first thing at the first n places of a row, or there is none
abbrev pub IsLowest : List (Option Value) → ℕ → Option Value → Type 0
IsLowest row n r = MatchOption r ((k : ℕ) → k < n → slice_index_or row k None ≡ None)
    (λ v. (i : ℕ) × (i < n) × (slice_index_or row i None ≡ Some v) × ((k : ℕ) → k < i → slice_index_or row k None ≡ None))

-- a poll of the majority service: a decision stays; with more than half the round is decided for the lowest bed; else it is not
pub record MajorityPoll (s : Board) (round : ℕ) (s' : Board) : Type 0 where
  pub stays : (v : List ℕ) → s.decision round ≡ Some v → s'.decision round ≡ Some v
  pub lowest : s.decision round ≡ None → Enough s round → s'.decision round ≡ lowest_below s round s.beds
  pub too_few : s.decision round ≡ None → (Enough s round → ⊥) → s'.decision round ≡ None

-- ---- what stands is within the limits

proposed : (beds bed round : ℕ) (b : Bool) (o : Option Value) (v : List ℕ) → (b ≡ true → (bed < beds) × (round < round_count))
    → ◌≡◌ {A = Option (List ℕ)} (cond b (shown o) None) (Some v) → Within beds bed round (length v)
proposed beds bed round true (Some x) v p e =
    let q : value_bytes x ≡ v = cc in
    let i = p refl in
    record { bed_in = i.0; round_in = i.1; some = subst (λ (l : List ℕ). 1 ≤ length l) q (value_some x); most = subst (λ (l : List ℕ). length l ≤ max_batch_bytes) q (value_most x) }
proposed beds bed round true None v p e = absurd (let z : ◌≡◌ {A = ℕ} 0 1 = cc in omega arith)
proposed beds bed round false o v p e = absurd (let z : ◌≡◌ {A = ℕ} 0 1 = cc in omega arith)

pub board_bounded : (b : Ballots) → Bounded (board_of b)
board_bounded b = record {
  some_beds = b.beds.some;
  most_beds = b.beds.most;
  proposals = λ bed round v e.
      proposed b.beds.count bed round (nat_lt bed b.beds.count && nat_lt round round_count) (proposed_at b.rounds bed round) v
      (λ t. let a = and_parts (nat_lt bed b.beds.count) (nat_lt round round_count) t in (ltb-true bed b.beds.count a.0, ltb-true round round_count a.1)) e;
}
