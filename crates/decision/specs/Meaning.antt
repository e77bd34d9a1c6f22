-- What a decision service means, and what each call does to that; assumes nothing of how it decides.
use Rattle.std.specs.Prelude.{◌≡◌, ℕ, zero, suc, ◌+◌, ◌*◌, ◌<◌, ◌≤◌, true, cond, List, length, is_some, Some, None, Ok, Err, Option, Result, ◌≢◌}
use Rattle.codec.specs.Limits.{max_beds, max_batch_bytes}
use Rattle.codec.specs.Value.{value_bytes}
use Rattle.codec.specs.declared.value.Value.{Value}
use Rattle.decision.specs.Limits.{round_count}
use Rattle.decision.specs.declared.refusal.DecisionRefusal.{DecisionRefusal}
use Rattle.decision.specs.declared.refusal.DecisionRefusal.TheVariants.{Undecided, Limits}
use Rattle.decision.specs.declared.service.PutAnswer.{PutAnswer}
use Rattle.decision.specs.declared.service.PutAnswer.TheVariants.{Taken, Had}

-- what stands at a service: the size of its group, for each bed and round a proposal or none, for each round a decision or none
pub record Board : Type 0 where
  pub beds : ℕ
  pub proposal : ℕ → ℕ → Option (List ℕ)
  pub decision : ℕ → Option (List ℕ)

-- so many bytes may be proposed there
pub record Within (beds bed round len : ℕ) : Type 0 where
  pub bed_in : bed < beds
  pub round_in : round < round_count
  pub some : 1 ≤ len
  pub most : len ≤ max_batch_bytes

-- what stands is within the limits
pub record Bounded (s : Board) : Type 0 where
  pub some_beds : 1 ≤ s.beds
  pub most_beds : s.beds ≤ max_beds
  pub proposals : (bed round : ℕ) (v : List ℕ) → s.proposal bed round ≡ Some v → Within s.beds bed round (length v)

-- a new service, for a group of so many beds
pub record New (beds : ℕ) (s : Board) : Type 0 where
  pub size : s.beds ≡ beds
  pub proposed : (bed round : ℕ) → s.proposal bed round ≡ None
  pub decided : (round : ℕ) → s.decision round ≡ None

-- ---- which proposals are enough

-- how many of the first k beds have a proposal in the round
abbrev pub proposers : Board → ℕ → ℕ → ℕ
proposers s round zero = 0
proposers s round (suc k) = cond (is_some (s.proposal k round)) 1 0 + proposers s round k

-- more than half the beds have a proposal in the round
unfoldable pub Enough : Board → ℕ → Type 0
Enough s round = s.beds < 2 * proposers s round s.beds

-- ---- the calls

-- what a call may do to the decisions: those of other rounds stay, one that stands stays, and a new one is a proposal that
-- stands in its round after the call. Which proposal it is, and whether it comes now, is free.
pub record Settles (s : Board) (round : ℕ) (s' : Board) : Type 0 where
  pub other_rounds : (k : ℕ) → (k ≢ round) → s'.decision k ≡ s.decision k
  pub stays : (v : List ℕ) → s.decision round ≡ Some v → s'.decision round ≡ Some v
  pub chosen : (v : List ℕ) → s.decision round ≡ None → s'.decision round ≡ Some v → (bed : ℕ) × (bed < s'.beds) × (s'.proposal bed round ≡ Some v)

-- a put: a bed's first proposal in a round is recorded; a second is not
pub record Puts (s : Board) (bed round : ℕ) (bytes : List ℕ) (r : Result PutAnswer DecisionRefusal) (s' : Board) : Type 0 where
  pub outside : (Within s.beds bed round (length bytes) → ⊥) → (r ≡ Err Limits) × (s' ≡ s)
  pub taken : Within s.beds bed round (length bytes) → s.proposal bed round ≡ None → (r ≡ Ok Taken) × (s'.proposal bed round ≡ Some bytes)
  pub had : (old : List ℕ) → Within s.beds bed round (length bytes) → s.proposal bed round ≡ Some old → (r ≡ Ok Had) × (s'.proposal bed round ≡ Some old)
  pub same_beds : s'.beds ≡ s.beds
  pub others : (b k : ℕ) → (b ≡ bed → k ≢ round) → s'.proposal b k ≡ s.proposal b k
  pub settles : Settles s round s'

-- what a poll answers, by the decision that stands after it
pub record PollAnswer (decided : Option (List ℕ)) (r : Result Value DecisionRefusal) : Type 0 where
  pub decision : (v : List ℕ) → decided ≡ Some v → (x : Value) × ((r ≡ Ok x) × (value_bytes x ≡ v))
  pub none : decided ≡ None → r ≡ Err Undecided

-- a poll: the decision, or that there is none; once enough beds have proposed there is one
pub record Polls (s : Board) (round : ℕ) (r : Result Value DecisionRefusal) (s' : Board) : Type 0 where
  pub outside : (round < round_count → ⊥) → (r ≡ Err Limits) × (s' ≡ s)
  pub answer : round < round_count → PollAnswer (s'.decision round) r
  pub same_beds : s'.beds ≡ s.beds
  pub same_proposals : (b k : ℕ) → s'.proposal b k ≡ s.proposal b k
  pub settles : Settles s round s'
  pub enough : round < round_count → Enough s round → is_some (s'.decision round) ≡ true
