-- Counting proposals and looking for the lowest, bed by bed.
use Rattle.std.proofs.Common.{◌≡◌, ℕ, zero, suc, ◌+◌, ◌<◌, ◌≤◌, Bool, true, false, cond, List, is_some, Some, None, Option, sym, refl, ap, ◌∙◌, subst, inl, inr, add-one, arith, length, get_or, take, count_by}
use Rattle.std.proofs.lemmas.Bool.{cases_Bool, cases_eq, cases_lt, both_ways}
use Rattle.std.proofs.Math.ListN.{get_or-eq_default}
use Rattle.std.proofs.lemmas.List.{take_all}
use Rattle.std.proofs.lemmas.List.Sums.{sum_by_more}
use Rattle.codec.specs.Value.{value_bytes, shown}
use Rattle.codec.specs.declared.value.Value.{Value}
use Rattle.decision.specs.Meaning.{Board, proposers, Enough}
use Rattle.decision.specs.Limits.{round_count}
use Rattle.decision.specs.declared.ballots.Ballots.{Ballots}
use Rattle.std.proofs.lemmas.Grind.{common_steps}
use Rattle.std.proofs.lemmas.Bool.Decides.{nat_tests}
use Rattle.decision.specs.Ballots.{board_of, tally_at, or_else, lowest_below, IsLowest}
use Rattle.decision.specs.Laws.{Proposed, EnoughLaws}

-- a place shows something exactly if it has something
pub shown_some : (o : Option Value) → is_some (shown o) ≡ is_some o
shown_some None = refl
shown_some (Some v) = refl

pub none_is : (o : Option (List ℕ)) → is_some o ≡ false → o ≡ None
none_is None e = refl
none_is (Some v) e = absurd cc

pub some_is : (o : Option (List ℕ)) → is_some o ≡ true → (v : List ℕ) × (o ≡ Some v)
some_is (Some v) e = (v, refl)
some_is None e = absurd cc

-- no more are counted than there are beds
pub proposers_few : (s : Board) (round k : ℕ) → proposers s round k ≤ k
proposers_few s round zero = omega arith
proposers_few s round (suc k) = let r = proposers_few s round k in grind arith

-- where some are counted, there is one
counted_one : (s : Board) (round k : ℕ) → 0 < proposers s round k → (bed : ℕ) × (bed < k) × (is_some (s.proposal bed round) ≡ true)
counted_one s round zero h = absurd (omega arith)
counted_one s round (suc k) h =
    elim (cases_Bool (is_some (s.proposal k round))) [
      | inl e ↦ (k, omega arith, e)
      | inr e ↦ (let m : proposers s round (suc k) ≡ 0 + proposers s round k = ap (λ (x : Bool). cond x 1 0 + proposers s round k) e in
          let r = counted_one s round k (omega arith) in (r.0, omega (arith, r.1), r.2))
    ]

pub enough_one : (s : Board) (round : ℕ) → Enough s round → (bed : ℕ) × (bed < s.beds) × (is_some (s.proposal bed round) ≡ true)
unfolding Enough
enough_one s round h = counted_one s round s.beds (omega arith)

-- then there is a lowest
pub lowest_some : (s : Board) (round k bed : ℕ) → bed < k → is_some (s.proposal bed round) ≡ true → is_some (lowest_below s round k) ≡ true
lowest_some s round zero bed h e = absurd (omega arith)
lowest_some s round (suc k) bed h e =
    elim (cases_Bool (is_some (lowest_below s round k))) [
      | inl f ↦ (let v = some_is (lowest_below s round k) f in ap (λ (x : Option (List ℕ)). is_some (or_else x (s.proposal k round))) v.1)
      | inr f ↦ (let n = none_is (lowest_below s round k) f in
          elim (cases_eq bed k) [
            | inl q ↦ ap (λ (x : Option (List ℕ)). is_some (or_else x (s.proposal k round))) n ∙ subst (λ (j : ℕ). is_some (s.proposal j round) ≡ true) q e
            | inr q ↦ absurd (both_ways (is_some (lowest_below s round k)) f (lowest_some s round k bed (omega arith) e))
          ])
    ]

-- and it is a proposal of the group
pub lowest_is : (s : Board) (round k : ℕ) (v : List ℕ) → lowest_below s round k ≡ Some v → (bed : ℕ) × (bed < k) × (s.proposal bed round ≡ Some v)
lowest_is s round zero v e = absurd cc
lowest_is s round (suc k) v e =
    elim (cases_Bool (is_some (lowest_below s round k))) [
      | inl f ↦ (let u = some_is (lowest_below s round k) f in
          let w : Some u.0 ≡ Some v = sym (ap (λ (x : Option (List ℕ)). or_else x (s.proposal k round)) u.1) ∙ e in
          let r = lowest_is s round k v (u.1 ∙ w) in (r.0, omega (arith, r.1), r.2))
      | inr f ↦ (k, omega arith, sym (ap (λ (x : Option (List ℕ)). or_else x (s.proposal k round)) (none_is (lowest_below s round k) f)) ∙ e)
    ]

-- ---- the laws of what is enough

counted_up : (s : Board) (round k : ℕ) → proposers s round k ≤ proposers s round (suc k)
counted_up s round k = omega arith

-- where no proposal is lost, no fewer are counted
counted_kept : (s s' : Board) (round : ℕ) → ((bed : ℕ) → Proposed s round bed → Proposed s' round bed) → (k : ℕ) → proposers s round k ≤ proposers s' round k
counted_kept s s' round h zero = omega arith
counted_kept s s' round h (suc k) =
    let r = counted_kept s s' round h k in
    elim (cases_Bool (is_some (s.proposal k round))) [
      | inl e ↦ (let m : proposers s round (suc k) ≡ 1 + proposers s round k = ap (λ (x : Bool). cond x 1 0 + proposers s round k) e in
          let m' : proposers s' round (suc k) ≡ 1 + proposers s' round k = ap (λ (x : Bool). cond x 1 0 + proposers s' round k) (h k e) in
          omega (arith, r, m, m'))
      | inr e ↦ (let m : proposers s round (suc k) ≡ 0 + proposers s round k = ap (λ (x : Bool). cond x 1 0 + proposers s round k) e in
          let up : proposers s' round k ≤ proposers s' round (suc k) = counted_up s' round k in
          omega (arith, r, m, up))
    ]

-- where all have proposed, all are counted
counted_all : (s : Board) (round k : ℕ) → ((bed : ℕ) → bed < k → Proposed s round bed) → proposers s round k ≡ k
counted_all s round zero h = refl
counted_all s round (suc k) h =
    let m : proposers s round (suc k) ≡ 1 + proposers s round k = ap (λ (x : Bool). cond x 1 0 + proposers s round k) (h k (omega arith)) in
    let r = counted_all s round k (λ bed b. h bed (omega arith)) in
    omega (arith, r, m)

pub enough_laws : EnoughLaws
unfolding Enough
enough_laws = record {
  one = enough_one;
  kept = λ s s' round n h e.
      let c = counted_kept s s' round h s.beds in
      let same : proposers s' round s'.beds ≡ proposers s' round s.beds = ap (proposers s' round) n in
      omega (arith, c, same, e, n);
  all = λ s round b h. let c = counted_all s round s.beds h in omega (arith, c, b);
}

-- ---- a round by the places of its row

-- the first k places of a row show what the first k beds have proposed in a round
abbrev pub RowShows : Board → ℕ → ℕ → List (Option Value) → Type 0
RowShows s round k row = (bed : ℕ) → bed < k → s.proposal bed round ≡ shown (get_or row bed None)

pub row_shows : (b : Ballots) (round : ℕ) → round < round_count → RowShows (board_of b) round b.beds.count (tally_at b.rounds round).proposals
row_shows b round h bed b_in = grind (arith, common_steps, nat_tests)

pub proposers_count : (s : Board) (round k : ℕ) (row : List (Option Value)) → RowShows s round k row → proposers s round k ≡ count_by is_some (take k row)
proposers_count s round zero row r = refl
proposers_count s round (suc k) row r =
    let i = proposers_count s round k row (λ bed b. r bed (omega arith)) in
    let e = ap is_some (r k (omega arith)) ∙ shown_some (get_or row k None) in
    elim (cases_lt k (length row)) [
      | inl h ↦ (let m = simp add-one at (sum_by_more (λ (o : Option Value). cond (is_some o) 1 0) row k None h) in
          let p = more (is_some (get_or row k None)) e in omega (arith, m, p, i))
      | inr h ↦ (let m = more false (e ∙ ap is_some (get_or-eq_default row None h)) in
          let same : count_by is_some (take k row) ≡ count_by is_some (take (suc k) row) = ap (count_by is_some) (take_all k row h ∙ sym (take_all (suc k) row (omega arith))) in
          omega (arith, m, i, same))
    ]
  where
    more : (b : Bool) → is_some (s.proposal k round) ≡ b → proposers s round (suc k) ≡ cond b 1 0 + proposers s round k
    more b e = ap (λ (x : Bool). cond x 1 0 + proposers s round k) e

lowest_before : (s : Board) (round k : ℕ) (row : List (Option Value)) → RowShows s round k row → ((j : ℕ) → j < k → get_or row j None ≡ None) → lowest_below s round k ≡ None
lowest_before s round zero row r none = refl
lowest_before s round (suc k) row r none =
    let i = lowest_before s round k row (λ bed b. r bed (omega arith)) (λ j b. none j (omega arith)) in
    ap (λ (x : Option (List ℕ)). or_else x (s.proposal k round)) i ∙ r k (omega arith) ∙ ap shown (none k (omega arith))

lowest_first : (s : Board) (round n i : ℕ) (row : List (Option Value)) (v : Value) → RowShows s round n row → i < n → get_or row i None ≡ Some v
    → ((j : ℕ) → j < i → get_or row j None ≡ None) → lowest_below s round n ≡ Some (value_bytes v)
lowest_first s round zero i row v r i_in here before = absurd (omega arith)
lowest_first s round (suc k) i row v r i_in here before =
    let or_here = λ (x : Option (List ℕ)). or_else x (s.proposal k round) in
    elim (cases_lt i k) [
      | inl h ↦ ap or_here (lowest_first s round k i row v (λ bed b. r bed (omega arith)) h here before)
      | inr h ↦ (let e : k ≡ i = omega arith in
          ap or_here (lowest_before s round k row (λ bed b. r bed (omega arith)) (λ j b. before j (omega arith)))
          ∙ r k (omega arith) ∙ ap (λ (j : ℕ). shown (get_or row j None)) e ∙ ap shown here)
    ]

pub lowest_shown : (s : Board) (round n : ℕ) (row : List (Option Value)) (o : Option Value) → RowShows s round n row → IsLowest row n o → shown o ≡ lowest_below s round n
lowest_shown s round n row None r none = sym (lowest_before s round n row r none)
lowest_shown s round n row (Some v) r (i, i_in, here, before) = sym (lowest_first s round n i row v r i_in here before)
