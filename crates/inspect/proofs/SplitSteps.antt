-- The first line of a text, and the lines after it.
use Rattle.std.proofs.Common.{◌≡◌, ℕ, suc, ◌+◌, ◌<◌, Bool, true, false, cond, eqb, ◌≢◌, Option, ◌⊎◌, List, [], ◌∷◌, length, take, drop, sym, refl, ap, ◌∙◌, subst, inl, inr, add-one, arith}
use Rattle.std.proofs.lemmas.Iterator.{index_from_first}
use Rattle.std.specs.List.{AllWithin, HoldsAt}
use Rattle.std.specs.Option.{unwrap_or, MatchOption}
use Rattle.std.proofs.lemmas.Bool.{cond-true, cond-false, cond_both, eq-eqb, ne_eqb, eqb-true, eqb-false}
use Rattle.inspect.specs.Split.{end_of, on_first, lines_of, MadeOf, none, last, more}

-- ---- the end of the first line

-- a line feed was looked for, and found there or not at all
pub end_found : (cs : List ℕ) (r : Option ℕ) → MatchOption r (AllWithin (λ x. x ≢ 10) cs 0 (length cs)) (λ i. (i < length cs) × HoldsAt (λ x. x ≡ 10) cs i × AllWithin (λ x. x ≢ 10) cs 0 i)
    → end_of cs ≡ unwrap_or r (length cs)
end_found =
    index_from_first end_of (λ x. x ≡ 10) (λ x. x ≢ 10) refl
    (λ c cs e. cond-true _ _ _ (eq-eqb _ _ e)) (λ c cs e. cond-false _ _ _ (ne_eqb _ _ e) ∙ sym (add-one _))

-- ---- the first line

-- the first line and the lines after it, where it ends at e
abbrev cut : ℕ → List ℕ → List (List ℕ)
cut e cs = take e cs ∷ lines_of (drop (suc e) cs)

first_by : (b : Bool) (c : ℕ) (cs : List ℕ) → lines_of cs ≡ cut (end_of cs) cs ⊎ (cs ≡ [])
    → cond b ([] ∷ lines_of cs) (on_first c (lines_of cs)) ≡ cut (cond b 0 (suc (end_of cs))) (c ∷ cs)
first_by true c cs h = refl
first_by false c cs (inl e) = ap (on_first c) e
first_by false c cs (inr e) = ap (λ (ds : List ℕ). on_first c (lines_of ds)) e ∙ sym (ap (λ (ds : List ℕ). cut (suc (end_of ds)) (c ∷ ds)) e)

first : (cs : List ℕ) → lines_of cs ≡ cut (end_of cs) cs ⊎ (cs ≡ [])
first [] = inr refl
first (c ∷ cs) = inl (first_by (eqb c 10) c cs (first cs))

pub first_line : (cs : List ℕ) → 0 < length cs → lines_of cs ≡ take (end_of cs) cs ∷ lines_of (drop (end_of cs + 1) cs)
first_line [] h = absurd (omega arith)
first_line (c ∷ cs) h = first_by (eqb c 10) c cs (first cs) ∙ ap (λ (n : ℕ). take (end_of (c ∷ cs)) (c ∷ cs) ∷ lines_of (drop n (c ∷ cs))) (sym (add-one (end_of (c ∷ cs))))

pub no_line : (cs : List ℕ) → length cs ≡ 0 → lines_of cs ≡ []
no_line [] h = refl
no_line (c ∷ cs) h = absurd (omega arith)

-- ---- all lines

on_first_lem : (c : ℕ) {ls : List (List ℕ)} {cs : List ℕ} → (c ≡ 10 → ⊥) → MadeOf ls cs → MadeOf (on_first c ls) (c ∷ cs)
on_first_lem c n none = last (n, tt) (omega arith)
on_first_lem c n (last w h) = last (n, w) (omega arith)
on_first_lem c n (more w t) = more (n, w) t

pub lines_of_lem : (cs : List ℕ) → MadeOf (lines_of cs) cs
lines_of_lem [] = none
lines_of_lem (c ∷ cs) =
    cond_both (eqb c 10) ([] ∷ lines_of cs) (on_first c (lines_of cs)) (λ ls. MadeOf ls (c ∷ cs))
    (λ e. subst (λ (x : ℕ). MadeOf ([] ∷ lines_of cs) (x ∷ cs)) (sym (eqb-true c 10 e)) (more tt (lines_of_lem cs)))
    (λ e. on_first_lem c (eqb-false c 10 e) (lines_of_lem cs))
