-- One item more in a list, and one answer more of a test that goes through it.
use Rattle.std.proofs.Common.{◌≡◌, ◌<◌, Bool, true, false, List, [], ◌∷◌, ◌++◌, length, get_or, refl, sym, ap, subst, arith}
use Rattle.std.specs.List.{items_where_true}
use Rattle.std.specs.List.Retain.{ReturnsInTurn}

module _ {X : Type 0} where
  pub kept_more : (bs : List Bool) (xs : List X) (x : X) → length bs < length xs → x ≡ get_or xs (length bs) x → items_where_true (bs ++ true ∷ []) xs ≡ items_where_true bs xs ++ x ∷ []
  kept_more bs [] x h e = absurd (omega arith)
  kept_more [] (y ∷ xs) x h e = ap (λ z. z ∷ []) (sym e)
  kept_more (true ∷ bs) (y ∷ xs) x h e = ap (λ l. y ∷ l) (kept_more bs xs x (omega arith) e)
  kept_more (false ∷ bs) (y ∷ xs) x h e = kept_more bs xs x (omega arith) e

  pub none_more : (bs : List Bool) (xs : List X) → items_where_true (bs ++ false ∷ []) xs ≡ items_where_true bs xs
  none_more [] [] = refl
  none_more [] (y ∷ xs) = refl
  none_more (b ∷ bs) [] = refl
  none_more (true ∷ bs) (y ∷ xs) = ap (λ l. y ∷ l) (none_more bs xs)
  none_more (false ∷ bs) (y ∷ xs) = none_more bs xs

module _ {X P : Type 0} (R : P → X → Bool → P → Type 0) where
  pub answers_more : (p q u : P) (bs : List Bool) (xs : List X) (x : X) (b : Bool) → length bs < length xs → x ≡ get_or xs (length bs) x → ReturnsInTurn R p bs xs q → R q x b u
      → ReturnsInTurn R p (bs ++ b ∷ []) xs u
  answers_more p q u bs [] x b h e r s = absurd (omega arith)
  answers_more p q u [] (y ∷ xs) x b h e r s = (u, subst (λ j. R j y b u) (sym r) (subst (λ z. R q z b u) e s), refl)
  answers_more p q u (a ∷ bs) (y ∷ xs) x b h e r s = (r.0, r.1, answers_more r.0 q u bs xs x b (omega arith) e r.2 s)
