-- An optional value: there or not, and the same if it is read twice.
use Rattle.std.proofs.Common.{◌≡◌, ℕ, true, ◌⊎◌, is_some, Some, None, Ok, Err, Option, Result, refl, ap, inl, inr, arith}
use Rattle.std.proofs.lemmas.Bool.{both_ways}
use Rattle.codec.specs.Chain.{raise}

pub is_some_lem : {A : Type 0} (o : Option A) (v : A) → o ≡ Some v → is_some o ≡ true
is_some_lem o v e = ap is_some e

pub some_of : {A : Type 0} (o : Option A) → is_some o ≡ true → (v : A) × (o ≡ Some v)
some_of None e = absurd (both_ways _ refl e)
some_of (Some v) e = (v, refl)

pub not_none : {A : Type 0} (o : Option A) (v : A) → o ≡ Some v → o ≡ None → ⊥
not_none o v e f = let z : ◌≡◌ {A = ℕ} 0 1 = cc in omega arith

pub same_some : {A : Type 0} (o : Option A) (u v : A) → o ≡ Some u → o ≡ Some v → u ≡ v
same_some o u v e f = cc

pub cases_option : {A : Type 0} (o : Option A) → (o ≡ None) ⊎ ((v : A) × (o ≡ Some v))
cases_option None = inl refl
cases_option (Some v) = inr (v, refl)

-- what cannot be there is not
pub none_from : {A : Type 0} (o : Option A) → ((v : A) → o ≡ Some v → ⊥) → o ≡ None
none_from None h = refl
none_from (Some v) h = absurd (h v refl)

-- a result whose fault was raised
pub raised_err : {A E F : Type 0} (f : E → F) (r : Result A E) (e : F) → raise f r ≡ Err e → (x : E) × (r ≡ Err x) × (e ≡ f x)
raised_err f (Ok a) e h = let z : ◌≡◌ {A = ℕ} 0 1 = cc in absurd (omega arith)
raised_err f (Err x) e h = (x, refl, cc)

pub raised_ok : {A E F : Type 0} (f : E → F) (r : Result A E) (a : A) → raise f r ≡ Ok a → r ≡ Ok a
raised_ok f (Ok b) a h = cc
raised_ok f (Err x) a h = let z : ◌≡◌ {A = ℕ} 0 1 = cc in absurd (omega arith)

-- a result is one or the other
pub ok_err : {A E : Type 0} (r : Result A E) (x : A) (e : E) → r ≡ Ok x → r ≡ Err e → ⊥
ok_err r x e p q = let z : ◌≡◌ {A = ℕ} 0 1 = cc in omega arith

pub same_err : {A E : Type 0} (r : Result A E) (e f : E) → r ≡ Err e → r ≡ Err f → e ≡ f
same_err r e f p q = cc

pub same_ok : {A E : Type 0} (r : Result A E) (x y : A) → r ≡ Ok x → r ≡ Ok y → x ≡ y
same_ok r x y p q = cc
