-- Results: what follows from how one was made.
use Rattle.std.proofs.Common.{◌≡◌, ℕ, Bool, true, false, cond, Ok, Err, Result, refl}
use Rattle.codec.specs.Chain.{and_then, raise}

pub ok_same : {A F : Type 0} (x y : A) → ◌≡◌ {A = Result A F} (Ok x) (Ok y) → x ≡ y
ok_same x y e = cc

pub never : {A F : Type 0} (f : F) (x : A) → ◌≡◌ {A = Result A F} (Err f) (Ok x) → ⊥
never f x e = cc

-- what came out at the end came through the middle
pub then_inv : {A B F : Type 0} (r : Result (A × ℕ) F) (k : A → ℕ → Result B F) (b : B) → and_then r k ≡ Ok b → (a : A) × (n : ℕ) × (r ≡ Ok (a, n)) × (k a n ≡ Ok b)
then_inv (Ok p) k b e = (p.0, p.1, refl, e)
then_inv (Err f) k b e = absurd (never f b e)

pub raise_inv : {A E F : Type 0} (f : E → F) (r : Result A E) (x : A) → raise f r ≡ Ok x → r ≡ Ok x
raise_inv f (Ok y) x e = cc
raise_inv f (Err d) x e = cc

-- a test that could refuse, and did not
pub cond_ok : {A F : Type 0} (b : Bool) (r : Result A F) (f : F) (x : A) → cond b r (Err f) ≡ Ok x → (b ≡ true) × (r ≡ Ok x)
cond_ok true r f x e = (refl, e)
cond_ok false r f x e = absurd (never f x e)

pub cond_err : {A F : Type 0} (b : Bool) (f : F) (r : Result A F) (x : A) → cond b (Err f) r ≡ Ok x → (b ≡ false) × (r ≡ Ok x)
cond_err true f r x e = absurd (never f x e)
cond_err false f r x e = (refl, e)
