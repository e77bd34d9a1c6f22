-- What a slot lends.
use Rattle.std.proofs.Common.{◌≡◌, ℕ, true, List, is_some, Some, None, Option, refl, Bor}
use Rattle.memory.specs.Meaning.{behind}

-- a lent value is there
pub lent_some : (o : Option (Bor (List ℕ))) → is_some o ≡ true → (v : List ℕ) × (behind o ≡ Some v)
lent_some (Some x) e = (x.now, refl)
lent_some None e = absurd cc
