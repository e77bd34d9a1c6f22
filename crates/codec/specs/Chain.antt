-- How one reading follows another; assumes nothing of what is read.
use Rattle.std.specs.Prelude.{ℕ, Ok, Err, Result}

-- goes on with what was read and the place after it; a fault ends all
abbrev pub and_then : {A B F : Type 0} → Result (A × ℕ) F → (A → ℕ → Result B F) → Result B F
and_then (Ok p) k = k p.0 p.1
and_then (Err f) k = Err f

-- a fault of a lower layer as one of a higher
abbrev pub raise : {A E F : Type 0} → (E → F) → Result A E → Result A F
raise f (Ok x) = Ok x
raise f (Err e) = Err (f e)

-- what was read, as another value
abbrev pub map_ok : {A B F : Type 0} → (A → B) → Result A F → Result B F
map_ok g (Ok x) = Ok (g x)
map_ok g (Err e) = Err e
