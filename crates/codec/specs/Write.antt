-- What a write leaves in a buffer; assumes nothing of what is written.
use Rattle.std.specs.Prelude.{⊤, ◌≡◌, ℕ, ◌<◌, ◌≤◌, List, ◌++◌, length, drop, Some, None, Ok, Err, Option, Result}
use Rattle.codec.specs.FixedVec.{FixedVec}
use Rattle.codec.specs.declared.refusal.WriteRefusal.{WriteRefusal}
use Rattle.codec.specs.declared.refusal.WriteRefusal.TheVariants.{NoForm, NoRoom}

-- A write at the beginning of a buffer: where there is a form and it fits, its bytes and their number, and past them all
-- as it was; else a refusal, and the buffer as it was.
abbrev pub Wrote : (HasForm : Type 0) (bytes was : List ℕ) (r : Result ℕ WriteRefusal) (now : List ℕ) → Type 0
Wrote HasForm bytes was (Ok len) now = HasForm × (len ≡ length bytes) × (len ≤ length was) × (now ≡ bytes ++ drop len was)
Wrote HasForm bytes was (Err NoForm) now = (HasForm → ⊥) × (now ≡ was)
Wrote HasForm bytes was (Err NoRoom) now = HasForm × (length was < length bytes) × (now ≡ was)

-- what is to be written: these bytes, or nothing where there is no form
abbrev pub HasBytes : (HasForm : Type 0) (bytes : List ℕ) (form : Option (FixedVec ℕ)) → Type 0
HasBytes HasForm bytes None = HasForm → ⊥
HasBytes HasForm bytes (Some form) = HasForm × (form.items ≡ bytes)

-- a write of what may have no form
abbrev pub Written : (form : Option (FixedVec ℕ)) (was : List ℕ) (r : Result ℕ WriteRefusal) (now : List ℕ) → Type 0
Written None was r now = (r ≡ Err NoForm) × (now ≡ was)
Written (Some form) was r now = Wrote ⊤ form.items was r now
