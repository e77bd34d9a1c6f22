-- The lines as the document has them, letter by letter, and what it is to read just these; assumes nothing.
use Rattle.std.specs.Prelude.{◌≡◌, ℕ, ◌+◌, ◌*◌, ◌<◌, ◌≤◌, ◌⊎◌, List, [], ◌∷◌, Ok, Err, vec_items, Result}
use Rattle.inspect.specs.declared.fault.LineError.{LineError}
use Rattle.inspect.specs.declared.fault.LineError.TheVariants as le
use Rattle.inspect.specs.declared.line.Form.{Form}
use Rattle.inspect.specs.declared.line.Form.TheVariants as fo
use Rattle.inspect.specs.declared.line.Request.{Request}

-- a character is the hexadecimal digit of a value: 48 is the code of 0, 65 that of A, 97 that of a
abbrev pub Digit : ℕ → ℕ → Type 0
Digit c v = ((v < 10) × (c ≡ 48 + v)) ⊎ ((10 ≤ v) × (v < 16) × ((10 + c ≡ 65 + v) ⊎ (10 + c ≡ 97 + v)))

-- a text stands for bytes: a pair of digits for each, and spaces before, between and after the pairs
pub data Pairs : List ℕ → List ℕ → Type 0 where
  none : Pairs [] []
  space : {cs bs : List ℕ} → Pairs cs bs → Pairs (32 ∷ cs) bs
  pair : {c d high low : ℕ} {cs bs : List ℕ} → Digit c high → Digit d low → Pairs cs bs → Pairs (c ∷ d ∷ cs) ((high * 16 + low) ∷ bs)

-- b or p
abbrev pub letter : Form → ℕ
letter fo.Batch = 98
letter fo.Packet = 112

-- a line asks for bytes of a form to be read for so many beds: the letter, a space, the digit, and then nothing, or a space and the text
pub data Asks : Form → ℕ → List ℕ → List ℕ → Type 0 where
  bare : {form : Form} {n : ℕ} → 1 ≤ n → n ≤ 8 → Asks form n [] (letter form ∷ 32 ∷ (48 + n) ∷ [])
  full : {form : Form} {n : ℕ} {cs bs : List ℕ} → 1 ≤ n → n ≤ 8 → Pairs cs bs → Asks form n bs (letter form ∷ 32 ∷ (48 + n) ∷ 32 ∷ cs)

-- what is read is what the line asks for, and a fault is found only in a line that asks for nothing
abbrev pub ByGrammar : Result Request LineError → List ℕ → Type 0
ByGrammar (Ok q) cs = Asks q.form q.beds.count (vec_items q.bytes) cs
ByGrammar (Err (le.Fault f)) cs = (form : Form) (n : ℕ) (bs : List ℕ) → Asks form n bs cs → ⊥
ByGrammar (Err (le.Memory e)) cs = Unit {0}
