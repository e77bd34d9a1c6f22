-- The lines of a text; assumes nothing.
use Rattle.std.specs.Prelude.{ℕ, suc, ◌<◌, cond, List, [], ◌∷◌, ◌++◌, length, ◌==◌, ◌≢◌}

-- the offset of the first line feed, or the length where there is none
abbrev pub end_of : List ℕ → ℕ
end_of [] = 0
end_of (c ∷ cs) = cond (c == 10) 0 (suc (end_of cs))

-- a character before the first of the lines
abbrev pub on_first : ℕ → List (List ℕ) → List (List ℕ)
on_first c [] = (c ∷ []) ∷ []
on_first c (l ∷ ls) = (c ∷ l) ∷ ls

-- each line without its line feed; after the last line feed there is a line only if there is a character
abbrev pub lines_of : List ℕ → List (List ℕ)
lines_of [] = []
lines_of (c ∷ cs) = cond (c == 10) ([] ∷ lines_of cs) (on_first c (lines_of cs))

-- no character is a line feed
abbrev pub NoFeed : List ℕ → Type 0
NoFeed [] = Unit {0}
NoFeed (c ∷ cs) = (c ≢ 10) × NoFeed cs

-- lines make up a text: each ends at a line feed, but that the last may lack it where it is not empty
pub data MadeOf : List (List ℕ) → List ℕ → Type 0 where
  none : MadeOf [] []
  last : {l : List ℕ} → NoFeed l → 0 < length l → MadeOf (l ∷ []) l
  more : {l cs : List ℕ} {ls : List (List ℕ)} → NoFeed l → MadeOf ls cs → MadeOf (l ∷ ls) (l ++ 10 ∷ cs)
