-- Histories: the calls made on one group, with what stood before and after each; assumes what the calls' statements say.
use Rattle.std.specs.Prelude.{◌≡◌, ℕ, ◌≤◌, List, [], ◌∷◌, None, Err, ◌≢◌}
use Rattle.std.specs.List.{ContainsAt as Has}
use Rattle.codec.specs.Limits.{max_beds}
use Rattle.decision.specs.Meaning.{New as NewBoard}
use Rattle.group.specs.World.{World, bed, size, off_bed}
use Rattle.group.specs.Outcome.{Answer}
use Rattle.group.specs.Calls.{Does}
use Rattle.group.specs.declared.call.Call.{Call}
use Rattle.group.specs.declared.refusal.Refusal.{Refusal}

-- one call that was made
pub record Event : Type 0 where
  pub before : World
  pub call : Call
  pub answer : Answer
  pub after : World

-- the oldest call first
abbrev pub History : Type 0
History = List Event

-- a call that gets no refusal is accepted
abbrev pub Accepted : Answer → Type 0
Accepted a = (r : Refusal) → a ≢ Err r

-- what stands after the calls
abbrev pub after : World → History → World
after w [] = w
after w (e ∷ h) = after e.after h

-- a new group of 1 to 8 beds: every bed off, nothing kept, proposed or decided
pub record New (w : World) : Type 0 where
  pub some : 1 ≤ size w
  pub most : size w ≤ max_beds
  pub off : (b : ℕ) → bed w b ≡ off_bed
  pub empty : (b slot : ℕ) → w.kept b slot ≡ None
  pub board : NewBoard (size w) w.board

-- a history that a group lived, over a memory that names so many cells: from one world to another, each call doing what it is to do
abbrev pub Lived : ℕ → World → History → World → Type 0
Lived named w [] w' = w' ≡ w
Lived named w (e ∷ h) w' = (e.before ≡ w) × Does named e.before e.call e.answer e.after × Lived named e.after h w'

-- some call of the history is such
abbrev pub Earlier : History → (Event → Type 0) → Type 0
Earlier h P = (e : Event) × Has h e × P e
