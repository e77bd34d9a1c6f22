-- The world that a group shows, and how it lives on; assumes what its memory and its service mean.
use Rattle.std.specs.Prelude.{◌≡◌, ℕ, ◌<◌, ◌≤◌, ◌⊎◌, List, ◌++◌, map, length, take, drop, replicate, None, Ok, Err, Result}
use Rattle.memory.specs.Meaning.{Slots}
use Rattle.decision.specs.Meaning.{Board}
use Rattle.group.specs.World.{World, off_bed}
use Rattle.group.specs.Outcome.{Answer}
use Rattle.group.specs.History.{Event, History, New, Lived}
use Rattle.group.specs.Law.{Law, Besides}
use Rattle.group.specs.Table.{world_of}
use Rattle.group.specs.declared.call.Call.{Call}
use Rattle.group.specs.declared.row.Row.{Row}
use Rattle.group.specs.declared.refusal.Refusal.{Refusal}
use Rattle.group.specs.declared.refusal.Refusal.TheVariants as rf

abbrev pub shows : {M S : Type 0} → (M → Slots) → (S → Board) → Row M S → World
shows holds board g = world_of g.table (holds g.memory) (board g.service)

-- a memory that holds nothing
abbrev pub Empty : Slots → Type 0
Empty holds = (b slot : ℕ) → holds b slot ≡ None

-- the world of a group that was just made: as many beds as the service has, all of them off
abbrev pub made : Slots → Board → World
made kept board = record { beds = replicate board.beds off_bed; kept = kept; board = board }

-- the call and the answer of an event, and all of a history's
abbrev pub calls_of : History → List Call
calls_of h = map (λ (e : Event). e.call) h

abbrev pub answers_of : History → List Answer
answers_of h = map (λ (e : Event). e.answer) h

-- for every history that led from a new group to here, the longer one is lived, and the law holds of it, whole
abbrev pub LivesOn : ℕ → World → History → World → Type 0
LivesOn named w made w' =
    (w₀ : World) (past : History) → New w₀ → Lived named w₀ past w → Lived named w₀ (past ++ made) w' × Law w₀ (past ++ made) × Besides w₀ (past ++ made)

-- calls that were made one after another, with their answers in the first places of a buffer and the rest of it as it was
pub record Made (named : ℕ) (w : World) (calls : List Call) (was answers : List Answer) (w' : World) : Type 0 where
  pub history : History
  pub each : calls_of history ≡ calls
  pub first : take (length calls) answers ≡ answers_of history
  pub rest : drop (length calls) answers ≡ drop (length calls) was
  pub lived : Lived named w history w'

-- what making a list of calls comes to: no room for the answers, and nothing is done, or all calls are made, and the law holds of
-- every history that has them at its end
abbrev pub Runs : ℕ → World → List Call → List Answer → Result (Unit {0}) Refusal → List Answer → World → Type 0
Runs named w calls was r answers w' =
    ((length was < length calls) × (r ≡ Err rf.NoRoom) × (answers ≡ was) × (w' ≡ w))
    ⊎ ((length calls ≤ length was) × (r ≡ Ok tt) × ((m : Made named w calls was answers w') × LivesOn named w m.history w'))
