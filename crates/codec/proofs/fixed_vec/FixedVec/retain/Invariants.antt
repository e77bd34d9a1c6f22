use Rattle.std.proofs.Common.{◌≡◌, ◌≤◌, Bool, List, length}
use Rattle.std.specs.List.{items_where_true}
use Rattle.std.specs.List.Retain.{ReturnsInTurn}
use Rattle.std.specs.Fn.{CalledAt}
use Rattle.codec.proofs.fixed_vec.FixedVec.retain.Given as goal

-- the test gave an answer at each item so far, and those with `true` are kept
abbrev pub invariant-loop-item : goal.invariant-loop-item
invariant-loop-item g l = goal.F-IsAlwaysCallable g l.test × (length l.self.items ≤ l.item-index)
    × ((bs : List Bool) × (length bs ≡ l.item-index) × ReturnsInTurn (CalledAt g.F.FnMut) l.initial.test bs l.item-items l.test × (l.self.items ≡ items_where_true bs l.item-items))
