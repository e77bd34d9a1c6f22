use Rattle.std.proofs.Common.{take}
use Rattle.group.specs.Row.{shows, Made}
use Rattle.group.proofs.row.Row.run.Given as goal

-- the calls so far are made
abbrev pub invariant-loop-made : goal.invariant-loop-made
invariant-loop-made g l =
    let world = shows g.M.Memory.holds g.S.DecisionService.board in
    Made g.M.Memory.named (world l.initial.self) (take l.made l.calls) l.initial.answers l.answers (world l.self)
