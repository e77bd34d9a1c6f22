use Rattle.std.proofs.Common.{◌≡◌, ◌-◌}
use Rattle.decision.specs.Limits.{round_count}
use Rattle.group.specs.Start.{StartSound, From}
use Rattle.group.proofs.row.Row.start.Given as goal

-- whatever the replay comes to from here, it comes to from the beginning
abbrev pub invariant-loop : goal.invariant-loop
invariant-loop g l =
    StartSound l.own
    × From l.initial.self.table.size.count (g.M.Memory.holds l.initial.self.memory l.bed) l.bed l.initial.own (g.S.DecisionService.board l.initial.self.service) l.own (g.S.DecisionService.board l.self.service)
    × (l.self.memory ≡ l.initial.self.memory) × (l.self.table ≡ l.initial.self.table)

abbrev pub decreases-loop : goal.decreases-loop
decreases-loop g l = round_count - l.own.round
