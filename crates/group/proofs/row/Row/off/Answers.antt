use Rattle.group.proofs.row.Row.off.Goals as goal

pub returns : goal.returns
returns g c = c.off.ensures (g.M.Memory.holds c.args.self.now.memory) (g.S.DecisionService.board c.args.self.now.service)
