use Rattle.group.proofs.row.Row.state.Goals as goal

pub returns : goal.returns
returns g c = c.state.ensures (g.M.Memory.holds c.args.self.now.memory) (g.S.DecisionService.board c.args.self.now.service)
