use Rattle.group.proofs.row.Row.ticket.Goals as goal

pub returns : goal.returns
returns g c = c.ticket.ensures (g.M.Memory.holds c.args.self.now.memory) (g.S.DecisionService.board c.args.self.now.service)
