use Rattle.std.proofs.Common.{Ok, sym, ap, ◌∙◌}
use Rattle.group.specs.Questions.{redeem_answer, redeemed}
use Rattle.group.specs.Row.{shows}
use Rattle.group.proofs.row.Row.redeem.Goals as goal

pub returns-in-Err : goal.returns-in-Err
returns-in-Err g c =
    let kept = g.M.Memory.holds c.args.self.now.memory in
    let board = g.S.DecisionService.board c.args.self.now.service in
    ap (λ o. redeemed o c.args.receipt) (sym c.in-Err.is ∙ c.standing.ensures kept board ∙ ap (redeem_answer (shows g.M.Memory.holds g.S.DecisionService.board c.args.self.now)) c.ticket.ensures)

pub returns-in-Queued : goal.returns-in-Queued
returns-in-Queued g c =
    let kept = g.M.Memory.holds c.args.self.now.memory in
    let board = g.S.DecisionService.board c.args.self.now.service in
    ap (λ o. redeemed o c.args.receipt) (sym (c.in-Ok.is ∙ ap Ok c.in-Queued.is) ∙ c.standing.ensures kept board ∙ ap (redeem_answer (shows g.M.Memory.holds g.S.DecisionService.board c.args.self.now)) c.ticket.ensures)

pub returns-in-Waiting : goal.returns-in-Waiting
returns-in-Waiting g c =
    let kept = g.M.Memory.holds c.args.self.now.memory in
    let board = g.S.DecisionService.board c.args.self.now.service in
    ap (λ o. redeemed o c.args.receipt) (sym (c.in-Ok.is ∙ ap Ok c.in-Waiting.is) ∙ c.standing.ensures kept board ∙ ap (redeem_answer (shows g.M.Memory.holds g.S.DecisionService.board c.args.self.now)) c.ticket.ensures)

pub returns-in-Unknown : goal.returns-in-Unknown
returns-in-Unknown g c =
    let kept = g.M.Memory.holds c.args.self.now.memory in
    let board = g.S.DecisionService.board c.args.self.now.service in
    ap (λ o. redeemed o c.args.receipt) (sym (c.in-Ok.is ∙ ap Ok c.in-Unknown.is) ∙ c.standing.ensures kept board ∙ ap (redeem_answer (shows g.M.Memory.holds g.S.DecisionService.board c.args.self.now)) c.ticket.ensures)
