use Rattle.std.proofs.Common.{Ok, Err, sym, ap, ◌∙◌, subst}
use Rattle.std.proofs.lemmas.Result.{err_from_is_err_and}
use Rattle.codec.specs.Chain.{map_ok}
use Rattle.group.specs.Calls.{SubmitDoes}
use Rattle.group.specs.Table.{world_of}
use Rattle.group.specs.declared.call.Reply.TheVariants.{Submitted}
use Rattle.group.specs.declared.receipt.Receipt.{Receipt}
use Rattle.group.proofs.row.Row.submit.Goals as goal

pub returns-in_err-ticket : goal.returns-in_err-ticket
returns-in_err-ticket g c =
    let kept = g.M.Memory.holds c.args.self.now.memory in
    let board = g.S.DecisionService.board c.args.self.now.service in
    let p = err_from_is_err_and c.from_residual.result c.from_residual.ensures.1 in
    subst (λ o. SubmitDoes (world_of c.args.self.now.table kept board) c.args.bed c.args.number c.args.paths c.args.sheet o (world_of c.submit.new.self kept board))
    (ap (map_ok Submitted) c.in_err-ticket.was ∙ sym (ap (map_ok (λ (x : Receipt). Submitted x.ticket)) (p.1 ∙ ap Err p.2))) (c.submit.ensures kept board)

pub returns : goal.returns
returns g c =
    let kept = g.M.Memory.holds c.args.self.now.memory in
    let board = g.S.DecisionService.board c.args.self.now.service in
    subst (λ o. SubmitDoes (world_of c.args.self.now.table kept board) c.args.bed c.args.number c.args.paths c.args.sheet o (world_of c.submit.new.self kept board))
    (ap (map_ok Submitted) c.in_ok-ticket.was ∙ ap (λ t. Ok (Submitted t)) (sym c.new.ensures.ticket)) (c.submit.ensures kept board)
