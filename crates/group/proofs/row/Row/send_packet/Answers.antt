use Rattle.std.proofs.Common.{Err, sym, ap, ◌∙◌, subst}
use Rattle.std.proofs.lemmas.Result.{err_from_is_err_and}
use Rattle.codec.specs.Chain.{map_ok}
use Rattle.group.specs.Calls.{SendDoes}
use Rattle.group.specs.Table.{world_of}
use Rattle.group.specs.declared.call.Reply.TheVariants.{Sent}
use Rattle.group.proofs.Sends.{send_refuses}
use Rattle.group.proofs.row.Row.send_packet.Goals as goal

pub returns-in_err-len : goal.returns-in_err-len
returns-in_err-len g c =
    let kept = g.M.Memory.holds c.args.self.now.memory in
    let board = g.S.DecisionService.board c.args.self.now.service in
    let w = world_of c.args.self.now.table kept board in
    let p = err_from_is_err_and c.from_residual.result c.from_residual.ensures.1 in
    subst (λ o. SendDoes w c.args.bed c.args.room (map_ok Sent o) w) (sym (p.1 ∙ ap Err p.2))
    (send_refuses c.args.self.now.table kept board c.args.bed c.args.room c.in_err-len.field-0.0 c.in_err-len.ensures.does)
