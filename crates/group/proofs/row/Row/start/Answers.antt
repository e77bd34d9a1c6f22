use Rattle.std.proofs.Common.{Err, sym, ap, ◌∙◌, subst}
use Rattle.std.proofs.lemmas.Result.{err_from_is_err_and}
use Rattle.codec.specs.Chain.{map_ok}
use Rattle.group.specs.Calls.{StartDoes}
use Rattle.group.specs.Table.{world_of}
use Rattle.group.specs.declared.call.Reply.TheVariants.{Done}
use Rattle.group.proofs.Starts.{start_refuses}
use Rattle.group.proofs.row.Row.start.Goals as goal

pub returns-in_err-index : goal.returns-in_err-index
returns-in_err-index g c =
    let t = c.args.self.now.table in
    let m = g.M.Memory.holds c.args.self.now.memory in
    let s = g.S.DecisionService.board c.args.self.now.service in
    let p = err_from_is_err_and c.from_residual.result c.from_residual.ensures.1 in
    subst (λ r. StartDoes (world_of t m s) c.args.bed (map_ok (λ _. Done) r) (world_of t m s)) (sym (p.1 ∙ ap Err p.2))
    (start_refuses (world_of t m s) c.args.bed _ _ (c.in_err-index.ensures m s))
