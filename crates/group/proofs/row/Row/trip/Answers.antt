use Rattle.std.proofs.Common.{Err, sym, ap, ◌∙◌, subst}
use Rattle.std.proofs.lemmas.Result.{err_from_is_err_and}
use Rattle.codec.specs.Chain.{map_ok}
use Rattle.group.specs.Calls.{TripDoes}
use Rattle.group.specs.Table.{world_of}
use Rattle.group.specs.declared.call.Reply.TheVariants.{Done}
use Rattle.group.proofs.Proposes.{trip_refuses}
use Rattle.group.proofs.row.Row.trip.Goals as goal

pub returns-in_err-proposal : goal.returns-in_err-proposal
returns-in_err-proposal g c =
    let t = c.args.self.now.table in
    let m = g.M.Memory.holds c.args.self.now.memory in
    let s = g.S.DecisionService.board c.args.self.now.service in
    let p = err_from_is_err_and c.from_residual.result c.from_residual.ensures.1 in
    subst (λ r. TripDoes g.M.Memory.named (world_of t m s) c.args.bed c.args.at (map_ok (λ _. Done) r) (world_of t m s)) (sym (p.1 ∙ ap Err p.2))
    (trip_refuses g.M.Memory.named (world_of t m s) c.args.bed c.args.at _ _ (c.in_err-proposal.ensures m s))
