use Rattle.std.proofs.Common.{◌≡◌, ℕ, List, get_or, set, Ok, Err, sym, ap, ◌∙◌, subst}
use Rattle.std.proofs.lemmas.Result.{err_from_is_err_and}
use Rattle.codec.specs.Chain.{map_ok}
use Rattle.codec.specs.Batch.{IsBatch, ReadBatch, batch_of}
use Rattle.codec.specs.Tickets.{listed}
use Rattle.codec.specs.Value.{value_bytes}
use Rattle.codec.specs.declared.beds.Beds.{Beds}
use Rattle.group.specs.World.{off_bed}
use Rattle.group.specs.Calls.{CollectDoes, collected}
use Rattle.group.specs.Table.{world_of, beds_of}
use Rattle.group.specs.declared.call.Reply.TheVariants.{Done}
use Rattle.group.specs.declared.refusal.Refusal.TheVariants as rf
use Rattle.group.proofs.Options.{raised_err, raised_ok}
use Rattle.group.proofs.Collects.{collect_refuses, collect_undecided, collect_faulty, collect_done}
use Rattle.group.proofs.row.Row.collect.Goals as goal

pub returns-in_err-turn : goal.returns-in_err-turn
returns-in_err-turn g c =
    let t = c.args.self.now.table in
    let m = g.M.Memory.holds c.args.self.now.memory in
    let s = g.S.DecisionService.board c.args.self.now.service in
    let p = err_from_is_err_and c.from_residual.result c.from_residual.ensures.1 in
    subst (λ r. CollectDoes (world_of t m s) c.args.bed (map_ok (λ _. Done) r) (world_of t m s)) (sym (p.1 ∙ ap Err p.2))
    (collect_refuses (world_of t m s) c.args.bed _ _ (c.in_err-turn.ensures m s))

pub returns-in_err-decision : goal.returns-in_err-decision
returns-in_err-decision g c =
    let t = c.args.self.now.table in
    let m = g.M.Memory.holds c.args.self.now.memory in
    let s = g.S.DecisionService.board c.args.self.now.service in
    let s' = g.S.DecisionService.board c.poll.new.self in
    let p = err_from_is_err_and c.from_residual-in_err-decision.result c.from_residual-in_err-decision.ensures.1 in
    subst (λ r. CollectDoes (world_of t m s) c.args.bed (map_ok (λ _. Done) r) (world_of t m s')) (sym (p.1 ∙ ap Err p.2))
    (collect_undecided t m s c.args.bed c.in_ok-turn.turn c.in_ok-turn.ensures c.poll.result c.in_err-decision.field-0.0 s' c.poll.ensures c.in_err-decision.was)

pub returns-in_err-batch : goal.returns-in_err-batch
returns-in_err-batch g c =
    let t = c.args.self.now.table in
    let m = g.M.Memory.holds c.args.self.now.memory in
    let s = g.S.DecisionService.board c.args.self.now.service in
    let s' = g.S.DecisionService.board c.poll.new.self in
    let p = err_from_is_err_and c.from_residual-in_err-batch.result c.from_residual-in_err-batch.ensures.1 in
    let x = c.in_ok-decision.decision in
    let f = raised_err _ c.read_batch.result c.in_err-batch.field-0.0 (sym c.sited.ensures ∙ c.in_err-batch.was) in
    let bad : batch_of t.size.count (value_bytes x) ≡ Err f.0 =
    ap (λ v. batch_of t.size.count v) (sym c.as_slice.ensures) ∙ ap (λ (n : Beds). batch_of n.count c.as_slice.result.now) (sym c.size.ensures) ∙ sym c.read_batch.ensures.value ∙ ap (map_ok listed) f.1 in
    subst (λ r. CollectDoes (world_of t m s) c.args.bed (map_ok (λ _. Done) r) (world_of t m s')) (sym (p.1 ∙ ap Err (p.2 ∙ ap rf.Faulty f.2)))
    (collect_faulty t m s c.args.bed c.in_ok-turn.turn c.in_ok-turn.ensures c.poll.result x s' f.0 c.poll.ensures c.in_ok-decision.was bad)

pub returns : goal.returns
returns g c =
    let t = c.args.self.now.table in
    let m = g.M.Memory.holds c.args.self.now.memory in
    let s = g.S.DecisionService.board c.args.self.now.service in
    let s' = g.S.DecisionService.board c.poll.new.self in
    let x = c.in_ok-decision.decision in
    let l = c.in_ok-batch.batch in
    let read : c.read_batch.result ≡ Ok l = raised_ok _ c.read_batch.result l (sym c.sited.ensures ∙ c.in_ok-batch.was) in
    let batch : IsBatch t.size.count (value_bytes x) (listed l) =
    subst (λ (v : List ℕ). IsBatch t.size.count v (listed l)) c.as_slice.ensures
    (subst (λ (n : Beds). IsBatch n.count c.as_slice.result.now (listed l)) c.size.ensures (subst (ReadBatch c.size.result.count c.as_slice.result.now) read c.read_batch.ensures.sound)) in
    collect_done t m s c.args.bed c.in_ok-turn.turn c.in_ok-turn.ensures c.poll.result x s' (listed l) c.collect.new.self c.poll.ensures c.in_ok-decision.was batch
    (c.collect.ensures ∙ ap (λ ts. set (beds_of t) c.in_ok-turn.turn.index (collected (get_or (beds_of t) c.in_ok-turn.turn.index off_bed) ts)) c.as_slice-2.ensures.items)
