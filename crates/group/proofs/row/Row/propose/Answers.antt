use Rattle.std.proofs.Common.{ℕ, List, Err, sym, ap, ◌∙◌, subst}
use Rattle.std.proofs.lemmas.Result.{err_from_is_err_and}
use Rattle.codec.specs.Chain.{map_ok}
use Rattle.memory.specs.Meaning.{Keeps}
use Rattle.decision.specs.Meaning.{Puts}
use Rattle.group.specs.Calls.{ProposeDoes}
use Rattle.group.specs.Table.{world_of}
use Rattle.group.specs.declared.call.Reply.TheVariants.{Done}
use Rattle.group.proofs.Proposes.{propose_refuses, propose_differs, propose_done}
use Rattle.group.proofs.row.Row.propose.Goals as goal

pub returns-in_err-proposal : goal.returns-in_err-proposal
returns-in_err-proposal g c =
    let t = c.args.self.now.table in
    let m = g.M.Memory.holds c.args.self.now.memory in
    let s = g.S.DecisionService.board c.args.self.now.service in
    let p = err_from_is_err_and c.from_residual.result c.from_residual.ensures.1 in
    subst (λ r. ProposeDoes (world_of t m s) c.args.bed (map_ok (λ _. Done) r) (world_of t m s)) (sym (p.1 ∙ ap Err p.2))
    (propose_refuses (world_of t m s) c.args.bed _ _ (c.in_err-proposal.ensures m s))

pub returns-in_err-keep : goal.returns-in_err-keep
returns-in_err-keep g c =
    let t = c.args.self.now.table in
    let m = g.M.Memory.holds c.args.self.now.memory in
    let m' = g.M.Memory.holds c.keep.new.self in
    let s = g.S.DecisionService.board c.args.self.now.service in
    let j = c.in_ok-proposal.proposal in
    let p = err_from_is_err_and c.from_residual-in_err-keep.result c.from_residual-in_err-keep.ensures.1 in
    subst (λ r. ProposeDoes (world_of t m s) c.args.bed (map_ok (λ _. Done) r) (world_of t m' s)) (sym (p.1 ∙ ap Err p.2))
    (propose_differs t m s c.args.bed j c.in_ok-proposal.ensures c.keep.result c.in_err-keep.field-0.0 m'
    (subst (λ (v : List ℕ). Keeps m c.args.bed j.turn.round v c.keep.result m') c.as_slice-bytes.ensures c.keep.ensures) c.in_err-keep.was)

pub returns : goal.returns
returns g c =
    let t = c.args.self.now.table in
    let m = g.M.Memory.holds c.args.self.now.memory in
    let m' = g.M.Memory.holds c.keep.new.self in
    let s = g.S.DecisionService.board c.args.self.now.service in
    let s' = g.S.DecisionService.board c.put.new.self in
    let j = c.in_ok-proposal.proposal in
    propose_done t m s c.args.bed j c.in_ok-proposal.ensures c.keep.result m' c.put.result s' c.wait.new.self
    (subst (λ (v : List ℕ). Keeps m c.args.bed j.turn.round v c.keep.result m') c.as_slice-bytes.ensures c.keep.ensures) c.in_ok-keep.was
    (subst (λ (v : List ℕ). Puts s c.args.bed j.turn.round v c.put.result s') c.as_slice-bytes.ensures c.put.ensures) c.wait.ensures.beds
