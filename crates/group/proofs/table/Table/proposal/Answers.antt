use Rattle.std.proofs.Common.{take, Err, sym, ap, ◌∙◌, subst}
use Rattle.std.proofs.lemmas.Result.{err_from_is_err_and}
use Rattle.codec.specs.Limits.{batch_tickets}
use Rattle.group.specs.Record.{waiting_in}
use Rattle.group.specs.declared.bed.BedRecord.{BedRecord}
use Rattle.group.specs.Proposal.{MakesProposal}
use Rattle.group.proofs.Tables.{record_is}
use Rattle.group.proofs.Proposals.{admits_idle, propose_refused, batch_has_form}
use Rattle.group.proofs.table.Table.proposal.Goals as goal

pub returns-in_err-index : goal.returns-in_err-index
returns-in_err-index c =
    let t = c.args.self.now in
    let p = err_from_is_err_and c.from_residual.result c.from_residual.ensures.1 in
    subst (MakesProposal t c.args.bed) (sym p.1)
    (λ kept board. propose_refused t kept board c.args.bed c.args.event p.0 c.requires (ap Err p.2 ∙ c.in_err-index.ensures))

pub unreachable-requires : goal.unreachable-requires
unreachable-requires c =
    let t = c.args.self.now in
    let i = c.in_ok-index.index in
    let on = admits_idle t c.args.bed c.args.event i c.in_ok-index.field-0-1 c.requires c.in_ok-index.ensures in
    batch_has_form t c.args.bed i on _ c.of_batch.result c.in_default.field-0 (c.first.ensures ∙ ap (λ (r : BedRecord). take batch_tickets (waiting_in r.waiting)) (record_is t i c.index-self-index.result on.inside)) c.of_batch.ensures c.in_default.is
