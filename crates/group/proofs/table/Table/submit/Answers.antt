use Rattle.std.proofs.Common.{◌≡◌, Ok, Err, sym, refl, ap, ◌∙◌, subst, inl}
use Rattle.std.proofs.lemmas.List.{length-set}
use Rattle.std.proofs.lemmas.Result.{err_from_is_err_and}
use Rattle.codec.specs.Chain.{map_ok}
use Rattle.group.specs.Calls.{ticket_of}
use Rattle.group.specs.Record.{TakesIn}
use Rattle.group.specs.Table.{record_of}
use Rattle.group.specs.declared.bed.Event.TheVariants as ev
use Rattle.group.specs.declared.call.Reply.TheVariants.{Submitted}
use Rattle.group.proofs.Tables.{record_is, table_still_sound, admits_running}
use Rattle.group.proofs.Submits.{ranged_for, take_sound, submit_takes, made_ranged}
use Rattle.group.proofs.table.Table.submit.Goals as goal

pub invariant_of-self : goal.invariant_of-self
invariant_of-self c =
    let t = c.args.self.now in
    let i = c.in_ok-index.index in
    let job = ticket_of c.args.bed c.args.number c.args.paths c.args.sheet in
    let on = admits_running t c.args.bed ev.Use i c.in_ok-index.field-0-1 (inl refl) c.in_ok-index.ensures in
    let made = made_ranged job c.in_ok-ticket.ticket c.new_ticket.result c.new_ticket.ensures c.in_ok-ticket.was in
    let takes = subst (λ u. TakesIn u (record_of t i) c.take_in.result c.take_in.new.self) made.1 (rw (record_is t i c.index-self-index.result on.inside) at c.take_in.ensures.takes) in record {
      room = length-set t.beds i c.take_in.new.self ∙ t.room;
      sound = table_still_sound t i c.take_in.new.self on.inside (take_sound t.size.count job (record_of t i) c.take_in.new.self c.take_in.result (ranged_for t.size.count job on.low made.0) takes);
    }

pub returns-in_err-take_in : goal.returns-in_err-take_in
returns-in_err-take_in c kept board =
    let t = c.args.self.now in
    let i = c.in_ok-index.index in
    let job = ticket_of c.args.bed c.args.number c.args.paths c.args.sheet in
    let on = admits_running t c.args.bed ev.Use i c.in_ok-index.field-0-1 (inl refl) c.in_ok-index.ensures in
    let made = made_ranged job c.in_ok-ticket.ticket c.new_ticket.result c.new_ticket.ensures c.in_ok-ticket.was in
    let takes = subst (λ u. TakesIn u (record_of t i) c.take_in.result c.take_in.new.self) made.1 (rw (record_is t i c.index-self-index.result on.inside) at c.take_in.ensures.takes) in
    let p = err_from_is_err_and c.from_residual-in_err-take_in.result c.from_residual-in_err-take_in.ensures.1 in
    let same : map_ok (λ _. Submitted job) c.take_in.result ≡ map_ok Submitted c.from_residual-in_err-take_in.result =
    ap (map_ok (λ _. Submitted job)) c.in_err-take_in.was ∙ ap Err (sym p.2) ∙ sym (ap (map_ok Submitted) p.1) in
    submit_takes t kept board c.args.bed c.args.number c.args.paths c.args.sheet i on made.0 c.take_in.result c.take_in.new.self takes _ same

pub returns : goal.returns
returns c kept board =
    let t = c.args.self.now in
    let i = c.in_ok-index.index in
    let job = ticket_of c.args.bed c.args.number c.args.paths c.args.sheet in
    let on = admits_running t c.args.bed ev.Use i c.in_ok-index.field-0-1 (inl refl) c.in_ok-index.ensures in
    let made = made_ranged job c.in_ok-ticket.ticket c.new_ticket.result c.new_ticket.ensures c.in_ok-ticket.was in
    let takes = subst (λ u. TakesIn u (record_of t i) c.take_in.result c.take_in.new.self) made.1 (rw (record_is t i c.index-self-index.result on.inside) at c.take_in.ensures.takes) in
    let same : map_ok (λ _. Submitted job) c.take_in.result ≡ Ok (Submitted c.in_ok-ticket.ticket) =
    ap (map_ok (λ _. Submitted job)) c.in_ok-take_in.was ∙ ap (λ u. Ok (Submitted u)) (sym made.1) in
    submit_takes t kept board c.args.bed c.args.number c.args.paths c.args.sheet i on made.0 c.take_in.result c.take_in.new.self takes _ same
