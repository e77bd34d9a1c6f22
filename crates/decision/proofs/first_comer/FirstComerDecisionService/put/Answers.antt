use Rattle.std.proofs.Common.{◌≡◌, ℕ, is_some, None, Ok, sym, ap, ◌∙◌, subst}
use Rattle.codec.specs.Value.{value_bytes}
use Rattle.decision.specs.Meaning.{Puts}
use Rattle.decision.specs.Ballots.{board_of}
use Rattle.decision.proofs.Tallies.{shown_some, none_is}
use Rattle.decision.proofs.Decides.{put_decides}
use Rattle.decision.proofs.first_comer.FirstComerDecisionService.put.Goals as goal

pub returns-in-Some-clause-puts : goal.returns-in-Some-clause-puts
returns-in-Some-clause-puts c =
    let s = board_of c.args.self.now.ballots in
    let t = board_of c.propose.new.self in
    let s' = board_of c.decide.new.self in
    let k = c.in_ok-round.round.number in
    let same = rw c.in_ok-round.ensures.ok_part at c.new.ensures in
    let d = c.decide.ensures in
    let none : t.decision k ≡ None = none_is (t.decision k) (ap is_some (sym c.decision.ensures) ∙ shown_some c.decision.result ∙ c.if-is_none.ensures) in
    subst (λ (n : ℕ). Puts s c.args.bed n c.args.bytes.now (Ok c.in_ok-answer.answer) s') same
    (put_decides s t s' c.args.bed k c.args.bytes.now c.in_ok-answer.answer (value_bytes c.in-Some.value) c.in_ok-answer.ensures.proposes none (sym c.in-Some.ensures) d.beds d.proposals d.here d.others)
