use Rattle.std.proofs.Common.{ℕ, Ok, is_some, sym, ap, ◌∙◌, subst}
use Rattle.std.specs.Option.{ok_or}
use Rattle.std.proofs.lemmas.Bool.{false≢true}
use Rattle.codec.specs.Value.{value_bytes, shown}
use Rattle.decision.specs.Meaning.{Polls}
use Rattle.decision.specs.Ballots.{board_of}
use Rattle.decision.specs.declared.refusal.DecisionRefusal.TheVariants.{Undecided}
use Rattle.decision.proofs.Tallies.{enough_one, lowest_some, lowest_is}
use Rattle.decision.proofs.Decides.{poll_answer_some, poll_same, poll_decides}
use Rattle.decision.proofs.majority.MajorityDecisionService.poll.Goals.{in-Some-lowest, in_default-lowest}
use Rattle.decision.proofs.majority.MajorityDecisionService.poll.Goals as goal

pub returns-in-Some-clause-polls : goal.returns-in-Some-clause-polls
returns-in-Some-clause-polls c =
    let s = board_of c.args.self.now.ballots in
    let k = c.in_ok-round.round.number in
    let same = rw c.in_ok-round.ensures.ok_part at c.new.ensures in
    let e = sym c.in-Some.ensures in
    subst (λ (n : ℕ). Polls s n (Ok c.in-Some.value) s) same (poll_same s k _ c.in_ok-round.round.below (poll_answer_some _ c.in-Some.value e) (λ _. ap is_some e))

pub returns-clause-polls : goal.returns-clause-polls
returns-clause-polls c =
    let s = board_of c.args.self.now.ballots in
    let k = c.in_ok-round.round.number in
    let same = rw c.in_ok-round.ensures.ok_part at c.new.ensures in
    let b = enough_one s k (c.enough.ensures.0 c.if-not-enough.false) in
    let none = sym c.decision.ensures ∙ ap shown c.in_default.is in
    elim c.match-lowest.branch [
      | in-Some-lowest w ↦
          let x = w.in-Some-lowest.value in
          let d = w.decide.ensures in
          let l = lowest_is s k s.beds (value_bytes x) (sym c.lowest.ensures ∙ ap shown w.in-Some-lowest.is) in
          rw (c.ok_or-2.ensures.value, w.self-is)
          (subst (λ (n : ℕ). Polls s n (ok_or c.decision-2.result Undecided) (board_of w.decide.new.self)) same
          (poll_decides s (board_of w.decide.new.self) k l.0 x c.decision-2.result c.in_ok-round.round.below none l.1 l.2 d.beds d.proposals d.here d.others (rw w.self-is at c.decision-2.ensures)))
      | in_default-lowest w ↦ absurd (false≢true (sym (ap is_some (sym c.lowest.ensures ∙ ap shown w.in_default-lowest.is)) ∙ lowest_some s k s.beds b.0 b.1 b.2))
    ]
