use Rattle.std.proofs.Common.{ℕ, sym, subst}
use Rattle.decision.specs.Meaning.{PollAnswer, Polls}
use Rattle.decision.specs.Ballots.{board_of}
use Rattle.decision.proofs.Tallies.{enough_one}
use Rattle.decision.proofs.Decides.{poll_answer, poll_same}
use Rattle.decision.proofs.first_comer.FirstComerDecisionService.poll.Goals as goal

pub returns-clause-polls : goal.returns-clause-polls
returns-clause-polls c =
    let s = board_of c.args.self.now.ballots in
    let k = c.in_ok-round.round.number in
    let same = rw c.in_ok-round.ensures.ok_part at c.new.ensures in
    let a = subst (PollAnswer (s.decision k)) (sym c.ok_or-2.ensures.value) (poll_answer (s.decision k) c.decision.result c.decision.ensures) in
    subst (λ (n : ℕ). Polls s n c.ok_or-2.result s) same
    (poll_same s k c.ok_or-2.result c.in_ok-round.round.below a (λ q. let b = enough_one s k q in c.args.self.now.decided b.0 k b.2))
