use Rattle.std.proofs.Common.{rules}
use Rattle.decision.proofs.Empties.{empty_proposals, empty_decisions}
use Rattle.decision.proofs.ballots.Ballots.new.Goals as goal

pub returns : goal.returns
returns c = record {
  size = search rules;
  proposed = empty_proposals c.in_ok-beds.beds.count;
  decided = empty_decisions;
}
