use Rattle.decision.specs.Ballots.{board_of, tally_at, IsLowest}
use Rattle.std.proofs.Common.{subst}
use Rattle.decision.specs.declared.ballots.Tally.{Tally}
use Rattle.decision.proofs.Tallies.{row_shows, lowest_shown}
use Rattle.decision.proofs.ballots.Ballots.lowest.Goals as goal

pub returns : goal.returns
returns c =
    let b = c.args.self.now in
    let k = c.args.round.number in
    lowest_shown (board_of b) k b.beds.count (tally_at b.rounds k).proposals c.lowest.result (row_shows b k c.args.round.below)
    (subst (λ (t : Tally). IsLowest t.proposals b.beds.count c.lowest.result) c.tally.ensures c.lowest.ensures)
