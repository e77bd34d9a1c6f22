use Rattle.std.proofs.Common.{rules}
use Rattle.decision.specs.Meaning.{Enough}
use Rattle.decision.specs.Ballots.{board_of, tally_at}
use Rattle.decision.proofs.Tallies.{row_shows, proposers_count}
use Rattle.decision.proofs.ballots.Ballots.enough.Goals as goal

pub returns : goal.returns
unfolding Enough
returns c =
    let b = c.args.self.now in
    let k = c.args.round.number in
    let e = proposers_count (board_of b) k b.beds.count (tally_at b.rounds k).proposals (row_shows b k c.args.round.below) in
    search rules
