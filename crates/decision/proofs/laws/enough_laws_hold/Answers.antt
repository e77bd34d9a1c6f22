use Rattle.decision.proofs.Tallies.{enough_laws}
use Rattle.decision.proofs.laws.enough_laws_hold.Goals as goal

pub returns : goal.returns
returns c = enough_laws
