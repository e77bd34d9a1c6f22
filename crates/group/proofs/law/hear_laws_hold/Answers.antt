use Rattle.group.proofs.Hearings.{hear_laws}
use Rattle.group.proofs.law.hear_laws_hold.Goals as goal

pub returns : goal.returns
returns c = hear_laws
