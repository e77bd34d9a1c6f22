use Rattle.group.proofs.Appends.{append_laws}
use Rattle.group.proofs.law.append_laws_hold.Goals as goal

pub returns : goal.returns
returns c = append_laws
