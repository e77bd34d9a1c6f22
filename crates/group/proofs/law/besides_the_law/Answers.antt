use Rattle.group.proofs.Whole.{besides_holds}
use Rattle.group.proofs.law.besides_the_law.Goals as goal

pub returns : goal.returns
returns c = besides_holds
