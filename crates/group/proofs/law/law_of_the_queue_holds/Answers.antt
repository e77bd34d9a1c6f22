use Rattle.group.proofs.Whole.{law_holds}
use Rattle.group.proofs.law.law_of_the_queue_holds.Goals as goal

pub returns : goal.returns
returns c = law_holds
