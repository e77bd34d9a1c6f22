use Rattle.group.proofs.Determined.{determined}
use Rattle.group.proofs.law.calls_are_determined.Goals as goal

pub returns : goal.returns
returns c = determined
