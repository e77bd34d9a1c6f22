use Rattle.group.proofs.Stories.{stories}
use Rattle.group.proofs.law.stories_can_be_lived.Goals as goal

pub returns : goal.returns
returns c = stories
