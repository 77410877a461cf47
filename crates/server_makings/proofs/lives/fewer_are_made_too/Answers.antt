use Rattle.server_makings.proofs.Having.{fewer}
use Rattle.server_makings.proofs.lives.fewer_are_made_too.Goals as goal

pub returns : goal.returns
returns c = fewer
