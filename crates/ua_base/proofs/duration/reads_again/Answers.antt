use Rattle.ua_base.proofs.DurationLemmas.{again}
use Rattle.ua_base.proofs.duration.reads_again.Goals as goal

pub returns : goal.returns
returns c = again
