use Rattle.set_feeds.proofs.Feeding.{lives_fed}
use Rattle.set_feeds.proofs.laws.lives_are_fed_from_the_source.Goals as goal

pub returns : goal.returns
returns c = λ mode servers items queue oldest lines place within. lives_fed mode servers items queue oldest lines place within
