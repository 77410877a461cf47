use Rattle.subscription.proofs.Rising.{ids_rise}
use Rattle.subscription.proofs.laws.ids_rise.Goals as goal

pub returns : goal.returns
returns c = ids_rise
