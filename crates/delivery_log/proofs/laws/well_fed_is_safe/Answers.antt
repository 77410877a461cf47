use Rattle.delivery_log.proofs.Law.{safe_from_well_fed}
use Rattle.delivery_log.proofs.laws.well_fed_is_safe.Goals as goal

pub returns : goal.returns
returns c = safe_from_well_fed
