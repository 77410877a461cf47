use Rattle.server_makings.proofs.Creating.{as_asked}
use Rattle.server_makings.proofs.making.items_are_made_as_asked.Goals as goal

pub returns : goal.returns
returns c = as_asked
