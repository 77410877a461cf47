use Rattle.server_makings.proofs.Placing.{in_place, none_of}
use Rattle.server_makings.proofs.telling.ids_of_items_are_their_places.Goals as goal

pub returns-clause-places : goal.returns-clause-places
returns-clause-places c = in_place

pub returns-clause-none : goal.returns-clause-none
returns-clause-none c = none_of
