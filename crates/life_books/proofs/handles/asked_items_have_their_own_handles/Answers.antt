use Rattle.life_books.proofs.Owning.{own_items}
use Rattle.life_books.proofs.handles.asked_items_have_their_own_handles.Goals as goal

pub returns : goal.returns
returns c = own_items c.items_are_made_as_asked.ensures
