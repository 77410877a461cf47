use Rattle.life_books.proofs.Saying.{told_linked}
use Rattle.life_books.proofs.values.told_entries_make_linked_values.Goals as goal

pub returns : goal.returns
returns c = told_linked c.entries_arrive.ensures.arrives
