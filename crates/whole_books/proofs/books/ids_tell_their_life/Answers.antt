use Rattle.whole_books.proofs.Boots.{ids_of_boot}
use Rattle.whole_books.proofs.books.ids_tell_their_life.Goals as goal

pub returns : goal.returns
returns c = λ config current happenings.
    ids_of_boot config current happenings (λ earlier. (c.subscriptions_are_calls.ensures.life config current earlier).0)
