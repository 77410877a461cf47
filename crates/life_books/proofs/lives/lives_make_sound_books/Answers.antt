use Rattle.std.proofs.Common.{◌++◌}
use Rattle.server_rules.specs.State.{new_server}
use Rattle.server_laws.specs.Course.{fed_in, life_of}
use Rattle.server_makings.specs.Asked.{asked_in}
use Rattle.life_books.proofs.Living.{Laws, book_of, either}
use Rattle.life_books.proofs.lives.lives_make_sound_books.Goals as goal

pub returns-clause-chains : goal.returns-clause-chains
returns-clause-chains c =
    let laws : Laws = record {
      places = c.ids_of_items_are_their_places.ensures.places;
      none = c.ids_of_items_are_their_places.ensures.none;
      own = c.asked_items_have_their_own_handles.ensures;
      fed = c.linked_entries_arrive_linked.ensures.fed;
      linked = c.linked_entries_arrive_linked.ensures.all;
      values = c.told_entries_make_linked_values.ensures;
      brings = c.messages_bring_their_values.ensures.values;
    } in
    book_of laws

pub returns-clause-lives : goal.returns-clause-lives
returns-clause-lives c config current happenings id source link count stamps never asked timed wide rises among =
    let laws : Laws = record {
      places = c.ids_of_items_are_their_places.ensures.places;
      none = c.ids_of_items_are_their_places.ensures.none;
      own = c.asked_items_have_their_own_handles.ensures;
      fed = c.linked_entries_arrive_linked.ensures.fed;
      linked = c.linked_entries_arrive_linked.ensures.all;
      values = c.told_entries_make_linked_values.ensures;
      brings = c.messages_bring_their_values.ensures.values;
    } in
    let told = c.subscriptions_tell_what_was_asked_for.ensures config current happenings id never in
    let made = either config.items _ (asked_in id happenings) link count stamps told.1 asked in
    let book = book_of laws id (current ++ fed_in happenings) source (life_of happenings (new_server config current)) config.items link made.0 stamps told.0
    made.1 timed wide rises among in
    (told.0, book.0, book.1)
