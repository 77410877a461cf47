use Rattle.std.specs.Prelude.{◌++◌, refl}
use Rattle.ua_base.specs.declared.modes.Timestamps.TheVariants as timestamps
use Rattle.server_rules.specs.State.{new_server}
use Rattle.server_laws.specs.Course.{fed_in, life_of}
use Rattle.server_makings.specs.Asked.{asked_in}
use Rattle.whole_books.proofs.Assembling.{Laws, either, whole}
use Rattle.whole_books.proofs.Fewness.{Places, few_told}
use Rattle.whole_books.proofs.Short.{few_kept}
use Rattle.whole_books.proofs.books.lives_make_whole_books.Goals as goal

pub returns : goal.returns
returns c config current happenings id source link count fits begins happen few never asked wide rises among =
    let places : Places = record { places = c.ids_of_items_are_their_places.ensures.places; none = c.ids_of_items_are_their_places.ensures.none } in
    let laws : Laws = record {
      places = places;
      limits = record { first = c.what_is_put_keeps_the_limits.ensures.first; step = c.what_is_put_keeps_the_limits.ensures.step };
      brings = c.messages_bring_their_values.ensures.values;
      few_kept = few_kept;
      few_told = few_told places;
      own = c.asked_items_have_their_own_handles.ensures;
    } in
    let all = c.subscriptions_tell_what_was_asked_for.ensures config current happenings id never in
    let tells = all.0 in
    let made = either config.items _ (asked_in id happenings) link count all.1 asked in
    let book = c.lives_make_sound_books.ensures.chains id (current ++ fed_in happenings) source (life_of happenings (new_server config current)) config.items link count
    timestamps.Source tells made refl wide rises among in
    (book.0, whole laws config current happenings id source link count fits begins happen few rises among tells made all.2 book.0 book.1)
