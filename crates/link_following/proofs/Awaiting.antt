-- Each value that a link tells follows the one before it.
use Rattle.std.proofs.Common.{◌≡◌, ◌⊎◌, inl, inr, ℕ, suc, ◌-◌, ◌^◌, ◌<◌, ◌≤◌, List, [], ◌∷◌, ◌++◌, length, take, drop, reverse, Option, Some, None, refl, sym, ◌∙◌, ap, subst, arith}
use Rattle.std.specs.List.{find, slice_get}
use Rattle.std.proofs.lemmas.List.{append-nil}
use Rattle.std.proofs.lemmas.Option.{same_Some, slice_get_within}
use Rattle.set_model.specs.declared.source.Change.{Change}
use Rattle.ua_base.specs.Number.{after_message}
use Rattle.ua_sub_msgs.specs.declared.notification.MonitoredItemNotification.{MonitoredItemNotification}
use Rattle.link_rules.specs.declared.config.LinkConfig.{LinkConfig}
use Rattle.link_rules.specs.declared.notice.Notice.{Notice}
use Rattle.link_rules.specs.declared.notice.Notice.TheVariants as notice
use Rattle.link_rules.specs.declared.remembered.Monitored.{Monitored}
use Rattle.link_rules.specs.declared.remembered.Remembered.{Remembered}
use Rattle.link_rules.specs.Messages.{all_taken, has_handle}
use Rattle.link_rules.specs.State.{LinkState, new_link}
use Rattle.link_rules.specs.Step.{Happening, after_all}
use Rattle.link_rules.specs.Subscribing.{first_of, streams}
use Rattle.link_laws.specs.Course.{AreDoable, AreKnown, Deed, IsDoable, IsKnown, IsSteady, Streams, Monitors, Takes, Leaps, Passes, Skips, Forgets, monitored_by, of_values, remembered_by, told_after, told_by}
use Rattle.link_takings.specs.From.{AreSteps, IsDone, deeds_in}
use Rattle.client_links.specs.Feeding.{AreFollowing, former_of}
use Rattle.link_following.specs.Book.{Book, ComeOf, InBook, IsSound, joined, values_of}
use Rattle.link_following.proofs.Values.{joined_at, joined_next, last_from}
use Rattle.link_following.proofs.Telling.{AllHeld, AllLinked, GoesOn, IsHeld, all_go_on, following_by_values, onto_append, streams_begin, streams_following, told_onto, values_reverse}
use Rattle.link_following.proofs.Booking.{AreBooked, IsBooked, after_small, booked_in, number_small}

-- ---- between two deeds

-- the client has of an item no value, or the last one in the messages before the next; and none where the item isn't known
record IsAwaited (book : Book) (r : Remembered) (monitored : List Monitored) (notices : List Notice) (item : ℕ) : Type 0 where
  unknown : find (has_handle item) monitored ≡ None → former_of item notices ≡ None
  last : (former_of item notices ≡ None)
      ⊎ ((place : ℕ) × (r.next ≡ suc place)
      × (former_of item notices ≡ last_from None (values_of item (joined (take place (book r.id))))))

abbrev AllAwaited : Book → ℕ → Option Remembered → List Monitored → List Notice → Type 0
AllAwaited book count None monitored notices = Unit {0}
AllAwaited book count (Some r) monitored notices =
    (item : ℕ) → 1 ≤ item → item ≤ count → IsAwaited book r monitored notices item

none_awaited : (book : Book) (r : Remembered) (monitored : List Monitored) (notices : List Notice) (item : ℕ)
    → former_of item notices ≡ None → IsAwaited book r monitored notices item
none_awaited book r monitored notices item none = record { unknown = λ h. none; last = inl none }

record Stands (source : List Change) (count : ℕ) (book : Book) (o : Option Remembered) (monitored : List Monitored)
    (notices : List Notice) : Type 0 where
  following : AreFollowing source count notices
  awaited : AllAwaited book count o monitored notices

-- ---- a message

-- what is awaited is held before the message at this place
held_last : (book : Book) (r : Remembered) (notices : List Notice) (item place : ℕ) → r.next ≡ suc place
    → (former_of item notices ≡ None)
    ⊎ ((p : ℕ) × (r.next ≡ suc p) × (former_of item notices ≡ last_from None (values_of item (joined (take p (book r.id))))))
    → (former_of item notices ≡ None)
    ⊎ (former_of item notices ≡ last_from None (values_of item (joined (take place (book r.id)))))
held_last book r notices item place next (inl none) = inl none
held_last book r notices item place next (inr last) =
    let same : last.0 ≡ place = omega (next, last.1, arith) in
    inr (subst (λ p. former_of item notices ≡ last_from None (values_of item (joined (take p (book r.id))))) same last.2)

all_held : (book : Book) (count : ℕ) (r : Remembered) (monitored : List Monitored) (notices : List Notice) (place : ℕ)
    → r.next ≡ suc place → AllAwaited book count (Some r) monitored notices
    → AllHeld count monitored notices (joined (take place (book r.id)))
all_held book count r monitored notices place next awaited = λ item low high. record {
  unknown = (awaited item low high).unknown;
  last = held_last book r notices item place next (awaited item low high).last;
}

awaited_last : (book : Book) (id next place : ℕ) (notices : List Notice) (item : ℕ) → next ≡ suc place
    → (former_of item notices ≡ None) ⊎ (former_of item notices ≡ last_from None (values_of item (joined (take place (book id)))))
    → (former_of item notices ≡ None)
    ⊎ ((p : ℕ) × (next ≡ suc p) × (former_of item notices ≡ last_from None (values_of item (joined (take p (book id))))))
awaited_last book id next place notices item is (inl none) = inl none
awaited_last book id next place notices item is (inr same) = inr (place, is, same)

awaited_by : (book : Book) (id next place : ℕ) (monitored : List Monitored) (notices : List Notice) (item : ℕ)
    → next ≡ suc place → IsHeld monitored notices (joined (take place (book id))) item
    → IsAwaited book (record { id = id; next = next }) monitored notices item
awaited_by book id next place monitored notices item is held =
    record { unknown = held.unknown; last = awaited_last book id next place notices item is held.last }

-- it is taken whole
message_taken : (source : List Change) (count : ℕ) (book : Book) (id next place : ℕ) (monitored : List Monitored)
    (notices : List Notice) (values : List MonitoredItemNotification) → IsSound source count book
    → slice_get (book id) place ≡ Some values → next ≡ suc (suc place) → AreFollowing source count notices
    → AllHeld count monitored notices (joined (take place (book id)))
    → Stands source count book (Some (record { id = id; next = next })) monitored (told_onto (all_taken monitored values) notices)
message_taken source count book id next place monitored notices values sound at is following held =
    let linked : AllLinked source count (joined (take place (book id)) ++ (values ++ joined (drop (suc place) (book id)))) =
    subst (AllLinked source count) (joined_at (book id) place values at) (sound.linked id) in
    let goes : GoesOn source count monitored (told_onto (all_taken monitored values) notices)
    (joined (take place (book id)) ++ values) =
    all_go_on source count monitored notices (joined (take place (book id))) values (joined (drop (suc place) (book id)))
    linked (record { following = following; held = held }) in
    let later : AllHeld count monitored (told_onto (all_taken monitored values) notices) (joined (take (suc place) (book id))) =
    subst (AllHeld count monitored (told_onto (all_taken monitored values) notices))
    (sym (joined_next (book id) place values at)) goes.held in
    record {
      following = goes.following;
      awaited = λ item low high. awaited_by book id next (suc place) monitored
          (told_onto (all_taken monitored values) notices) item is (later item low high);
    }

-- ---- a deed

-- a message of the book has its place as its number
record IsPlaced (book : Book) (id number : ℕ) (values : List MonitoredItemNotification) : Type 0 where
  place : ℕ
  at : slice_get (book id) place ≡ Some values
  is : number ≡ suc place
  next : after_message number ≡ suc (suc place)

placed : (source : List Change) (count : ℕ) (book : Book) (id number : ℕ) (values : List MonitoredItemNotification)
    → IsSound source count book → InBook book id number values → IsPlaced book id number values
placed source count book id number values sound within =
    let low : within.0 < length (book id) = slice_get_within (book id) within.0 values within.1 in
    let few : length (book id) < 2 ^ 32 - 1 = sound.few id in
    let is : number ≡ suc within.0 = within.2 ∙ number_small within.0 (omega arith) in
    record {
      place = within.0;
      at = within.1;
      is = is;
      next = ap after_message is ∙ after_small within.0 (omega arith);
    }

-- the next message
takes : (source : List Change) (count : ℕ) (book : Book) (r : Remembered) (monitored : List Monitored) (notices : List Notice)
    (number : ℕ) (values : List MonitoredItemNotification) → IsSound source count book → number ≡ r.next
    → IsPlaced book r.id number values → Stands source count book (Some r) monitored notices
    → Stands source count book (Some (record r { next = after_message number })) monitored
    (told_onto (all_taken monitored values) notices)
takes source count book r monitored notices number values sound next at stands =
    message_taken source count book r.id (after_message number) at.place monitored notices values sound at.at at.next
    stands.following (all_held book count r monitored notices at.place (sym next ∙ at.is) stands.awaited)

-- one that is ahead
leaps : (source : List Change) (count : ℕ) (book : Book) (r : Remembered) (monitored : List Monitored) (notices : List Notice)
    (number : ℕ) (values : List MonitoredItemNotification) → IsSound source count book
    → IsPlaced book r.id number values → AreFollowing source count notices
    → Stands source count book (Some (record r { next = after_message number })) monitored
    (told_onto (notice.Jump ∷ all_taken monitored values) notices)
leaps source count book r monitored notices number values sound at following =
    subst (λ (l : List Notice). Stands source count book (Some (record r { next = after_message number })) monitored l)
    (sym (onto_append (notice.Jump ∷ []) (all_taken monitored values) notices))
    (message_taken source count book r.id (after_message number) at.place monitored (notice.Jump ∷ notices) values sound at.at
    at.next following (λ item low high. record { unknown = λ none. refl; last = inl refl }))

-- with what is remembered
next_taken : (source : List Change) (count : ℕ) (book : Book) (o : Option Remembered) (monitored : List Monitored)
    (notices : List Notice) (deed : Deed) → IsSound source count book → IsDoable deed o → IsKnown deed monitored
    → IsBooked book deed o → Stands source count book o monitored notices
    → Stands source count book (remembered_by deed o) (monitored_by deed monitored)
    (told_onto (told_by count deed monitored) notices)
next_taken source count book o monitored notices (Streams id) sound doable known booked stands = record {
  following = streams_following source count count notices stands.following;
  awaited = λ item low high. none_awaited book (first_of id) [] (told_onto (streams count) notices) item
      (streams_begin item count notices low high);
}
next_taken source count book None monitored notices (Monitors items) sound doable known booked stands =
    record { following = stands.following; awaited = tt }
next_taken source count book (Some r) monitored notices (Monitors items) sound doable known booked stands = record {
  following = stands.following;
  awaited = λ item low high. none_awaited book r items notices item
      ((stands.awaited item low high).unknown (ap (find (has_handle item)) known.0));
}
next_taken source count book None monitored notices (Takes number values) sound doable known booked stands =
    let bad : None ≡ Some doable.0 = doable.1 in absurd cc
next_taken source count book (Some r) monitored notices (Takes number values) sound doable known booked stands =
    let same : doable.0 ≡ r = sym (same_Some r doable.0 doable.1) in
    takes source count book r monitored notices number values sound (doable.2 ∙ ap (λ (x : Remembered). x.next) same)
    (placed source count book r.id number values sound (booked r refl)) stands
next_taken source count book None monitored notices (Leaps number values) sound doable known booked stands =
    let bad : None ≡ Some doable.0 = doable.1 in absurd cc
next_taken source count book (Some r) monitored notices (Leaps number values) sound doable known booked stands =
    leaps source count book r monitored notices number values sound
    (placed source count book r.id number values sound (booked r refl)) stands.following
next_taken source count book o monitored notices (Passes number values) sound doable known booked stands = stands
next_taken source count book None monitored notices (Skips number) sound doable known booked stands =
    let bad : None ≡ Some doable.0 = doable.1 in absurd cc
next_taken source count book (Some r) monitored notices (Skips number) sound doable known booked stands = record {
  following = stands.following;
  awaited = λ item low high. none_awaited book (record r { next = number }) monitored (notice.Jump ∷ notices) item refl;
}
next_taken source count book o monitored notices Forgets sound doable known booked stands =
    record { following = stands.following; awaited = tt }

-- one after another
all_follow : (source : List Change) (count : ℕ) (book : Book) (deeds : List Deed) (o : Option Remembered)
    (monitored : List Monitored) (notices : List Notice) → IsSound source count book → AreDoable deeds o
    → AreKnown deeds monitored → AreBooked book deeds o → Stands source count book o monitored notices
    → AreFollowing source count (told_onto (told_after count deeds monitored) notices)
all_follow source count book [] o monitored notices sound doable known booked stands = stands.following
all_follow source count book (deed ∷ deeds) o monitored notices sound doable known booked stands =
    subst (AreFollowing source count)
    (sym (onto_append (told_by count deed monitored) (told_after count deeds (monitored_by deed monitored)) notices))
    (all_follow source count book deeds (remembered_by deed o) (monitored_by deed monitored)
    (told_onto (told_by count deed monitored) notices) sound doable.1 known.1 booked.1
    (next_taken source count book o monitored notices deed sound doable.0 known.0 booked.0 stands))

-- ---- the law

pub values_follow : ((happenings : List Happening) (l : LinkState) → IsSteady l → AreSteps happenings l)
    → ((happenings : List Happening) (l : LinkState) (steps : AreSteps happenings l)
    → IsDone (deeds_in happenings l steps) l (after_all happenings l))
    → (config : LinkConfig) (happenings : List Happening) (source : List Change) (book : Book)
    → IsSound source config.items book → ComeOf book happenings (new_link config)
    → AreFollowing source config.items (reverse (after_all happenings (new_link config)).notices)
values_follow steady course config happenings source book sound come =
    let steps : AreSteps happenings (new_link config) = steady happenings (new_link config) (λ is. refl) in
    let deeds : List Deed = deeds_in happenings (new_link config) steps in
    let done : IsDone deeds (new_link config) (after_all happenings (new_link config)) = course happenings (new_link config) steps in
    let notices : List Notice = (after_all happenings (new_link config)).notices in
    let told : of_values (reverse notices) ≡ told_onto (told_after config.items deeds []) [] =
    values_reverse notices ∙ ap reverse done.told ∙ sym (append-nil (reverse (told_after config.items deeds []))) in
    following_by_values source config.items (reverse notices)
    (subst (AreFollowing source config.items) (sym told)
    (all_follow source config.items book deeds None [] [] sound done.doable done.known
    (booked_in book happenings (new_link config) steps come) (record { following = tt; awaited = tt })))
