-- Each value that a link tells is a change, and follows the one before it while its item reports.
use Rattle.std.proofs.Common.{◌≡◌, ◌⊎◌, inl, inr, ℕ, suc, ◌+◌, ◌≤◌, List, [], ◌∷◌, ◌++◌, take, reverse, Bool, true, false, Option, Some, None, refl, sym, ◌∙◌, ap, subst, arith}
use Rattle.std.specs.List.{find, slice_get}
use Rattle.std.proofs.lemmas.List.{append-nil}
use Rattle.std.proofs.lemmas.Option.{same_Some}
use Rattle.set_model.specs.declared.source.Change.{Change}
use Rattle.ua_base.specs.Number.{after_message}
use Rattle.ua_variants.specs.declared.variant.Stamped.{Stamped}
use Rattle.ua_variants.specs.declared.variant.Variant.{Variant}
use Rattle.ua_sub_msgs.specs.declared.notification.MonitoredItemNotification.{MonitoredItemNotification}
use Rattle.link_rules.specs.declared.config.LinkConfig.{LinkConfig}
use Rattle.link_rules.specs.declared.notice.Notice.{Notice}
use Rattle.link_rules.specs.declared.notice.Notice.TheVariants as notice
use Rattle.link_rules.specs.declared.remembered.Monitored.{Monitored}
use Rattle.link_rules.specs.declared.remembered.Remembered.{Remembered}
use Rattle.link_rules.specs.Messages.{all_taken, has_handle}
use Rattle.link_rules.specs.Said.{LinkDid}
use Rattle.link_rules.specs.State.{LinkState, new_link}
use Rattle.link_rules.specs.Step.{Happening, after, after_all}
use Rattle.link_rules.specs.Subscribing.{first_of, streams}
use Rattle.link_laws.specs.Course.{AreDoable, AreKnown, Deed, IsDoable, IsKnown, IsSteady, Streams, Monitors, Takes, Leaps, Passes, Skips, Forgets, monitored_after, monitored_by, of_values, remembered_after, remembered_by, told_after, told_by}
use Rattle.link_takings.specs.From.{AreSteps, IsStep}
use Rattle.link_following.specs.Book.{AreLinkedValues, Book, BringsOf, ComeOf, values_of}
use Rattle.link_following.proofs.Values.{last_from}
use Rattle.link_following.proofs.Telling.{AllLinked, onto_append, told_onto, values_reverse}
use Rattle.warm_logs.specs.Reporting.{AreFollowingOn, former_on, reports_in}
use Rattle.warm_links.specs.Eras.{ComesInEra, Eras, IsSoundByEra, KeepEras, reports_after}
use Rattle.warm_links.proofs.Calm.{AllTell, is_calm, tell_reverse}
use Rattle.warm_links.proofs.Parts.{part, part_at, part_next}
use Rattle.warm_links.proofs.Former.{after_calm, after_join, dull_all, dull_following, dull_off, dull_weak, following_calm, former_calm, is_dull, off_none, reports_calm, values_off}
use Rattle.warm_links.proofs.Held.{AllHeld, GoesOn, IsHeld, all_go_on, streams_follow, streams_off, streams_on, taken_after, taken_reports}
use Rattle.warm_links.proofs.Placing.{AreIn, AreQuiet, IsIn, IsPlaced, all_in, calm_or_quiet, placed, quiet_dull}

-- ---- between two deeds

-- all that the messages of an era bring before a place
abbrev before : Book → Eras → ℕ → ℕ → ℕ → List MonitoredItemNotification
before book eras era id place = part (eras id) era 0 (take place (book id))

abbrev IsLast : Book → Eras → ℕ → ℕ → ℕ → List Notice → ℕ → Type 0
IsLast book eras era id next notices item =
    (place : ℕ) × (next ≡ suc place) × (former_on item notices ≡ last_from None (values_of item (before book eras era id place)))

-- an item's next value follows none, or the last one in the messages of the era before the next; and none where the item
-- isn't known
record IsAwaited (book : Book) (eras : Eras) (era : ℕ) (r : Remembered) (monitored : List Monitored) (notices : List Notice)
    (item : ℕ) : Type 0 where
  unknown : find (has_handle item) monitored ≡ None → former_on item notices ≡ None
  last : (former_on item notices ≡ None) ⊎ IsLast book eras era r.id r.next notices item

abbrev AllAwaited : Book → Eras → ℕ → ℕ → Option Remembered → List Monitored → List Notice → Type 0
AllAwaited book eras era count None monitored notices = Unit {0}
AllAwaited book eras era count (Some r) monitored notices =
    (item : ℕ) → 1 ≤ item → item ≤ count → IsAwaited book eras era r monitored notices item

-- no item reports
abbrev AllOff : ℕ → List Notice → Type 0
AllOff count notices = (item : ℕ) → 1 ≤ item → item ≤ count → reports_in item notices ≡ false

abbrev AllNone : ℕ → List Notice → Type 0
AllNone count notices = (item : ℕ) → 1 ≤ item → item ≤ count → former_on item notices ≡ None

off_all : (count : ℕ) (notices : List Notice) → AllOff count notices → AllNone count notices
off_all count notices off = λ item low high. off_none item notices (off item low high)

none_awaited : (book : Book) (eras : Eras) (era : ℕ) (r : Remembered) (monitored : List Monitored) (notices : List Notice)
    (item : ℕ) → former_on item notices ≡ None → IsAwaited book eras era r monitored notices item
none_awaited book eras era r monitored notices item none = record { unknown = λ h. none; last = inl none }

none_all : (book : Book) (eras : Eras) (era count : ℕ) (o : Option Remembered) (monitored : List Monitored)
    (notices : List Notice) → AllNone count notices → AllAwaited book eras era count o monitored notices
none_all book eras era count None monitored notices none = tt
none_all book eras era count (Some r) monitored notices none =
    λ item low high. none_awaited book eras era r monitored notices item (none item low high)

-- the link's items report, or none does
record Stands (source : List Change) (count : ℕ) (book : Book) (eras : Eras) (era : ℕ) (reports : Bool)
    (o : Option Remembered) (monitored : List Monitored) (notices : List Notice) : Type 0 where
  following : AreFollowingOn source count notices
  awaited : AllAwaited book eras era count o monitored notices
  off : reports ≡ false → AllOff count notices

-- ---- a message

-- what is awaited is held before the message at this place
held_last : (book : Book) (eras : Eras) (era id next : ℕ) (notices : List Notice) (item place : ℕ) → next ≡ suc place
    → (former_on item notices ≡ None) ⊎ IsLast book eras era id next notices item
    → (former_on item notices ≡ None)
    ⊎ (former_on item notices ≡ last_from None (values_of item (before book eras era id place)))
held_last book eras era id next notices item place is (inl none) = inl none
held_last book eras era id next notices item place is (inr last) =
    let same : last.0 ≡ place = omega (is, last.1, arith) in
    inr (subst (λ p. former_on item notices ≡ last_from None (values_of item (before book eras era id p))) same last.2)

all_held : (book : Book) (eras : Eras) (era count : ℕ) (r : Remembered) (monitored : List Monitored) (notices : List Notice)
    (place : ℕ) → r.next ≡ suc place → AllAwaited book eras era count (Some r) monitored notices
    → AllHeld count monitored notices (before book eras era r.id place)
all_held book eras era count r monitored notices place next awaited = λ item low high. record {
  unknown = (awaited item low high).unknown;
  last = held_last book eras era r.id r.next notices item place next (awaited item low high).last;
}

none_held : (count : ℕ) (monitored : List Monitored) (notices : List Notice) (values : List MonitoredItemNotification)
    → AllNone count notices → AllHeld count monitored notices values
none_held count monitored notices values none =
    λ item low high. record { unknown = λ h. none item low high; last = inl (none item low high) }

awaited_last : (book : Book) (eras : Eras) (era id next place : ℕ) (notices : List Notice) (item : ℕ) → next ≡ suc place
    → (former_on item notices ≡ None)
    ⊎ (former_on item notices ≡ last_from None (values_of item (before book eras era id place)))
    → (former_on item notices ≡ None) ⊎ IsLast book eras era id next notices item
awaited_last book eras era id next place notices item is (inl none) = inl none
awaited_last book eras era id next place notices item is (inr same) = inr (place, is, same)

awaited_by : (book : Book) (eras : Eras) (era id next place : ℕ) (monitored : List Monitored) (notices : List Notice)
    (item : ℕ) → next ≡ suc place → IsHeld monitored notices (before book eras era id place) item
    → IsAwaited book eras era (record { id = id; next = next }) monitored notices item
awaited_by book eras era id next place monitored notices item is held =
    record { unknown = held.unknown; last = awaited_last book eras era id next place notices item is held.last }

from_none : (place : ℕ) → place ≡ 0 + place
from_none place = omega arith

-- it is taken whole
message_taken : (source : List Change) (count : ℕ) (book : Book) (eras : Eras) (era id place : ℕ) (monitored : List Monitored)
    (notices : List Notice) (values : List MonitoredItemNotification) → IsSoundByEra source count book eras
    → slice_get (book id) place ≡ Some values → eras id place ≡ era → AreFollowingOn source count notices
    → AllHeld count monitored notices (before book eras era id place)
    → GoesOn source count monitored (told_onto (all_taken monitored values) notices) (before book eras era id (suc place))
message_taken source count book eras era id place monitored notices values sound at is following held =
    let split = part_at (eras id) era 0 (book id) place place values at (from_none place) is in
    let linked : AllLinked source count (before book eras era id place ++ (values ++ split.0)) =
    λ item low high. subst (λ (l : List MonitoredItemNotification). AreLinkedValues source item (values_of item l)) split.1
    (sound.linked id item era low high) in
    let goes : GoesOn source count monitored (told_onto (all_taken monitored values) notices)
    (before book eras era id place ++ values) =
    all_go_on source count monitored notices (before book eras era id place) values split.0 linked
    (record { following = following; held = held }) in
    subst (λ (l : List MonitoredItemNotification). GoesOn source count monitored (told_onto (all_taken monitored values) notices) l)
    (sym (part_next (eras id) era 0 (book id) place place values at (from_none place) is)) goes

-- ---- a deed

-- the next message
takes : (source : List Change) (count : ℕ) (book : Book) (eras : Eras) (era : ℕ) (b : Bool) (r : Remembered)
    (monitored : List Monitored) (notices : List Notice) (number : ℕ) (values : List MonitoredItemNotification)
    → IsSoundByEra source count book eras → number ≡ r.next → IsPlaced book eras era b r.id number values
    → Stands source count book eras era b (Some r) monitored notices
    → Stands source count book eras era b (Some (record r { next = after_message number })) monitored
    (told_onto (all_taken monitored values) notices)
takes source count book eras era true r monitored notices number values sound next at stands =
    let goes : GoesOn source count monitored (told_onto (all_taken monitored values) notices)
    (before book eras era r.id (suc at.place)) =
    message_taken source count book eras era r.id at.place monitored notices values sound at.at (at.within refl) stands.following
    (all_held book eras era count r monitored notices at.place (sym next ∙ at.is) stands.awaited) in
    record {
      following = goes.following;
      awaited = λ item low high. awaited_by book eras era r.id (after_message number) (suc at.place) monitored
          (told_onto (all_taken monitored values) notices) item at.next (goes.held item low high);
      off = λ (e : true ≡ false). absurd cc;
    }
takes source count book eras era false r monitored notices number values sound next at stands =
    let none : AllNone count notices = off_all count notices (stands.off refl) in
    let goes : GoesOn source count monitored (told_onto (all_taken monitored values) notices)
    (before book eras (eras r.id at.place) r.id (suc at.place)) =
    message_taken source count book eras (eras r.id at.place) r.id at.place monitored notices values sound at.at refl
    stands.following (none_held count monitored notices (before book eras (eras r.id at.place) r.id at.place) none) in
    let off : AllOff count (told_onto (all_taken monitored values) notices) =
    λ item low high. taken_reports item monitored values notices ∙ stands.off refl item low high in
    record {
      following = goes.following;
      awaited = none_all book eras era count (Some (record r { next = after_message number })) monitored
          (told_onto (all_taken monitored values) notices) (off_all count (told_onto (all_taken monitored values) notices) off);
      off = λ e. off;
    }

-- messages are missing
skips : (source : List Change) (count : ℕ) (book : Book) (eras : Eras) (era : ℕ) (b : Bool) (r : Remembered) (next : ℕ)
    (monitored : List Monitored) (notices : List Notice) → Stands source count book eras era b (Some r) monitored notices
    → Stands source count book eras era b (Some (record r { next = next })) monitored (notice.Jump ∷ notices)
skips source count book eras era b r next monitored notices stands = record {
  following = stands.following;
  awaited = λ item low high. none_awaited book eras era (record r { next = next }) monitored (notice.Jump ∷ notices) item refl;
  off = stands.off;
}

-- a message that is ahead
leaps : (source : List Change) (count : ℕ) (book : Book) (eras : Eras) (era : ℕ) (b : Bool) (r : Remembered)
    (monitored : List Monitored) (notices : List Notice) (number : ℕ) (values : List MonitoredItemNotification)
    → IsSoundByEra source count book eras → IsPlaced book eras era b r.id number values
    → Stands source count book eras era b (Some r) monitored notices
    → Stands source count book eras era b (Some (record r { next = after_message number })) monitored
    (told_onto (notice.Jump ∷ all_taken monitored values) notices)
leaps source count book eras era b r monitored notices number values sound at stands =
    subst (λ (l : List Notice). Stands source count book eras era b (Some (record r { next = after_message number })) monitored l)
    (sym (onto_append (notice.Jump ∷ []) (all_taken monitored values) notices))
    (takes source count book eras era b (record r { next = number }) monitored (notice.Jump ∷ notices) number values sound refl at
    (skips source count book eras era b r number monitored notices stands))

-- whether the link's items report after it
after_values : (source : List Change) (count : ℕ) (book : Book) (eras : Eras) (era : ℕ) (b : Bool) (o : Option Remembered)
    (monitored taken : List Monitored) (notices : List Notice) (values : List MonitoredItemNotification)
    → Stands source count book eras era b o monitored notices
    → Stands source count book eras era (reports_after (all_taken taken values) b) o monitored notices
after_values source count book eras era b o monitored taken notices values stands =
    subst (λ (t : Bool). Stands source count book eras era t o monitored notices) (sym (taken_after taken values b)) stands

-- they only cease to
deed_on : (count : ℕ) (deed : Deed) (monitored : List Monitored) (b : Bool)
    → reports_after (told_by count deed monitored) b ≡ true → b ≡ true
deed_on count (Streams id) monitored b e = streams_on count b e
deed_on count (Monitors items) monitored b e = e
deed_on count (Takes number values) monitored b e = sym (taken_after monitored values b) ∙ e
deed_on count (Leaps number values) monitored b e = sym (taken_after monitored values b) ∙ e
deed_on count (Passes number values) monitored b e = e
deed_on count (Skips number) monitored b e = e
deed_on count Forgets monitored b e = e

-- with the era of the event where the items still report
less_placed : (book : Book) (eras : Eras) (era : ℕ) (b g : Bool) (id number : ℕ) (values : List MonitoredItemNotification)
    → (g ≡ true → b ≡ true) → IsPlaced book eras era b id number values → IsPlaced book eras era g id number values
less_placed book eras era b g id number values less at =
    record { place = at.place; at = at.at; is = at.is; next = at.next; within = λ e. at.within (less e) }

next_taken : (source : List Change) (count : ℕ) (book : Book) (eras : Eras) (era : ℕ) (b g : Bool) (o : Option Remembered)
    (monitored : List Monitored) (notices : List Notice) (deed : Deed) → IsSoundByEra source count book eras
    → (g ≡ true → b ≡ true) → IsDoable deed o → IsKnown deed monitored → IsIn book eras era b deed o
    → Stands source count book eras era g o monitored notices
    → Stands source count book eras era (reports_after (told_by count deed monitored) g) (remembered_by deed o)
    (monitored_by deed monitored) (told_onto (told_by count deed monitored) notices)
next_taken source count book eras era b g o monitored notices (Streams id) sound less doable known within stands =
    let off : AllOff count (told_onto (streams count) notices) = λ item low high. streams_off item count notices low high in
    record {
      following = streams_follow source count count notices stands.following;
      awaited = λ item low high. none_awaited book eras era (first_of id) [] (told_onto (streams count) notices) item
          (off_none item (told_onto (streams count) notices) (off item low high));
      off = λ e. off;
    }
next_taken source count book eras era b g None monitored notices (Monitors items) sound less doable known within stands =
    record { following = stands.following; awaited = tt; off = stands.off }
next_taken source count book eras era b g (Some r) monitored notices (Monitors items) sound less doable known within stands = record {
  following = stands.following;
  awaited = λ item low high. none_awaited book eras era r items notices item
      ((stands.awaited item low high).unknown (ap (find (has_handle item)) known.0));
  off = stands.off;
}
next_taken source count book eras era b g None monitored notices (Takes number values) sound less doable known within stands =
    let bad : None ≡ Some doable.0 = doable.1 in absurd cc
next_taken source count book eras era b g (Some r) monitored notices (Takes number values) sound less doable known within stands =
    let same : doable.0 ≡ r = sym (same_Some r doable.0 doable.1) in
    after_values source count book eras era g (Some (record r { next = after_message number })) monitored monitored
    (told_onto (all_taken monitored values) notices) values
    (takes source count book eras era g r monitored notices number values sound (doable.2 ∙ ap (λ (x : Remembered). x.next) same)
    (less_placed book eras era b g r.id number values less
    (placed source count book eras era b r.id number values sound (within r refl))) stands)
next_taken source count book eras era b g None monitored notices (Leaps number values) sound less doable known within stands =
    let bad : None ≡ Some doable.0 = doable.1 in absurd cc
next_taken source count book eras era b g (Some r) monitored notices (Leaps number values) sound less doable known within stands =
    after_values source count book eras era g (Some (record r { next = after_message number })) monitored monitored
    (told_onto (notice.Jump ∷ all_taken monitored values) notices) values
    (leaps source count book eras era g r monitored notices number values sound
    (less_placed book eras era b g r.id number values less
    (placed source count book eras era b r.id number values sound (within r refl))) stands)
next_taken source count book eras era b g o monitored notices (Passes number values) sound less doable known within stands = stands
next_taken source count book eras era b g None monitored notices (Skips number) sound less doable known within stands =
    let bad : None ≡ Some doable.0 = doable.1 in absurd cc
next_taken source count book eras era b g (Some r) monitored notices (Skips number) sound less doable known within stands =
    skips source count book eras era g r number monitored notices stands
next_taken source count book eras era b g o monitored notices Forgets sound less doable known within stands =
    record { following = stands.following; awaited = tt; off = stands.off }

-- one after another
all_taken_on : (source : List Change) (count : ℕ) (book : Book) (eras : Eras) (era : ℕ) (b g : Bool) (deeds : List Deed)
    (o : Option Remembered) (monitored : List Monitored) (notices : List Notice) → IsSoundByEra source count book eras
    → (g ≡ true → b ≡ true) → AreDoable deeds o → AreKnown deeds monitored → AreIn book eras era b deeds o
    → Stands source count book eras era g o monitored notices
    → Stands source count book eras era (reports_after (told_after count deeds monitored) g) (remembered_after deeds o)
    (monitored_after deeds monitored) (told_onto (told_after count deeds monitored) notices)
all_taken_on source count book eras era b g [] o monitored notices sound less doable known within stands = stands
all_taken_on source count book eras era b g (deed ∷ deeds) o monitored notices sound less doable known within stands =
    let one : List Notice = told_by count deed monitored in
    let other : List Notice = told_after count deeds (monitored_by deed monitored) in
    let rest : Stands source count book eras era (reports_after other (reports_after one g)) (remembered_after deeds (remembered_by deed o))
    (monitored_after deeds (monitored_by deed monitored)) (told_onto other (told_onto one notices)) =
    all_taken_on source count book eras era b (reports_after one g) deeds (remembered_by deed o) (monitored_by deed monitored)
    (told_onto one notices) sound (λ e. less (deed_on count deed monitored g e)) doable.1 known.1 within.1
    (next_taken source count book eras era b g o monitored notices deed sound less doable.0 known.0 within.0 stands) in
    subst (λ (t : Bool). Stands source count book eras era t (remembered_after deeds (remembered_by deed o))
    (monitored_after deeds (monitored_by deed monitored)) (told_onto (one ++ other) notices))
    (sym (after_join one other g))
    (subst (λ (l : List Notice). Stands source count book eras era (reports_after other (reports_after one g))
    (remembered_after deeds (remembered_by deed o)) (monitored_after deeds (monitored_by deed monitored)) l)
    (sym (onto_append one other notices)) rest)

-- ---- an event

-- other notices let an item follow none at the most
weak_one : (book : Book) (eras : Eras) (era : ℕ) (r : Remembered) (monitored : List Monitored) (one other : List Notice)
    (item : ℕ) → (former_on item other ≡ None) ⊎ (former_on item other ≡ former_on item one)
    → IsAwaited book eras era r monitored one item → IsAwaited book eras era r monitored other item
weak_one book eras era r monitored one other item (inl none) awaited =
    none_awaited book eras era r monitored other item none
weak_one book eras era r monitored one other item (inr same) awaited = record {
  unknown = λ h. same ∙ awaited.unknown h;
  last = by_last awaited.last;
}
  where
    by_last : (former_on item one ≡ None) ⊎ IsLast book eras era r.id r.next one item
        → (former_on item other ≡ None) ⊎ IsLast book eras era r.id r.next other item
    by_last (inl none) = inl (same ∙ none)
    by_last (inr last) = inr (last.0, last.1, same ∙ last.2)

abbrev AreWeak : List Notice → List Notice → Type 0
AreWeak one other = (item : ℕ) → (former_on item other ≡ None) ⊎ (former_on item other ≡ former_on item one)

weak_all : (book : Book) (eras : Eras) (era count : ℕ) (o : Option Remembered) (monitored : List Monitored)
    (one other : List Notice) → AreWeak one other → AllAwaited book eras era count o monitored one
    → AllAwaited book eras era count o monitored other
weak_all book eras era count None monitored one other weak awaited = tt
weak_all book eras era count (Some r) monitored one other weak awaited =
    λ item low high. weak_one book eras era r monitored one other item (weak item) (awaited item low high)

weak_none : (one other : Option (Stamped Variant)) → (other ≡ None) ⊎ (other ≡ one) → one ≡ None → other ≡ None
weak_none one other (inl none) h = none
weak_none one other (inr same) h = same ∙ h

-- notices of values first, and then the others among them
event_by : (b : Bool) (source : List Change) (count : ℕ) (book : Book) (eras : Eras) (era next : ℕ) (o : Option Remembered)
    (monitored : List Monitored) (told notices : List Notice) → (b ≡ true → next ≡ era)
    → Stands source count book eras era (reports_after (of_values told) b) o monitored (of_values (reverse told) ++ notices)
    → AreFollowingOn source count (told_onto told notices) → AreWeak (of_values (reverse told) ++ notices) (told_onto told notices)
    → (reports_after told b ≡ false → AllOff count (told_onto told notices))
    → Stands source count book eras next (reports_after told b) o monitored (told_onto told notices)
event_by true source count book eras era next o monitored told notices goes inner following weak off =
    subst (λ n. Stands source count book eras n (reports_after told true) o monitored (told_onto told notices)) (sym (goes refl))
    (record {
      following = following;
      awaited = weak_all book eras era count o monitored (of_values (reverse told) ++ notices) (told_onto told notices) weak inner.awaited;
      off = off;
    })
event_by false source count book eras era next o monitored told notices goes inner following weak off =
    let none : AllNone count (of_values (reverse told) ++ notices) =
    off_all count (of_values (reverse told) ++ notices) (inner.off (values_off told)) in
    record {
      following = following;
      awaited = none_all book eras next count o monitored (told_onto told notices)
          (λ item low high. weak_none (former_on item (of_values (reverse told) ++ notices)) (former_on item (told_onto told notices))
          (weak item) (none item low high));
      off = off;
    }

event_calm : (b : Bool) (source : List Change) (count : ℕ) (book : Book) (eras : Eras) (era next : ℕ) (o : Option Remembered)
    (monitored : List Monitored) (told notices : List Notice) → (b ≡ true → next ≡ era) → AllTell is_calm told
    → Stands source count book eras era (reports_after (of_values told) b) o monitored (of_values (reverse told) ++ notices)
    → Stands source count book eras next (reports_after told b) o monitored (told_onto told notices)
event_calm b source count book eras era next o monitored told notices goes calm inner =
    let newer : AllTell is_calm (reverse told) = tell_reverse is_calm told calm in
    event_by b source count book eras era next o monitored told notices goes inner
    (following_calm source count (reverse told) notices newer inner.following)
    (λ item. inr (former_calm item (reverse told) notices newer))
    (λ e item low high. reports_calm item (reverse told) notices newer ∙ inner.off (sym (after_calm told b calm) ∙ e) item low high)

event_quiet : (b : Bool) (source : List Change) (count : ℕ) (book : Book) (eras : Eras) (era next : ℕ) (o before_o : Option Remembered)
    (monitored before_monitored : List Monitored) (told notices : List Notice) → (b ≡ true → next ≡ era) → AllTell is_dull told
    → Stands source count book eras era b before_o before_monitored notices
    → Stands source count book eras era (reports_after (of_values told) b) o monitored (of_values (reverse told) ++ notices)
    → Stands source count book eras next (reports_after told b) o monitored (told_onto told notices)
event_quiet b source count book eras era next o before_o monitored before_monitored told notices goes dull stands inner =
    let newer : AllTell is_dull (reverse told) = tell_reverse is_dull told dull in
    event_by b source count book eras era next o monitored told notices goes inner
    (dull_following source count (reverse told) notices newer stands.following)
    (λ item. dull_weak item (reverse told) notices newer)
    (λ e item low high. dull_off item told notices b dull (λ was. stands.off was item low high) e)

event_either : (b : Bool) (source : List Change) (count : ℕ) (book : Book) (eras : Eras) (era next : ℕ) (deeds : List Deed)
    (o : Option Remembered) (monitored : List Monitored) (told notices : List Notice) → (b ≡ true → next ≡ era)
    → of_values told ≡ told_after count deeds monitored → AllTell is_calm told ⊎ AreQuiet deeds
    → Stands source count book eras era b o monitored notices
    → Stands source count book eras era (reports_after (of_values told) b) (remembered_after deeds o) (monitored_after deeds monitored)
    (of_values (reverse told) ++ notices)
    → Stands source count book eras next (reports_after told b) (remembered_after deeds o) (monitored_after deeds monitored)
    (told_onto told notices)
event_either b source count book eras era next deeds o monitored told notices goes is (inl calm) stands inner =
    event_calm b source count book eras era next (remembered_after deeds o) (monitored_after deeds monitored) told notices goes calm inner
event_either b source count book eras era next deeds o monitored told notices goes is (inr quiet) stands inner =
    event_quiet b source count book eras era next (remembered_after deeds o) o (monitored_after deeds monitored) monitored told notices
    goes (dull_all told (subst (AllTell is_dull) (sym is) (quiet_dull count deeds monitored quiet))) stands inner

event_deeds : (b : Bool) (source : List Change) (count : ℕ) (book : Book) (eras : Eras) (era next : ℕ) (deeds : List Deed)
    (o : Option Remembered) (monitored : List Monitored) (told notices : List Notice) → IsSoundByEra source count book eras
    → (b ≡ true → next ≡ era) → AreDoable deeds o → AreKnown deeds monitored → AreIn book eras era b deeds o
    → of_values told ≡ told_after count deeds monitored → AllTell is_calm told ⊎ AreQuiet deeds
    → Stands source count book eras era b o monitored notices
    → Stands source count book eras next (reports_after told b) (remembered_after deeds o) (monitored_after deeds monitored)
    (told_onto told notices)
event_deeds b source count book eras era next deeds o monitored told notices sound goes doable known within is kind stands =
    let values : Stands source count book eras era (reports_after (told_after count deeds monitored) b) (remembered_after deeds o)
    (monitored_after deeds monitored) (told_onto (told_after count deeds monitored) notices) =
    all_taken_on source count book eras era b b deeds o monitored notices sound (λ e. e) doable known within stands in
    let same : of_values (reverse told) ≡ reverse (told_after count deeds monitored) = values_reverse told ∙ ap reverse is in
    event_either b source count book eras era next deeds o monitored told notices goes is kind stands
    (subst (λ (t : Bool). Stands source count book eras era t (remembered_after deeds o) (monitored_after deeds monitored)
    (of_values (reverse told) ++ notices))
    (sym (ap (λ (l : List Notice). reports_after l b) is))
    (subst (λ (l : List Notice). Stands source count book eras era (reports_after (told_after count deeds monitored) b)
    (remembered_after deeds o) (monitored_after deeds monitored) (l ++ notices)) (sym same) values))

event : (h : Happening) (l : LinkState) (step : IsStep h l) (source : List Change) (count : ℕ) (book : Book) (eras : Eras)
    (era next : ℕ) (b : Bool) (notices : List Notice) → IsSoundByEra source count book eras → l.config.items ≡ count
    → BringsOf book h l → (b ≡ true → ComesInEra book eras era h l) → (b ≡ true → next ≡ era)
    → Stands source count book eras era b l.remembered l.monitored notices
    → Stands source count book eras next (reports_after (after h l).notices b) (after h l).link.remembered
    (after h l).link.monitored (told_onto (after h l).notices notices)
event h l step source count book eras era next b notices sound config brings keeps goes stands =
    let told : List Notice = (after h l).notices in
    let is : of_values told ≡ told_after count step.deeds l.monitored =
    step.told ∙ ap (λ c. told_after c step.deeds l.monitored) config in
    subst (λ (o : Option Remembered). Stands source count book eras next (reports_after told b) o (after h l).link.monitored (told_onto told notices))
    (sym step.leads)
    (subst (λ (m : List Monitored). Stands source count book eras next (reports_after told b) (remembered_after step.deeds l.remembered) m
    (told_onto told notices)) (sym step.items)
    (event_deeds b source count book eras era next step.deeds l.remembered l.monitored told notices sound goes step.doable step.known
    (all_in book eras era b step.deeds l.remembered h l brings keeps step.from) is
    (calm_or_quiet step.deeds l.remembered h l step.from step.named) stands))

-- ---- the law

all_follow : ((happenings : List Happening) (l : LinkState) → (after_all happenings l).link.config ≡ l.config)
    → (happenings : List Happening) (l : LinkState) → AreSteps happenings l → (source : List Change) (count : ℕ) (book : Book)
    (eras : Eras) (era : ℕ) (b : Bool) (notices : List Notice) → IsSoundByEra source count book eras → l.config.items ≡ count
    → ComeOf book happenings l → KeepEras book eras era happenings l b
    → Stands source count book eras era b l.remembered l.monitored notices
    → AreFollowingOn source count (told_onto (after_all happenings l).notices notices)
all_follow stays [] l steps source count book eras era b notices sound config come keep stands = stands.following
all_follow stays (h ∷ more) l steps source count book eras era b notices sound config come keep stands =
    let did : LinkDid = after h l in
    subst (AreFollowingOn source count) (sym (onto_append did.notices (after_all more did.link).notices notices))
    (all_follow stays more did.link steps.1 source count book eras keep.1.0 (reports_after did.notices b) (told_onto did.notices notices)
    sound (ap (λ c. c.items) (stays (h ∷ []) l) ∙ config) come.1 keep.1.2
    (event h l steps.0 source count book eras era keep.1.0 b notices sound config come.0 keep.0 keep.1.1 stands))

pub values_follow_on : ((happenings : List Happening) (l : LinkState) → IsSteady l → AreSteps happenings l)
    → ((happenings : List Happening) (l : LinkState) → (after_all happenings l).link.config ≡ l.config)
    → (config : LinkConfig) (happenings : List Happening) (source : List Change) (book : Book) (eras : Eras)
    → IsSoundByEra source config.items book eras → ComeOf book happenings (new_link config)
    → KeepEras book eras 0 happenings (new_link config) false
    → AreFollowingOn source config.items (reverse (after_all happenings (new_link config)).notices)
values_follow_on steady stays config happenings source book eras sound come keep =
    subst (AreFollowingOn source config.items) (append-nil (reverse (after_all happenings (new_link config)).notices))
    (all_follow stays happenings (new_link config) (steady happenings (new_link config) (λ is. refl)) source config.items book eras 0
    false [] sound refl come keep (record { following = tt; awaited = tt; off = λ e item low high. refl }))
