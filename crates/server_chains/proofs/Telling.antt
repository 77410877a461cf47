-- What each message tells, and of which items.
use Rattle.std.proofs.Common.{◌≡◌, ℕ, ℤ, ◌+◌, ◌-◌, ◌≤◌, ◌==◌, List, [], ◌∷◌, ◌++◌, Bool, true, false, cond, map, take, Option, Some, refl, sym, ap, ◌∙◌, subst, arith, slice_get}
use Rattle.std.proofs.lemmas.Bool.Decides.{nat_tests}
use Rattle.std.proofs.lemmas.List.Elements.{filter-append}
use Rattle.set_model.specs.declared.source.Change.{Change}
use Rattle.set_model.specs.Source.{of_item}
use Rattle.item_queue.specs.declared.queue.Entry.{Entry}
use Rattle.ua_sub_msgs.specs.declared.notification.NotificationMessage.{NotificationMessage}
use Rattle.subscription.specs.declared.spec.ItemSpec.{ItemSpec}
use Rattle.subscription.specs.declared.spec.SubSpec.{SubSpec}
use Rattle.subscription.specs.State.{ItemState, SubState}
use Rattle.subscription.specs.Items.{Told, count_told, item_of, telling, told, told_of}
use Rattle.subscription.specs.Calls.{entries_told}
use Rattle.subscription.specs.History.{Call, Add, Remove, SetMode, Feed, Timer, Publish, Acknowledge, Modify, SetEnabled, Moved, after, state_of}
use Rattle.subscription.specs.Sendings.{data_of, data_sent}
use Rattle.subscription.specs.Sources.{GiveLast, known_after, known_with}
use Rattle.server_laws.specs.Lives.{messages_sent, with_message}
use Rattle.server_laws.proofs.Whole.{AreOn}
use Rattle.server_chains.specs.Chains.{AreTold, EachTold, IsChangeOf, IsMessageOf, IsOfItem, joined, messages_told, spec_of, spec_with, told_by, with_message_told}
use Rattle.server_chains.proofs.Finding.{Each, each_found}
use Rattle.server_chains.proofs.Growing.{get_front}
use Rattle.server_chains.proofs.Making.{AreIn, IsMade, in_take}
use Rattle.server_chains.proofs.Keeping.{Streams, cycled_given, kept, published_given}
use Rattle.server_chains.proofs.Linking.{joined_more}

-- ---- each message tells its entries

told_snoc : (messages : List NotificationMessage) (all : List (List Told)) (message : NotificationMessage) (one : Told) (more : List Told) → AreTold messages all
    → IsMessageOf message (one ∷ more) → AreTold (messages ++ message ∷ []) (all ++ (one ∷ more) ∷ [])
told_snoc [] [] message one more h is = (is, tt)
told_snoc [] (first ∷ all) message one more h is = absurd h
told_snoc (first ∷ messages) [] message one more h is = absurd h
told_snoc (first ∷ messages) ([] ∷ all) message one more h is = absurd h
told_snoc (first ∷ messages) ((entry ∷ entries) ∷ all) message one more h is = (h.0, told_snoc messages all message one more h.1 is)

sent_told : (number : ℕ) (now : ℤ) (entries : List Told) (messages : List NotificationMessage) (all : List (List Told)) → AreTold messages all
    → AreTold (with_message messages (data_of number now entries)) (with_message_told all entries)
sent_told number now [] messages all h = h
sent_told number now (one ∷ more) messages all h = told_snoc messages all _ one more h (number, now, refl)

told_after : (call : Call) (s : SubState) (messages : List NotificationMessage) (all : List (List Told)) → AreTold messages all
    → AreTold (with_message messages (data_sent call s)) (with_message_told all (told_by call s))
told_after (Publish now) s messages all h = sent_told s.next now (entries_told s) messages all h
told_after (Add added current) s messages all h = h
told_after (Remove id) s messages all h = h
told_after (SetMode id mode current) s messages all h = h
told_after (Feed change) s messages all h = h
told_after (Timer queued) s messages all h = h
told_after (Acknowledge number) s messages all h = h
told_after (Modify spec now) s messages all h = h
told_after (SetEnabled enabled) s messages all h = h
told_after Moved s messages all h = h

pub told_all : (spec : SubSpec) (start : ℕ) (calls : List Call) → AreTold (messages_sent spec start calls) (messages_told spec start calls)
told_all spec start [] = tt
told_all spec start (call ∷ earlier) =
    told_after call (state_of spec start earlier) (messages_sent spec start earlier) (messages_told spec start earlier) (told_all spec start earlier)

-- ---- an item that was made is not made again

given_after : (call : Call) (s : SubState) → s.given ≤ (after call s).given
given_after (Add added current) s = omega arith
given_after (Remove id) s = omega arith
given_after (SetMode id mode current) s = omega arith
given_after (Feed change) s = omega arith
given_after (Timer queued) s = let same = cycled_given queued s in omega (arith, same)
given_after (Publish now) s = let same = published_given now s in omega (arith, same)
given_after (Acknowledge number) s = omega arith
given_after (Modify spec now) s = omega arith
given_after (SetEnabled enabled) s = omega arith
given_after Moved s = omega arith

within_by : (b : Bool) (id : ℕ) (added item_spec : ItemSpec) (s : SubState) (found : Option ItemSpec) → (s.given + 1 == id) ≡ b
    → (found ≡ Some item_spec → id ≤ s.given) → cond b (Some added) found ≡ Some item_spec → id ≤ s.given + 1
within_by true id added item_spec s found test on is = grind (arith, nat_tests)
within_by false id added item_spec s found test on is = let before = on is in omega (arith, before)

within_after : (id : ℕ) (call : Call) (s : SubState) (found : Option ItemSpec) (item_spec : ItemSpec) → (found ≡ Some item_spec → id ≤ s.given)
    → spec_with id call s found ≡ Some item_spec → id ≤ (after call s).given
within_after id (Add added current) s found item_spec on is = within_by (s.given + 1 == id) id added item_spec s found refl on is
within_after id (Remove other) s found item_spec on is = on is
within_after id (SetMode other mode current) s found item_spec on is = on is
within_after id (Feed change) s found item_spec on is = on is
within_after id (Timer queued) s found item_spec on is = let before = on is in let more = given_after (Timer queued) s in omega (arith, before, more)
within_after id (Publish now) s found item_spec on is = let before = on is in let more = given_after (Publish now) s in omega (arith, before, more)
within_after id (Acknowledge number) s found item_spec on is = on is
within_after id (Modify spec now) s found item_spec on is = on is
within_after id (SetEnabled enabled) s found item_spec on is = on is
within_after id Moved s found item_spec on is = on is

within : (id : ℕ) (spec : SubSpec) (start : ℕ) (calls : List Call) (item_spec : ItemSpec) → spec_of id spec start calls ≡ Some item_spec
    → id ≤ (state_of spec start calls).given
within id spec start [] item_spec is = absurd cc
within id spec start (call ∷ earlier) item_spec is =
    within_after id call (state_of spec start earlier) (spec_of id spec start earlier) item_spec (within id spec start earlier item_spec) is

stays : (id : ℕ) (call : Call) (s : SubState) (found : Option ItemSpec) (item_spec : ItemSpec) → id ≤ s.given → found ≡ Some item_spec
    → spec_with id call s found ≡ Some item_spec
stays id (Add added current) s found item_spec most is =
    let other : (s.given + 1 == id) ≡ false = grind (arith, nat_tests) in
    ap (λ b. cond b (Some added) found) other ∙ is
stays id (Remove other) s found item_spec most is = is
stays id (SetMode other mode current) s found item_spec most is = is
stays id (Feed change) s found item_spec most is = is
stays id (Timer queued) s found item_spec most is = is
stays id (Publish now) s found item_spec most is = is
stays id (Acknowledge number) s found item_spec most is = is
stays id (Modify spec now) s found item_spec most is = is
stays id (SetEnabled enabled) s found item_spec most is = is
stays id Moved s found item_spec most is = is

one_stays : (spec : SubSpec) (start : ℕ) (call : Call) (earlier : List Call) (one : Told) → IsOfItem spec start earlier one → IsOfItem spec start (call ∷ earlier) one
one_stays spec start call earlier one h = record {
  added = h.added;
  was = stays one.id call (state_of spec start earlier) (spec_of one.id spec start earlier) h.added (within one.id spec start earlier h.added h.was) h.was;
  handle = h.handle;
  stamps = h.stamps;
  node = h.node;
}

-- ---- each entry that is told

each_join : (P : Told → Type 0) (one more : List Told) → EachTold P one → EachTold P more → EachTold P (one ++ more)
each_join P [] more h rest = rest
each_join P (first ∷ one) more h rest = (h.0, each_join P one more h.1 rest)

pub each_then : (P Q : Told → Type 0) → ((one : Told) → P one → Q one) → (told : List Told) → EachTold P told → EachTold Q told
each_then P Q on [] h = tt
each_then P Q on (one ∷ more) h = (on one h.0, each_then P Q on more h.1)

-- is of an item, and a change of its node
record IsSound (spec : SubSpec) (start : ℕ) (calls : List Call) (known : List Change) (one : Told) : Type 0 where
  of_its : IsOfItem spec start calls one
  change : IsChangeOf known one

change_more : (known more : List Change) (one : Told) → IsChangeOf known one → IsChangeOf (known ++ more) one
change_more known more one h = record {
  place = h.place;
  at = ap (λ changes. slice_get changes h.place) (filter-append (λ (c : Change). c.item == one.entry.change.item) known more)
      ∙ get_front (of_item one.entry.change.item known) (of_item one.entry.change.item more) h.place one.entry.change h.at;
}

pub changes_more : (known more : List Change) (told : List Told) → EachTold (IsChangeOf known) told → EachTold (IsChangeOf (known ++ more)) told
changes_more known more told h = each_then (IsChangeOf known) (IsChangeOf (known ++ more)) (change_more known more) told h

change_later : (call : Call) (known : List Change) (one : Told) → IsChangeOf known one → IsChangeOf (known_with call known) one
change_later (Feed change) known one h = change_more known (change ∷ []) one h
change_later (Add added current) known one h = h
change_later (Remove id) known one h = h
change_later (SetMode id mode current) known one h = h
change_later (Timer queued) known one h = h
change_later (Publish now) known one h = h
change_later (Acknowledge number) known one h = h
change_later (Modify spec now) known one h = h
change_later (SetEnabled enabled) known one h = h
change_later Moved known one h = h

telling_sound : (spec : SubSpec) (start : ℕ) (calls : List Call) (known : List Change) (item : ItemState) (made : IsMade (spec_of item.id spec start calls) known item)
    (entries : List Entry) → AreIn made.added.node known entries → EachTold (IsSound spec start calls known) (map (telling item) entries)
telling_sound spec start calls known item made [] h = tt
telling_sound spec start calls known item made (entry ∷ entries) h =
    let one = h.0 in (
      record {
        of_its = record { added = made.added; was = made.was; handle = made.handle; stamps = made.stamps; node = one.own };
        change = record { place = one.place; at = ap (λ n. slice_get (of_item n known) one.place) one.own ∙ one.at };
      },
      telling_sound spec start calls known item made entries h.1,
    )

told_sound : (spec : SubSpec) (start : ℕ) (calls : List Call) (known : List Change) (all : List ItemState) (room : ℕ) (items : List ItemState)
    → ((item : ItemState) → item_of item.id all ≡ Some item → IsMade (spec_of item.id spec start calls) known item)
    → Each (λ item. item_of item.id all ≡ Some item) items → EachTold (IsSound spec start calls known) (told room items)
told_sound spec start calls known all room [] made each = tt
told_sound spec start calls known all room (item ∷ items) made each =
    let own = made item each.0 in
    each_join (IsSound spec start calls known) (told_of room item) (told (room - count_told room item) items)
    (telling_sound spec start calls known item own (take (count_told room item) item.queue.entries)
    (in_take own.added.node known (count_told room item) item.queue.entries own.queue.entries))
    (told_sound spec start calls known all (room - count_told room item) items made each.1)

entries_sound : Streams → (spec : SubSpec) (start : ℕ) (first : List Change) (calls : List Call) → GiveLast spec start first calls → AreOn calls
    → EachTold (IsSound spec start calls (known_after first calls)) (entries_told (state_of spec start calls))
entries_sound laws spec start first calls gives goes = by_enabled (state_of spec start calls).spec.enabled
  where
    s : SubState
    s = state_of spec start calls

    by_enabled : (b : Bool) → EachTold (IsSound spec start calls (known_after first calls)) (cond b (told s.spec.most s.items) [])
    by_enabled true =
        told_sound spec start calls (known_after first calls) s.items s.spec.most s.items
        (λ item is. (kept laws spec start first item.id calls gives goes).made item is)
        (each_found 0 s.given s.items (laws.rises spec start calls))
    by_enabled false = tt

call_sound : Streams → (spec : SubSpec) (start : ℕ) (first : List Change) (call : Call) (earlier : List Call) → GiveLast spec start first earlier → AreOn earlier
    → EachTold (IsSound spec start earlier (known_after first earlier)) (told_by call (state_of spec start earlier))
call_sound laws spec start first (Publish now) earlier gives goes = entries_sound laws spec start first earlier gives goes
call_sound laws spec start first (Add added current) earlier gives goes = tt
call_sound laws spec start first (Remove id) earlier gives goes = tt
call_sound laws spec start first (SetMode id mode current) earlier gives goes = tt
call_sound laws spec start first (Feed change) earlier gives goes = tt
call_sound laws spec start first (Timer queued) earlier gives goes = tt
call_sound laws spec start first (Acknowledge number) earlier gives goes = tt
call_sound laws spec start first (Modify other now) earlier gives goes = tt
call_sound laws spec start first (SetEnabled enabled) earlier gives goes = tt
call_sound laws spec start first Moved earlier gives goes = tt

all_sound : Streams → (spec : SubSpec) (start : ℕ) (first : List Change) (calls : List Call) → GiveLast spec start first calls → AreOn calls
    → EachTold (IsSound spec start calls (known_after first calls)) (joined (messages_told spec start calls))
all_sound laws spec start first [] gives goes = tt
all_sound laws spec start first (call ∷ earlier) gives goes =
    let s : SubState = state_of spec start earlier in
    let known : List Change = known_after first earlier in
    subst (EachTold (IsSound spec start (call ∷ earlier) (known_after first (call ∷ earlier)))) (sym (joined_more (messages_told spec start earlier) (told_by call s)))
    (each_then (IsSound spec start earlier known) (IsSound spec start (call ∷ earlier) (known_with call known))
    (λ one h. record { of_its = one_stays spec start call earlier one h.of_its; change = change_later call known one h.change })
    (joined (messages_told spec start earlier) ++ told_by call s)
    (each_join (IsSound spec start earlier known) (joined (messages_told spec start earlier)) (told_by call s)
    (all_sound laws spec start first earlier gives.1 goes.1) (call_sound laws spec start first call earlier gives.1 goes.1)))

pub items_of : Streams → (spec : SubSpec) (start : ℕ) (first : List Change) (calls : List Call) → GiveLast spec start first calls → AreOn calls
    → EachTold (IsOfItem spec start calls) (joined (messages_told spec start calls))
items_of laws spec start first calls gives goes =
    each_then (IsSound spec start calls (known_after first calls)) (IsOfItem spec start calls) (λ one h. h.of_its) (joined (messages_told spec start calls))
    (all_sound laws spec start first calls gives goes)

pub changes_of : Streams → (spec : SubSpec) (start : ℕ) (first : List Change) (calls : List Call) → GiveLast spec start first calls → AreOn calls
    → EachTold (IsChangeOf (known_after first calls)) (joined (messages_told spec start calls))
changes_of laws spec start first calls gives goes =
    each_then (IsSound spec start calls (known_after first calls)) (IsChangeOf (known_after first calls)) (λ one h. h.change)
    (joined (messages_told spec start calls)) (all_sound laws spec start first calls gives goes)
