-- All that the messages of one era told of an item is linked.
use Rattle.std.proofs.Common.{◌≡◌, ℕ, ℤ, ◌+◌, ◌<◌, ◌==◌, List, [], ◌∷◌, ◌++◌, Bool, true, false, cond, if◌then◌else◌, Option, Some, None, refl, sym, ap, ◌∙◌, subst, append_assoc, arith}
use Rattle.std.proofs.lemmas.Bool.Decides.{nat_tests}
use Rattle.std.proofs.lemmas.List.{append-nil}
use Rattle.set_model.specs.declared.source.Change.{Change}
use Rattle.set_model.specs.Source.{of_item}
use Rattle.item_queue.specs.declared.queue.Entry.{Entry}
use Rattle.subscription.specs.declared.spec.ItemSpec.{ItemSpec}
use Rattle.subscription.specs.declared.spec.SubSpec.{SubSpec}
use Rattle.subscription.specs.State.{ItemState, SubState}
use Rattle.subscription.specs.Items.{is_disabled, item_of}
use Rattle.subscription.specs.Calls.{entries_told}
use Rattle.subscription.specs.History.{AreAllowed, Call, Add, Remove, SetMode, Feed, Timer, Publish, Acknowledge, Modify, SetEnabled, Moved, state_of}
use Rattle.subscription.specs.Linked.{AreLinked, AreLinkedAfter}
use Rattle.subscription.specs.Sources.{GiveLast, known_after, known_with}
use Rattle.subscription.specs.Streams.{entries_of, stream_of}
use Rattle.server_laws.proofs.Counting.{published_items}
use Rattle.server_chains.specs.Chains.{joined, messages_told, spec_of, spec_with}
use Rattle.server_chains.proofs.Finding.{none_in, nothing_told}
use Rattle.server_chains.proofs.Linking.{Links, linked_later}
use Rattle.server_chains.proofs.Making.{IsMade}
use Rattle.server_eras.specs.Eras.{eras_told, of_era, offs_in}
use Rattle.server_eras.proofs.Counting.{era_in, era_none, era_told, era_with}
use Rattle.server_eras.proofs.Making.{Made}
use Rattle.server_eras.proofs.Standing.{EndsIt, stands}

-- ---- a part of what is linked

front_after : (size : ℕ) (changes : List Change) (former : Entry) (entries more : List Entry) → AreLinkedAfter size changes former (entries ++ more)
    → AreLinkedAfter size changes former entries
front_after size changes former [] more h = tt
front_after size changes former (entry ∷ entries) more h = (h.0, front_after size changes entry entries more h.1)

front_linked : (size : ℕ) (changes : List Change) (entries more : List Entry) → AreLinked size changes (entries ++ more) → AreLinked size changes entries
front_linked size changes [] more h = tt
front_linked size changes (entry ∷ entries) more h = front_after size changes entry entries more h

alone : (size : ℕ) (changes : List Change) (former : Entry) (entries : List Entry) → AreLinkedAfter size changes former entries → AreLinked size changes entries
alone size changes former [] h = tt
alone size changes former (entry ∷ entries) h = h.1

back_linked : (size : ℕ) (changes : List Change) (front entries : List Entry) → AreLinked size changes (front ++ entries) → AreLinked size changes entries
back_linked size changes [] entries h = h
back_linked size changes (first ∷ front) entries h = back_linked size changes front entries (alone size changes first (front ++ entries) h)

middle_linked : (size : ℕ) (changes : List Change) (front entries more all : List Entry) → all ≡ front ++ entries → AreLinked size changes (all ++ more)
    → AreLinked size changes entries
middle_linked size changes front entries more all is h =
    front_linked size changes entries more
    (back_linked size changes front (entries ++ more)
    (subst (AreLinked size changes) (ap (λ (l : List Entry). l ++ more) is ∙ append_assoc front entries more) h))

none_linked : (size : ℕ) (changes : List Change) (entries : List Entry) → entries ≡ [] → AreLinked size changes entries
none_linked size changes entries none = subst (AreLinked size changes) (sym none) tt

-- ---- what was linked before a call

known_linked : (call : Call) (size node : ℕ) (known : List Change) (told : List Entry) → AreLinked size (of_item node known) told
    → AreLinked size (of_item node (known_with call known)) told
known_linked (Feed change) size node known told h = linked_later size node known (change ∷ []) told h
known_linked (Add added current) size node known told h = h
known_linked (Remove other) size node known told h = h
known_linked (SetMode other mode current) size node known told h = h
known_linked (Timer queued) size node known told h = h
known_linked (Publish now) size node known told h = h
known_linked (Acknowledge number) size node known told h = h
known_linked (Modify spec now) size node known told h = h
known_linked (SetEnabled enabled) size node known told h = h
known_linked Moved size node known told h = h

before_by : (b : Bool) (id : ℕ) (added item_spec : ItemSpec) (s : SubState) (found : Option ItemSpec) (size : ℕ) (changes : List Change) (told : List Entry)
    → (s.given + 1 == id) ≡ b → (s.given < id → told ≡ []) → (found ≡ Some item_spec → AreLinked size changes told) → cond b (Some added) found ≡ Some item_spec
    → AreLinked size changes told
before_by true id added item_spec s found size changes told test new on is =
    let next : s.given < id = grind (arith, nat_tests) in
    none_linked size changes told (new next)
before_by false id added item_spec s found size changes told test new on is = on is

linked_before : (id : ℕ) (call : Call) (s : SubState) (found : Option ItemSpec) (item_spec : ItemSpec) (size : ℕ) (changes : List Change) (told : List Entry)
    → (s.given < id → told ≡ []) → (found ≡ Some item_spec → AreLinked size changes told) → spec_with id call s found ≡ Some item_spec
    → AreLinked size changes told
linked_before id (Add added current) s found item_spec size changes told new on is =
    before_by (s.given + 1 == id) id added item_spec s found size changes told refl new on is
linked_before id (Remove other) s found item_spec size changes told new on is = on is
linked_before id (SetMode other mode current) s found item_spec size changes told new on is = on is
linked_before id (Feed change) s found item_spec size changes told new on is = on is
linked_before id (Timer queued) s found item_spec size changes told new on is = on is
linked_before id (Publish now) s found item_spec size changes told new on is = on is
linked_before id (Acknowledge number) s found item_spec size changes told new on is = on is
linked_before id (Modify spec now) s found item_spec size changes told new on is = on is
linked_before id (SetEnabled enabled) s found item_spec size changes told new on is = on is
linked_before id Moved s found item_spec size changes told new on is = on is

-- ---- a message is sent

there_as : (item : ItemState) (found : Option ItemSpec) (added : ItemSpec) (known : List Change) (told : List Entry) → found ≡ Some added → IsMade found known item
    → AreLinked item.queue.size (of_item item.node known) told → AreLinked added.queue (of_item added.node known) told
there_as item found added known told is made h =
    let both : Some made.added ≡ Some added = sym made.was ∙ is in
    let same : made.added ≡ added = cc in
    subst (λ (n : ℕ). AreLinked n (of_item added.node known) told) (made.queue.size_is ∙ ap (λ (a : ItemSpec). a.queue) same)
    (subst (λ (n : ℕ). AreLinked item.queue.size (of_item n known) told) (made.node ∙ ap (λ (a : ItemSpec). a.node) same) h)

-- of an item that is there
there_by : Links → (spec : SubSpec) (start : ℕ) (first : List Change) (id : ℕ) (calls : List Call) → AreAllowed calls → GiveLast spec start first calls
    → (item : ItemState) → item_of id (state_of spec start calls).items ≡ Some item → (b : Bool) → is_disabled item.mode ≡ b
    → EndsIt b (stream_of spec start id calls) (era_in spec start id (offs_in calls) calls)
    → AreLinked item.queue.size (of_item item.node (known_after first calls)) (era_in spec start id (offs_in calls) calls)
there_by laws spec start first id calls allowed gives item is true off ends =
    none_linked item.queue.size (of_item item.node (known_after first calls)) (era_in spec start id (offs_in calls) calls) ends
there_by laws spec start first id calls allowed gives item is false on ends =
    middle_linked item.queue.size (of_item item.node (known_after first calls)) ends.0 (era_in spec start id (offs_in calls) calls) item.queue.entries
    (stream_of spec start id calls).given ends.1 (laws.linked spec start first calls id item allowed gives is on)

-- ---- any calls

abbrev IsLinkedEra : SubSpec → ℕ → List Change → ℕ → ℕ → List Call → Type 0
IsLinkedEra spec start first id x calls = (added : ItemSpec) → spec_of id spec start calls ≡ Some added
    → AreLinked added.queue (of_item added.node (known_after first calls)) (era_in spec start id x calls)

-- where a call tells nothing of the item
stays : Links → (spec : SubSpec) (start : ℕ) (first : List Change) (id x : ℕ) (call : Call) (earlier : List Call)
    → GiveLast spec start first earlier → IsLinkedEra spec start first id x earlier
    → era_in spec start id x (call ∷ earlier) ≡ era_in spec start id x earlier → IsLinkedEra spec start first id x (call ∷ earlier)
stays laws spec start first id x call earlier gives before same = λ added is.
    let s : SubState = state_of spec start earlier in
    let told : List Entry = era_in spec start id x earlier in
    subst (AreLinked added.queue (of_item added.node (known_after first (call ∷ earlier)))) (sym same)
    (known_linked call added.queue added.node (known_after first earlier) told
    (linked_before id call s (spec_of id spec start earlier) added added.queue (of_item added.node (known_after first earlier)) told
    ((stands laws.streams spec start first id earlier gives).new x) (before added) is))

other_era : (b : Bool) (told more : List Entry) → b ≡ false → told ++ (if b then more else []) ≡ told
other_era true told more is = absurd cc
other_era false told more is = append-nil told

sends_by : Links → Made → (spec : SubSpec) (start : ℕ) (first : List Change) (id x : ℕ) (now : ℤ) (earlier : List Call)
    → AreAllowed (Publish now ∷ earlier) → GiveLast spec start first (Publish now ∷ earlier) → IsLinkedEra spec start first id x earlier
    → (found : Option ItemState) → item_of id (state_of spec start (Publish now ∷ earlier)).items ≡ found
    → (b : Bool) → (offs_in earlier == x) ≡ b → IsLinkedEra spec start first id x (Publish now ∷ earlier)
sends_by laws made spec start first id x now earlier allowed gives before found is false other =
    stays laws spec start first id x (Publish now) earlier gives.1 before
    (other_era (offs_in earlier == x) (era_in spec start id x earlier) (entries_of id (entries_told (state_of spec start earlier))) other)
sends_by laws made spec start first id x now earlier allowed gives before None is true same =
    let s : SubState = state_of spec start earlier in
    let none : entries_of id (entries_told s) ≡ [] = nothing_told id s (none_in id s (sym (ap (item_of id) (published_items now s)) ∙ is)) in
    stays laws spec start first id x (Publish now) earlier gives.1 before
    (ap (λ (l : List Entry). era_with x (offs_in earlier) (era_in spec start id x earlier) l) none ∙ era_none x (offs_in earlier) (era_in spec start id x earlier))
sends_by laws made spec start first id x now earlier allowed gives before (Some item) is true same = λ added own.
    let calls : List Call = Publish now ∷ earlier in
    let here : offs_in calls ≡ x = grind (arith, nat_tests) in
    subst (λ (k : ℕ). AreLinked added.queue (of_item added.node (known_after first calls)) (era_in spec start id k calls)) here
    (there_as item (spec_of id spec start calls) added (known_after first calls) (era_in spec start id (offs_in calls) calls) own
    (made.made spec start first id calls gives item is)
    (there_by laws spec start first id calls allowed gives item is (is_disabled item.mode) refl
    ((stands laws.streams spec start first id calls gives).own item is)))

linked_step : Links → Made → (spec : SubSpec) (start : ℕ) (first : List Change) (id x : ℕ) (call : Call) (earlier : List Call)
    → AreAllowed (call ∷ earlier) → GiveLast spec start first (call ∷ earlier) → IsLinkedEra spec start first id x earlier
    → IsLinkedEra spec start first id x (call ∷ earlier)
linked_step laws made spec start first id x (Publish now) earlier allowed gives before =
    sends_by laws made spec start first id x now earlier allowed gives before (item_of id (state_of spec start (Publish now ∷ earlier)).items) refl
    (offs_in earlier == x) refl
linked_step laws made spec start first id x (Add added current) earlier allowed gives before =
    stays laws spec start first id x (Add added current) earlier gives.1 before (era_none x (offs_in earlier) (era_in spec start id x earlier))
linked_step laws made spec start first id x (Remove other) earlier allowed gives before =
    stays laws spec start first id x (Remove other) earlier gives.1 before (era_none x (offs_in earlier) (era_in spec start id x earlier))
linked_step laws made spec start first id x (SetMode other mode current) earlier allowed gives before =
    stays laws spec start first id x (SetMode other mode current) earlier gives.1 before (era_none x (offs_in earlier) (era_in spec start id x earlier))
linked_step laws made spec start first id x (Feed change) earlier allowed gives before =
    stays laws spec start first id x (Feed change) earlier gives.1 before (era_none x (offs_in earlier) (era_in spec start id x earlier))
linked_step laws made spec start first id x (Timer queued) earlier allowed gives before =
    stays laws spec start first id x (Timer queued) earlier gives.1 before (era_none x (offs_in earlier) (era_in spec start id x earlier))
linked_step laws made spec start first id x (Acknowledge number) earlier allowed gives before =
    stays laws spec start first id x (Acknowledge number) earlier gives.1 before (era_none x (offs_in earlier) (era_in spec start id x earlier))
linked_step laws made spec start first id x (Modify spec_now now) earlier allowed gives before =
    stays laws spec start first id x (Modify spec_now now) earlier gives.1 before (era_none x (offs_in earlier) (era_in spec start id x earlier))
linked_step laws made spec start first id x (SetEnabled enabled) earlier allowed gives before =
    stays laws spec start first id x (SetEnabled enabled) earlier gives.1 before (era_none x (offs_in earlier) (era_in spec start id x earlier))
linked_step laws made spec start first id x Moved earlier allowed gives before =
    stays laws spec start first id x Moved earlier gives.1 before (era_none x (offs_in earlier) (era_in spec start id x earlier))

linked_in : Links → Made → (spec : SubSpec) (start : ℕ) (first : List Change) (id x : ℕ) (calls : List Call) → AreAllowed calls
    → GiveLast spec start first calls → IsLinkedEra spec start first id x calls
linked_in laws made spec start first id x [] allowed gives = λ added is. tt
linked_in laws made spec start first id x (call ∷ earlier) allowed gives =
    linked_step laws made spec start first id x call earlier allowed gives
    (linked_in laws made spec start first id x earlier allowed.1 gives.1)

pub linked_of : Links → Made → (spec : SubSpec) (start : ℕ) (first : List Change) (calls : List Call) (id x : ℕ) (added : ItemSpec) → AreAllowed calls
    → GiveLast spec start first calls → spec_of id spec start calls ≡ Some added
    → AreLinked added.queue (of_item added.node (known_after first calls))
    (entries_of id (joined (of_era x (eras_told spec start calls) (messages_told spec start calls))))
linked_of laws made spec start first calls id x added allowed gives is =
    subst (AreLinked added.queue (of_item added.node (known_after first calls))) (sym (era_told spec start id x calls))
    (linked_in laws made spec start first id x calls allowed gives added is)
