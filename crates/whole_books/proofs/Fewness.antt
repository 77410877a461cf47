-- What a subscription tells of its items is no more than the changes of a source, once for each item.
use Rattle.std.proofs.Common.{◌≡◌, ◌≤◌, ◌<◌, ◌+◌, ◌*◌, ◌==◌, ◌⊎◌, ℕ, zero, suc, List, [], ◌∷◌, ◌++◌, map, filter, length, Bool, true, false, cond, Option, Some, None, refl, sym, ap, subst, ◌∙◌, arith, inl, inr, slice_get}
use Rattle.std.specs.Prelude.{reverse}
use Rattle.std.proofs.Math.Nat.{suc-mul}
use Rattle.std.proofs.lemmas.Bool.Decides.{nat_tests}
use Rattle.std.proofs.lemmas.List.{length-append, length-map}
use Rattle.std.proofs.lemmas.Option.{slice_get_within}
use Rattle.ua_base.specs.declared.modes.Timestamps.{Timestamps}
use Rattle.set_model.specs.declared.source.Change.{Change}
use Rattle.set_model.specs.Source.{IsSource, Rises, of_item, stamp_of}
use Rattle.delivery_log.proofs.Places.{place_from_stamp}
use Rattle.delivery_log.proofs.Stamps.{apart}
use Rattle.item_queue.specs.declared.queue.Entry.{Entry}
use Rattle.ua_sub_msgs.specs.declared.item.MonitoredItemCreateRequest.{MonitoredItemCreateRequest}
use Rattle.ua_sub_msgs.specs.declared.notification.NotificationMessage.{NotificationMessage}
use Rattle.subscription.specs.declared.spec.ItemSpec.{ItemSpec}
use Rattle.subscription.specs.declared.spec.SubSpec.{SubSpec}
use Rattle.subscription.specs.History.{Call}
use Rattle.subscription.specs.Items.{Told}
use Rattle.subscription.specs.Linked.{AreLinked, AreLinkedAfter, IsLinked}
use Rattle.subscription.specs.Streams.{entries_of}
use Rattle.server_rules.specs.Said.{Did}
use Rattle.server_laws.specs.Bounded.{items_made}
use Rattle.server_laws.specs.Lives.{messages_sent}
use Rattle.server_laws.proofs.Waking.{filter_length}
use Rattle.server_chains.specs.Chains.{AreTold, EachTold, IsChangeOf, IsOfItem, TellsChains, joined, messages_told, spec_of}
use Rattle.server_makings.specs.Asked.{AreMadeOf, AskedItem, asked_with}
use Rattle.link_rules.specs.declared.config.LinkConfig.{LinkConfig}
use Rattle.link_rules.specs.Requests.{item_request, item_requests}
use Rattle.life_books.specs.Lives.{AreOfSource}

-- what the crate of the makings says of ids
pub record Places : Type 0 where
  pub places : (spec : SubSpec) (start : ℕ) (calls : List Call) (place : ℕ)
      → spec_of (place + 1) spec start calls ≡ slice_get (reverse (items_made calls)) place
  pub none : (spec : SubSpec) (start : ℕ) (calls : List Call) → spec_of 0 spec start calls ≡ None

-- ---- messages and entries

-- each message has an entry at least
told_joined : (messages : List NotificationMessage) (told : List (List Told)) → AreTold messages told → length told ≤ length (joined told)
told_joined [] [] h = omega arith
told_joined [] (told ∷ more) h = absurd h
told_joined (message ∷ messages) [] h = absurd h
told_joined (message ∷ messages) ([] ∷ more) h = absurd h
told_joined (message ∷ messages) ((one ∷ told) ∷ more) h =
    let rest : length more ≤ length (joined more) = told_joined messages more h.1 in
    let long : length (told ++ joined more) ≡ length told + length (joined more) = length-append told (joined more) in
    omega (arith, rest, long)

-- ---- the entries of each id

-- how many entries the ids from 1 on have, so many of them
abbrev entries_up_to : ℕ → List Told → ℕ
entries_up_to zero told = 0
entries_up_to (suc count) told = entries_up_to count told + length (entries_of (suc count) told)

record IsAmong (count : ℕ) (one : Told) : Type 0 where
  low : 1 ≤ one.id
  high : one.id ≤ count

not_fewer : (b : Bool) (one : Told) (told : List Told)
    → length (map (λ (t : Told). t.entry) told) ≤ length (map (λ (t : Told). t.entry) (cond b (one ∷ told) told))
not_fewer true one told = omega arith
not_fewer false one told = omega arith

none_lost : (count : ℕ) (one : Told) (told : List Told) → entries_up_to count told ≤ entries_up_to count (one ∷ told)
none_lost zero one told = omega arith
none_lost (suc count) one told =
    let before : entries_up_to count told ≤ entries_up_to count (one ∷ told) = none_lost count one told in
    let here : length (entries_of (suc count) told) ≤ length (entries_of (suc count) (one ∷ told)) =
    not_fewer (one.id == suc count) one (filter (λ (t : Told). t.id == suc count) told) in
    omega (arith, before, here)

-- an entry of one of these ids counts
one_more : (count : ℕ) (one : Told) (told : List Told) → 1 ≤ one.id → one.id ≤ count
    → suc (entries_up_to count told) ≤ entries_up_to count (one ∷ told)
one_more zero one told low high = absurd (omega (arith, low, high))
one_more (suc count) one told low high = by_test (one.id == suc count) refl (one_more count one told low)
  where
    rest : List Told
    rest = filter (λ (t : Told). t.id == suc count) told

    by_test : (b : Bool) → (one.id == suc count) ≡ b → (one.id ≤ count → suc (entries_up_to count told) ≤ entries_up_to count (one ∷ told))
        → suc (entries_up_to count told + length (map (λ (t : Told). t.entry) rest))
        ≤ entries_up_to count (one ∷ told) + length (map (λ (t : Told). t.entry) (cond (one.id == suc count) (one ∷ rest) rest))
    by_test true test more =
        let before : entries_up_to count told ≤ entries_up_to count (one ∷ told) = none_lost count one told in
        let here : length (map (λ (t : Told). t.entry) (cond (one.id == suc count) (one ∷ rest) rest)) ≡ suc (length (map (λ (t : Told). t.entry) rest)) =
        ap (λ b. length (map (λ (t : Told). t.entry) (cond b (one ∷ rest) rest))) test in
        omega (arith, before, here)
    by_test false test more =
        let apart : one.id ≡ suc count → ⊥ = grind (arith, nat_tests) in
        let before : suc (entries_up_to count told) ≤ entries_up_to count (one ∷ told) = more (omega (arith, high, apart)) in
        let here : length (map (λ (t : Told). t.entry) (cond (one.id == suc count) (one ∷ rest) rest)) ≡ length (map (λ (t : Told). t.entry) rest) =
        ap (λ b. length (map (λ (t : Told). t.entry) (cond b (one ∷ rest) rest))) test in
        omega (arith, before, here)

-- entries of these ids alone are all counted
all_counted : (count : ℕ) (told : List Told) → EachTold (IsAmong count) told → length told ≤ entries_up_to count told
all_counted count [] each = omega arith
all_counted count (one ∷ told) each =
    let rest : length told ≤ entries_up_to count told = all_counted count told each.1 in
    let more : suc (entries_up_to count told) ≤ entries_up_to count (one ∷ told) = one_more count one told each.0.low each.0.high in
    omega (arith, rest, more)

-- so many ids have so many times what each has at most
at_most : (count : ℕ) (told : List Told) (most : ℕ) → ((id : ℕ) → length (entries_of id told) ≤ most) → entries_up_to count told ≤ count * most
at_most zero told most few = omega arith
at_most (suc count) told most few =
    let before : entries_up_to count told ≤ count * most = at_most count told most few in
    let here : length (entries_of (suc count) told) ≤ most = few (suc count) in
    let product : suc count * most ≡ count * most + most = suc-mul count most in
    omega (arith, before, here, product)

-- ---- linked entries

-- a change of a rising list has one place
same_place : (changes : List Change) (place other : ℕ) (change : Change) → Rises changes → slice_get changes place ≡ Some change
    → slice_get changes other ≡ Some change → place ≡ other
same_place changes place other change rises one two =
    let itself = apart (stamp_of change) in
    let low : place ≤ other = place_from_stamp changes place other change change rises itself one two in
    let high : other ≤ place = place_from_stamp changes other place change change rises itself two one in
    omega (arith, low, high)

after_fit : (size : ℕ) (changes : List Change) (former : Entry) (entries : List Entry) (place : ℕ) → Rises changes
    → slice_get changes place ≡ Some former.change → AreLinkedAfter size changes former entries → place + length entries < length changes
after_fit size changes former [] place rises here linked =
    let within : place < length changes = slice_get_within changes place former.change here in
    omega (arith, within)
after_fit size changes former (entry ∷ entries) place rises here linked =
    let link : IsLinked size changes former entry = linked.0 in
    let same : place ≡ link.place = same_place changes place link.place former.change rises here link.former_at in
    let up : link.place < link.next_place = link.rises in
    let more : link.next_place + length entries < length changes =
    after_fit size changes entry entries link.next_place rises link.later_at linked.1 in
    omega (arith, same, up, more)

-- linked entries are no more than the changes, where there are any
linked_fit : (size : ℕ) (changes : List Change) (entries : List Entry) (most : ℕ) → Rises changes → 1 ≤ most → length changes ≤ most
    → AreLinked size changes entries → length entries ≤ most
linked_fit size changes [] most rises some few linked = omega arith
linked_fit size changes (entry ∷ []) most rises some few linked = omega (arith, some)
linked_fit size changes (entry ∷ next ∷ entries) most rises some few linked =
    let link : IsLinked size changes entry next = linked.0 in
    let fit : link.place + suc (length entries) < length changes =
    after_fit size changes entry (next ∷ entries) link.place rises link.former_at linked in
    omega (arith, few, fit)

-- ---- the entries of an item

-- where something was told, the source has a change
some_change : (known source : List Change) (told : List Told) → ((item : ℕ) → AreOfSource known source item) → EachTold (IsChangeOf known) told
    → 1 ≤ length told → 1 ≤ length source
some_change known source [] among each some = absurd (omega (arith, some))
some_change known source (one ∷ told) among each some =
    let is : IsChangeOf known one = each.0 in
    let there = (among one.entry.change.item).there is.place one.entry.change is.«at» in
    let within : there.0 < length (of_item one.entry.change.item source) =
    slice_get_within (of_item one.entry.change.item source) there.0 one.entry.change there.1 in
    let few : length (of_item one.entry.change.item source) ≤ length source =
    filter_length (λ (c : Change). c.item == one.entry.change.item) source in
    omega (arith, within, few)

-- nothing is told under an id that no item has
none_of_it : (spec : SubSpec) (start : ℕ) (calls : List Call) (id : ℕ) (told : List Told) → spec_of id spec start calls ≡ None
    → EachTold (IsOfItem spec start calls) told → length (entries_of id told) ≡ 0
none_of_it spec start calls id [] none each = refl
none_of_it spec start calls id (one ∷ told) none each = by_test (one.id == id) refl (none_of_it spec start calls id told none each.1)
  where
    rest : List Told
    rest = filter (λ (t : Told). t.id == id) told

    by_test : (b : Bool) → (one.id == id) ≡ b → length (map (λ (t : Told). t.entry) rest) ≡ 0
        → length (map (λ (t : Told). t.entry) (cond b (one ∷ rest) rest)) ≡ 0
    by_test true test more =
        let is : IsOfItem spec start calls one = each.0 in
        let same : one.id ≡ id = grind (arith, nat_tests) in
        let bad : None ≡ Some is.added = sym none ∙ ap (λ n. spec_of n spec start calls) (sym same) ∙ is.was in
        absurd cc
    by_test false test more = more

-- an item has no more entries than the source has changes, where it has any
few_of_it : (id : ℕ) (known source : List Change) (did : Did) (tells : TellsChains id known did) → IsSource source
    → ((item : ℕ) → AreOfSource known source item) → 1 ≤ length source → (item : ℕ)
    → length (entries_of item (joined (messages_told tells.spec tells.start tells.calls))) ≤ length source
few_of_it id known source did tells rises among some item = by_spec (spec_of item tells.spec tells.start tells.calls) refl
  where
    told : List Told
    told = joined (messages_told tells.spec tells.start tells.calls)

    by_spec : (found : Option ItemSpec) → spec_of item tells.spec tells.start tells.calls ≡ found → length (entries_of item told) ≤ length source
    by_spec None is =
        let none : length (entries_of item told) ≡ 0 = none_of_it tells.spec tells.start tells.calls item told is tells.items in
        omega (arith, none)
    by_spec (Some added) is =
        let few : length (of_item added.node source) ≤ length source = filter_length (λ (c : Change). c.item == added.node) source in
        linked_fit added.queue (of_item added.node source) (entries_of item told) (length source) (rises.rises added.node) some few
        ((among added.node).linked added.queue (entries_of item told) (tells.linked item added is))

-- ---- the ids

made_few : (items : ℕ) (made : List ItemSpec) (asked : List AskedItem) → AreMadeOf items made asked → length made ≤ length asked
made_few items [] asked h = omega arith
made_few items (spec ∷ made) [] h = absurd h
made_few items (spec ∷ made) (one ∷ asked) (inl h) =
    let rest : length made ≤ length asked = made_few items made asked h.1 in
    omega (arith, rest)
made_few items (spec ∷ made) (one ∷ asked) (inr h) =
    let rest : length (spec ∷ made) ≤ length asked = made_few items (spec ∷ made) asked h in
    omega (arith, rest)

requests_count : (link : LinkConfig) (count : ℕ) → length (item_requests link count) ≡ count
requests_count link zero = refl
requests_count link (suc count) =
    let long = length-append (item_requests link count) (item_request link (suc count) ∷ []) in
    let before : length (item_requests link count) ≡ count = requests_count link count in
    omega (arith, long, before)

made_within : (items : ℕ) (made : List ItemSpec) (link : LinkConfig) (count : ℕ) (stamps : Timestamps)
    → AreMadeOf items made (asked_with (Some stamps) (item_requests link count)) → length made ≤ count
made_within items made link count stamps h =
    let named : MonitoredItemCreateRequest → AskedItem = λ (item : MonitoredItemCreateRequest). record { stamps = stamps; item = item } in
    let few : length made ≤ length (map named (item_requests link count)) = made_few items made (asked_with (Some stamps) (item_requests link count)) h in
    let long : length (map named (item_requests link count)) ≡ length (item_requests link count) = length-map (item_requests link count) named in
    let all : length (item_requests link count) ≡ count = requests_count link count in
    omega (arith, few, long, all)

among_made : Places → (spec : SubSpec) (start : ℕ) (calls : List Call) (count id : ℕ) (added : ItemSpec) → length (reverse (items_made calls)) ≤ count
    → spec_of id spec start calls ≡ Some added → (1 ≤ id) × (id ≤ count)
among_made laws spec start calls count zero added few was = let bad : None ≡ Some added = sym (laws.none spec start calls) ∙ was in absurd cc
among_made laws spec start calls count (suc place) added few was =
    let same : suc place ≡ place + 1 = omega arith in
    let here : slice_get (reverse (items_made calls)) place ≡ Some added =
    sym (laws.places spec start calls place) ∙ subst (λ (n : ℕ). spec_of n spec start calls ≡ Some added) same was in
    let within : place < length (reverse (items_made calls)) = slice_get_within (reverse (items_made calls)) place added here in
    let low : 1 ≤ suc place = omega arith in
    let high : suc place ≤ count = omega (arith, within, few) in
    (low, high)

each_among : Places → (spec : SubSpec) (start : ℕ) (calls : List Call) (count : ℕ) (told : List Told) → length (reverse (items_made calls)) ≤ count
    → EachTold (IsOfItem spec start calls) told → EachTold (IsAmong count) told
each_among laws spec start calls count [] few each = tt
each_among laws spec start calls count (one ∷ told) few each =
    let is : IsOfItem spec start calls one = each.0 in
    let here = among_made laws spec start calls count one.id is.added few is.was in
    (record { low = here.0; high = here.1 }, each_among laws spec start calls count told few each.1)

-- ---- all

-- the messages of a subscription whose items a link asked for are no more than the changes of the source, for each item
pub few_told : Places → (id count items : ℕ) (known source : List Change) (did : Did) (link : LinkConfig) (stamps : Timestamps)
    (tells : TellsChains id known did)
    → AreMadeOf items (reverse (items_made tells.calls)) (asked_with (Some stamps) (item_requests link count))
    → IsSource source → ((item : ℕ) → AreOfSource known source item)
    → length (messages_told tells.spec tells.start tells.calls) ≤ count * length source
few_told laws id count items known source did link stamps tells made rises among =
    by_told (length told) refl
  where
    told : List Told
    told = joined (messages_told tells.spec tells.start tells.calls)

    by_told : (n : ℕ) → length told ≡ n → length (messages_told tells.spec tells.start tells.calls) ≤ count * length source
    by_told zero is =
        let fewer : length (messages_told tells.spec tells.start tells.calls) ≤ length told =
        told_joined (messages_sent tells.spec tells.start tells.calls) (messages_told tells.spec tells.start tells.calls) tells.told in
        omega (arith, fewer, is)
    by_told (suc n) is =
        let fewer : length (messages_told tells.spec tells.start tells.calls) ≤ length told =
        told_joined (messages_sent tells.spec tells.start tells.calls) (messages_told tells.spec tells.start tells.calls) tells.told in
        let within = made_within items (reverse (items_made tells.calls)) link count stamps made in
        let counted : length told ≤ entries_up_to count told =
        all_counted count told (each_among laws tells.spec tells.start tells.calls count told within tells.items) in
        let some : 1 ≤ length source = some_change known source told among tells.changes (omega (arith, is)) in
        let most : entries_up_to count told ≤ count * length source =
        at_most count told (length source) (few_of_it id known source did tells rises among some) in
        omega (arith, fewer, counted, most)

of_nothing : (items : ℕ) (made : List ItemSpec) (asked : List AskedItem) → AreMadeOf items made [] → AreMadeOf items made asked
of_nothing items [] asked h = tt
of_nothing items (spec ∷ made) asked h = absurd h

-- also where nothing was asked for
pub few_where_asked : Places → (id count items : ℕ) (known source : List Change) (did : Did) (link : LinkConfig) (stamps : Timestamps)
    (tells : TellsChains id known did) (asked : List AskedItem)
    → AreMadeOf items (reverse (items_made tells.calls)) asked
    → (asked ≡ []) ⊎ (asked ≡ asked_with (Some stamps) (item_requests link count))
    → IsSource source → ((item : ℕ) → AreOfSource known source item)
    → length (messages_told tells.spec tells.start tells.calls) ≤ count * length source
few_where_asked laws id count items known source did link stamps tells asked made (inl none) rises among =
    few_told laws id count items known source did link stamps tells
    (of_nothing items (reverse (items_made tells.calls)) (asked_with (Some stamps) (item_requests link count)) (subst (AreMadeOf items (reverse (items_made tells.calls))) none made))
    rises among
few_where_asked laws id count items known source did link stamps tells asked made (inr all) rises among =
    few_told laws id count items known source did link stamps tells (subst (AreMadeOf items (reverse (items_made tells.calls))) all made) rises among
