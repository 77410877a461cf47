-- The entries under a handle, in a life whose items a link asked for.
use Rattle.std.proofs.Common.{◌≡◌, ◌≤◌, ◌+◌, ◌==◌, ℕ, zero, suc, List, [], ◌∷◌, ◌⊎◌, map, filter, Bool, true, false, cond, Some, None, refl, sym, ap, subst, ◌∙◌, arith, inl, inr, slice_get}
use Rattle.std.specs.Prelude.{reverse}
use Rattle.std.proofs.lemmas.Bool.Decides.{nat_tests}
use Rattle.std.proofs.lemmas.Option.{same_Some}
use Rattle.ua_base.specs.declared.modes.Timestamps.{Timestamps}
use Rattle.set_model.specs.declared.source.Change.{Change}
use Rattle.set_model.specs.Source.{IsSource, of_item}
use Rattle.item_queue.specs.declared.queue.Entry.{Entry}
use Rattle.delivery_log.specs.WellFed.{IsFedEntry}
use Rattle.ua_sub_msgs.specs.declared.notification.MonitoredItemNotification.{MonitoredItemNotification}
use Rattle.subscription.specs.declared.spec.ItemSpec.{ItemSpec}
use Rattle.subscription.specs.declared.spec.SubSpec.{SubSpec}
use Rattle.subscription.specs.History.{Call}
use Rattle.subscription.specs.Items.{Told}
use Rattle.subscription.specs.Linked.{AreLinked}
use Rattle.subscription.specs.Message.{has_source}
use Rattle.subscription.specs.Streams.{entries_of}
use Rattle.server_rules.specs.Said.{Did}
use Rattle.server_laws.specs.Bounded.{items_made}
use Rattle.server_laws.specs.Lives.{messages_sent}
use Rattle.server_chains.specs.Chains.{EachTold, IsChangeOf, IsOfItem, TellsChains, messages_told, spec_of}
use Rattle.server_chains.specs.Chains as chains
use Rattle.server_makings.specs.Asked.{AreMadeOf, AskedItem, asked_with}
use Rattle.link_rules.specs.declared.config.LinkConfig.{LinkConfig}
use Rattle.link_rules.specs.Requests.{item_requests}
use Rattle.arriving_entries.specs.Arrivals.{AllLinked, arrival_of}
use Rattle.arriving_entries.proofs.Arriving.{pico_there}
use Rattle.link_following.specs.Book.{AreLinkedValues, joined, values_of}
use Rattle.life_books.specs.Books.{AreFed, AreOwnItems, AreValuesOf, IsOwnItem, IsTimed, IsUnder}
use Rattle.life_books.specs.Lives.{AreOfSource, IsBookOf}
use Rattle.life_books.proofs.Bringing.{Brings, brought_at, numbered_at, values_are, values_from}

-- ---- the item of a handle

record IsMadeFor (handle : ℕ) (specs : List ItemSpec) : Type 0 where
  place : ℕ
  spec : ItemSpec
  at_place : slice_get specs place ≡ Some spec
  own : spec.handle ≡ handle

abbrev NoneFor : ℕ → List ItemSpec → Type 0
NoneFor handle specs = (place : ℕ) (spec : ItemSpec) → slice_get specs place ≡ Some spec → spec.handle ≡ handle → ⊥

none_more : (handle : ℕ) (first : ItemSpec) (specs : List ItemSpec) → (first.handle == handle) ≡ false → NoneFor handle specs → NoneFor handle (first ∷ specs)
none_more handle first specs test none zero spec here own =
    let same : first.handle ≡ spec.handle = ap (λ (s : ItemSpec). s.handle) (same_Some first spec here) in
    grind (arith, nat_tests)
none_more handle first specs test none (suc place) spec here own = none place spec here own

found_for : (handle : ℕ) (specs : List ItemSpec) → IsMadeFor handle specs ⊎ NoneFor handle specs
found_for handle [] = inr (λ place spec here own. let bad : None ≡ Some spec = here in absurd cc)
found_for handle (first ∷ specs) = by_test (first.handle == handle) refl (found_for handle specs)
  where
    by_test : (b : Bool) → (first.handle == handle) ≡ b → IsMadeFor handle specs ⊎ NoneFor handle specs → IsMadeFor handle (first ∷ specs) ⊎ NoneFor handle (first ∷ specs)
    by_test true test more = inl (record { place = 0; spec = first; at_place = refl; own = grind (arith, nat_tests) })
    by_test false test (inl h) = inl (record { place = suc h.place; spec = h.spec; at_place = h.at_place; own = h.own })
    by_test false test (inr none) = inr (none_more handle first specs test none)

-- ---- items by their ids

-- what the crates below say
pub record Laws : Type 0 where
  pub places : (spec : SubSpec) (start : ℕ) (calls : List Call) (place : ℕ) → spec_of (place + 1) spec start calls ≡ slice_get (reverse (items_made calls)) place
  pub none : (spec : SubSpec) (start : ℕ) (calls : List Call) → spec_of 0 spec start calls ≡ None
  pub own : (items : ℕ) (config : LinkConfig) (count : ℕ) (stamps : Timestamps) (specs : List ItemSpec)
      → AreMadeOf items specs (asked_with (Some stamps) (item_requests config count)) → AreOwnItems config count stamps specs
  pub fed : (source : List Change) (item place : ℕ) (entry : Entry) → slice_get (of_item item source) place ≡ Some entry.change
      → IsFedEntry source item (arrival_of entry)
  pub linked : (source : List Change) (item size : ℕ) (entries : List Entry) → 2 ≤ size → AreLinked size (of_item item source) entries
      → AllLinked source item entries
  pub values : (source : List Change) (item id : ℕ) (told : List (List Told)) (values : List (List MonitoredItemNotification))
      → AreValuesOf values told → EachTold (IsUnder item id) (chains.joined told) → EachTold IsTimed (chains.joined told)
      → AllLinked source item (entries_of id (chains.joined told)) → AreFed source item (entries_of id (chains.joined told))
      → AreLinkedValues source item (values_of item (joined values))
  pub brings : Brings

record IsPlaced (id : ℕ) (specs : List ItemSpec) (spec : ItemSpec) : Type 0 where
  place : ℕ
  is : id ≡ place + 1
  at_place : slice_get specs place ≡ Some spec

placed : Laws → (spec : SubSpec) (start : ℕ) (calls : List Call) (id : ℕ) (added : ItemSpec) → spec_of id spec start calls ≡ Some added
    → IsPlaced id (reverse (items_made calls)) added
placed laws spec start calls zero added was = let bad : None ≡ Some added = sym (laws.none spec start calls) ∙ was in absurd cc
placed laws spec start calls (suc place) added was =
    let same : suc place ≡ place + 1 = omega arith in
    record {
      place = place;
      is = same;
      at_place = sym (laws.places spec start calls place) ∙ subst (λ (n : ℕ). spec_of n spec start calls ≡ Some added) same was;
    }

-- ---- each entry that is told

each_both : (P Q R : Told → Type 0) → ((one : Told) → P one → Q one → R one) → (told : List Told) → EachTold P told → EachTold Q told → EachTold R told
each_both P Q R f [] each also = tt
each_both P Q R f (one ∷ told) each also = (f one each.0 also.0, each_both P Q R f told each.1 also.1)

timed_so : (link : LinkConfig) (count : ℕ) (stamps : Timestamps) (known source : List Change) (spec : SubSpec) (start : ℕ) (calls : List Call) → Laws
    → AreOwnItems link count stamps (reverse (items_made calls)) → has_source stamps ≡ true → IsSource source → ((item : ℕ) → AreOfSource known source item)
    → (one : Told) → IsOfItem spec start calls one → IsChangeOf known one → IsTimed one
timed_so link count stamps known source spec start calls laws own timed rises of one item change =
    let at : IsPlaced one.id (reverse (items_made calls)) item.added = placed laws spec start calls one.id item.added item.was in
    let made : IsOwnItem link count stamps item.added = own.each at.place item.added at.at_place in
    let there = (of one.entry.change.item).there change.place one.entry.change change.«at» in
    record {
      timed = ap has_source (item.stamps ∙ made.timed) ∙ timed;
      pico = pico_there one.entry.change.item source there.0 one.entry.change rises.picos there.1;
    }

-- of an item, its entries are changes of the source
record IsFedUnder (source : List Change) (item id : ℕ) (one : Told) : Type 0 where
  fed : one.id ≡ id → IsFedEntry source item (arrival_of one.entry)

fed_by : (source : List Change) (item : ℕ) (b : Bool) (one : Told) (told : List Told) → (b ≡ true → IsFedEntry source item (arrival_of one.entry))
    → AreFed source item (map (λ (t : Told). t.entry) told) → AreFed source item (map (λ (t : Told). t.entry) (cond b (one ∷ told) told))
fed_by source item true one told here more = (here refl, more)
fed_by source item false one told here more = more

are_fed : (source : List Change) (item id : ℕ) (told : List Told) → EachTold (IsFedUnder source item id) told → AreFed source item (entries_of id told)
are_fed source item id [] each = tt
are_fed source item id (one ∷ told) each =
    fed_by source item (one.id == id) one (filter (λ (t : Told). t.id == id) told)
    (λ test. let same : one.id ≡ id = grind (arith, nat_tests) in each.0.fed same)
    (are_fed source item id told each.1)

none_by : (b : Bool) (one : Told) (told : List Told) → (b ≡ true → ⊥) → map (λ (t : Told). t.entry) told ≡ []
    → map (λ (t : Told). t.entry) (cond b (one ∷ told) told) ≡ []
none_by true one told not_here more = absurd (not_here refl)
none_by false one told not_here more = more

record IsApart (id : ℕ) (one : Told) : Type 0 where
  other : one.id ≡ id → ⊥

are_none : (id : ℕ) (told : List Told) → EachTold (IsApart id) told → entries_of id told ≡ []
are_none id [] each = refl
are_none id (one ∷ told) each =
    none_by (one.id == id) one (filter (λ (t : Told). t.id == id) told)
    (λ test. let same : one.id ≡ id = grind (arith, nat_tests) in each.0.other same)
    (are_none id told each.1)

-- ---- an item that was made for a handle

-- the entry of its id is of it
same_spec : (specs : List ItemSpec) (id place : ℕ) (added spec : ItemSpec) → IsPlaced id specs added → slice_get specs place ≡ Some spec → id ≡ place + 1 → added ≡ spec
same_spec specs id place added spec h here is =
    let was : id ≡ h.place + 1 = h.is in
    let same : h.place ≡ place = omega (arith, was, is) in
    same_Some added spec (sym h.at_place ∙ ap (slice_get specs) same ∙ here)

under_so : (link : LinkConfig) (count : ℕ) (stamps : Timestamps) (spec : SubSpec) (start : ℕ) (calls : List Call) (item : ℕ) → Laws
    → AreOwnItems link count stamps (reverse (items_made calls)) → (h : IsMadeFor item (reverse (items_made calls)))
    → (one : Told) → IsOfItem spec start calls one → IsUnder item (h.place + 1) one
under_so link count stamps spec start calls item laws own h one of =
    let at : IsPlaced one.id (reverse (items_made calls)) of.added = placed laws spec start calls one.id of.added of.was in
    record {
      there = λ is. at.is ∙ ap (λ (n : ℕ). n + 1) (own.apart at.place h.place of.added h.spec at.at_place h.at_place (sym of.handle ∙ is ∙ sym h.own));
      alone = λ is. of.handle ∙ ap (λ (s : ItemSpec). s.handle) (same_spec (reverse (items_made calls)) one.id h.place of.added h.spec at h.at_place is) ∙ h.own;
    }

fed_so : (link : LinkConfig) (count : ℕ) (stamps : Timestamps) (known source : List Change) (spec : SubSpec) (start : ℕ) (calls : List Call) (item : ℕ) → Laws
    → AreOwnItems link count stamps (reverse (items_made calls)) → ((item : ℕ) → AreOfSource known source item) → (h : IsMadeFor item (reverse (items_made calls)))
    → (one : Told) → IsOfItem spec start calls one → IsChangeOf known one → IsFedUnder source item (h.place + 1) one
fed_so link count stamps known source spec start calls item laws own among h one of change =
    let at : IsPlaced one.id (reverse (items_made calls)) of.added = placed laws spec start calls one.id of.added of.was in
    let made : IsOwnItem link count stamps h.spec = own.each h.place h.spec h.at_place in
    let there = (among one.entry.change.item).there change.place one.entry.change change.«at» in
    record {
      fed = λ is.
          let node : one.entry.change.item ≡ item = of.node
          ∙ ap (λ (s : ItemSpec). s.node) (same_spec (reverse (items_made calls)) one.id h.place of.added h.spec at h.at_place is) ∙ made.node ∙ h.own in
          subst (λ (n : ℕ). IsFedEntry source n (arrival_of one.entry)) node (laws.fed source one.entry.change.item there.0 one.entry there.1);
    }

-- ---- no item was made for it: then none has the id 0

not_under : (spec : SubSpec) (start : ℕ) (calls : List Call) (item : ℕ) → Laws → NoneFor item (reverse (items_made calls))
    → (one : Told) → IsOfItem spec start calls one → IsUnder item 0 one
not_under spec start calls item laws none one of =
    let at : IsPlaced one.id (reverse (items_made calls)) of.added = placed laws spec start calls one.id of.added of.was in
    let some : one.id ≡ at.place + 1 = at.is in
    record {
      there = λ is. absurd (none at.place of.added at.at_place (sym of.handle ∙ is));
      alone = λ is. absurd (omega (arith, is, some));
    }

not_zero : (spec : SubSpec) (start : ℕ) (calls : List Call) → Laws → (one : Told) → IsOfItem spec start calls one → IsApart 0 one
not_zero spec start calls laws one of =
    let at : IsPlaced one.id (reverse (items_made calls)) of.added = placed laws spec start calls one.id of.added of.was in
    let some : one.id ≡ at.place + 1 = at.is in
    record { other = λ is. omega (arith, is, some) }

-- ---- all of them

each_then : (P Q : Told → Type 0) → ((one : Told) → P one → Q one) → (told : List Told) → EachTold P told → EachTold Q told
each_then P Q f [] each = tt
each_then P Q f (one ∷ told) each = (f one each.0, each_then P Q f told each.1)

linked_by : Laws → (id : ℕ) (known source : List Change) (did : Did) (link : LinkConfig) (count : ℕ) (stamps : Timestamps) (tells : TellsChains id known did)
    → AreOwnItems link count stamps (reverse (items_made tells.calls)) → 2 ≤ link.queue → ((item : ℕ) → AreOfSource known source item)
    → (book : List (List MonitoredItemNotification)) → AreValuesOf book (messages_told tells.spec tells.start tells.calls)
    → EachTold IsTimed (chains.joined (messages_told tells.spec tells.start tells.calls))
    → (item : ℕ) → IsMadeFor item (reverse (items_made tells.calls)) ⊎ NoneFor item (reverse (items_made tells.calls))
    → AreLinkedValues source item (values_of item (joined book))
linked_by laws id known source did link count stamps tells own wide among book are timed item (inl h) =
    let told : List (List Told) = messages_told tells.spec tells.start tells.calls in
    let entries : List Entry = entries_of (h.place + 1) (chains.joined told) in
    let made : IsOwnItem link count stamps h.spec = own.each h.place h.spec h.at_place in
    let was : spec_of (h.place + 1) tells.spec tells.start tells.calls ≡ Some h.spec = laws.places tells.spec tells.start tells.calls h.place ∙ h.at_place in
    let links : AreLinked h.spec.queue (of_item item known) entries =
    subst (λ (n : ℕ). AreLinked h.spec.queue (of_item n known) entries) (made.node ∙ h.own) (tells.linked (h.place + 1) h.spec was) in
    laws.values source item (h.place + 1) told book are
    (each_then (IsOfItem tells.spec tells.start tells.calls) (IsUnder item (h.place + 1)) (under_so link count stamps tells.spec tells.start tells.calls item laws own h)
    (chains.joined told) tells.items)
    timed
    (laws.linked source item h.spec.queue entries (made.wide wide) ((among item).linked h.spec.queue entries links))
    (are_fed source item (h.place + 1) (chains.joined told)
    (each_both (IsOfItem tells.spec tells.start tells.calls) (IsChangeOf known) (IsFedUnder source item (h.place + 1))
    (fed_so link count stamps known source tells.spec tells.start tells.calls item laws own among h) (chains.joined told) tells.items tells.changes))
linked_by laws id known source did link count stamps tells own wide among book are timed item (inr none) =
    let told : List (List Told) = messages_told tells.spec tells.start tells.calls in
    let empty : entries_of 0 (chains.joined told) ≡ [] =
    are_none 0 (chains.joined told) (each_then (IsOfItem tells.spec tells.start tells.calls) (IsApart 0) (not_zero tells.spec tells.start tells.calls laws)
    (chains.joined told) tells.items) in
    laws.values source item 0 told book are
    (each_then (IsOfItem tells.spec tells.start tells.calls) (IsUnder item 0) (not_under tells.spec tells.start tells.calls item laws none) (chains.joined told) tells.items)
    timed (subst (AllLinked source item) (sym empty) tt) (subst (AreFed source item) (sym empty) tt)

pub book_of : Laws → (id : ℕ) (known source : List Change) (did : Did) (items : ℕ) (link : LinkConfig) (count : ℕ) (stamps : Timestamps) (tells : TellsChains id known did)
    → AreMadeOf items (reverse (items_made tells.calls)) (asked_with (Some stamps) (item_requests link count))
    → has_source stamps ≡ true → 2 ≤ link.queue → IsSource source → ((item : ℕ) → AreOfSource known source item)
    → (book : List (List MonitoredItemNotification))
    × IsBookOf source (messages_sent tells.spec tells.start tells.calls) (messages_told tells.spec tells.start tells.calls) book
book_of laws id known source did items link count stamps tells made timed wide rises among =
    let own : AreOwnItems link count stamps (reverse (items_made tells.calls)) = laws.own items link count stamps (reverse (items_made tells.calls)) made in
    let told : List (List Told) = messages_told tells.spec tells.start tells.calls in
    let book : List (List MonitoredItemNotification) = values_from (messages_sent tells.spec tells.start tells.calls) told tells.told in
    let are : AreValuesOf book told = values_are (messages_sent tells.spec tells.start tells.calls) told tells.told in
    let all_timed : EachTold IsTimed (chains.joined told) =
    each_both (IsOfItem tells.spec tells.start tells.calls) (IsChangeOf known) IsTimed
    (timed_so link count stamps known source tells.spec tells.start tells.calls laws own timed rises among) (chains.joined told) tells.items tells.changes in (
      book,
      record {
        are = are;
        linked = λ item. linked_by laws id known source did link count stamps tells own wide among book are all_timed item (found_for item (reverse (items_made tells.calls)));
        numbered = numbered_at (messages_sent tells.spec tells.start tells.calls) tells.messages.numbered;
        brought = brought_at laws.brings (messages_sent tells.spec tells.start tells.calls) told tells.told;
      },
    )

-- ---- of a life

pub either : (items : ℕ) (specs : List ItemSpec) (asked : List AskedItem) (link : LinkConfig) (count : ℕ) (stamps : Timestamps)
    → AreMadeOf items specs asked → (asked ≡ []) ⊎ (asked ≡ asked_with (Some stamps) (item_requests link count))
    → (so_many : ℕ) × AreMadeOf items specs (asked_with (Some stamps) (item_requests link so_many))
either items specs asked link count stamps made (inl none) = (0, subst (AreMadeOf items specs) none made)
either items specs asked link count stamps made (inr all) = (count, subst (AreMadeOf items specs) all made)
