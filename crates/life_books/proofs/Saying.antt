-- Values that come of entries, and how they are linked.
use Rattle.std.proofs.Common.{◌≡◌, ◌≤◌, ◌==◌, ℕ, ℤ, List, [], ◌∷◌, ◌++◌, map, filter, Bool, true, false, cond, Some, refl, sym, ap, subst, ◌∙◌, arith}
use Rattle.std.proofs.lemmas.Bool.Decides.{nat_tests}
use Rattle.std.proofs.lemmas.List.{map-append}
use Rattle.std.proofs.lemmas.List.Elements.{filter-append}
use Rattle.ua_base.specs.declared.modes.Timestamps.{Timestamps}
use Rattle.set_model.specs.declared.line.Arrived.{Arrived}
use Rattle.set_model.specs.declared.source.Change.{Change}
use Rattle.item_queue.specs.declared.queue.Entry.{Entry}
use Rattle.delivery_log.specs.WellFed.{IsFedEntry, Linked}
use Rattle.ua_variants.specs.declared.variant.Stamped.{Stamped}
use Rattle.ua_variants.specs.declared.variant.Variant.{Variant}
use Rattle.ua_sub_msgs.specs.declared.notification.MonitoredItemNotification.{MonitoredItemNotification}
use Rattle.subscription.specs.Items.{Told}
use Rattle.subscription.specs.Message.{has_source, notified, value_of}
use Rattle.subscription.specs.Streams.{entries_of}
use Rattle.client_rules.specs.Arrival.{arrived_of}
use Rattle.server_chains.specs.Chains.{EachTold}
use Rattle.server_chains.specs.Chains as chains
use Rattle.arriving_entries.specs.Arrivals.{AllLinked, AllLinkedAfter, arrival_of}
use Rattle.link_following.specs.Book.{AreLinkedAfter, AreLinkedValues, joined, values_of}
use Rattle.link_following.proofs.Values.{values_append}
use Rattle.life_books.specs.Books.{AreFed, AreValuesOf, IsTimed, IsUnder}

-- what the crate of the entries says
abbrev pub Arrives : Type 0
Arrives = (now : ℤ) (stamps : Timestamps) (entry : Entry) → has_source stamps ≡ true → entry.change.pico ≤ 9999
    → arrived_of (value_of now stamps entry) ≡ arrival_of entry

-- ---- values and entries

-- as many, and the log takes each value as the entry at its place
abbrev pub AreSaid : List (Stamped Variant) → List Entry → Type 0
AreSaid [] [] = Unit {0}
AreSaid [] (entry ∷ entries) = ⊥
AreSaid (value ∷ values) [] = ⊥
AreSaid (value ∷ values) (entry ∷ entries) = (arrived_of value ≡ arrival_of entry) × AreSaid values entries

said_join : (values later : List (Stamped Variant)) (entries more : List Entry) → AreSaid values entries → AreSaid later more
    → AreSaid (values ++ later) (entries ++ more)
said_join [] later [] more said then_said = then_said
said_join [] later (entry ∷ entries) more said then_said = absurd said
said_join (value ∷ values) later [] more said then_said = absurd said
said_join (value ∷ values) later (entry ∷ entries) more said then_said =
    (said.0, said_join values later entries more said.1 then_said)

fed_value : (source : List Change) (item : ℕ) (value : Stamped Variant) (entry : Entry) → arrived_of value ≡ arrival_of entry
    → IsFedEntry source item (arrival_of entry) → IsFedEntry source item (arrived_of value)
fed_value source item value entry is fed = subst (IsFedEntry source item) (sym is) fed

linked_values : (source : List Change) (item : ℕ) (former value : Stamped Variant) (before entry : Entry)
    → arrived_of former ≡ arrival_of before → arrived_of value ≡ arrival_of entry
    → Linked source item (arrival_of before) (arrival_of entry) → Linked source item (arrived_of former) (arrived_of value)
linked_values source item former value before entry was is linked =
    subst (λ (a : Arrived). Linked source item a (arrived_of value)) (sym was)
    (subst (λ (a : Arrived). Linked source item (arrival_of before) a) (sym is) linked)

said_after : (source : List Change) (item : ℕ) (former : Stamped Variant) (before : Entry) (values : List (Stamped Variant))
    (entries : List Entry) → arrived_of former ≡ arrival_of before → AreSaid values entries
    → AllLinkedAfter source item before entries → AreFed source item entries → AreLinkedAfter source item (Some former) values
said_after source item former before [] entries was said linked fed = tt
said_after source item former before (value ∷ values) [] was said linked fed = absurd said
said_after source item former before (value ∷ values) (entry ∷ entries) was said linked fed = (
  fed_value source item value entry said.0 fed.0,
  linked_values source item former value before entry was said.0 linked.0,
  said_after source item value entry values entries said.0 said.1 linked.1 fed.1,
)

said_linked : (source : List Change) (item : ℕ) (values : List (Stamped Variant)) (entries : List Entry) → AreSaid values entries
    → AllLinked source item entries → AreFed source item entries → AreLinkedValues source item values
said_linked source item [] entries said linked fed = tt
said_linked source item (value ∷ values) [] said linked fed = absurd said
said_linked source item (value ∷ values) (entry ∷ entries) said linked fed = (
  fed_value source item value entry said.0 fed.0,
  tt,
  said_after source item value entry values entries said.0 said.1 linked fed.1,
)

-- ---- the entries of one item in a message

each_front : (P : Told → Type 0) (first later : List Told) → EachTold P (first ++ later) → EachTold P first
each_front P [] later each = tt
each_front P (one ∷ first) later each = (each.0, each_front P first later each.1)

each_rest : (P : Told → Type 0) (first later : List Told) → EachTold P (first ++ later) → EachTold P later
each_rest P [] later each = each
each_rest P (one ∷ first) later each = each_rest P first later each.1

entries_join : (id : ℕ) (first later : List Told) → entries_of id (first ++ later) ≡ entries_of id first ++ entries_of id later
entries_join id first later =
    ap (map (λ (one : Told). one.entry)) (filter-append (λ (one : Told). one.id == id) first later)
    ∙ map-append (λ (one : Told). one.entry) (filter (λ (one : Told). one.id == id) first) (filter (λ (one : Told). one.id == id) later)

same_test : (handle item own id : ℕ) (b c : Bool) → (handle == item) ≡ b → (own == id) ≡ c → (handle ≡ item → own ≡ id)
    → (own ≡ id → handle ≡ item) → c ≡ b
same_test handle item own id true true by_handle by_id there alone = refl
same_test handle item own id false false by_handle by_id there alone = refl
same_test handle item own id true false by_handle by_id there alone =
    let is : handle ≡ item = grind (arith, nat_tests) in
    let same : own ≡ id = there is in
    absurd (grind (arith, nat_tests))
same_test handle item own id false true by_handle by_id there alone =
    let is : own ≡ id = grind (arith, nat_tests) in
    let same : handle ≡ item = alone is in
    absurd (grind (arith, nat_tests))

said_by : (b : Bool) (value : Stamped Variant) (values : List (Stamped Variant)) (one : Told) (told : List Told)
    → arrived_of value ≡ arrival_of one.entry → AreSaid values (map (λ (t : Told). t.entry) told)
    → AreSaid (cond b (value ∷ values) values) (map (λ (t : Told). t.entry) (cond b (one ∷ told) told))
said_by true value values one told is said = (is, said)
said_by false value values one told is said = said

one_said : Arrives → (item id : ℕ) (now : ℤ) (told : List Told) → EachTold (IsUnder item id) told → EachTold IsTimed told
    → AreSaid (values_of item (map (notified now) told)) (entries_of id told)
one_said arrives item id now [] under timed = tt
one_said arrives item id now (one ∷ more) under timed =
    let same : (one.id == id) ≡ (one.handle == item) =
    same_test one.handle item one.id id (one.handle == item) (one.id == id) refl refl under.0.there under.0.alone in
    let rest : List Told = filter (λ (t : Told). t.id == id) more in
    subst (λ (b : Bool). AreSaid (values_of item (map (notified now) (one ∷ more))) (map (λ (t : Told). t.entry) (cond b (one ∷ rest) rest)))
    (sym same)
    (said_by (one.handle == item) (value_of now one.stamps one.entry) (values_of item (map (notified now) more)) one rest
    (arrives now one.stamps one.entry timed.0.timed timed.0.pico) (one_said arrives item id now more under.1 timed.1))

-- ---- message by message

all_said : Arrives → (item id : ℕ) (values : List (List MonitoredItemNotification)) (told : List (List Told)) → AreValuesOf values told
    → EachTold (IsUnder item id) (chains.joined told) → EachTold IsTimed (chains.joined told)
    → AreSaid (values_of item (joined values)) (entries_of id (chains.joined told))
all_said arrives item id [] [] are under timed = tt
all_said arrives item id [] (first ∷ told) are under timed = absurd are
all_said arrives item id (own ∷ values) [] are under timed = absurd are
all_said arrives item id (own ∷ values) (first ∷ told) are under timed =
    let rest : List Told = chains.joined told in
    let later : List (Stamped Variant) = values_of item (joined values) in
    let here : AreSaid (values_of item own) (entries_of id first) =
    subst (λ (l : List MonitoredItemNotification). AreSaid (values_of item l) (entries_of id first)) (sym are.0.1)
    (one_said arrives item id are.0.0 first (each_front (IsUnder item id) first rest under) (each_front IsTimed first rest timed)) in
    let then_said : AreSaid later (entries_of id rest) =
    all_said arrives item id values told are.1 (each_rest (IsUnder item id) first rest under) (each_rest IsTimed first rest timed) in
    subst (λ (l : List (Stamped Variant)). AreSaid l (entries_of id (first ++ rest))) (sym (values_append item own (joined values)))
    (subst (λ (l : List Entry). AreSaid (values_of item own ++ later) l) (sym (entries_join id first rest))
    (said_join (values_of item own) later (entries_of id first) (entries_of id rest) here then_said))

pub told_linked : Arrives → (source : List Change) (item id : ℕ) (told : List (List Told)) (values : List (List MonitoredItemNotification))
    → AreValuesOf values told → EachTold (IsUnder item id) (chains.joined told) → EachTold IsTimed (chains.joined told)
    → AllLinked source item (entries_of id (chains.joined told)) → AreFed source item (entries_of id (chains.joined told))
    → AreLinkedValues source item (values_of item (joined values))
told_linked arrives source item id told values are under timed linked fed =
    said_linked source item (values_of item (joined values)) (entries_of id (chains.joined told))
    (all_said arrives item id values told are under timed) linked fed
