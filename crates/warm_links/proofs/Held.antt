-- What a client has of an item's values while it reports, as a message is taken.
use Rattle.std.proofs.Common.{◌≡◌, ◌⊎◌, inl, inr, ℕ, zero, suc, ◌==◌, ◌≤◌, List, [], ◌∷◌, ◌++◌, Bool, true, false, Option, Some, None, if◌then◌else◌, refl, sym, ◌∙◌, ap, subst, append_assoc, arith}
use Rattle.std.specs.List.{find}
use Rattle.std.proofs.lemmas.Bool.Decides.{nat_tests}
use Rattle.std.proofs.lemmas.List.{append-nil}
use Rattle.set_model.specs.declared.source.Change.{Change}
use Rattle.ua_variants.specs.declared.variant.Stamped.{Stamped}
use Rattle.ua_variants.specs.declared.variant.Variant.{Variant}
use Rattle.ua_sub_msgs.specs.declared.notification.MonitoredItemNotification.{MonitoredItemNotification}
use Rattle.delivery_log.specs.WellFed.{IsFedEntry}
use Rattle.link_rules.specs.declared.notice.Notice.{Notice}
use Rattle.link_rules.specs.declared.notice.Notice.TheVariants as notice
use Rattle.link_rules.specs.declared.remembered.Monitored.{Monitored}
use Rattle.link_rules.specs.Messages.{all_taken, has_handle, taken_as, taken_of}
use Rattle.link_rules.specs.Subscribing.{streams}
use Rattle.client_rules.specs.Arrival.{arrived_of}
use Rattle.client_links.specs.Feeding.{FollowsFormer}
use Rattle.link_following.specs.Book.{AreLinkedValues, values_of}
use Rattle.link_following.proofs.Values.{last_from, linked_at, other_more, own_among, own_more}
use Rattle.link_following.proofs.Telling.{AllLinked, found_same, onto_append, told_onto}
use Rattle.warm_logs.specs.Reporting.{AreFollowingOn, former_on, reports_in}
use Rattle.warm_links.specs.Eras.{reports_after}
use Rattle.warm_links.proofs.Former.{after_join}

-- ---- values that begin anew

streams_more : (count : ℕ) (earlier : List Notice)
    → told_onto (streams (suc count)) earlier ≡ notice.Stream (suc count) ∷ told_onto (streams count) earlier
streams_more count earlier = onto_append (streams count) (notice.Stream (suc count) ∷ []) earlier

pub streams_follow : (source : List Change) (items count : ℕ) (earlier : List Notice) → AreFollowingOn source items earlier
    → AreFollowingOn source items (told_onto (streams count) earlier)
streams_follow source items zero earlier h = h
streams_follow source items (suc count) earlier h =
    subst (AreFollowingOn source items) (sym (streams_more count earlier)) (streams_follow source items count earlier h)

ends_by : (b r : Bool) → (b ≡ false → r ≡ false) → (if b then false else r) ≡ false
ends_by true r h = refl
ends_by false r h = h refl

under : (item count : ℕ) → item ≤ suc count → (suc count == item) ≡ false → item ≤ count
under item count high test = grind (arith, nat_tests)

-- no item reports
pub streams_off : (item count : ℕ) (earlier : List Notice) → 1 ≤ item → item ≤ count
    → reports_in item (told_onto (streams count) earlier) ≡ false
streams_off item zero earlier low high = absurd (omega arith)
streams_off item (suc count) earlier low high =
    ap (reports_in item) (streams_more count earlier)
    ∙ ends_by (suc count == item) (reports_in item (told_onto (streams count) earlier))
    (λ test. streams_off item count earlier low (under item count high test))

pub streams_on : (count : ℕ) (b : Bool) → reports_after (streams count) b ≡ true → b ≡ true
streams_on zero b e = e
streams_on (suc count) b e =
    let bad : false ≡ true = sym (after_join (streams count) (notice.Stream (suc count) ∷ []) b) ∙ e in absurd cc

-- ---- values as they are taken

-- the client has of an item no value, or the last one among these; and none where the item isn't known
pub record IsHeld (monitored : List Monitored) (notices : List Notice) (before : List MonitoredItemNotification) (item : ℕ) : Type 0 where
  pub unknown : find (has_handle item) monitored ≡ None → former_on item notices ≡ None
  pub last : (former_on item notices ≡ None) ⊎ (former_on item notices ≡ last_from None (values_of item before))

abbrev pub AllHeld : ℕ → List Monitored → List Notice → List MonitoredItemNotification → Type 0
AllHeld count monitored notices before =
    (item : ℕ) → 1 ≤ item → item ≤ count → IsHeld monitored notices before item

follows_by : (source : List Change) (item : ℕ) (value : Stamped Variant) (former last : Option (Stamped Variant))
    → (former ≡ None) ⊎ (former ≡ last) → FollowsFormer source item value last → FollowsFormer source item value former
follows_by source item value former last (inl none) h = subst (FollowsFormer source item value) (sym none) tt
follows_by source item value former last (inr same) h = subst (FollowsFormer source item value) (sym same) h

-- a value is told, where its item is known, and then follows

told_follows : (source : List Change) (count : ℕ) (monitored : List Monitored) (notices : List Notice)
    (before : List MonitoredItemNotification) (one : MonitoredItemNotification) (behind : List MonitoredItemNotification) (item : ℕ)
    → (one.client_handle == item) ≡ true → AllHeld count monitored notices before → AllLinked source count (before ++ one ∷ behind)
    → 1 ≤ item → item ≤ count
    → IsFedEntry source item (arrived_of one.value) × FollowsFormer source item one.value (former_on item notices)
told_follows source count monitored notices before one behind item test held linked low high =
    let at : IsFedEntry source item (arrived_of one.value)
    × FollowsFormer source item one.value (last_from None (values_of item before)) =
    linked_at source item None (values_of item before) one.value (values_of item behind)
    (subst (AreLinkedValues source item) (own_among item before one behind test) (linked item low high)) in
    (at.0, follows_by source item one.value (former_on item notices) (last_from None (values_of item before)) (held item low high).last at.1)

same_test : (handle item : ℕ) → item ≡ handle → (handle == item) ≡ true
same_test handle item e = grind (arith, nat_tests)

taken_follows : (source : List Change) (count : ℕ) (monitored : List Monitored) (notices : List Notice)
    (before : List MonitoredItemNotification) (one : MonitoredItemNotification) (behind : List MonitoredItemNotification)
    (found : Option Monitored) → find (has_handle one.client_handle) monitored ≡ found
    → AllHeld count monitored notices before → AllLinked source count (before ++ one ∷ behind)
    → AreFollowingOn source count notices → AreFollowingOn source count (told_onto (taken_as found one.value) notices)
taken_follows source count monitored notices before one behind None is held linked h = h
taken_follows source count monitored notices before one behind (Some m) is held linked h = (
  λ low high. told_follows source count monitored notices before one behind m.item
      (same_test one.client_handle m.item (found_same one.client_handle monitored m is)) held linked low high,
  h,
)

-- and then it is the last one, where its item reports

former_own : (i item : ℕ) (r : Bool) (value : Stamped Variant) (earlier last : Option (Stamped Variant)) → (i == item) ≡ true
    → last ≡ Some value
    → ((if i == item then (if r then Some value else None) else earlier) ≡ None)
    ⊎ ((if i == item then (if r then Some value else None) else earlier) ≡ last)
former_own i item true value earlier last test is =
    inr (ap (λ (t : Bool). if t then Some value else earlier) test ∙ sym is)
former_own i item false value earlier last test is = inl (ap (λ (t : Bool). if t then None else earlier) test)

former_other : (i item : ℕ) (former earlier : Option (Stamped Variant)) → (i == item) ≡ false
    → (if i == item then former else earlier) ≡ earlier
former_other i item former earlier test = ap (λ (t : Bool). if t then former else earlier) test

same_handle : (handle item : ℕ) → (handle == item) ≡ true → handle ≡ item
same_handle handle item test = grind (arith, nat_tests)

unseen_held : (monitored : List Monitored) (notices : List Notice) (before : List MonitoredItemNotification)
    (one : MonitoredItemNotification) (item : ℕ) (b : Bool) → (one.client_handle == item) ≡ b
    → find (has_handle one.client_handle) monitored ≡ None → IsHeld monitored notices before item
    → IsHeld monitored notices (before ++ one ∷ []) item
unseen_held monitored notices before one item true test is held = record {
  unknown = held.unknown;
  last = inl (held.unknown (subst (λ i. find (has_handle i) monitored ≡ None) (same_handle one.client_handle item test) is));
}
unseen_held monitored notices before one item false test is held = record {
  unknown = held.unknown;
  last = subst (λ (l : List (Stamped Variant)). (former_on item notices ≡ None) ⊎ (former_on item notices ≡ last_from None l))
      (sym (other_more item before one test)) held.last;
}

seen_held : (monitored : List Monitored) (notices : List Notice) (before : List MonitoredItemNotification)
    (one : MonitoredItemNotification) (item : ℕ) (b : Bool) (m : Monitored) → (one.client_handle == item) ≡ b
    → find (has_handle one.client_handle) monitored ≡ Some m → m.item ≡ one.client_handle → IsHeld monitored notices before item
    → IsHeld monitored (notice.Taken m.item one.value ∷ notices) (before ++ one ∷ []) item
seen_held monitored notices before one item true m test is same held =
    let at : one.client_handle ≡ item = grind (arith, nat_tests) in
    let own : (m.item == item) ≡ true = grind (arith, nat_tests) in
    let found : find (has_handle item) monitored ≡ Some m = subst (λ i. find (has_handle i) monitored ≡ Some m) at is in
    record {
      unknown = λ none. (let bad : None ≡ Some m = sym none ∙ found in absurd cc);
      last = former_own m.item item (reports_in item notices) one.value (former_on item notices)
          (last_from None (values_of item (before ++ one ∷ []))) own (own_more item before one test);
    }
seen_held monitored notices before one item false m test is same held =
    let other : (m.item == item) ≡ false = grind (arith, nat_tests) in
    let former : former_on item (notice.Taken m.item one.value ∷ notices) ≡ former_on item notices =
    former_other m.item item (if reports_in item notices then Some one.value else None) (former_on item notices) other in
    record {
      unknown = λ none. former ∙ held.unknown none;
      last = subst (λ (o : Option (Stamped Variant)). (o ≡ None) ⊎ (o ≡ last_from None (values_of item (before ++ one ∷ []))))
          (sym former)
          (subst (λ (l : List (Stamped Variant)). (former_on item notices ≡ None) ⊎ (former_on item notices ≡ last_from None l))
          (sym (other_more item before one test)) held.last);
    }

taken_held : (count : ℕ) (monitored : List Monitored) (notices : List Notice) (before : List MonitoredItemNotification)
    (one : MonitoredItemNotification) (found : Option Monitored) → find (has_handle one.client_handle) monitored ≡ found
    → AllHeld count monitored notices before
    → AllHeld count monitored (told_onto (taken_as found one.value) notices) (before ++ one ∷ [])
taken_held count monitored notices before one None is held = λ item low high.
    unseen_held monitored notices before one item (one.client_handle == item) refl is (held item low high)
taken_held count monitored notices before one (Some m) is held = λ item low high.
    seen_held monitored notices before one item (one.client_handle == item) m refl is
    (found_same one.client_handle monitored m is) (held item low high)

-- ---- a message as it is taken

pub record GoesOn (source : List Change) (count : ℕ) (monitored : List Monitored) (notices : List Notice)
    (before : List MonitoredItemNotification) : Type 0 where
  pub following : AreFollowingOn source count notices
  pub held : AllHeld count monitored notices before

pub all_go_on : (source : List Change) (count : ℕ) (monitored : List Monitored) (notices : List Notice)
    (before values behind : List MonitoredItemNotification) → AllLinked source count (before ++ (values ++ behind))
    → GoesOn source count monitored notices before
    → GoesOn source count monitored (told_onto (all_taken monitored values) notices) (before ++ values)
all_go_on source count monitored notices before [] behind linked goes = record {
  following = goes.following;
  held = subst (λ (l : List MonitoredItemNotification). AllHeld count monitored notices l) (sym (append-nil before)) goes.held;
}
all_go_on source count monitored notices before (one ∷ values) behind linked goes =
    let after : List Notice = told_onto (taken_of monitored one) notices in
    let next : GoesOn source count monitored after (before ++ one ∷ []) = record {
      following = taken_follows source count monitored notices before one (values ++ behind)
          (find (has_handle one.client_handle) monitored) refl goes.held linked goes.following;
      held = taken_held count monitored notices before one (find (has_handle one.client_handle) monitored) refl goes.held;
    } in
    let linked_next : AllLinked source count ((before ++ one ∷ []) ++ (values ++ behind)) =
    subst (AllLinked source count) (sym (append_assoc before (one ∷ []) (values ++ behind))) linked in
    subst (λ (l : List MonitoredItemNotification). GoesOn source count monitored (told_onto (all_taken monitored (one ∷ values)) notices) l)
    (append_assoc before (one ∷ []) values)
    (subst (λ (l : List Notice). GoesOn source count monitored l ((before ++ one ∷ []) ++ values))
    (sym (onto_append (taken_of monitored one) (all_taken monitored values) notices))
    (all_go_on source count monitored after (before ++ one ∷ []) values behind linked_next next))

-- ---- by values alone no item begins to report, or ends

as_reports : (item : ℕ) (found : Option Monitored) (value : Stamped Variant) (earlier : List Notice)
    → reports_in item (told_onto (taken_as found value) earlier) ≡ reports_in item earlier
as_reports item None value earlier = refl
as_reports item (Some m) value earlier = refl

pub taken_reports : (item : ℕ) (monitored : List Monitored) (values : List MonitoredItemNotification) (earlier : List Notice)
    → reports_in item (told_onto (all_taken monitored values) earlier) ≡ reports_in item earlier
taken_reports item monitored [] earlier = refl
taken_reports item monitored (one ∷ values) earlier =
    ap (reports_in item) (onto_append (taken_of monitored one) (all_taken monitored values) earlier)
    ∙ taken_reports item monitored values (told_onto (taken_of monitored one) earlier)
    ∙ as_reports item (find (has_handle one.client_handle) monitored) one.value earlier

as_after : (found : Option Monitored) (value : Stamped Variant) (b : Bool) → reports_after (taken_as found value) b ≡ b
as_after None value b = refl
as_after (Some m) value b = refl

pub taken_after : (monitored : List Monitored) (values : List MonitoredItemNotification) (b : Bool)
    → reports_after (all_taken monitored values) b ≡ b
taken_after monitored [] b = refl
taken_after monitored (one ∷ values) b =
    after_join (taken_of monitored one) (all_taken monitored values) b
    ∙ taken_after monitored values (reports_after (taken_of monitored one) b)
    ∙ as_after (find (has_handle one.client_handle) monitored) one.value b
