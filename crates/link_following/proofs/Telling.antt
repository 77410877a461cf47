-- What a client has of an item's values, as notices come.
use Rattle.std.proofs.Common.{◌≡◌, ◌⊎◌, inl, inr, ℕ, zero, suc, ◌==◌, ◌≤◌, List, [], ◌∷◌, ◌++◌, reverse, Bool, true, false, Option, Some, None, if◌then◌else◌, refl, sym, ◌∙◌, ap, subst, append_assoc, arith}
use Rattle.std.specs.List.{find}
use Rattle.std.proofs.lemmas.Bool.Decides.{nat_tests}
use Rattle.std.proofs.lemmas.List.{append-nil, reverse-append}
use Rattle.std.proofs.lemmas.Option.{same_Some}
use Rattle.set_model.specs.declared.source.Change.{Change}
use Rattle.ua_variants.specs.declared.variant.Stamped.{Stamped}
use Rattle.ua_variants.specs.declared.variant.Variant.{Variant}
use Rattle.ua_sub_msgs.specs.declared.notification.MonitoredItemNotification.{MonitoredItemNotification}
use Rattle.delivery_log.specs.WellFed.{IsFedEntry}
use Rattle.link_rules.specs.declared.notice.Notice.{Notice}
use Rattle.link_rules.specs.declared.notice.Notice.TheVariants as notice
use Rattle.link_rules.specs.declared.remembered.Monitored.{Monitored}
use Rattle.link_rules.specs.Messages.{all_taken, has_handle, taken_as, taken_of}
use Rattle.link_rules.specs.Subscribing.{streams}
use Rattle.link_laws.specs.Course.{is_of_values, of_values}
use Rattle.client_rules.specs.Arrival.{arrived_of}
use Rattle.client_links.specs.Feeding.{AreFollowing, FollowsFormer, former_of}
use Rattle.link_following.specs.Book.{AreLinkedValues, values_of}
use Rattle.link_following.proofs.Values.{last_from, linked_at, other_more, own_among, own_more}

-- ---- notices of values

-- newest first, those of these notices and then earlier ones
abbrev pub told_onto : List Notice → List Notice → List Notice
told_onto notices earlier = reverse notices ++ earlier

pub onto_append : (one other earlier : List Notice) → told_onto (one ++ other) earlier ≡ told_onto other (told_onto one earlier)
onto_append one other earlier =
    ap (λ (l : List Notice). l ++ earlier) (reverse-append one other) ∙ append_assoc (reverse other) (reverse one) earlier

values_by : (b : Bool) (n : Notice) (one other : List Notice)
    → (if b then n ∷ (one ++ other) else one ++ other) ≡ (if b then n ∷ one else one) ++ other
values_by true n one other = refl
values_by false n one other = refl

values_join : (one other : List Notice) → of_values (one ++ other) ≡ of_values one ++ of_values other
values_join [] other = refl
values_join (n ∷ one) other =
    ap (λ (x : List Notice). if is_of_values n then n ∷ x else x) (values_join one other)
    ∙ values_by (is_of_values n) n (of_values one) (of_values other)

single_reverse : (b : Bool) (n : Notice) (one : List Notice)
    → reverse one ++ (if b then n ∷ [] else []) ≡ reverse (if b then n ∷ one else one)
single_reverse true n one = sym (reverse-append (n ∷ []) one)
single_reverse false n one = append-nil (reverse one)

pub values_reverse : (notices : List Notice) → of_values (reverse notices) ≡ reverse (of_values notices)
values_reverse [] = refl
values_reverse (n ∷ notices) =
    ap of_values (reverse-append (n ∷ []) notices) ∙ values_join (reverse notices) (n ∷ [])
    ∙ ap (λ (l : List Notice). l ++ of_values (n ∷ [])) (values_reverse notices)
    ∙ single_reverse (is_of_values n) n (of_values notices)

-- another notice changes nothing of an item's values

former_only : (item : ℕ) (i : ℕ) (former one other : Option (Stamped Variant)) → one ≡ other
    → (if i == item then former else one) ≡ (if i == item then former else other)
former_only item i former one other e = ap (λ o. if i == item then former else o) e

pub former_of_values : (item : ℕ) (notices : List Notice) → former_of item (of_values notices) ≡ former_of item notices
former_of_values item [] = refl
former_of_values item (notice.Ready ∷ earlier) = former_of_values item earlier
former_of_values item (notice.Lost ∷ earlier) = former_of_values item earlier
former_of_values item (notice.Unsupported ∷ earlier) = former_of_values item earlier
former_of_values item (notice.Level level ∷ earlier) = former_of_values item earlier
former_of_values item (notice.Stream i ∷ earlier) = former_only item i None _ _ (former_of_values item earlier)
former_of_values item (notice.Jump ∷ earlier) = refl
former_of_values item (notice.Taken i value ∷ earlier) = former_only item i (Some value) _ _ (former_of_values item earlier)
former_of_values item (notice.Sent mode ∷ earlier) = former_of_values item earlier
former_of_values item (notice.Confirmed mode ∷ earlier) = former_of_values item earlier

pub following_by_values : (source : List Change) (count : ℕ) (notices : List Notice) → AreFollowing source count (of_values notices)
    → AreFollowing source count notices
following_by_values source count [] h = tt
following_by_values source count (notice.Ready ∷ earlier) h = following_by_values source count earlier h
following_by_values source count (notice.Lost ∷ earlier) h = following_by_values source count earlier h
following_by_values source count (notice.Unsupported ∷ earlier) h = following_by_values source count earlier h
following_by_values source count (notice.Level level ∷ earlier) h = following_by_values source count earlier h
following_by_values source count (notice.Stream i ∷ earlier) h = following_by_values source count earlier h
following_by_values source count (notice.Jump ∷ earlier) h = following_by_values source count earlier h
following_by_values source count (notice.Taken i value ∷ earlier) h = (
  λ low high. ((h.0 low high).0, subst (FollowsFormer source i value) (former_of_values i earlier) (h.0 low high).1),
  following_by_values source count earlier h.1,
)
following_by_values source count (notice.Sent mode ∷ earlier) h = following_by_values source count earlier h
following_by_values source count (notice.Confirmed mode ∷ earlier) h = following_by_values source count earlier h

-- ---- values that begin anew

streams_more : (count : ℕ) (earlier : List Notice)
    → told_onto (streams (suc count)) earlier ≡ notice.Stream (suc count) ∷ told_onto (streams count) earlier
streams_more count earlier = onto_append (streams count) (notice.Stream (suc count) ∷ []) earlier

pub streams_following : (source : List Change) (items count : ℕ) (earlier : List Notice) → AreFollowing source items earlier
    → AreFollowing source items (told_onto (streams count) earlier)
streams_following source items zero earlier h = h
streams_following source items (suc count) earlier h =
    subst (AreFollowing source items) (sym (streams_more count earlier)) (streams_following source items count earlier h)

begins_by : (item place : ℕ) (b : Bool) (former : Option (Stamped Variant)) → (place == item) ≡ b → (b ≡ false → former ≡ None)
    → (if b then None else former) ≡ None
begins_by item place true former test h = refl
begins_by item place false former test h = h refl

under : (item count : ℕ) → item ≤ suc count → (suc count == item) ≡ false → item ≤ count
under item count high test = grind (arith, nat_tests)

pub streams_begin : (item count : ℕ) (earlier : List Notice) → 1 ≤ item → item ≤ count
    → former_of item (told_onto (streams count) earlier) ≡ None
streams_begin item zero earlier low high = absurd (omega arith)
streams_begin item (suc count) earlier low high =
    ap (former_of item) (streams_more count earlier)
    ∙ begins_by item (suc count) (suc count == item) (former_of item (told_onto (streams count) earlier)) refl
    (λ test. streams_begin item count earlier low (under item count high test))

-- ---- items by their handles

found_by : (handle : ℕ) (first : Monitored) (items : List Monitored) (b : Bool) (m : Monitored) → has_handle handle first ≡ b
    → (if b then Some first else find (has_handle handle) items) ≡ Some m
    → (find (has_handle handle) items ≡ Some m → (m.item == handle) ≡ true) → (m.item == handle) ≡ true
found_by handle first items true m test h more = subst (λ (x : Monitored). has_handle handle x ≡ true) (same_Some first m h) test
found_by handle first items false m test h more = more h

found_item : (handle : ℕ) (items : List Monitored) (m : Monitored) → find (has_handle handle) items ≡ Some m
    → (m.item == handle) ≡ true
found_item handle [] m h = let bad : None ≡ Some m = h in absurd cc
found_item handle (first ∷ items) m h =
    found_by handle first items (has_handle handle first) m refl h (found_item handle items m)

pub found_same : (handle : ℕ) (items : List Monitored) (m : Monitored) → find (has_handle handle) items ≡ Some m → m.item ≡ handle
found_same handle items m h =
    let test : (m.item == handle) ≡ true = found_item handle items m h in
    grind (arith, nat_tests)

-- ---- values as they are taken

-- the client has of an item no value, or the last one among these; and none where the item isn't known
pub record IsHeld (monitored : List Monitored) (notices : List Notice) (before : List MonitoredItemNotification) (item : ℕ) : Type 0 where
  pub unknown : find (has_handle item) monitored ≡ None → former_of item notices ≡ None
  pub last : (former_of item notices ≡ None) ⊎ (former_of item notices ≡ last_from None (values_of item before))

abbrev pub AllHeld : ℕ → List Monitored → List Notice → List MonitoredItemNotification → Type 0
AllHeld count monitored notices before =
    (item : ℕ) → 1 ≤ item → item ≤ count → IsHeld monitored notices before item

abbrev pub AllLinked : List Change → ℕ → List MonitoredItemNotification → Type 0
AllLinked source count values =
    (item : ℕ) → 1 ≤ item → item ≤ count → AreLinkedValues source item (values_of item values)

follows_by : (source : List Change) (item : ℕ) (value : Stamped Variant) (former last : Option (Stamped Variant))
    → (former ≡ None) ⊎ (former ≡ last) → FollowsFormer source item value last → FollowsFormer source item value former
follows_by source item value former last (inl none) h = subst (FollowsFormer source item value) (sym none) tt
follows_by source item value former last (inr same) h = subst (FollowsFormer source item value) (sym same) h

-- a value is told, where its item is known, and then follows

told_follows : (source : List Change) (count : ℕ) (monitored : List Monitored) (notices : List Notice)
    (before : List MonitoredItemNotification) (one : MonitoredItemNotification) (behind : List MonitoredItemNotification) (item : ℕ)
    → (one.client_handle == item) ≡ true → AllHeld count monitored notices before → AllLinked source count (before ++ one ∷ behind)
    → 1 ≤ item → item ≤ count
    → IsFedEntry source item (arrived_of one.value) × FollowsFormer source item one.value (former_of item notices)
told_follows source count monitored notices before one behind item test held linked low high =
    let at : IsFedEntry source item (arrived_of one.value)
    × FollowsFormer source item one.value (last_from None (values_of item before)) =
    linked_at source item None (values_of item before) one.value (values_of item behind)
    (subst (AreLinkedValues source item) (own_among item before one behind test) (linked item low high)) in
    (at.0, follows_by source item one.value (former_of item notices) (last_from None (values_of item before)) (held item low high).last at.1)

same_test : (handle item : ℕ) → item ≡ handle → (handle == item) ≡ true
same_test handle item e = grind (arith, nat_tests)

taken_follows : (source : List Change) (count : ℕ) (monitored : List Monitored) (notices : List Notice)
    (before : List MonitoredItemNotification) (one : MonitoredItemNotification) (behind : List MonitoredItemNotification)
    (found : Option Monitored) → find (has_handle one.client_handle) monitored ≡ found
    → AllHeld count monitored notices before → AllLinked source count (before ++ one ∷ behind)
    → AreFollowing source count notices → AreFollowing source count (told_onto (taken_as found one.value) notices)
taken_follows source count monitored notices before one behind None is held linked h = h
taken_follows source count monitored notices before one behind (Some m) is held linked h = (
  λ low high. told_follows source count monitored notices before one behind m.item
      (same_test one.client_handle m.item (found_same one.client_handle monitored m is)) held linked low high,
  h,
)

-- and then it is the last one

former_by : (i item : ℕ) (b : Bool) (value : Stamped Variant) (earlier : Option (Stamped Variant)) → (i == item) ≡ b
    → (if i == item then Some value else earlier) ≡ (if b then Some value else earlier)
former_by i item b value earlier test = ap (λ t. if t then Some value else earlier) test

same_handle : (handle item : ℕ) → (handle == item) ≡ true → handle ≡ item
same_handle handle item test = grind (arith, nat_tests)

unseen_held : (monitored : List Monitored) (notices : List Notice) (before : List MonitoredItemNotification)
    (one : MonitoredItemNotification) (item : ℕ) (b : Bool) → (one.client_handle == item) ≡ b
    → find (has_handle one.client_handle) monitored ≡ None → IsHeld monitored notices before item
    → IsHeld monitored notices (before ++ one ∷ []) item
unseen_held monitored notices before one item true test is held = record {
  unknown = held.unknown;
  last = inl (held.unknown (subst (λ i. find (has_handle i) monitored ≡ None) (same_handle one.client_handle item test) is));
}
unseen_held monitored notices before one item false test is held = record {
  unknown = held.unknown;
  last = subst (λ (l : List (Stamped Variant)). (former_of item notices ≡ None) ⊎ (former_of item notices ≡ last_from None l))
      (sym (other_more item before one test)) held.last;
}

seen_held : (monitored : List Monitored) (notices : List Notice) (before : List MonitoredItemNotification)
    (one : MonitoredItemNotification) (item : ℕ) (b : Bool) (m : Monitored) → (one.client_handle == item) ≡ b
    → find (has_handle one.client_handle) monitored ≡ Some m → m.item ≡ one.client_handle → IsHeld monitored notices before item
    → IsHeld monitored (notice.Taken m.item one.value ∷ notices) (before ++ one ∷ []) item
seen_held monitored notices before one item true m test is same held =
    let at : one.client_handle ≡ item = grind (arith, nat_tests) in
    let own : (m.item == item) ≡ true = grind (arith, nat_tests) in
    let found : find (has_handle item) monitored ≡ Some m = subst (λ i. find (has_handle i) monitored ≡ Some m) at is in
    record {
      unknown = λ none. (let bad : None ≡ Some m = sym none ∙ found in absurd cc);
      last = inr (former_by m.item item true one.value (former_of item notices) own ∙ sym (own_more item before one test));
    }
seen_held monitored notices before one item false m test is same held =
    let other : (m.item == item) ≡ false = grind (arith, nat_tests) in
    let former : former_of item (notice.Taken m.item one.value ∷ notices) ≡ former_of item notices =
    former_by m.item item false one.value (former_of item notices) other in
    record {
      unknown = λ none. former ∙ held.unknown none;
      last = subst (λ (o : Option (Stamped Variant)). (o ≡ None) ⊎ (o ≡ last_from None (values_of item (before ++ one ∷ []))))
          (sym former)
          (subst (λ (l : List (Stamped Variant)). (former_of item notices ≡ None) ⊎ (former_of item notices ≡ last_from None l))
          (sym (other_more item before one test)) held.last);
    }

taken_held : (count : ℕ) (monitored : List Monitored) (notices : List Notice) (before : List MonitoredItemNotification)
    (one : MonitoredItemNotification) (found : Option Monitored) → find (has_handle one.client_handle) monitored ≡ found
    → AllHeld count monitored notices before
    → AllHeld count monitored (told_onto (taken_as found one.value) notices) (before ++ one ∷ [])
taken_held count monitored notices before one None is held = λ item low high.
    unseen_held monitored notices before one item (one.client_handle == item) refl is (held item low high)
taken_held count monitored notices before one (Some m) is held = λ item low high.
    seen_held monitored notices before one item (one.client_handle == item) m refl is
    (found_same one.client_handle monitored m is) (held item low high)

-- ---- a message as it is taken

pub record GoesOn (source : List Change) (count : ℕ) (monitored : List Monitored) (notices : List Notice)
    (before : List MonitoredItemNotification) : Type 0 where
  pub following : AreFollowing source count notices
  pub held : AllHeld count monitored notices before

pub all_go_on : (source : List Change) (count : ℕ) (monitored : List Monitored) (notices : List Notice)
    (before values behind : List MonitoredItemNotification) → AllLinked source count (before ++ (values ++ behind))
    → GoesOn source count monitored notices before
    → GoesOn source count monitored (told_onto (all_taken monitored values) notices) (before ++ values)
all_go_on source count monitored notices before [] behind linked goes = record {
  following = goes.following;
  held = subst (λ (l : List MonitoredItemNotification). AllHeld count monitored notices l) (sym (append-nil before)) goes.held;
}
all_go_on source count monitored notices before (one ∷ values) behind linked goes =
    let after : List Notice = told_onto (taken_of monitored one) notices in
    let next : GoesOn source count monitored after (before ++ one ∷ []) = record {
      following = taken_follows source count monitored notices before one (values ++ behind)
          (find (has_handle one.client_handle) monitored) refl goes.held linked goes.following;
      held = taken_held count monitored notices before one (find (has_handle one.client_handle) monitored) refl goes.held;
    } in
    let linked_next : AllLinked source count ((before ++ one ∷ []) ++ (values ++ behind)) =
    subst (AllLinked source count) (sym (append_assoc before (one ∷ []) (values ++ behind))) linked in
    subst (λ (l : List MonitoredItemNotification). GoesOn source count monitored (told_onto (all_taken monitored (one ∷ values)) notices) l)
    (append_assoc before (one ∷ []) values)
    (subst (λ (l : List Notice). GoesOn source count monitored l ((before ++ one ∷ []) ++ values))
    (sym (onto_append (taken_of monitored one) (all_taken monitored values) notices))
    (all_go_on source count monitored after (before ++ one ∷ []) values behind linked_next next))
