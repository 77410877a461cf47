-- A list of values that are linked neighbour by neighbour, and the messages that they stand in.
use Rattle.std.proofs.Common.{◌≡◌, ℕ, zero, suc, ◌==◌, List, [], ◌∷◌, ◌++◌, take, drop, Bool, true, false, Option, Some, None, if◌then◌else◌, refl, sym, ◌∙◌, ap, append_assoc}
use Rattle.std.specs.List.{slice_get}
use Rattle.std.proofs.lemmas.List.{append-nil}
use Rattle.std.proofs.lemmas.Option.{same_Some}
use Rattle.set_model.specs.declared.source.Change.{Change}
use Rattle.delivery_log.specs.WellFed.{IsFedEntry}
use Rattle.ua_variants.specs.declared.variant.Stamped.{Stamped}
use Rattle.ua_variants.specs.declared.variant.Variant.{Variant}
use Rattle.ua_sub_msgs.specs.declared.notification.MonitoredItemNotification.{MonitoredItemNotification}
use Rattle.client_rules.specs.Arrival.{arrived_of}
use Rattle.client_links.specs.Feeding.{FollowsFormer}
use Rattle.link_following.specs.Book.{AreLinkedAfter, joined, values_of}

-- ---- linked values

-- the last of them, or the former one where there is none
abbrev pub last_from : Option (Stamped Variant) → List (Stamped Variant) → Option (Stamped Variant)
last_from former [] = former
last_from former (value ∷ more) = last_from (Some value) more

pub last_append : (former : Option (Stamped Variant)) (one other : List (Stamped Variant))
    → last_from former (one ++ other) ≡ last_from (last_from former one) other
last_append former [] other = refl
last_append former (value ∷ one) other = last_append (Some value) one other

-- a value among them is linked to the last of those before it
pub linked_at : (source : List Change) (item : ℕ) (former : Option (Stamped Variant)) (before : List (Stamped Variant))
    (value : Stamped Variant) (behind : List (Stamped Variant)) → AreLinkedAfter source item former (before ++ value ∷ behind)
    → IsFedEntry source item (arrived_of value) × FollowsFormer source item value (last_from former before)
linked_at source item former [] value behind h = (h.0, h.1)
linked_at source item former (v ∷ before) value behind h = linked_at source item (Some v) before value behind h.2

-- ---- values of one item

values_by : (b : Bool) (value : Stamped Variant) (one other : List (Stamped Variant))
    → (if b then value ∷ (one ++ other) else one ++ other) ≡ (if b then value ∷ one else one) ++ other
values_by true value one other = refl
values_by false value one other = refl

pub values_append : (item : ℕ) (one other : List MonitoredItemNotification)
    → values_of item (one ++ other) ≡ values_of item one ++ values_of item other
values_append item [] other = refl
values_append item (v ∷ one) other =
    ap (λ (l : List (Stamped Variant)). if v.client_handle == item then v.value ∷ l else l) (values_append item one other)
    ∙ values_by (v.client_handle == item) v.value (values_of item one) (values_of item other)

-- one value more

own_value : (item : ℕ) (one : MonitoredItemNotification) (more : List MonitoredItemNotification)
    → (one.client_handle == item) ≡ true → values_of item (one ∷ more) ≡ one.value ∷ values_of item more
own_value item one more test =
    ap (λ b. if b then one.value ∷ values_of item more else values_of item more) test

other_value : (item : ℕ) (one : MonitoredItemNotification) (more : List MonitoredItemNotification)
    → (one.client_handle == item) ≡ false → values_of item (one ∷ more) ≡ values_of item more
other_value item one more test =
    ap (λ b. if b then one.value ∷ values_of item more else values_of item more) test

-- of its own item
pub own_more : (item : ℕ) (before : List MonitoredItemNotification) (one : MonitoredItemNotification)
    → (one.client_handle == item) ≡ true → last_from None (values_of item (before ++ one ∷ [])) ≡ Some one.value
own_more item before one test =
    ap (last_from None)
    (values_append item before (one ∷ [])
    ∙ ap (λ (l : List (Stamped Variant)). values_of item before ++ l) (own_value item one [] test))
    ∙ last_append None (values_of item before) (one.value ∷ [])

-- of another item
pub other_more : (item : ℕ) (before : List MonitoredItemNotification) (one : MonitoredItemNotification)
    → (one.client_handle == item) ≡ false → values_of item (before ++ one ∷ []) ≡ values_of item before
other_more item before one test =
    values_append item before (one ∷ [])
    ∙ ap (λ (l : List (Stamped Variant)). values_of item before ++ l) (other_value item one [] test)
    ∙ append-nil (values_of item before)

-- a value of its own item among others
pub own_among : (item : ℕ) (before : List MonitoredItemNotification) (one : MonitoredItemNotification)
    (behind : List MonitoredItemNotification) → (one.client_handle == item) ≡ true
    → values_of item (before ++ one ∷ behind) ≡ values_of item before ++ one.value ∷ values_of item behind
own_among item before one behind test =
    values_append item before (one ∷ behind)
    ∙ ap (λ (l : List (Stamped Variant)). values_of item before ++ l) (own_value item one behind test)

-- ---- messages

-- the message at a place stands behind those before it
pub joined_at : (messages : List (List MonitoredItemNotification)) (place : ℕ) (values : List MonitoredItemNotification)
    → slice_get messages place ≡ Some values
    → joined messages ≡ joined (take place messages) ++ (values ++ joined (drop (suc place) messages))
joined_at [] place values h = let bad : None ≡ Some values = h in absurd cc
joined_at (first ∷ messages) zero values h =
    ap (λ (l : List MonitoredItemNotification). l ++ joined messages) (same_Some first values h)
joined_at (first ∷ messages) (suc place) values h =
    ap (λ (l : List MonitoredItemNotification). first ++ l) (joined_at messages place values h)
    ∙ sym (append_assoc first (joined (take place messages)) (values ++ joined (drop (suc place) messages)))

-- and before the next place are those and it
pub joined_next : (messages : List (List MonitoredItemNotification)) (place : ℕ) (values : List MonitoredItemNotification)
    → slice_get messages place ≡ Some values
    → joined (take (suc place) messages) ≡ joined (take place messages) ++ values
joined_next [] place values h = let bad : None ≡ Some values = h in absurd cc
joined_next (first ∷ messages) zero values h = append-nil first ∙ same_Some first values h
joined_next (first ∷ messages) (suc place) values h =
    ap (λ (l : List MonitoredItemNotification). first ++ l) (joined_next messages place values h)
    ∙ sym (append_assoc first (joined (take place messages)) values)
