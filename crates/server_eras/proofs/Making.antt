-- Each item is as it was made, in whatever modes it was since.
use Rattle.std.proofs.Common.{◌≡◌, ℕ, ◌+◌, ◌<◌, ◌==◌, List, [], ◌∷◌, ◌++◌, Bool, true, false, cond, Option, Some, None, refl, sym, ap, ◌∙◌, subst, arith, ◌⊎◌, inl, inr}
use Rattle.std.proofs.lemmas.Bool.Decides.{nat_tests}
use Rattle.set_model.specs.declared.source.Change.{Change}
use Rattle.set_model.specs.Source.{last_of}
use Rattle.item_queue.specs.Queue.{pushed}
use Rattle.ua_base.specs.declared.modes.Mode.{Mode}
use Rattle.subscription.specs.declared.spec.ItemSpec.{ItemSpec}
use Rattle.subscription.specs.declared.spec.SubSpec.{SubSpec}
use Rattle.subscription.specs.State.{ItemState, SubState}
use Rattle.subscription.specs.Items.{fed_item, has_id, item_of, moded_if, new_item, samples, with_mode}
use Rattle.subscription.specs.Cycle.{cycled}
use Rattle.subscription.specs.History.{Call, Add, Remove, SetMode, Feed, Timer, Publish, Acknowledge, Modify, SetEnabled, Moved, after, state_of}
use Rattle.subscription.specs.Sources.{GiveLast, GivesLast, IsLastOf, known_after, known_with}
use Rattle.subscription.specs.Streams.{AreRising}
use Rattle.server_laws.proofs.Counting.{cycled_items, published_items}
use Rattle.server_chains.specs.Chains.{spec_of, spec_with}
use Rattle.server_chains.proofs.Finding.{found_added, found_id, found_items_left, found_mapped, found_removed, found_within}
use Rattle.server_chains.proofs.Growing.{IsOf, last_in}
use Rattle.server_chains.proofs.Keeping.{Streams}
use Rattle.server_chains.proofs.Making.{IsMade, fed_made, left_made, moded_made, new_made}

-- each item that is found was made so
abbrev pub AreMade : ℕ → SubState → Option ItemSpec → List Change → Type 0
AreMade id s found known = (item : ItemState) → item_of id s.items ≡ Some item → IsMade found known item

pub record Made : Type 0 where
  pub made : (spec : SubSpec) (start : ℕ) (first : List Change) (id : ℕ) (calls : List Call) → GiveLast spec start first calls
      → AreMade id (state_of spec start calls) (spec_of id spec start calls) (known_after first calls)

-- ---- an item is added

new_found : (id given : ℕ) (items : List ItemState) (added : ItemSpec) (current : Option Change) (known : List Change) (item : ItemState)
    → AreRising 0 items given → IsOf added.node known current
    → given < id → (item_of id items ≡ Some item) ⊎ ((item_of id items ≡ None) × ((new_item (given + 1) added current).id ≡ id) × (item ≡ new_item (given + 1) added current))
    → IsMade (Some added) known item
new_found id given items added current known item rises own over (inl is) =
    let within = found_within id 0 given items item rises is in
    let most = within.1 in
    absurd (omega (arith, most, over))
new_found id given items added current known item rises own over (inr is) = subst (IsMade (Some added) known) (sym is.2) (new_made (given + 1) added current known own)

old_made : (id given : ℕ) (items : List ItemState) (added : ItemSpec) (current : Option Change) (item : ItemState) (found : Option ItemSpec) (known : List Change)
    → (given + 1 == id) ≡ false → ((item : ItemState) → item_of id items ≡ Some item → IsMade found known item)
    → (item_of id items ≡ Some item) ⊎ ((item_of id items ≡ None) × ((new_item (given + 1) added current).id ≡ id) × (item ≡ new_item (given + 1) added current))
    → IsMade found known item
old_made id given items added current item found known other h (inl is) = h item is
old_made id given items added current item found known other h (inr is) =
    let same : given + 1 ≡ id = is.1 in
    absurd (grind (arith, nat_tests))

added_made : (id : ℕ) (added : ItemSpec) (current : Option Change) (s : SubState) (found : Option ItemSpec) (known : List Change)
    (b : Bool) → (s.given + 1 == id) ≡ b → AreRising 0 s.items s.given → IsOf added.node known current → AreMade id s found known
    → AreMade id (after (Add added current) s) (cond b (Some added) found) known
added_made id added current s found known true test rises own h = λ item is.
    let next : s.given < id = grind (arith, nat_tests) in
    new_found id s.given s.items added current known item rises own next (found_added id s.items (new_item (s.given + 1) added current) item is)
added_made id added current s found known false test rises own h = λ item is.
    old_made id s.given s.items added current item found known test h (found_added id s.items (new_item (s.given + 1) added current) item is)

-- ---- a mode is set

moded_id : (id : ℕ) (mode : Mode) (current : Option Change) (item : ItemState) → (moded_if id mode current item).id ≡ item.id
moded_id id mode current item = by_test (has_id id item)
  where
    by_test : (b : Bool) → (cond b (with_mode mode current item) item).id ≡ item.id
    by_test true = refl
    by_test false = refl

-- the current value that is given is of the item's node
given_of : (found : Option ItemState) (item : ItemState) (current : Option Change) (known : List Change) → found ≡ Some item → IsLastOf found current known
    → IsOf item.node known current
given_of found item current known is gives =
    let last : current ≡ last_of item.node known = subst (λ o. IsLastOf o current known) is gives in
    subst (IsOf item.node known) (sym last) (last_in item.node known)

mode_made : (id other : ℕ) (mode : Mode) (current : Option Change) (s : SubState) (found : Option ItemSpec) (known : List Change)
    → IsLastOf (item_of other s.items) current known → AreMade id s found known → AreMade id (after (SetMode other mode current) s) found known
mode_made id other mode current s found known gives h = λ item is.
    let was = found_mapped id (moded_if other mode current) (moded_id other mode current) s.items item is in
    subst (IsMade found known) (sym was.is)
    (moded_made found known other mode current was.before
    (λ own. given_of (item_of other s.items) was.before current known
    (ap (λ n. item_of n s.items) (sym own ∙ found_id id s.items was.before was.found) ∙ was.found) gives)
    (h was.before was.found))

-- ---- a change is fed

fed_id : (change : Change) (item : ItemState) → (fed_item change item).id ≡ item.id
fed_id change item = by_test (samples change item)
  where
    by_test : (b : Bool) → (cond b (record item { queue = pushed change item.queue }) item).id ≡ item.id
    by_test true = refl
    by_test false = refl

-- ---- any calls

same_made : (id : ℕ) (s later : SubState) (found : Option ItemSpec) (known : List Change) → later.items ≡ s.items
    → AreMade id s found known → AreMade id later found known
same_made id s later found known items h = λ item is. h item (sym (ap (item_of id) items) ∙ is)

made_after : (id : ℕ) (call : Call) (s : SubState) (found : Option ItemSpec) (known : List Change) → GivesLast call s known → AreRising 0 s.items s.given
    → AreMade id s found known → AreMade id (after call s) (spec_with id call s found) (known_with call known)
made_after id (Add added current) s found known gives rises h =
    added_made id added current s found known (s.given + 1 == id) refl rises (subst (IsOf added.node known) (sym gives) (last_in added.node known)) h
made_after id (Remove other) s found known gives rises h = λ item is. h item (found_removed id other s.items item is)
made_after id (SetMode other mode current) s found known gives rises h = mode_made id other mode current s found known gives h
made_after id (Feed change) s found known gives rises h = λ item is.
    let was = found_mapped id (fed_item change) (fed_id change) s.items item is in
    subst (IsMade found (known ++ change ∷ [])) (sym was.is) (fed_made found known change was.before (h was.before was.found))
made_after id (Timer queued) s found known gives rises h = same_made id s (cycled queued s) found known (cycled_items queued s) h
made_after id (Publish now) s found known gives rises h = λ item is.
    let was = found_items_left id s item (sym (ap (item_of id) (published_items now s)) ∙ is) in
    subst (IsMade found known) (sym was.is) (left_made found known was.count was.before (h was.before was.found))
made_after id (Acknowledge number) s found known gives rises h = same_made id s (after (Acknowledge number) s) found known refl h
made_after id (Modify spec now) s found known gives rises h = same_made id s (after (Modify spec now) s) found known refl h
made_after id (SetEnabled enabled) s found known gives rises h = same_made id s (after (SetEnabled enabled) s) found known refl h
made_after id Moved s found known gives rises h = same_made id s (after Moved s) found known refl h

made_of : Streams → (spec : SubSpec) (start : ℕ) (first : List Change) (id : ℕ) (calls : List Call) → GiveLast spec start first calls
    → AreMade id (state_of spec start calls) (spec_of id spec start calls) (known_after first calls)
made_of laws spec start first id [] gives = λ item is. absurd cc
made_of laws spec start first id (call ∷ earlier) gives =
    made_after id call (state_of spec start earlier) (spec_of id spec start earlier) (known_after first earlier) gives.0 (laws.rises spec start earlier)
    (made_of laws spec start first id earlier gives.1)

pub items_are_made : Streams → Made
items_are_made laws = record { made = λ spec start first id calls gives. made_of laws spec start first id calls gives }
