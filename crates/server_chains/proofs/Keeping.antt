-- What each call keeps of the item of an id: its stream gave all that was told, and it was made.
use Rattle.std.proofs.Common.{◌≡◌, ℕ, ℤ, ◌+◌, ◌<◌, ◌==◌, List, [], ◌∷◌, ◌++◌, Bool, true, false, cond, Option, Some, None, refl, sym, ap, ◌∙◌, subst, arith, ◌⊎◌, inl, inr}
use Rattle.std.proofs.lemmas.Bool.Decides.{nat_tests}
use Rattle.ua_base.specs.declared.modes.Mode.{Mode}
use Rattle.ua_base.specs.declared.modes.Mode.TheVariants.{Disabled}
use Rattle.set_model.specs.declared.source.Change.{Change}
use Rattle.set_model.specs.Source.{last_of}
use Rattle.item_queue.specs.declared.queue.Entry.{Entry}
use Rattle.item_queue.specs.Queue.{pushed}
use Rattle.subscription.specs.declared.cycle.Cycle.{Cycle}
use Rattle.subscription.specs.declared.cycle.Cycle.TheVariants.{Quiet, Notify, KeepAlive, Late, Expired}
use Rattle.subscription.specs.declared.spec.ItemSpec.{ItemSpec}
use Rattle.subscription.specs.declared.spec.SubSpec.{SubSpec}
use Rattle.subscription.specs.State.{ItemState, SubState}
use Rattle.subscription.specs.Items.{Told, fed_item, has_id, is_disabled, item_of, moded_if, new_item, samples, with_mode}
use Rattle.subscription.specs.Cycle.{after_row, cycled, row_of}
use Rattle.subscription.specs.Calls.{after_sending, entries_told, items_left, published, sent_with}
use Rattle.subscription.specs.History.{Call, Add, Remove, SetMode, Feed, Timer, Publish, Acknowledge, Modify, SetEnabled, Moved, after, state_of}
use Rattle.subscription.specs.Sources.{GiveLast, GivesLast, IsLastOf, known_after, known_with}
use Rattle.subscription.specs.Streams.{AreRising, ItemStream, begun_with, entries_of, fed_stream, moded_stream, no_stream, stream_after, stream_in, stream_of}
use Rattle.server_laws.specs.Whole.{told_in, with_told}
use Rattle.server_laws.proofs.Counting.{cycled_items, published_items}
use Rattle.server_laws.proofs.Whole.{AreOn, IsOn}
use Rattle.server_chains.specs.Chains.{spec_of, spec_with}
use Rattle.server_chains.proofs.Finding.{found_added, found_id, found_items_left, found_mapped, found_removed, found_within, none_above, nothing_told}
use Rattle.server_chains.proofs.Growing.{IsOf, last_in}
use Rattle.server_chains.proofs.Making.{IsMade, fed_made, left_made, moded_made, new_made}

pub record IsKept (id : ℕ) (s : SubState) (stream : ItemStream) (all : List Entry) (found : Option ItemSpec) (known : List Change) : Type 0 where
  pub same : (item : ItemState) → item_of id s.items ≡ Some item → stream.given ≡ all
  pub made : (item : ItemState) → item_of id s.items ≡ Some item → IsMade found known item
  pub new : s.given < id → all ≡ []

-- nothing was told of an item that is Disabled
abbrev pub IsSilent : ℕ → SubState → ItemStream → Type 0
IsSilent id s stream = (item : ItemState) → item_of id s.items ≡ Some item → is_disabled item.mode ≡ true → stream.given ≡ []

begun_given : (current : Option Change) → (begun_with current).given ≡ []
begun_given None = refl
begun_given (Some change) = refl

first_given : (stops : Bool) (current : Option Change) → (cond stops no_stream (begun_with current)).given ≡ []
first_given true current = refl
first_given false current = begun_given current

-- ---- an item is added

new_found : (id given : ℕ) (items : List ItemState) (added : ItemSpec) (current : Option Change) (known : List Change) (item : ItemState)
    → AreRising 0 items given → IsOf added.node known current
    → given < id → (item_of id items ≡ Some item) ⊎ ((item_of id items ≡ None) × ((new_item (given + 1) added current).id ≡ id) × (item ≡ new_item (given + 1) added current))
    → IsMade (Some added) known item
new_found id given items added current known item rises own over (inl is) =
    let within = found_within id 0 given items item rises is in
    let most = within.1 in
    absurd (omega (arith, most, over))
new_found id given items added current known item rises own over (inr is) = subst (IsMade (Some added) known) (sym is.2) (new_made (given + 1) added current known own)

old_found : (id given : ℕ) (items : List ItemState) (added : ItemSpec) (current : Option Change) (item : ItemState) → (given + 1 == id) ≡ false
    → (item_of id items ≡ Some item) ⊎ ((item_of id items ≡ None) × ((new_item (given + 1) added current).id ≡ id) × (item ≡ new_item (given + 1) added current))
    → item_of id items ≡ Some item
old_found id given items added current item other (inl is) = is
old_found id given items added current item other (inr is) =
    let same : given + 1 ≡ id = is.1 in
    absurd (grind (arith, nat_tests))

added_kept : (id : ℕ) (added : ItemSpec) (current : Option Change) (s : SubState) (stream : ItemStream) (all : List Entry) (found : Option ItemSpec) (known : List Change)
    (b : Bool) → (s.given + 1 == id) ≡ b → AreRising 0 s.items s.given → IsOf added.node known current → IsKept id s stream all found known
    → IsKept id (after (Add added current) s) (cond b (stream_in Disabled added.mode current no_stream) stream) all (cond b (Some added) found) known
added_kept id added current s stream all found known true test rises own h =
    let next : s.given < id = grind (arith, nat_tests) in
    record {
      same = λ item is. first_given (is_disabled added.mode) current ∙ sym (h.new next);
      made = λ item is. new_found id s.given s.items added current known item rises own next (found_added id s.items (new_item (s.given + 1) added current) item is);
      new = λ over. h.new next;
    }
added_kept id added current s stream all found known false test rises own h = record {
  same = λ item is. h.same item (old_found id s.given s.items added current item test (found_added id s.items (new_item (s.given + 1) added current) item is));
  made = λ item is. h.made item (old_found id s.given s.items added current item test (found_added id s.items (new_item (s.given + 1) added current) item is));
  new = λ over. h.new (omega (arith, over));
}

-- ---- a mode is set

moded_id : (id : ℕ) (mode : Mode) (current : Option Change) (item : ItemState) → (moded_if id mode current item).id ≡ item.id
moded_id id mode current item = by_test (has_id id item)
  where
    by_test : (b : Bool) → (cond b (with_mode mode current item) item).id ≡ item.id
    by_test true = refl
    by_test false = refl

moded_given : (stops disabled : Bool) (current : Option Change) (stream : ItemStream) (all : List Entry) → stops ≡ false → stream.given ≡ all
    → (disabled ≡ true → stream.given ≡ []) → (cond stops no_stream (cond disabled (begun_with current) stream)).given ≡ all
moded_given true disabled current stream all goes same off = absurd cc
moded_given false true current stream all goes same off = begun_given current ∙ sym (off refl) ∙ same
moded_given false false current stream all goes same off = same

moded_same : (id other : ℕ) (mode : Mode) (current : Option Change) (s : SubState) (stream : ItemStream) (all : List Entry) (found : Option ItemSpec) (known : List Change)
    (b : Bool) → is_disabled mode ≡ false → IsSilent id s stream → IsKept id s stream all found known → (before : ItemState) → item_of id s.items ≡ Some before
    → (cond b (moded_stream (item_of id s.items) mode current stream) stream).given ≡ all
moded_same id other mode current s stream all found known true goes off h before is =
    ap (λ o. (moded_stream o mode current stream).given) is
    ∙ moded_given (is_disabled mode) (is_disabled before.mode) current stream all goes (h.same before is) (off before is)
moded_same id other mode current s stream all found known false goes off h before is = h.same before is

-- the current value that is given is of the item's node
given_of : (found : Option ItemState) (item : ItemState) (current : Option Change) (known : List Change) → found ≡ Some item → IsLastOf found current known
    → IsOf item.node known current
given_of found item current known is gives =
    let last : current ≡ last_of item.node known = subst (λ o. IsLastOf o current known) is gives in
    subst (IsOf item.node known) (sym last) (last_in item.node known)

moded_kept : (id other : ℕ) (mode : Mode) (current : Option Change) (s : SubState) (stream : ItemStream) (all : List Entry) (found : Option ItemSpec) (known : List Change)
    → IsLastOf (item_of other s.items) current known → is_disabled mode ≡ false → IsSilent id s stream → IsKept id s stream all found known
    → IsKept id (after (SetMode other mode current) s) (cond (other == id) (moded_stream (item_of id s.items) mode current stream) stream) all found known
moded_kept id other mode current s stream all found known gives goes off h = record {
  same = λ item is.
      let was = found_mapped id (moded_if other mode current) (moded_id other mode current) s.items item is in
      moded_same id other mode current s stream all found known (other == id) goes off h was.before was.found;
  made = λ item is.
      let was = found_mapped id (moded_if other mode current) (moded_id other mode current) s.items item is in
      subst (IsMade found known) (sym was.is)
      (moded_made found known other mode current was.before
      (λ own. given_of (item_of other s.items) was.before current known
      (ap (λ n. item_of n s.items) (sym own ∙ found_id id s.items was.before was.found) ∙ was.found) gives)
      (h.made was.before was.found));
  new = h.new;
}

-- ---- a change is fed

fed_id : (change : Change) (item : ItemState) → (fed_item change item).id ≡ item.id
fed_id change item = by_test (samples change item)
  where
    by_test : (b : Bool) → (cond b (record item { queue = pushed change item.queue }) item).id ≡ item.id
    by_test true = refl
    by_test false = refl

fed_given : (found : Option ItemState) (change : Change) (stream : ItemStream) → (fed_stream found change stream).given ≡ stream.given
fed_given None change stream = refl
fed_given (Some item) change stream = by_test (samples change item)
  where
    by_test : (b : Bool) → (cond b (record stream { pushed = stream.pushed ++ change ∷ [] }) stream).given ≡ stream.given
    by_test true = refl
    by_test false = refl

fed_kept : (id : ℕ) (change : Change) (s : SubState) (stream : ItemStream) (all : List Entry) (found : Option ItemSpec) (known : List Change)
    → IsKept id s stream all found known → IsKept id (after (Feed change) s) (fed_stream (item_of id s.items) change stream) all found (known ++ change ∷ [])
fed_kept id change s stream all found known h = record {
  same = λ item is.
      let was = found_mapped id (fed_item change) (fed_id change) s.items item is in
      fed_given (item_of id s.items) change stream ∙ h.same was.before was.found;
  made = λ item is.
      let was = found_mapped id (fed_item change) (fed_id change) s.items item is in
      subst (IsMade found (known ++ change ∷ [])) (sym was.is) (fed_made found known change was.before (h.made was.before was.found));
  new = h.new;
}

-- ---- the items, and how many there were, are the same

same_kept : (id : ℕ) (s later : SubState) (stream : ItemStream) (all : List Entry) (found : Option ItemSpec) (known : List Change) → later.items ≡ s.items
    → later.given ≡ s.given → IsKept id s stream all found known → IsKept id later stream all found known
same_kept id s later stream all found known items given h = record {
  same = λ item is. h.same item (sym (ap (item_of id) items) ∙ is);
  made = λ item is. h.made item (sym (ap (item_of id) items) ∙ is);
  new = λ over. h.new (omega (arith, over, given));
}

pub cycled_given : (queued : Bool) (s : SubState) → (cycled queued s).given ≡ s.given
cycled_given queued s = by_row (row_of queued s)
  where
    by_row : (row : Cycle) → (after_row row queued s).given ≡ s.given
    by_row Quiet = refl
    by_row Notify = refl
    by_row KeepAlive = refl
    by_row Late = refl
    by_row Expired = refl

-- ---- a message is sent

pub published_given : (now : ℤ) (s : SubState) → (published now s).given ≡ s.given
published_given now s = by_entries (entries_told s)
  where
    by_entries : (entries : List Told) → (after_sending (sent_with entries now (record s { items = items_left s }))).given ≡ s.given
    by_entries [] = refl
    by_entries (one ∷ more) = refl

none_more : (all more : List Entry) → all ≡ [] → more ≡ [] → all ++ more ≡ []
none_more all more one other = ap (λ l. l ++ more) one ∙ other

published_kept : (id : ℕ) (now : ℤ) (s : SubState) (stream : ItemStream) (all : List Entry) (found : Option ItemSpec) (known : List Change)
    → AreRising 0 s.items s.given → IsKept id s stream all found known
    → IsKept id (after (Publish now) s) (record stream { given = stream.given ++ entries_of id (entries_told s) }) (all ++ entries_of id (entries_told s)) found known
published_kept id now s stream all found known rises h = record {
  same = λ item is.
      let was = found_items_left id s item (sym (ap (item_of id) (published_items now s)) ∙ is) in
      ap (λ l. l ++ entries_of id (entries_told s)) (h.same was.before was.found);
  made = λ item is.
      let was = found_items_left id s item (sym (ap (item_of id) (published_items now s)) ∙ is) in
      subst (IsMade found known) (sym was.is) (left_made found known was.count was.before (h.made was.before was.found));
  new = λ over.
      let given = published_given now s in
      let above : s.given < id = omega (arith, over, given) in
      none_more all (entries_of id (entries_told s)) (h.new above) (nothing_told id s (none_above id s.given s.items rises above));
}

-- ---- any calls

kept_after : (id : ℕ) (call : Call) (s : SubState) (stream : ItemStream) (all : List Entry) (found : Option ItemSpec) (known : List Change) → IsOn call
    → GivesLast call s known → AreRising 0 s.items s.given → IsSilent id s stream → IsKept id s stream all found known
    → IsKept id (after call s) (stream_after id call s stream) (with_told id call s all) (spec_with id call s found) (known_with call known)
kept_after id (Add added current) s stream all found known goes gives rises off h =
    added_kept id added current s stream all found known (s.given + 1 == id) refl rises
    (subst (IsOf added.node known) (sym gives) (last_in added.node known)) h
kept_after id (Remove other) s stream all found known goes gives rises off h = record {
  same = λ item is. h.same item (found_removed id other s.items item is);
  made = λ item is. h.made item (found_removed id other s.items item is);
  new = h.new;
}
kept_after id (SetMode other mode current) s stream all found known goes gives rises off h =
    moded_kept id other mode current s stream all found known gives goes off h
kept_after id (Feed change) s stream all found known goes gives rises off h = fed_kept id change s stream all found known h
kept_after id (Timer queued) s stream all found known goes gives rises off h =
    same_kept id s (cycled queued s) stream all found known (cycled_items queued s) (cycled_given queued s) h
kept_after id (Publish now) s stream all found known goes gives rises off h = published_kept id now s stream all found known rises h
kept_after id (Acknowledge number) s stream all found known goes gives rises off h = same_kept id s (after (Acknowledge number) s) stream all found known refl refl h
kept_after id (Modify spec now) s stream all found known goes gives rises off h = same_kept id s (after (Modify spec now) s) stream all found known refl refl h
kept_after id (SetEnabled enabled) s stream all found known goes gives rises off h = same_kept id s (after (SetEnabled enabled) s) stream all found known refl refl h
kept_after id Moved s stream all found known goes gives rises off h = same_kept id s (after Moved s) stream all found known refl refl h

-- what the crate of the subscription says
pub record Streams : Type 0 where
  pub rises : (spec : SubSpec) (start : ℕ) (calls : List Call) → AreRising 0 (state_of spec start calls).items (state_of spec start calls).given
  pub stops : (spec : SubSpec) (start : ℕ) (first : List Change) (calls : List Call) (id : ℕ) (item : ItemState) → GiveLast spec start first calls
      → item_of id (state_of spec start calls).items ≡ Some item → is_disabled item.mode ≡ true
      → (item.queue.entries ≡ []) × (stream_of spec start id calls ≡ no_stream)

pub kept : Streams → (spec : SubSpec) (start : ℕ) (first : List Change) (id : ℕ) (calls : List Call) → GiveLast spec start first calls → AreOn calls
    → IsKept id (state_of spec start calls) (stream_of spec start id calls) (told_in spec start id calls) (spec_of id spec start calls)
    (known_after first calls)
kept laws spec start first id [] gives goes = record { same = λ item is. refl; made = λ item is. absurd cc; new = λ over. refl }
kept laws spec start first id (call ∷ earlier) gives goes =
    kept_after id call (state_of spec start earlier) (stream_of spec start id earlier) (told_in spec start id earlier) (spec_of id spec start earlier)
    (known_after first earlier) goes.0 gives.0 (laws.rises spec start earlier)
    (λ item is off. ap (λ (stream : ItemStream). stream.given) (laws.stops spec start first earlier id item gives.1 is off).1)
    (kept laws spec start first id earlier gives.1 goes.1)
