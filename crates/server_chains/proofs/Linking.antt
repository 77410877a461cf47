-- All that any calls told of an item is linked, whether it is there or was removed.
use Rattle.std.proofs.Common.{◌≡◌, ℕ, ◌+◌, ◌<◌, ◌==◌, List, [], ◌∷◌, ◌++◌, Bool, true, false, cond, Option, Some, None, refl, sym, ap, ◌∙◌, subst, append_assoc, arith}
use Rattle.std.proofs.lemmas.Bool.Decides.{nat_tests}
use Rattle.std.proofs.lemmas.List.{append-nil}
use Rattle.std.proofs.lemmas.List.Elements.{filter-append}
use Rattle.set_model.specs.declared.source.Change.{Change}
use Rattle.set_model.specs.Source.{of_item}
use Rattle.item_queue.specs.declared.queue.Entry.{Entry}
use Rattle.subscription.specs.declared.spec.ItemSpec.{ItemSpec}
use Rattle.subscription.specs.declared.spec.SubSpec.{SubSpec}
use Rattle.subscription.specs.State.{ItemState, SubState}
use Rattle.subscription.specs.Items.{Told, is_disabled, item_of}
use Rattle.subscription.specs.History.{AreAllowed, Call, Add, Remove, SetMode, Feed, Timer, Publish, Acknowledge, Modify, SetEnabled, Moved, after, state_of}
use Rattle.subscription.specs.Linked.{AreLinked, AreLinkedAfter, IsLinked}
use Rattle.subscription.specs.Sources.{GiveLast, known_after, known_with}
use Rattle.subscription.specs.Streams.{ItemStream, entries_of, stream_of}
use Rattle.server_laws.specs.Whole.{told_in, with_told}
use Rattle.server_laws.proofs.Counting.{published_items}
use Rattle.server_laws.proofs.Whole.{AreOn}
use Rattle.server_chains.specs.Chains.{joined, messages_told, spec_of, spec_with, told_by, with_message_told}
use Rattle.server_chains.proofs.Finding.{entries_join, none_in, nothing_told}
use Rattle.server_chains.proofs.Growing.{get_front}
use Rattle.server_chains.proofs.Making.{IsMade}
use Rattle.server_chains.proofs.Keeping.{Streams, kept}

-- ---- links among more changes

linked_more : (size : ℕ) (changes more : List Change) (former later : Entry) → IsLinked size changes former later → IsLinked size (changes ++ more) former later
linked_more size changes more former later h = record {
  place = h.place;
  next_place = h.next_place;
  former_at = get_front changes more h.place former.change h.former_at;
  later_at = get_front changes more h.next_place later.change h.later_at;
  rises = h.rises;
  next = h.next;
}

after_more : (size : ℕ) (changes more : List Change) (former : Entry) (entries : List Entry) → AreLinkedAfter size changes former entries
    → AreLinkedAfter size (changes ++ more) former entries
after_more size changes more former [] h = tt
after_more size changes more former (entry ∷ entries) h = (linked_more size changes more former entry h.0, after_more size changes more entry entries h.1)

all_more : (size : ℕ) (changes more : List Change) (entries : List Entry) → AreLinked size changes entries → AreLinked size (changes ++ more) entries
all_more size changes more [] h = tt
all_more size changes more (entry ∷ entries) h = after_more size changes more entry entries h

-- what is fed later changes no link
pub linked_later : (size node : ℕ) (known more : List Change) (entries : List Entry) → AreLinked size (of_item node known) entries
    → AreLinked size (of_item node (known ++ more)) entries
linked_later size node known more entries h =
    subst (λ changes. AreLinked size changes entries) (sym (filter-append (λ (c : Change). c.item == node) known more))
    (all_more size (of_item node known) (of_item node more) entries h)

-- ---- links of a front

front_after : (size : ℕ) (changes : List Change) (former : Entry) (entries more : List Entry) → AreLinkedAfter size changes former (entries ++ more)
    → AreLinkedAfter size changes former entries
front_after size changes former [] more h = tt
front_after size changes former (entry ∷ entries) more h = (h.0, front_after size changes entry entries more h.1)

front_linked : (size : ℕ) (changes : List Change) (entries more : List Entry) → AreLinked size changes (entries ++ more) → AreLinked size changes entries
front_linked size changes [] more h = tt
front_linked size changes (entry ∷ entries) more h = front_after size changes entry entries more h

none_linked : (size : ℕ) (changes : List Change) (entries : List Entry) → entries ≡ [] → AreLinked size changes entries
none_linked size changes entries none = subst (AreLinked size changes) (sym none) tt

-- ---- any calls

-- what the crate of the subscription says
pub record Links : Type 0 where
  pub streams : Streams
  pub linked : (spec : SubSpec) (start : ℕ) (first : List Change) (calls : List Call) (id : ℕ) (item : ItemState) → AreAllowed calls
      → GiveLast spec start first calls → item_of id (state_of spec start calls).items ≡ Some item → is_disabled item.mode ≡ false
      → AreLinked item.queue.size (of_item item.node (known_after first calls)) ((stream_of spec start id calls).given ++ item.queue.entries)

-- all that was told of an item that is there
there_by : Links → (spec : SubSpec) (start : ℕ) (first : List Change) (id : ℕ) (calls : List Call) → AreAllowed calls → GiveLast spec start first calls → AreOn calls
    → (item : ItemState) → item_of id (state_of spec start calls).items ≡ Some item → (b : Bool) → is_disabled item.mode ≡ b
    → AreLinked item.queue.size (of_item item.node (known_after first calls)) (told_in spec start id calls)
there_by laws spec start first id calls allowed gives goes item is true off =
    let whole = kept laws.streams spec start first id calls gives goes in
    none_linked item.queue.size (of_item item.node (known_after first calls)) (told_in spec start id calls)
    (sym (whole.same item is) ∙ ap (λ (stream : ItemStream). stream.given) (laws.streams.stops spec start first calls id item gives is off).1)
there_by laws spec start first id calls allowed gives goes item is false on =
    let whole = kept laws.streams spec start first id calls gives goes in
    front_linked item.queue.size (of_item item.node (known_after first calls)) (told_in spec start id calls) item.queue.entries
    (subst (λ (given : List Entry). AreLinked item.queue.size (of_item item.node (known_after first calls)) (given ++ item.queue.entries)) (whole.same item is)
    (laws.linked spec start first calls id item allowed gives is on))

there_as : (item : ItemState) (found : Option ItemSpec) (added : ItemSpec) (known : List Change) (told : List Entry) → found ≡ Some added → IsMade found known item
    → AreLinked item.queue.size (of_item item.node known) told → AreLinked added.queue (of_item added.node known) told
there_as item found added known told is made h =
    let both : Some made.added ≡ Some added = sym made.was ∙ is in
    let same : made.added ≡ added = cc in
    subst (λ (n : ℕ). AreLinked n (of_item added.node known) told) (made.queue.size_is ∙ ap (λ (a : ItemSpec). a.queue) same)
    (subst (λ (n : ℕ). AreLinked item.queue.size (of_item n known) told) (made.node ∙ ap (λ (a : ItemSpec). a.node) same) h)

-- a call after which the item isn't there tells nothing of it
gone_told : (id : ℕ) (call : Call) (s : SubState) (told : List Entry) → item_of id (after call s).items ≡ None → with_told id call s told ≡ told
gone_told id (Publish now) s told none =
    ap (λ l. told ++ l) (nothing_told id s (none_in id s (sym (ap (item_of id) (published_items now s)) ∙ none))) ∙ append-nil told
gone_told id (Add added current) s told none = refl
gone_told id (Remove other) s told none = refl
gone_told id (SetMode other mode current) s told none = refl
gone_told id (Feed change) s told none = refl
gone_told id (Timer queued) s told none = refl
gone_told id (Acknowledge number) s told none = refl
gone_told id (Modify spec now) s told none = refl
gone_told id (SetEnabled enabled) s told none = refl
gone_told id Moved s told none = refl

known_linked : (call : Call) (size node : ℕ) (known : List Change) (told : List Entry) → AreLinked size (of_item node known) told
    → AreLinked size (of_item node (known_with call known)) told
known_linked (Feed change) size node known told h = linked_later size node known (change ∷ []) told h
known_linked (Add added current) size node known told h = h
known_linked (Remove other) size node known told h = h
known_linked (SetMode other mode current) size node known told h = h
known_linked (Timer queued) size node known told h = h
known_linked (Publish now) size node known told h = h
known_linked (Acknowledge number) size node known told h = h
known_linked (Modify spec now) size node known told h = h
known_linked (SetEnabled enabled) size node known told h = h
known_linked Moved size node known told h = h

-- it was made before, or nothing was told of it
before_by : (b : Bool) (id : ℕ) (added : ItemSpec) (item_spec : ItemSpec) (s : SubState) (found : Option ItemSpec) (size : ℕ) (changes : List Change) (told : List Entry)
    → (s.given + 1 == id) ≡ b → (s.given < id → told ≡ []) → (found ≡ Some item_spec → AreLinked size changes told) → cond b (Some added) found ≡ Some item_spec
    → AreLinked size changes told
before_by true id added item_spec s found size changes told test new on is =
    let next : s.given < id = grind (arith, nat_tests) in
    none_linked size changes told (new next)
before_by false id added item_spec s found size changes told test new on is = on is

linked_before : (id : ℕ) (call : Call) (s : SubState) (found : Option ItemSpec) (item_spec : ItemSpec) (size : ℕ) (changes : List Change) (told : List Entry)
    → (s.given < id → told ≡ []) → (found ≡ Some item_spec → AreLinked size changes told) → spec_with id call s found ≡ Some item_spec
    → AreLinked size changes told
linked_before id (Add added current) s found item_spec size changes told new on is =
    before_by (s.given + 1 == id) id added item_spec s found size changes told refl new on is
linked_before id (Remove other) s found item_spec size changes told new on is = on is
linked_before id (SetMode other mode current) s found item_spec size changes told new on is = on is
linked_before id (Feed change) s found item_spec size changes told new on is = on is
linked_before id (Timer queued) s found item_spec size changes told new on is = on is
linked_before id (Publish now) s found item_spec size changes told new on is = on is
linked_before id (Acknowledge number) s found item_spec size changes told new on is = on is
linked_before id (Modify spec now) s found item_spec size changes told new on is = on is
linked_before id (SetEnabled enabled) s found item_spec size changes told new on is = on is
linked_before id Moved s found item_spec size changes told new on is = on is

linked_by : Links → (spec : SubSpec) (start : ℕ) (first : List Change) (id : ℕ) (call : Call) (earlier : List Call) (added : ItemSpec) → AreAllowed (call ∷ earlier)
    → GiveLast spec start first (call ∷ earlier) → AreOn (call ∷ earlier) → spec_of id spec start (call ∷ earlier) ≡ Some added
    → (spec_of id spec start earlier ≡ Some added → AreLinked added.queue (of_item added.node (known_after first earlier)) (told_in spec start id earlier))
    → (found : Option ItemState) → item_of id (state_of spec start (call ∷ earlier)).items ≡ found
    → AreLinked added.queue (of_item added.node (known_after first (call ∷ earlier))) (told_in spec start id (call ∷ earlier))
linked_by laws spec start first id call earlier added allowed gives goes is on (Some item) found =
    there_as item (spec_of id spec start (call ∷ earlier)) added (known_after first (call ∷ earlier)) (told_in spec start id (call ∷ earlier)) is
    ((kept laws.streams spec start first id (call ∷ earlier) gives goes).made item found)
    (there_by laws spec start first id (call ∷ earlier) allowed gives goes item found (is_disabled item.mode) refl)
linked_by laws spec start first id call earlier added allowed gives goes is on None found =
    let s : SubState = state_of spec start earlier in
    let told : List Entry = told_in spec start id earlier in
    subst (AreLinked added.queue (of_item added.node (known_after first (call ∷ earlier)))) (sym (gone_told id call s told found))
    (known_linked call added.queue added.node (known_after first earlier) told
    (linked_before id call s (spec_of id spec start earlier) added added.queue (of_item added.node (known_after first earlier)) told
    (kept laws.streams spec start first id earlier gives.1 goes.1).new on is))

linked_in : Links → (spec : SubSpec) (start : ℕ) (first : List Change) (id : ℕ) (calls : List Call) (added : ItemSpec) → AreAllowed calls
    → GiveLast spec start first calls → AreOn calls → spec_of id spec start calls ≡ Some added
    → AreLinked added.queue (of_item added.node (known_after first calls)) (told_in spec start id calls)
linked_in laws spec start first id [] added allowed gives goes is = tt
linked_in laws spec start first id (call ∷ earlier) added allowed gives goes is =
    linked_by laws spec start first id call earlier added allowed gives goes is
    (linked_in laws spec start first id earlier added allowed.1 gives.1 goes.1)
    (item_of id (state_of spec start (call ∷ earlier)).items) refl

-- ---- message by message

pub joined_more : (messages : List (List Told)) (told : List Told) → joined (with_message_told messages told) ≡ joined messages ++ told
joined_more messages [] = sym (append-nil (joined messages))
joined_more messages (one ∷ more) = joined_snoc messages (one ∷ more)
  where
    joined_snoc : (messages : List (List Told)) (told : List Told) → joined (messages ++ told ∷ []) ≡ joined messages ++ told
    joined_snoc [] told = append-nil told
    joined_snoc (first ∷ messages) told = ap (λ l. first ++ l) (joined_snoc messages told) ∙ sym (append_assoc first (joined messages) told)

told_more : (id : ℕ) (call : Call) (s : SubState) (told : List Entry) → told ++ entries_of id (told_by call s) ≡ with_told id call s told
told_more id (Publish now) s told = refl
told_more id (Add added current) s told = append-nil told
told_more id (Remove other) s told = append-nil told
told_more id (SetMode other mode current) s told = append-nil told
told_more id (Feed change) s told = append-nil told
told_more id (Timer queued) s told = append-nil told
told_more id (Acknowledge number) s told = append-nil told
told_more id (Modify spec now) s told = append-nil told
told_more id (SetEnabled enabled) s told = append-nil told
told_more id Moved s told = append-nil told

told_joined : (spec : SubSpec) (start id : ℕ) (calls : List Call) → entries_of id (joined (messages_told spec start calls)) ≡ told_in spec start id calls
told_joined spec start id [] = refl
told_joined spec start id (call ∷ earlier) =
    let s : SubState = state_of spec start earlier in
    ap (entries_of id) (joined_more (messages_told spec start earlier) (told_by call s))
    ∙ entries_join id (joined (messages_told spec start earlier)) (told_by call s)
    ∙ ap (λ l. l ++ entries_of id (told_by call s)) (told_joined spec start id earlier)
    ∙ told_more id call s (told_in spec start id earlier)

pub linked_of : Links → (spec : SubSpec) (start : ℕ) (first : List Change) (id : ℕ) (calls : List Call) (added : ItemSpec) → AreAllowed calls
    → GiveLast spec start first calls → AreOn calls → spec_of id spec start calls ≡ Some added
    → AreLinked added.queue (of_item added.node (known_after first calls)) (entries_of id (joined (messages_told spec start calls)))
linked_of laws spec start first id calls added allowed gives goes is =
    subst (AreLinked added.queue (of_item added.node (known_after first calls))) (sym (told_joined spec start id calls))
    (linked_in laws spec start first id calls added allowed gives goes is)
