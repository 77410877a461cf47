-- Neighbours among the entries that an item tells are linked, and the last one is the node's last change.
use Rattle.std.proofs.Common.{◌≡◌, ℕ, suc, ◌+◌, ◌-◌, ◌<◌, ◌≤◌, List, [], ◌∷◌, ◌++◌, false, length, Some, refl, sym, ap, ◌∙◌, arith, slice_get}
use Rattle.set_model.specs.declared.source.Change.{Change}
use Rattle.set_model.specs.Source.{last_of, of_item}
use Rattle.set_model.proofs.SourceLemmas.{last_of-newest, newest, newest_from}
use Rattle.item_queue.specs.declared.queue.Entry.{Entry}
use Rattle.item_queue.specs.State.{QueueState}
use Rattle.item_queue.specs.Stream.{AreAt, IsAt, last_place}
use Rattle.item_queue.proofs.Entries.{next_place}
use Rattle.subscription.specs.declared.spec.SubSpec.{SubSpec}
use Rattle.subscription.specs.State.{ItemState}
use Rattle.subscription.specs.Items.{is_disabled, item_of}
use Rattle.subscription.specs.History.{AreAllowed, Call, state_of}
use Rattle.subscription.specs.Streams.{IsTold, ItemStream, stream_of}
use Rattle.subscription.specs.Sources.{GiveLast, IsRun, known_after}
use Rattle.subscription.specs.Linked.{AreLinked, AreLinkedAfter, last_change, last_from}
use Rattle.subscription.proofs.Streaming.{in_order}
use Rattle.subscription.proofs.Sourcing.{runs}

-- ---- places of a stream

at_join : (size : ℕ) (changes : List Change) (before : ℕ) (places more : List ℕ) (entries others : List Entry)
    → AreAt size changes before places entries → AreAt size changes (last_place before places) more others
    → AreAt size changes before (places ++ more) (entries ++ others)
at_join size changes before [] more [] others h rest = rest
at_join size changes before (place ∷ places) more (entry ∷ entries) others h rest =
    (h.0, at_join size changes place places more entries others h.1 rest)
at_join size changes before [] more (entry ∷ entries) others h rest = absurd h
at_join size changes before (place ∷ places) more [] others h rest = absurd h

last_join : (before : ℕ) (places more : List ℕ) → last_place before (places ++ more) ≡ last_place (last_place before places) more
last_join before [] more = refl
last_join before (place ∷ places) more = last_join place places more

-- a change of a list is behind those that stand before the list
get_behind : (front changes : List Change) (k : ℕ) → slice_get (front ++ changes) (length front + k) ≡ slice_get changes k
get_behind [] changes k = let same : 0 + k ≡ k = omega arith in ap (slice_get changes) same
get_behind (c ∷ front) changes k =
    let same : length (c ∷ front) + k ≡ suc (length front + k) = omega arith in
    ap (slice_get (c ∷ front ++ changes)) same ∙ get_behind front changes k

record AtPlace (size : ℕ) (source front : List Change) (before place : ℕ) (entry : Entry) : Type 0 where
  here : slice_get source (length front + (place - 1)) ≡ Some entry.change
  later : before < place
  next : 2 ≤ size → entry.marked ≡ false → place ≡ before + 1

at_place : (size : ℕ) (source front pushed : List Change) (before place : ℕ) (entry : Entry) → source ≡ front ++ pushed
    → IsAt size pushed before place entry → AtPlace size source front before place entry
at_place size source front pushed before place entry is h = record {
  here = ap (λ l. slice_get l (length front + (place - 1))) is ∙ get_behind front pushed (place - 1) ∙ h.change;
  later = h.later;
  next = λ two clear. next_place size before place two (sym h.marked ∙ clear);
}

linked_after : (size : ℕ) (source front pushed : List Change) (before place : ℕ) (entry : Entry) (places : List ℕ) (entries : List Entry)
    → source ≡ front ++ pushed → AtPlace size source front before place entry → AreAt size pushed place places entries
    → AreLinkedAfter size source entry entries
linked_after size source front pushed before place entry [] [] is one h = tt
linked_after size source front pushed before place entry (next ∷ places) (e ∷ entries) is one h =
    let two = at_place size source front pushed place next e is h.0 in
    let first = one.later in
    let second = two.later in (
      record {
        place = length front + (place - 1);
        next_place = length front + (next - 1);
        former_at = one.here;
        later_at = two.here;
        rises = omega arith;
        next = λ wide clear. let step = two.next wide clear in omega arith;
      },
      linked_after size source front pushed place next e places entries is two h.1,
    )
linked_after size source front pushed before place entry [] (e ∷ entries) is one h = absurd h
linked_after size source front pushed before place entry (next ∷ places) [] is one h = absurd h

linked_by : (size : ℕ) (source front pushed : List Change) (places : List ℕ) (entries : List Entry) → source ≡ front ++ pushed
    → AreAt size pushed 0 places entries → AreLinked size source entries
linked_by size source front pushed [] [] is h = tt
linked_by size source front pushed (place ∷ places) (entry ∷ entries) is h =
    linked_after size source front pushed 0 place entry places entries is (at_place size source front pushed 0 place entry is h.0) h.1
linked_by size source front pushed [] (entry ∷ entries) is h = absurd h
linked_by size source front pushed (place ∷ places) [] is h = absurd h

-- ---- the last one

last_from_at : (size : ℕ) (pushed : List Change) (before place : ℕ) (entry : Entry) (places : List ℕ) (entries : List Entry)
    → IsAt size pushed before place entry → AreAt size pushed place places entries
    → slice_get pushed (last_place place places - 1) ≡ Some (last_from entry entries).change
last_from_at size pushed before place entry [] [] one h = one.change
last_from_at size pushed before place entry (next ∷ places) (e ∷ entries) one h = last_from_at size pushed place next e places entries h.0 h.1
last_from_at size pushed before place entry [] (e ∷ entries) one h = absurd h
last_from_at size pushed before place entry (next ∷ places) [] one h = absurd h

newest_at : (c : Change) (cs : List Change) → slice_get (c ∷ cs) (length cs) ≡ Some (newest_from c cs)
newest_at c [] = refl
newest_at c (d ∷ ds) = newest_at d ds

newest_behind : (front : List Change) (c : Change) (cs : List Change) → newest (front ++ c ∷ cs) ≡ Some (newest_from c cs)
newest_behind [] c cs = refl
newest_behind (x ∷ front) c cs = newest_after x front c cs
  where
    newest_after : (x : Change) (front : List Change) (c : Change) (cs : List Change) → newest (x ∷ front ++ c ∷ cs) ≡ Some (newest_from c cs)
    newest_after x [] c cs = refl
    newest_after x (y ∷ front) c cs = newest_after y front c cs

-- what is told ends with the last change of the node
ends_by : (size : ℕ) (source front pushed : List Change) (places : List ℕ) (entries : List Entry) → source ≡ front ++ pushed
    → (pushed ≡ [] → source ≡ []) → AreAt size pushed 0 places entries → last_place 0 places ≡ length pushed
    → last_change entries ≡ newest source
ends_by size source front [] [] [] is none h ends = sym (ap newest (none refl))
ends_by size source front (c ∷ cs) [] [] is none h ends = absurd (omega (arith, ends))
ends_by size source front [] (place ∷ places) (entry ∷ entries) is none h ends = let no_change = (h.0).change in absurd cc
ends_by size source front (c ∷ cs) (place ∷ places) (entry ∷ entries) is none h ends =
    let last : last_place place places - 1 ≡ length cs = omega (arith, ends) in
    sym (last_from_at size (c ∷ cs) 0 place entry places entries h.0 h.1)
    ∙ ap (slice_get (c ∷ cs)) last ∙ newest_at c cs ∙ sym (newest_behind front c cs) ∙ sym (ap newest is)
ends_by size source front pushed [] (entry ∷ entries) is none h ends = absurd h
ends_by size source front pushed (place ∷ places) [] is none h ends = absurd h

-- ---- of any calls

linked_told : (queue : QueueState) (stream : ItemStream) (node : ℕ) (known : List Change) → IsTold queue stream → IsRun node stream.pushed known
    → AreLinked queue.size (of_item node known) (stream.given ++ queue.entries)
linked_told queue stream node known told run =
    linked_by queue.size (of_item node known) run.before stream.pushed (told.told ++ told.held) (stream.given ++ queue.entries) run.run
    (at_join queue.size stream.pushed 0 told.told told.held stream.given queue.entries told.given told.holds.entries)

ends_told : (queue : QueueState) (stream : ItemStream) (node : ℕ) (known : List Change) → IsTold queue stream → IsRun node stream.pushed known
    → last_change (stream.given ++ queue.entries) ≡ last_of node known
ends_told queue stream node known told run =
    ends_by queue.size (of_item node known) run.before stream.pushed (told.told ++ told.held) (stream.given ++ queue.entries) run.run run.none
    (at_join queue.size stream.pushed 0 told.told told.held stream.given queue.entries told.given told.holds.entries)
    (last_join 0 told.told told.held ∙ told.holds.ends)
    ∙ sym (last_of-newest node known)

pub linked : (spec : SubSpec) (start : ℕ) (first : List Change) (calls : List Call) (id : ℕ) (item : ItemState) → AreAllowed calls
    → GiveLast spec start first calls → item_of id (state_of spec start calls).items ≡ Some item → is_disabled item.mode ≡ false
    → AreLinked item.queue.size (of_item item.node (known_after first calls)) ((stream_of spec start id calls).given ++ item.queue.entries)
linked spec start first calls id item allowed last found samples =
    linked_told item.queue (stream_of spec start id calls) item.node (known_after first calls)
    (in_order spec start calls id item allowed found) (runs spec start first calls id item last found samples)

pub ends : (spec : SubSpec) (start : ℕ) (first : List Change) (calls : List Call) (id : ℕ) (item : ItemState) → AreAllowed calls
    → GiveLast spec start first calls → item_of id (state_of spec start calls).items ≡ Some item → is_disabled item.mode ≡ false
    → last_change ((stream_of spec start id calls).given ++ item.queue.entries) ≡ last_of item.node (known_after first calls)
ends spec start first calls id item allowed last found samples =
    ends_told item.queue (stream_of spec start id calls) item.node (known_after first calls)
    (in_order spec start calls id item allowed found) (runs spec start first calls id item last found samples)
