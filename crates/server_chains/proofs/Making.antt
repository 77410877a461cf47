-- An item keeps what it was made with, and holds changes of its node alone, of those that there were.
use Rattle.std.proofs.Common.{◌≡◌, ℕ, zero, suc, ◌-◌, ◌==◌, List, [], ◌∷◌, ◌++◌, Bool, true, false, not, cond, take, drop, length, Option, Some, None, refl, sym, ◌∙◌, subst, arith}
use Rattle.std.specs.Prelude.{◌&&◌, nat_lt}
use Rattle.std.proofs.lemmas.Bool.Decides.{nat_tests}
use Rattle.ua_base.specs.declared.modes.Mode.{Mode}
use Rattle.ua_base.specs.declared.modes.Mode.TheVariants.{Disabled}
use Rattle.set_model.specs.declared.source.Change.{Change}
use Rattle.item_queue.specs.declared.queue.Entry.{Entry}
use Rattle.item_queue.specs.State.{QueueState}
use Rattle.item_queue.specs.Queue.{empty_queue, marked_first, pushed, replacing, unmarked, with_change, without_oldest, without_room}
use Rattle.subscription.specs.declared.spec.ItemSpec.{ItemSpec}
use Rattle.subscription.specs.State.{ItemState}
use Rattle.subscription.specs.Items.{fed_item, has_id, is_disabled, moded_if, new_item, opened, queue_in, with_mode}
use Rattle.server_chains.proofs.Growing.{IsChangeIn, IsOf, fed_is_in, in_more}

-- ---- entries of a node

abbrev pub AreIn : ℕ → List Change → List Entry → Type 0
AreIn node known [] = Unit {0}
AreIn node known (entry ∷ entries) = IsChangeIn node known entry.change × AreIn node known entries

in_join : (node : ℕ) (known : List Change) (entries more : List Entry) → AreIn node known entries → AreIn node known more → AreIn node known (entries ++ more)
in_join node known [] more h rest = rest
in_join node known (entry ∷ entries) more h rest = (h.0, in_join node known entries more h.1 rest)

in_drop : (node : ℕ) (known : List Change) (count : ℕ) (entries : List Entry) → AreIn node known entries → AreIn node known (drop count entries)
in_drop node known zero entries h = h
in_drop node known (suc count) [] h = tt
in_drop node known (suc count) (entry ∷ entries) h = in_drop node known count entries h.1

pub in_take : (node : ℕ) (known : List Change) (count : ℕ) (entries : List Entry) → AreIn node known entries → AreIn node known (take count entries)
in_take node known zero entries h = tt
in_take node known (suc count) [] h = tt
in_take node known (suc count) (entry ∷ entries) h = (h.0, in_take node known count entries h.1)

in_marked : (node : ℕ) (known : List Change) (entries : List Entry) → AreIn node known entries → AreIn node known (marked_first entries)
in_marked node known [] h = tt
in_marked node known (entry ∷ entries) h = (h.0, h.1)

in_room : (node : ℕ) (known : List Change) (oldest : Bool) (size : ℕ) (change : Change) (entries : List Entry) → IsChangeIn node known change
    → AreIn node known entries → AreIn node known (without_room oldest size change entries)
in_room node known true size change entries one h =
    in_join node known (marked_first (drop 1 entries)) (unmarked change ∷ []) (in_marked node known (drop 1 entries) (in_drop node known 1 entries h)) (one, tt)
in_room node known false size change entries one h =
    in_join node known (take (length entries - 1) entries) (replacing size change ∷ []) (in_take node known (length entries - 1) entries h) (one, tt)

in_pushed : (node : ℕ) (known : List Change) (oldest : Bool) (size : ℕ) (change : Change) (entries : List Entry) → IsChangeIn node known change
    → AreIn node known entries → AreIn node known (with_change oldest size change entries)
in_pushed node known oldest size change entries one h = by_test (nat_lt (length entries) size)
  where
    by_test : (b : Bool) → AreIn node known (cond b (entries ++ unmarked change ∷ []) (without_room oldest size change entries))
    by_test true = in_join node known entries (unmarked change ∷ []) h (one, tt)
    by_test false = in_room node known oldest size change entries one h

all_in_more : (node : ℕ) (known more : List Change) (entries : List Entry) → AreIn node known entries → AreIn node (known ++ more) entries
all_in_more node known more [] h = tt
all_in_more node known more (entry ∷ entries) h = (in_more node known more entry.change h.0, all_in_more node known more entries h.1)

-- ---- queues

-- of this size, with changes of this node alone
pub record IsQueueOf (node size : ℕ) (known : List Change) (queue : QueueState) : Type 0 where
  pub size_is : queue.size ≡ size
  pub entries : AreIn node known queue.entries

opened_in : (node size : ℕ) (known : List Change) (current : Option Change) (queue : QueueState) → IsOf node known current → IsQueueOf node size known queue
    → IsQueueOf node size known (opened current queue)
opened_in node size known None queue one h = record { size_is = h.size_is; entries = tt }
opened_in node size known (Some change) queue one h =
    record { size_is = h.size_is; entries = in_pushed node known queue.oldest queue.size change [] one tt }

queue_of : (node size : ℕ) (known : List Change) (before mode : Mode) (current : Option Change) (queue : QueueState) → IsOf node known current
    → IsQueueOf node size known queue → IsQueueOf node size known (queue_in before mode current queue)
queue_of node size known before mode current queue one h = by_tests (is_disabled mode) (is_disabled before)
  where
    by_tests : (stops disabled : Bool)
        → IsQueueOf node size known (cond stops (empty_queue queue.oldest queue.size) (cond disabled (opened current queue) queue))
    by_tests true disabled = record { size_is = h.size_is; entries = tt }
    by_tests false true = opened_in node size known current queue one h
    by_tests false false = h

-- ---- items

-- an item was made with what is found, and holds changes of its node
pub record IsMade (found : Option ItemSpec) (known : List Change) (item : ItemState) : Type 0 where
  pub added : ItemSpec
  pub was : found ≡ Some added
  pub node : item.node ≡ added.node
  pub handle : item.handle ≡ added.handle
  pub stamps : item.stamps ≡ added.stamps
  pub queue : IsQueueOf added.node added.queue known item.queue

pub new_made : (id : ℕ) (added : ItemSpec) (current : Option Change) (known : List Change) → IsOf added.node known current
    → IsMade (Some added) known (new_item id added current)
new_made id added current known one = record {
  added = added;
  was = refl;
  node = refl;
  handle = refl;
  stamps = refl;
  queue = queue_of added.node added.queue known Disabled added.mode current (empty_queue added.oldest added.queue) one
      (record { size_is = refl; entries = tt });
}

moded_own : (found : Option ItemSpec) (known : List Change) (mode : Mode) (current : Option Change) (item : ItemState) → IsOf item.node known current
    → IsMade found known item → IsMade found known (with_mode mode current item)
moded_own found known mode current item one h = record {
  added = h.added;
  was = h.was;
  node = h.node;
  handle = h.handle;
  stamps = h.stamps;
  queue = queue_of h.added.node h.added.queue known item.mode mode current item.queue (subst (λ n. IsOf n known current) h.node one) h.queue;
}

pub moded_made : (found : Option ItemSpec) (known : List Change) (id : ℕ) (mode : Mode) (current : Option Change) (item : ItemState)
    → (item.id ≡ id → IsOf item.node known current) → IsMade found known item → IsMade found known (moded_if id mode current item)
moded_made found known id mode current item one h = by_test (has_id id item) refl
  where
    by_test : (b : Bool) → has_id id item ≡ b → IsMade found known (cond b (with_mode mode current item) item)
    by_test true test = let same : item.id ≡ id = grind (arith, nat_tests) in moded_own found known mode current item (one same) h
    by_test false test = h

-- with one change more
pub more_made : (found : Option ItemSpec) (known more : List Change) (item : ItemState) → IsMade found known item → IsMade found (known ++ more) item
more_made found known more item h = record {
  added = h.added;
  was = h.was;
  node = h.node;
  handle = h.handle;
  stamps = h.stamps;
  queue = record { size_is = h.queue.size_is; entries = all_in_more h.added.node known more item.queue.entries h.queue.entries };
}

pub fed_made : (found : Option ItemSpec) (known : List Change) (change : Change) (item : ItemState) → IsMade found known item
    → IsMade found (known ++ change ∷ []) (fed_item change item)
fed_made found known change item h = by_tests (item.node == change.item) (is_disabled item.mode) refl
  where
    by_tests : (own disabled : Bool) → (item.node == change.item) ≡ own
        → IsMade found (known ++ change ∷ []) (cond (own && not disabled) (record item { queue = pushed change item.queue }) item)
    by_tests true true own = more_made found known (change ∷ []) item h
    by_tests false true own = more_made found known (change ∷ []) item h
    by_tests false false own = more_made found known (change ∷ []) item h
    by_tests true false own =
        let same : item.node ≡ change.item = grind (arith, nat_tests) in
        record {
          added = h.added;
          was = h.was;
          node = h.node;
          handle = h.handle;
          stamps = h.stamps;
          queue = record {
            size_is = h.queue.size_is;
            entries = in_pushed h.added.node (known ++ change ∷ []) item.queue.oldest item.queue.size change item.queue.entries
                (fed_is_in h.added.node known change (sym same ∙ h.node)) (all_in_more h.added.node known (change ∷ []) item.queue.entries h.queue.entries);
          };
        }

pub left_made : (found : Option ItemSpec) (known : List Change) (count : ℕ) (item : ItemState) → IsMade found known item
    → IsMade found known (record item { queue = without_oldest count item.queue })
left_made found known count item h = record {
  added = h.added;
  was = h.was;
  node = h.node;
  handle = h.handle;
  stamps = h.stamps;
  queue = record { size_is = h.queue.size_is; entries = in_drop h.added.node known count item.queue.entries h.queue.entries };
}
