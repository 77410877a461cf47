-- What the start of a life keeps: each queue begins with its item's current value, and each joint is late.
use Rattle.std.proofs.Common.{◌≡◌, ◌≢◌, ◌==◌, ℕ, zero, suc, ◌+◌, ◌-◌, ◌<◌, ◌≤◌, List, [], ◌∷◌, ◌++◌, false, Option, Some, None, length, refl, sym, ap, subst, ◌∙◌, arith}
use Rattle.std.specs.Prelude.{slice_get}
use Rattle.std.proofs.lemmas.Bool.Decides.{nat_tests}
use Rattle.std.proofs.lemmas.List.Elements.{filter-append}
use Rattle.set_model.specs.declared.source.Change.{Change}
use Rattle.set_model.specs.declared.line.GapCause.TheVariants.{Late}
use Rattle.set_model.specs.Source.{of_item, last_of}
use Rattle.set_model.proofs.SourceLemmas.{newest, newest_from, last_of-newest}
use Rattle.item_queue.specs.State.{QueueState}
use Rattle.item_queue.specs.Queue.{empty_queue, pushed}
use Rattle.delivery_log.specs.declared.rule.Joint.TheVariants.{Joined, Open}
use Rattle.delivery_log.specs.declared.rule.Turn.TheVariants.{Become}
use Rattle.delivery_log.specs.History.{Act, joint_of}
use Rattle.delivery_log.specs.WellFed.{WellFed}
use Rattle.direct_world.specs.Acts.{reopening, with_acts}
use Rattle.direct_world.specs.Lives.{values_from}
use Rattle.direct_world.specs.Server.{opened, opened_all}
use Rattle.direct_world.proofs.Held.{HeldFrom, held_push}
use Rattle.direct_world.proofs.Fed.{ItemFed, SameAt, same_turned, turned_here}
use Rattle.direct_world.proofs.Taking.{QueuesFed}

get_front : (xs ys : List Change) (k : ℕ) (c : Change) → slice_get xs k ≡ Some c → slice_get (xs ++ ys) k ≡ Some c
get_front [] ys k c h = absurd cc
get_front (x ∷ xs) ys zero c h = h
get_front (x ∷ xs) ys (suc k) c h = get_front xs ys k c h

get_newest : (x : Change) (xs : List Change) → slice_get (x ∷ xs) (length xs) ≡ Some (newest_from x xs)
get_newest x [] = refl
get_newest x (y ∷ ys) = get_newest y ys

-- the last of an item's changes stands at the last place of the source so far
last_at : (cs : List Change) (c : Change) → newest cs ≡ Some c → (slice_get cs (length cs - 1) ≡ Some c) × (0 < length cs)
last_at [] c h = absurd cc
last_at (x ∷ xs) c h =
    let same : length (x ∷ xs) - 1 ≡ length xs = omega arith in
    (ap (slice_get (x ∷ xs)) same ∙ get_newest x xs ∙ h, omega arith)

none_last : (cs : List Change) → newest cs ≡ None → length cs ≡ 0
none_last [] h = refl
none_last (x ∷ xs) h = absurd cc

-- an open joint isn't joined
open_not_joined : {P : Type 0} → Open Late ≡ Joined → P
open_not_joined h = absurd cc

opens_by : (source more : List Change) (history : List Act) (server item : ℕ) (queue : QueueState) (current : Option Change)
    → last_of item source ≡ current → 2 ≤ queue.size → joint_of server item history ≡ Open Late
    → ItemFed (source ++ more) history server item source (opened current queue)
opens_by source more history server item queue None is two late = record {
  size = two;
  next = 0;
  held = sym (none_last (of_item item source) (sym (last_of-newest item source) ∙ is));
  joined = λ j. open_not_joined (sym late ∙ j);
}
opens_by source more history server item queue (Some c) is two late =
    let last = last_at (of_item item source) c (sym (last_of-newest item source) ∙ is) in
    let next = length (of_item item source) - 1 in
    let whole = filter-append (λ d. d.item == item) source more in
    let here : slice_get (of_item item (source ++ more)) next ≡ Some c =
    ap (λ s. slice_get s next) whole ∙ get_front (of_item item source) (of_item item more) next c last.0 in
    let P : ℕ → Type 0 = λ n. HeldFrom (of_item item (source ++ more)) next (pushed c (empty_queue queue.oldest queue.size)).entries n in
    record {
      size = two;
      next = next;
      held = subst P (omega (arith, last.1)) (held_push queue.oldest (of_item item (source ++ more)) next queue.size [] next c two refl here);
      joined = λ j. open_not_joined (sym late ∙ j);
    }

-- each queue begins anew
pub opens_queues : (source more : List Change) (before after : List Act) (server item : ℕ) (front : List Change) (queues : List QueueState)
    → ((i : ℕ) → item ≤ i → i < item + length queues → joint_of server i after ≡ Open Late)
    → QueuesFed (source ++ more) before server item front queues → QueuesFed (source ++ more) after server item source (opened_all (values_from item (length queues) source) queues)
opens_queues source more before after server item front [] late h = tt
opens_queues source more before after server item front (queue ∷ queues) late h = (
  opens_by source more after server item queue _ refl h.0.size (late item (omega arith) (omega arith)),
  opens_queues source more before after server (item + 1) front queues (λ i le under. late i (omega arith) (omega arith)) h.1,
)

-- the joints of a server are open, and others are as they were
pub reopens : (server : ℕ) (history : List Act) (i : ℕ) → joint_of server i (with_acts (reopening server) history) ≡ Open Late
reopens server history i = turned_here server i (Become (Open Late)) history

pub reopens_other : (server : ℕ) (history : List Act) (s i : ℕ) → server ≢ s → SameAt s i history (with_acts (reopening server) history)
reopens_other server history s i off =
    let apart : (server == s) ≡ false = grind (arith, nat_tests) in
    same_turned server s i (Become (Open Late)) history apart

pub reopens_well : (source : List Change) (server : ℕ) (history : List Act) → WellFed source history → WellFed source (with_acts (reopening server) history)
reopens_well source server history well = (tt, tt, well)
