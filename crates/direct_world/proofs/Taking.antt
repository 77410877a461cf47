-- What taking entries keeps: the history stays well fed, and each queue owes what it owed.
use Rattle.std.proofs.Common.{◌≡◌, ◌≢◌, ℕ, zero, suc, ◌+◌, ◌<◌, ◌≤◌, List, [], ◌∷◌, Bool, false, Option, length, take, drop, refl, sym, subst, arith}
use Rattle.std.specs.Prelude.{IsSomeAnd}
use Rattle.set_model.specs.declared.source.Change.{Change}
use Rattle.set_model.specs.declared.line.Arrived.{Arrived}
use Rattle.set_model.specs.Source.{of_item}
use Rattle.item_queue.specs.declared.queue.Entry.{Entry}
use Rattle.item_queue.specs.State.{QueueState}
use Rattle.item_queue.specs.Queue.{without_oldest}
use Rattle.delivery_log.specs.declared.rule.Joint.TheVariants.{Joined}
use Rattle.delivery_log.specs.History.{Act, Enter, joint_of, previous}
use Rattle.delivery_log.specs.WellFed.{Linked, WellFed}
use Rattle.direct_world.specs.Server.{arrived, left_after}
use Rattle.direct_world.specs.Acts.{entering, taking, with_acts}
use Rattle.direct_world.proofs.Acting.{with_more_acts}
use Rattle.direct_world.proofs.Held.{HeldFrom}
use Rattle.direct_world.proofs.Fed.{ItemFed, StandsBefore, SameAt, same_at, same_then, same_entered, fed_elsewhere, is_here, other_item, other_server, entered_here, fed_entry, entry_at, linked_entry, some_map}

-- after the oldest entries of a queue were entered
pub record TakesItem (source : List Change) (server item : ℕ) (front : List Change) (left : QueueState) (history after : List Act) : Type 0 where
  pub well : WellFed source after
  pub fed : ItemFed source after server item front left
  pub same : (s i : ℕ) → is_here server item s i ≡ false → SameAt s i history after

enters : (source : List Change) (server item : ℕ) (front : List Change) (oldest : Bool) (size count : ℕ) (entries : List Entry) (history : List Act) (next : ℕ) → 2 ≤ size
    → HeldFrom (of_item item source) next entries (length (of_item item front))
    → (joint_of server item history ≡ Joined → IsSomeAnd (previous server item history) (StandsBefore source item next))
    → WellFed source history
    → TakesItem source server item front (record { oldest = oldest; size = size; entries = drop count entries }) history
    (with_acts (entering server item (take count entries)) history)
enters source server item front oldest size zero entries history next two h j well = record {
  well = well;
  fed = record { size = two; next = next; held = h; joined = j };
  same = λ s i off. same_at s i history;
}
enters source server item front oldest size (suc count) [] history next two h j well = record {
  well = well;
  fed = record { size = two; next = next; held = h; joined = j };
  same = λ s i off. same_at s i history;
}
enters source server item front oldest size (suc count) (entry ∷ entries) history next two h j well =
    let place = h.0 in
    let entered = Enter server item (arrived entry) ∷ history in
    let links = λ (former : Arrived). linked_entry source item next place entry former h.1 h.2 h.3 in
    let stands : StandsBefore source item (place + 1) (arrived entry) = record { place = place; here = entry_at source item place entry h.1; next_is = refl } in
    let P : Option Arrived → Type 0 = λ o. IsSomeAnd o (StandsBefore source item (place + 1)) in
    let more = enters source server item front oldest size count entries entered (place + 1) two h.4
    (λ joined. subst P (sym (entered_here server item (arrived entry) history)) stands)
    (fed_entry source item place entry h.1, λ time t joined. some_map (previous server item history) (StandsBefore source item next) (λ former. Linked source item former (arrived entry)) links (j joined), well) in
    record {
      well = more.well;
      fed = more.fed;
      same = λ s i off. same_then s i history entered _ (same_entered server item s i (arrived entry) history off) (more.same s i off);
    }

-- the oldest entries of one queue are entered
pub takes_item : (source : List Change) (server item : ℕ) (front : List Change) (count : ℕ) (queue : QueueState) (history : List Act)
    → ItemFed source history server item front queue → WellFed source history
    → TakesItem source server item front (without_oldest count queue) history (with_acts (entering server item (take count queue.entries)) history)
takes_item source server item front count queue history h well =
    enters source server item front queue.oldest queue.size count queue.entries history h.next h.size h.held h.joined well

-- what the queues of a server owe, from an item on
abbrev pub QueuesFed : List Change → List Act → ℕ → ℕ → List Change → List QueueState → Type 0
QueuesFed source history server item front [] = Unit {0}
QueuesFed source history server item front (queue ∷ queues) =
    ItemFed source history server item front queue × QueuesFed source history server (item + 1) front queues

-- acts elsewhere leave what queues owe as it is
pub queues_elsewhere : (source : List Change) (one other : List Act) (server item : ℕ) (front : List Change) (queues : List QueueState)
    → ((i : ℕ) → item ≤ i → SameAt server i one other) → QueuesFed source one server item front queues → QueuesFed source other server item front queues
queues_elsewhere source one other server item front [] same h = tt
queues_elsewhere source one other server item front (queue ∷ queues) same h = (
  fed_elsewhere source one other server item front queue (same item (omega arith)) h.0,
  queues_elsewhere source one other server (item + 1) front queues (λ i le. same i (omega arith)) h.1,
)

-- after the oldest entries of each queue of a server were entered, from an item on
pub record TakesQueues (source : List Change) (server item : ℕ) (front : List Change) (left : List QueueState) (history after : List Act) : Type 0 where
  pub well : WellFed source after
  pub fed : QueuesFed source after server item front left
  pub same_before : (i : ℕ) → i < item → SameAt server i history after
  pub same_server : (s i : ℕ) → server ≢ s → SameAt s i history after

pub takes_queues : (source : List Change) (server item : ℕ) (front : List Change) (count : ℕ) (queues : List QueueState) (history : List Act)
    → QueuesFed source history server item front queues → WellFed source history
    → TakesQueues source server item front (left_after count queues) history (with_acts (taking server item count queues) history)
takes_queues source server item front count [] history h well = record {
  well = well;
  fed = tt;
  same_before = λ i under. same_at server i history;
  same_server = λ s i off. same_at s i history;
}
takes_queues source server item front count (queue ∷ queues) history h well =
    let one = takes_item source server item front count queue history h.0 well in
    let entered = with_acts (entering server item (take count queue.entries)) history in
    let off : (i : ℕ) → item + 1 ≤ i → is_here server item server i ≡ false = λ i le. other_item server item server i (λ e. absurd (omega arith)) in
    let before : (i : ℕ) → i < item → is_here server item server i ≡ false = λ i under. other_item server item server i (λ e. absurd (omega arith)) in
    let rest = queues_elsewhere source history entered server (item + 1) front queues (λ i le. one.same server i (off i le)) h.1 in
    let more = takes_queues source server (item + 1) front count queues entered rest one.well in
    let P : List Act → Type 0 = TakesQueues source server item front (left_after count (queue ∷ queues)) history in
    subst P (sym (with_more_acts (entering server item (take count queue.entries)) (taking server (item + 1) count queues) history)) (record {
      well = more.well;
      fed = (fed_elsewhere source entered _ server item front (without_oldest count queue) (more.same_before item (omega arith)) one.fed, more.fed);
      same_before = λ i under. same_then server i history entered _ (one.same server i (before i under)) (more.same_before i (omega arith));
      same_server = λ s i apart. same_then s i history entered _ (one.same s i (other_server server item s i apart)) (more.same_server s i apart);
    })
