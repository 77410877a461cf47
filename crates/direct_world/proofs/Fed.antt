-- What each queue of each server owes the law of the log: its entries are changes of the source in order, and go on
-- from the entry that was taken last where their joint is Joined.
use Rattle.std.proofs.Common.{◌≡◌, ◌≢◌, ◌==◌, ◌&&◌, ℕ, ◌+◌, ◌≤◌, List, ◌∷◌, Bool, true, false, Option, Some, None, length, refl, sym, ap, subst, ◌∙◌, arith}
use Rattle.std.specs.Prelude.{slice_get, IsSomeAnd, if◌then◌else◌}
use Rattle.std.proofs.lemmas.Bool.Decides.{nat_tests}
use Rattle.ua_base.specs.Status.{overflow_bits}
use Rattle.set_model.specs.declared.source.Change.{Change}
use Rattle.set_model.specs.declared.line.Arrived.{Arrived}
use Rattle.set_model.specs.Source.{of_item, stamp_of}
use Rattle.item_queue.specs.declared.queue.Entry.{Entry}
use Rattle.item_queue.specs.State.{QueueState}
use Rattle.delivery_log.specs.declared.rule.Joint.TheVariants.{Joined}
use Rattle.delivery_log.specs.declared.rule.Turn.{Turn}
use Rattle.delivery_log.specs.Judge.{has_overflow, joint_after, turned}
use Rattle.delivery_log.specs.History.{Act, Enter, TurnAll, joint_of, previous}
use Rattle.delivery_log.specs.WellFed.{IsAt, IsFedEntry, Linked}
use Rattle.direct_world.specs.Server.{arrived}
use Rattle.direct_world.proofs.Held.{HeldFrom}

-- the entry that was entered last stands directly before this place
pub record StandsBefore (source : List Change) (item : ℕ) (next : ℕ) (former : Arrived) : Type 0 where
  pub place : ℕ
  pub here : IsAt source item former place
  pub next_is : place + 1 ≡ next

-- what the queue of a server and item owes, where the server was given the changes in front
pub record ItemFed (source : List Change) (history : List Act) (server item : ℕ) (front : List Change) (queue : QueueState) : Type 0 where
  pub size : 2 ≤ queue.size
  pub next : ℕ
  pub held : HeldFrom (of_item item source) next queue.entries (length (of_item item front))
  pub joined : joint_of server item history ≡ Joined → IsSomeAnd (previous server item history) (StandsBefore source item next)

-- the history says the same of a server and item as another
pub record SameAt (server item : ℕ) (one other : List Act) : Type 0 where
  pub joint : joint_of server item other ≡ joint_of server item one
  pub previous_is : previous server item other ≡ previous server item one

pub same_at : (server item : ℕ) (history : List Act) → SameAt server item history history
same_at server item history = record { joint = refl; previous_is = refl }

pub same_then : (server item : ℕ) (a b c : List Act) → SameAt server item a b → SameAt server item b c → SameAt server item a c
same_then server item a b c f g = record { joint = g.joint ∙ f.joint; previous_is = g.previous_is ∙ f.previous_is }

-- acts elsewhere leave what a queue owes as it is
pub fed_elsewhere : (source : List Change) (one other : List Act) (server item : ℕ) (front : List Change) (queue : QueueState)
    → SameAt server item one other → ItemFed source one server item front queue → ItemFed source other server item front queue
fed_elsewhere source one other server item front queue same h = record {
  size = h.size;
  next = h.next;
  held = h.held;
  joined = λ j. let P : Option Arrived → Type 0 = λ p. IsSomeAnd p (StandsBefore source item h.next) in
      subst P (sym same.previous_is) (h.joined (sym same.joint ∙ j));
}

-- the test of an act's server and item against others
abbrev pub is_here : ℕ → ℕ → ℕ → ℕ → Bool
is_here s i server item = (s == server) && (i == item)

is_here_self : (server item : ℕ) → is_here server item server item ≡ true
is_here_self server item = grind (arith, nat_tests)

pub other_server : (s i server item : ℕ) → s ≢ server → is_here s i server item ≡ false
other_server s i server item h = grind (arith, nat_tests)

pub other_item : (s i server item : ℕ) → i ≢ item → is_here s i server item ≡ false
other_item s i server item h = grind (arith, nat_tests)

-- an entry elsewhere
pub same_entered : (s i server item : ℕ) (entry : Arrived) (history : List Act) → is_here s i server item ≡ false
    → SameAt server item history (Enter s i entry ∷ history)
same_entered s i server item entry history is = record {
  joint = ap (λ b. if b then joint_after entry.time (joint_of server item history) else joint_of server item history) is;
  previous_is = ap (λ b. if b then Some entry else previous server item history) is;
}

-- what befalls the joints of another server
pub same_turned : (s server item : ℕ) (turn : Turn) (history : List Act) → (s == server) ≡ false → SameAt server item history (TurnAll s turn ∷ history)
same_turned s server item turn history is = record {
  joint = ap (λ b. if b then turned turn (joint_of server item history) else joint_of server item history) is;
  previous_is = refl;
}

pub entered_here : (server item : ℕ) (entry : Arrived) (history : List Act) → previous server item (Enter server item entry ∷ history) ≡ Some entry
entered_here server item entry history = ap (λ b. if b then Some entry else previous server item history) (is_here_self server item)

-- what befalls the joints of a server
pub turned_here : (server item : ℕ) (turn : Turn) (history : List Act)
    → joint_of server item (TurnAll server turn ∷ history) ≡ turned turn (joint_of server item history)
turned_here server item turn history =
    let self : (server == server) ≡ true = grind (arith, nat_tests) in
    ap (λ b. if b then turned turn (joint_of server item history) else joint_of server item history) self

pub some_map : {A : Type 0} (o : Option A) (P Q : A → Type 0) → ((x : A) → P x → Q x) → IsSomeAnd o P → IsSomeAnd o Q
some_map None P Q f h = h
some_map (Some x) P Q f h = f x h

mark_shown : (marked : Bool) → has_overflow (if marked then overflow_bits else 0) ≡ false → marked ≡ false
mark_shown true h = absurd cc
mark_shown false h = refl

pub entry_at : (source : List Change) (item place : ℕ) (entry : Entry) → slice_get (of_item item source) place ≡ Some entry.change
    → IsAt source item (arrived entry) place
entry_at source item place entry here = record {
  stamp = stamp_of entry.change;
  timed = refl;
  shows = record { change = entry.change; here = here; stamp_is = refl; value_is = refl };
}

pub fed_entry : (source : List Change) (item place : ℕ) (entry : Entry) → slice_get (of_item item source) place ≡ Some entry.change
    → IsFedEntry source item (arrived entry)
fed_entry source item place entry here = record {
  fed = λ stamp t. (place, record { change = entry.change; here = here; stamp_is = cc; value_is = refl });
}

pub linked_entry : (source : List Change) (item next place : ℕ) (entry : Entry) (former : Arrived) → slice_get (of_item item source) place ≡ Some entry.change
    → next ≤ place → (entry.marked ≡ false → place ≡ next) → StandsBefore source item next former → Linked source item former (arrived entry)
linked_entry source item next place entry former here le mark h = record {
  from = h.place;
  to = place;
  former_at = h.here;
  entry_at = entry_at source item place entry here;
  later = omega (arith, h.next_is);
  next = λ clear. mark (mark_shown entry.marked clear) ∙ sym h.next_is;
}
