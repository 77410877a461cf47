-- What feeding a server keeps: each queue goes on where its item's changes go on.
use Rattle.std.proofs.Common.{◌≡◌, ◌≢◌, ◌==◌, ◌&&◌, ℕ, zero, suc, ◌+◌, ◌-◌, ◌<◌, ◌≤◌, List, [], ◌∷◌, ◌++◌, Bool, true, false, cond, Some, None, length, refl, sym, ap, subst, ◌∙◌, arith, slice_set}
use Rattle.std.specs.Prelude.{slice_get, if◌then◌else◌, nat_le}
use Rattle.std.proofs.lemmas.Bool.Decides.{nat_tests}
use Rattle.std.proofs.lemmas.List.{append_assoc, append-nil, length-append}
use Rattle.std.proofs.lemmas.List.Elements.{filter-append}
use Rattle.set_model.specs.declared.source.Change.{Change}
use Rattle.set_model.specs.Source.{of_item}
use Rattle.set_model.proofs.SourceLemmas.{of_item-more}
use Rattle.item_queue.specs.State.{QueueState}
use Rattle.item_queue.specs.Queue.{pushed}
use Rattle.delivery_log.specs.History.{Act}
use Rattle.direct_world.specs.Server.{place_in, queue_at, pushed_at, pushed_all}
use Rattle.direct_world.proofs.Held.{HeldFrom, held_push}
use Rattle.direct_world.proofs.Fed.{ItemFed}
use Rattle.direct_world.proofs.Taking.{QueuesFed}

pub get_seam : (xs : List Change) (c : Change) (ys : List Change) → slice_get (xs ++ c ∷ ys) (length xs) ≡ Some c
get_seam [] c ys = refl
get_seam (x ∷ xs) c ys = get_seam xs c ys

-- the changes of an item, where the source goes on with one of them
item_seam : (item : ℕ) (front : List Change) (c : Change) (rest : List Change) → (c.item == item) ≡ true
    → of_item item (front ++ c ∷ rest) ≡ of_item item front ++ c ∷ of_item item rest
item_seam item front c rest is = filter-append (λ d. d.item == item) front (c ∷ rest)
    ∙ ap (λ b. of_item item front ++ cond b (c ∷ of_item item rest) (of_item item rest)) is

next_change : (source front : List Change) (c : Change) (rest : List Change) (item : ℕ) → source ≡ front ++ c ∷ rest → (c.item == item) ≡ true
    → slice_get (of_item item source) (length (of_item item front)) ≡ Some c
next_change source front c rest item whole is =
    ap (λ s. slice_get (of_item item s) (length (of_item item front))) whole
    ∙ ap (λ s. slice_get s (length (of_item item front))) (item_seam item front c rest is)
    ∙ get_seam (of_item item front) c (of_item item rest)

more_of : (item : ℕ) (front : List Change) (c : Change) (b : Bool) → (c.item == item) ≡ b → length (of_item item (front ++ c ∷ [])) ≡ length (of_item item front) + cond b 1 0
more_of item front c true is = ap length (of_item-more item front c ∙ ap (λ t. of_item item front ++ cond t (c ∷ []) []) is) ∙ length-append (of_item item front) (c ∷ [])
more_of item front c false is = ap length (of_item-more item front c ∙ ap (λ t. of_item item front ++ cond t (c ∷ []) []) is ∙ append-nil (of_item item front)) ∙ omega arith

-- a queue of another item than the change's
fed_other : (source : List Change) (history : List Act) (server item : ℕ) (front : List Change) (c : Change) (queue : QueueState) → (c.item == item) ≡ false
    → ItemFed source history server item front queue → ItemFed source history server item (front ++ c ∷ []) queue
fed_other source history server item front c queue is h = record {
  size = h.size;
  next = h.next;
  held = let P : ℕ → Type 0 = λ n. HeldFrom (of_item item source) h.next queue.entries n in
      subst P (omega (arith, more_of item front c false is)) h.held;
  joined = h.joined;
}

-- the queue of the change's item
fed_own : (source : List Change) (history : List Act) (server item : ℕ) (front : List Change) (c : Change) (rest : List Change) (queue : QueueState)
    → source ≡ front ++ c ∷ rest → (c.item == item) ≡ true
    → ItemFed source history server item front queue → ItemFed source history server item (front ++ c ∷ []) (pushed c queue)
fed_own source history server item front c rest queue whole is h = record {
  size = h.size;
  next = h.next;
  held = let P : ℕ → Type 0 = λ n. HeldFrom (of_item item source) h.next (pushed c queue).entries n in
      subst P (sym (more_of item front c true is)) (held_push queue.oldest (of_item item source) h.next queue.size queue.entries _ c h.size h.held (next_change source front c rest item whole is));
  joined = h.joined;
}

fed_others : (source : List Change) (history : List Act) (server item : ℕ) (front : List Change) (c : Change) (queues : List QueueState)
    → ((i : ℕ) → item ≤ i → i < item + length queues → c.item ≢ i)
    → QueuesFed source history server item front queues → QueuesFed source history server item (front ++ c ∷ []) queues
fed_others source history server item front c [] off h = tt
fed_others source history server item front c (queue ∷ queues) off h =
    let here : c.item ≢ item = off item (omega arith) (omega arith) in
    let apart : (c.item == item) ≡ false = grind (arith, nat_tests) in (
      fed_other source history server item front c queue apart h.0,
      fed_others source history server (item + 1) front c queues (λ i le under. off i (omega arith) (omega arith)) h.1,
    )

fed_place : (source : List Change) (history : List Act) (server item place : ℕ) (front : List Change) (c : Change) (rest : List Change) (queues : List QueueState)
    → source ≡ front ++ c ∷ rest → c.item ≡ item + place → place < length queues
    → QueuesFed source history server item front queues
    → QueuesFed source history server item (front ++ c ∷ []) (slice_set queues place (pushed c (queue_at place queues)))
fed_place source history server item place front c rest [] whole is under h = absurd (omega arith)
fed_place source history server item zero front c rest (queue ∷ queues) whole is under h =
    let same : (c.item == item) ≡ true = grind (arith, nat_tests) in (
      fed_own source history server item front c rest queue whole same h.0,
      fed_others source history server (item + 1) front c queues (λ i le within e. absurd (omega arith)) h.1,
    )
fed_place source history server item (suc place) front c rest (queue ∷ queues) whole is under h =
    let apart : (c.item == item) ≡ false = grind (arith, nat_tests) in (
      fed_other source history server item front c queue apart h.0,
      fed_place source history server (item + 1) place front c rest queues whole (omega arith) (omega arith) h.1,
    )

-- one change goes into its queue, if there is one
fed_one : (source : List Change) (history : List Act) (server : ℕ) (front : List Change) (c : Change) (rest : List Change) (queues : List QueueState) (low high : Bool)
    → nat_le 1 c.item ≡ low → nat_le c.item (length queues) ≡ high → source ≡ front ++ c ∷ rest
    → QueuesFed source history server 1 front queues
    → QueuesFed source history server 1 (front ++ c ∷ []) (pushed_at (if low && high then Some (c.item - 1) else None) c queues)
fed_one source history server front c rest queues true true l u whole h =
    let is : c.item ≡ 1 + (c.item - 1) = grind (arith, nat_tests) in
    let under : c.item - 1 < length queues = grind (arith, nat_tests) in
    fed_place source history server 1 (c.item - 1) front c rest queues whole is under h
fed_one source history server front c rest queues true false l u whole h =
    let above : length queues < c.item = grind (arith, nat_tests) in
    fed_others source history server 1 front c queues (λ i le under e. absurd (omega arith)) h
fed_one source history server front c rest queues false high l u whole h =
    let none : c.item < 1 = grind (arith, nat_tests) in
    fed_others source history server 1 front c queues (λ i le under e. absurd (omega arith)) h

-- changes go into their queues, one after another
pub fed_all : (source : List Change) (history : List Act) (server : ℕ) (front : List Change) (changes rest : List Change) (queues : List QueueState)
    → source ≡ front ++ (changes ++ rest) → QueuesFed source history server 1 front queues
    → QueuesFed source history server 1 (front ++ changes) (pushed_all changes queues)
fed_all source history server front [] rest queues whole h =
    let P : List Change → Type 0 = λ f. QueuesFed source history server 1 f queues in subst P (sym (append-nil front)) h
fed_all source history server front (c ∷ changes) rest queues whole h =
    let one = fed_one source history server front c (changes ++ rest) queues _ _ refl refl whole h in
    let P : List Change → Type 0 = λ f. QueuesFed source history server 1 f (pushed_all (c ∷ changes) queues) in
    subst P (append_assoc front (c ∷ []) changes)
    (fed_all source history server (front ++ c ∷ []) changes rest (pushed_at (place_in c.item (length queues)) c queues)
    (whole ∙ sym (append_assoc front (c ∷ []) (changes ++ rest))) one)
