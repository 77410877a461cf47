-- What a push makes of a queue, by cases, and that no queue grows past its size.
use Rattle.std.proofs.Common.{◌≡◌, ℕ, ◌+◌, ◌-◌, ◌<◌, ◌≤◌, List, [], ◌∷◌, ◌++◌, Bool, true, false, cond, nat_lt, length, take, drop, min, refl, ap, ap₂, ◌∙◌, arith, length-append, length-drop}
use Rattle.std.proofs.lemmas.Bool.Decides.{nat_tests}
use Rattle.std.proofs.lemmas.List.{length-take, take_all, take-append-le}
use Rattle.set_model.specs.declared.source.Change.{Change}
use Rattle.item_queue.specs.declared.queue.Entry.{Entry}
use Rattle.item_queue.specs.State.{QueueState}
use Rattle.item_queue.specs.Queue.{empty_queue, marked_first, unmarked, replacing, with_change, without_room, pushed, without_oldest}

-- a change is appended where there is room
pub with_change-room : (oldest : Bool) (size : ℕ) (change : Change) (entries : List Entry) → length entries < size
    → with_change oldest size change entries ≡ entries ++ unmarked change ∷ []
with_change-room oldest size change entries room =
    let test : nat_lt (length entries) size ≡ true = grind (arith, nat_tests) in
    ap (λ b. cond b (entries ++ unmarked change ∷ []) (without_room oldest size change entries)) test

with_change-full : (oldest : Bool) (size : ℕ) (change : Change) (entries : List Entry) → size ≤ length entries
    → with_change oldest size change entries ≡ without_room oldest size change entries
with_change-full oldest size change entries full =
    let test : nat_lt (length entries) size ≡ false = grind (arith, nat_tests) in
    ap (λ b. cond b (entries ++ unmarked change ∷ []) (without_room oldest size change entries)) test

-- without room the oldest entry is dropped and the next one marked
pub with_change-oldest : (size : ℕ) (change : Change) (entries : List Entry) → size ≤ length entries
    → with_change true size change entries ≡ marked_first (drop 1 entries) ++ unmarked change ∷ []
with_change-oldest size change entries full = with_change-full true size change entries full

-- or the newest is dropped, and the new one in its place marked
pub with_change-newest : (size : ℕ) (change : Change) (entries : List Entry) → size ≤ length entries
    → with_change false size change entries ≡ take (length entries - 1) entries ++ replacing size change ∷ []
with_change-newest size change entries full = with_change-full false size change entries full

pub pushed-room : (change : Change) (queue : QueueState) → length queue.entries < queue.size
    → (pushed change queue).entries ≡ queue.entries ++ unmarked change ∷ []
pushed-room change queue room = with_change-room queue.oldest queue.size change queue.entries room

pub pushed-oldest : (change : Change) (queue : QueueState) (first second : Entry) (more : List Entry) → queue.oldest ≡ true
    → queue.entries ≡ first ∷ second ∷ more → queue.size ≤ length queue.entries
    → (pushed change queue).entries ≡ record second { marked = true } ∷ (more ++ unmarked change ∷ [])
pushed-oldest change queue first second more rule is full =
    ap (λ oldest. with_change oldest queue.size change queue.entries) rule
    ∙ with_change-oldest queue.size change queue.entries full
    ∙ ap (λ entries. marked_first (drop 1 entries) ++ unmarked change ∷ []) is

-- at size 1 the new entry stands alone
pub pushed-single : (change : Change) (queue : QueueState) (first : Entry) → queue.oldest ≡ true → queue.entries ≡ first ∷ [] → queue.size ≤ length queue.entries
    → (pushed change queue).entries ≡ unmarked change ∷ []
pushed-single change queue first rule is full =
    ap (λ oldest. with_change oldest queue.size change queue.entries) rule
    ∙ with_change-oldest queue.size change queue.entries full
    ∙ ap (λ entries. marked_first (drop 1 entries) ++ unmarked change ∷ []) is

front_of : (front : List Entry) (last : Entry) (entries : List Entry) → entries ≡ front ++ last ∷ [] → take (length entries - 1) entries ≡ front
front_of front last entries is =
    let long = length-append front (last ∷ []) in
    let same = ap length is in
    let count : length entries - 1 ≡ length front = omega arith in
    ap₂ take count is ∙ take-append-le (length front) front (last ∷ []) (omega arith) ∙ take_all (length front) front (omega arith)

pub pushed-newest : (change : Change) (queue : QueueState) (front : List Entry) (last : Entry) → queue.oldest ≡ false
    → queue.entries ≡ front ++ last ∷ [] → queue.size ≤ length queue.entries
    → (pushed change queue).entries ≡ front ++ replacing queue.size change ∷ []
pushed-newest change queue front last rule is full =
    ap (λ oldest. with_change oldest queue.size change queue.entries) rule
    ∙ with_change-newest queue.size change queue.entries full
    ∙ ap (λ entries. entries ++ replacing queue.size change ∷ []) (front_of front last queue.entries is)

pub size-pushed : (change : Change) (queue : QueueState) → (pushed change queue).size ≡ queue.size
size-pushed change queue = refl

pub size-without_oldest : (count : ℕ) (queue : QueueState) → (without_oldest count queue).size ≡ queue.size
size-without_oldest count queue = refl

-- a queue has a place, and holds no more than its size
pub record IsBounded (queue : QueueState) : Type 0 where
  pub least : 1 ≤ queue.size
  pub most : length queue.entries ≤ queue.size

pub bounded-empty : (oldest : Bool) (size : ℕ) → 1 ≤ size → IsBounded (empty_queue oldest size)
bounded-empty oldest size least = record { least = least; most = omega arith }

length-marked_first : (entries : List Entry) → length (marked_first entries) ≡ length entries
length-marked_first [] = refl
length-marked_first (entry ∷ entries) = refl

bounded_full : (oldest : Bool) (size : ℕ) (change : Change) (entries : List Entry) → 1 ≤ size → length entries ≡ size
    → length (without_room oldest size change entries) ≡ size
bounded_full true size change entries least full =
    let same = length-marked_first (drop 1 entries) in
    let less = length-drop 1 entries in
    length-append (marked_first (drop 1 entries)) (unmarked change ∷ []) ∙ omega arith
bounded_full false size change entries least full =
    let less = length-take (length entries - 1) entries in
    length-append (take (length entries - 1) entries) (replacing size change ∷ []) ∙ omega arith

bounded_test : (oldest : Bool) (size : ℕ) (change : Change) (entries : List Entry) → 1 ≤ size → length entries ≤ size
    → (room : Bool) → nat_lt (length entries) size ≡ room → length (with_change oldest size change entries) ≡ min (length entries + 1) size
bounded_test oldest size change entries least most true test =
    let room : length entries < size = grind (arith, nat_tests) in
    let long = length-append entries (unmarked change ∷ []) in
    ap length (with_change-room oldest size change entries room) ∙ long ∙ omega arith
bounded_test oldest size change entries least most false test =
    let full : size ≤ length entries = grind (arith, nat_tests) in
    let long = bounded_full oldest size change entries least (omega arith) in
    ap length (with_change-full oldest size change entries full) ∙ long ∙ omega arith

-- a push adds an entry, up to the size
pub length-pushed : (change : Change) (queue : QueueState) → IsBounded queue → length (pushed change queue).entries ≡ min (length queue.entries + 1) queue.size
length-pushed change queue h = bounded_test queue.oldest queue.size change queue.entries h.least h.most _ refl

pub bounded-pushed : (change : Change) (queue : QueueState) → IsBounded queue → IsBounded (pushed change queue)
bounded-pushed change queue h = let long = length-pushed change queue h in record { least = h.least; most = omega arith }

pub bounded-without_oldest : (count : ℕ) (queue : QueueState) → IsBounded queue → IsBounded (without_oldest count queue)
bounded-without_oldest count queue h = let less = length-drop count queue.entries in record { least = h.least; most = omega arith }
