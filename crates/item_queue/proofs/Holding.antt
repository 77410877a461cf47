-- A queue holds the places of its stream, with their marks: at the start, and after each call.
use Rattle.std.proofs.Common.{◌≡◌, ℕ, zero, suc, ◌+◌, ◌-◌, ◌≤◌, ◌<◌, List, [], ◌∷◌, ◌++◌, Bool, true, false, cond, nat_lt, Some, length, take, drop, refl, sym, ◌∙◌, ap, ap₂, subst, arith, slice_get, length-append}
use Rattle.std.specs.Prelude.{replicate, All}
use Rattle.std.proofs.lemmas.Bool.Decides.{nat_tests}
use Rattle.std.proofs.lemmas.List.{drop-drop, length-drop, length-take}
use Rattle.set_model.specs.declared.source.Change.{Change}
use Rattle.item_queue.specs.declared.queue.Entry.{Entry}
use Rattle.item_queue.specs.State.{QueueState}
use Rattle.item_queue.specs.Queue as queue
use Rattle.item_queue.specs.Queue.{empty_queue, marked_first, unmarked, replacing, with_change, queue_after_call, queue_after, Holds}
use Rattle.item_queue.specs.Stream.{Call, Push, Take, Clear, Stream, AreAt, last_place, new_stream, newest, held_with, window, stream_after_take, stream_after, stream_from, stream_run, TakesAtPlace}
use Rattle.item_queue.proofs.Entries.{are_at-length, are_at-single, are_more, are_moved, are_replaced, last-least, last-more, next_place}
use Rattle.item_queue.proofs.Steps.{with_change-room, with_change-oldest, with_change-newest}
use Rattle.item_queue.proofs.Window.{before, window_room, window_full, window_taken, window_none, window-length}

-- the same facts over plain variables: the changes, the place taken, the places held and the entries
record Stands (oldest : Bool) (size : ℕ) (changes : List Change) (taken : ℕ) (held : List ℕ) (entries : List Entry) : Type 0 where
  pub are : AreAt size changes taken held entries
  pub most : length held ≤ size
  pub ends : last_place taken held ≡ length changes
  pub is_window : oldest ≡ true → held ≡ window size taken (length changes)

stands_same : (oldest : Bool) (size : ℕ) (changes : List Change) (taken : ℕ) (held others : List ℕ) (entries more : List Entry) → held ≡ others → entries ≡ more
    → Stands oldest size changes taken others more → Stands oldest size changes taken held entries
stands_same oldest size changes taken held others entries more h e s =
    let P : List ℕ → Type 0 = λ k. Stands oldest size changes taken k entries in
    let Q : List Entry → Type 0 = λ k. Stands oldest size changes taken others k in
    subst P (sym h) (subst Q (sym e) s)

long_changes : (changes : List Change) (change : Change) → length (changes ++ change ∷ []) ≡ length changes + 1
long_changes changes change = length-append changes (change ∷ [])

window_on : (size taken : ℕ) (changes : List Change) (change : Change) (places : List ℕ) → places ≡ window size taken (length changes + 1)
    → places ≡ window size taken (length (changes ++ change ∷ []))
window_on size taken changes change places is = is ∙ ap (window size taken) (sym (long_changes changes change))

-- with room
stands_more : (oldest : Bool) (size : ℕ) (changes : List Change) (taken : ℕ) (held : List ℕ) (entries : List Entry) (change : Change)
    → Stands oldest size changes taken held entries → length held < size
    → (oldest ≡ true → held ++ (length changes + 1) ∷ [] ≡ window size taken (length changes + 1))
    → Stands oldest size (changes ++ change ∷ []) taken (held ++ (length changes + 1) ∷ []) (entries ++ unmarked change ∷ [])
stands_more oldest size changes taken held entries change s room is = record {
  are = are_more size changes change taken (length changes + 1) held entries s.ends refl s.are;
  most = let long = length-append held ((length changes + 1) ∷ []) in omega arith;
  ends = last-more taken (length changes + 1) held ∙ sym (long_changes changes change);
  is_window = λ o. window_on size taken changes change _ (is o);
}

-- the first place goes
stands_moved : (oldest : Bool) (size : ℕ) (changes : List Change) (taken : ℕ) (held : List ℕ) (entries : List Entry) (change : Change)
    → 1 ≤ size → Stands oldest size changes taken held entries → size ≤ length held
    → (oldest ≡ true → drop 1 held ++ (length changes + 1) ∷ [] ≡ window size taken (length changes + 1))
    → Stands oldest size (changes ++ change ∷ []) taken (drop 1 held ++ (length changes + 1) ∷ []) (marked_first (drop 1 entries) ++ unmarked change ∷ [])
stands_moved oldest size changes taken held entries change positive s full is =
    let most = s.most in
    record {
      are = are_moved size changes change taken (length changes + 1) held entries (omega arith) (omega arith) s.ends refl s.are;
      most = let long = length-append (drop 1 held) ((length changes + 1) ∷ []) in let less = length-drop 1 held in omega arith;
      ends = last-more taken (length changes + 1) (drop 1 held) ∙ sym (long_changes changes change);
      is_window = λ o. window_on size taken changes change _ (is o);
    }

-- the last place goes
stands_replaced : (size : ℕ) (changes : List Change) (taken : ℕ) (held : List ℕ) (entries : List Entry) (change : Change)
    → 1 ≤ size → Stands false size changes taken held entries → size ≤ length held
    → Stands false size (changes ++ change ∷ []) taken (take (length held - 1) held ++ (length changes + 1) ∷ [])
    (take (length entries - 1) entries ++ replacing size change ∷ [])
stands_replaced size changes taken held entries change positive s full =
    let same = are_at-length size changes taken held entries s.are in
    let one : length held ≡ suc (length held - 1) = omega arith in
    let count : length held - 1 ≡ length entries - 1 = omega arith in
    let P : ℕ → Type 0 = λ n. AreAt size (changes ++ change ∷ []) taken (take (length held - 1) held ++ (length changes + 1) ∷ []) (take n entries ++ replacing size change ∷ []) in
    let most = s.most in
    record {
      are = subst P count (are_replaced size changes change (length held - 1) taken (length changes + 1) held entries one refl s.are);
      most =
          let long = length-append (take (length held - 1) held) ((length changes + 1) ∷ []) in
          let less = length-take (length held - 1) held in
          omega arith;
      ends = last-more taken (length changes + 1) (take (length held - 1) held) ∙ sym (long_changes changes change);
      is_window = λ o. absurd cc;
    }

newest_room : (size place : ℕ) (held : List ℕ) → length held < size → newest size place held ≡ held ++ place ∷ []
newest_room size place held room =
    let test : nat_lt (length held) size ≡ true = grind (arith, nat_tests) in
    ap (λ b. cond b (held ++ place ∷ []) (take (length held - 1) held ++ place ∷ [])) test

newest_full : (size place : ℕ) (held : List ℕ) → size ≤ length held → newest size place held ≡ take (length held - 1) held ++ place ∷ []
newest_full size place held full =
    let test : nat_lt (length held) size ≡ false = grind (arith, nat_tests) in
    ap (λ b. cond b (held ++ place ∷ []) (take (length held - 1) held ++ place ∷ [])) test

-- what a push makes of it, by the rule and by whether there is room
stands_push : (oldest room : Bool) (size : ℕ) (changes : List Change) (taken : ℕ) (held : List ℕ) (entries : List Entry) (change : Change)
    → 1 ≤ size → nat_lt (length held) size ≡ room → Stands oldest size changes taken held entries
    → Stands oldest size (changes ++ change ∷ []) taken (held_with oldest size taken (length changes + 1) held) (with_change oldest size change entries)
stands_push true true size changes taken held entries change positive test s =
    let same = are_at-length size changes taken held entries s.are in
    let room : length held < size = grind (arith, nat_tests) in
    let within : taken ≤ length changes = let least = last-least size changes taken held entries s.are in let ends = s.ends in omega arith in
    let is = s.is_window refl in
    let long : length held ≡ length changes - before size taken (length changes) =
    ap length is ∙ window-length size taken (length changes) _ within refl in
    let moves : held ++ (length changes + 1) ∷ [] ≡ window size taken (length changes + 1) =
    ap (λ places. places ++ (length changes + 1) ∷ []) is ∙ sym (window_room size taken (length changes) _ within refl (omega arith)) in
    stands_same true size (changes ++ change ∷ []) taken _ _ _ _ (sym moves) (with_change-room true size change entries (omega arith))
    (stands_more true size changes taken held entries change s room (λ o. moves))
stands_push true false size changes taken held entries change positive test s =
    let same = are_at-length size changes taken held entries s.are in
    let full : size ≤ length held = grind (arith, nat_tests) in
    let within : taken ≤ length changes = let least = last-least size changes taken held entries s.are in let ends = s.ends in omega arith in
    let is = s.is_window refl in
    let long : length held ≡ length changes - before size taken (length changes) =
    ap length is ∙ window-length size taken (length changes) _ within refl in
    let moves : drop 1 held ++ (length changes + 1) ∷ [] ≡ window size taken (length changes + 1) =
    ap (λ places. drop 1 places ++ (length changes + 1) ∷ []) is
    ∙ sym (window_full size taken (length changes) _ positive within refl (omega arith)) in
    stands_same true size (changes ++ change ∷ []) taken _ _ _ _ (sym moves) (with_change-oldest size change entries (omega arith))
    (stands_moved true size changes taken held entries change positive s full (λ o. moves))
stands_push false true size changes taken held entries change positive test s =
    let same = are_at-length size changes taken held entries s.are in
    let room : length held < size = grind (arith, nat_tests) in
    stands_same false size (changes ++ change ∷ []) taken _ _ _ _ (newest_room size (length changes + 1) held room) (with_change-room false size change entries (omega arith))
    (stands_more false size changes taken held entries change s room (λ o. absurd cc))
stands_push false false size changes taken held entries change positive test s =
    let same = are_at-length size changes taken held entries s.are in
    let full : size ≤ length held = grind (arith, nat_tests) in
    stands_same false size (changes ++ change ∷ []) taken _ _ _ _ (newest_full size (length changes + 1) held full) (with_change-newest size change entries (omega arith))
    (stands_replaced size changes taken held entries change positive s full)

-- of a queue and its stream
stands_of : (oldest : Bool) (size : ℕ) (state : QueueState) (stream : Stream) → Holds oldest size state stream
    → Stands oldest size stream.pushed stream.taken stream.held state.entries
stands_of oldest size state stream h = record { are = h.entries; most = h.most; ends = h.ends; is_window = h.is_window }

-- an empty queue holds a new stream
pub holds_start : (oldest : Bool) (size : ℕ) → 1 ≤ size → Holds oldest size (empty_queue oldest size) new_stream
holds_start oldest size positive = record {
  least = positive;
  rule_is = refl;
  size_is = refl;
  entries = tt;
  most = omega arith;
  ends = refl;
  is_window = λ o. window_none size;
}

pub holds_push : (oldest : Bool) (size : ℕ) (state : QueueState) (stream : Stream) (change : Change) → Holds oldest size state stream
    → Holds oldest size (queue.pushed change state) (stream_after oldest size (Push change) stream)
holds_push oldest size state stream change h =
    let s = stands_push oldest _ size stream.pushed stream.taken stream.held state.entries change h.least refl (stands_of oldest size state stream h) in
    let same : queue.with_change state.oldest state.size change state.entries ≡ with_change oldest size change state.entries =
    ap₂ (λ o n. with_change o n change state.entries) h.rule_is h.size_is in
    let P : List Entry → Type 0 = AreAt size (stream.pushed ++ change ∷ []) stream.taken (held_with oldest size stream.taken (length stream.pushed + 1) stream.held) in
    record {
      least = h.least;
      rule_is = h.rule_is;
      size_is = h.size_is;
      entries = subst P (sym same) s.are;
      most = s.most;
      ends = s.ends;
      is_window = s.is_window;
    }

stands_take : (oldest : Bool) (size : ℕ) (changes : List Change) (taken place : ℕ) (places : List ℕ) (entry : Entry) (entries : List Entry) → 1 ≤ size
    → Stands oldest size changes taken (place ∷ places) (entry ∷ entries) → Stands oldest size changes place places entries
stands_take oldest size changes taken place places entry entries positive s =
    let within : taken ≤ length changes =
    let least = last-least size changes taken (place ∷ places) (entry ∷ entries) s.are in let ends = s.ends in omega arith in
    let most = s.most in
    record {
      are = (s.are).1;
      most = omega arith;
      ends = s.ends;
      is_window = λ o. window_taken size taken (length changes) _ place places positive within refl (s.is_window o);
    }

take_by : (oldest : Bool) (size : ℕ) (changes : List Change) (held : List ℕ) (taken : ℕ) (entries : List Entry) → 1 ≤ size
    → Stands oldest size changes taken held entries
    → let after = stream_after_take held (record { pushed = changes; held = held; taken = taken }) in Stands oldest size after.pushed after.taken after.held (drop 1 entries)
take_by oldest size changes [] taken [] positive s = s
take_by oldest size changes [] taken (entry ∷ entries) positive s = absurd s.are
take_by oldest size changes (place ∷ places) taken [] positive s = absurd s.are
take_by oldest size changes (place ∷ places) taken (entry ∷ entries) positive s = stands_take oldest size changes taken place places entry entries positive s

pub holds_take : (oldest : Bool) (size : ℕ) (state : QueueState) (stream : Stream) → Holds oldest size state stream
    → Holds oldest size (queue.without_oldest 1 state) (stream_after oldest size Take stream)
holds_take oldest size state stream h =
    let s = take_by oldest size stream.pushed stream.held stream.taken state.entries h.least (stands_of oldest size state stream h) in
    record {
      least = h.least;
      rule_is = h.rule_is;
      size_is = h.size_is;
      entries = s.are;
      most = s.most;
      ends = s.ends;
      is_window = s.is_window;
    }

pub holds_clear : (oldest : Bool) (size : ℕ) (state : QueueState) (stream : Stream) → Holds oldest size state stream
    → Holds oldest size (empty_queue state.oldest state.size) (stream_after oldest size Clear stream)
holds_clear oldest size state stream h = record {
  least = h.least;
  rule_is = h.rule_is;
  size_is = h.size_is;
  entries = tt;
  most = omega arith;
  ends = refl;
  is_window = λ o. window_none size;
}

-- each call keeps it
pub holds_step : (oldest : Bool) (size : ℕ) (call : Call) (state : QueueState) (stream : Stream) → Holds oldest size state stream
    → Holds oldest size (queue_after_call call state) (stream_after oldest size call stream)
holds_step oldest size (Push change) state stream h = holds_push oldest size state stream change h
holds_step oldest size Take state stream h = holds_take oldest size state stream h
holds_step oldest size Clear state stream h = holds_clear oldest size state stream h

pub holds_from : (oldest : Bool) (size : ℕ) (calls : List Call) (state : QueueState) (stream : Stream) → Holds oldest size state stream
    → Holds oldest size (queue_after calls state) (stream_from oldest size calls stream)
holds_from oldest size [] state stream h = h
holds_from oldest size (call ∷ calls) state stream h =
    holds_from oldest size calls (queue_after_call call state) (stream_after oldest size call stream) (holds_step oldest size call state stream h)

-- after any calls the queue holds the stream's places
pub holds_run : (oldest : Bool) (size : ℕ) (calls : List Call) → 1 ≤ size
    → Holds oldest size (queue_after calls (empty_queue oldest size)) (stream_run oldest size calls)
holds_run oldest size calls positive = holds_from oldest size calls (empty_queue oldest size) new_stream (holds_start oldest size positive)

-- a take of several entries is so many takes of one
pub queue_after-takes : (count : ℕ) (state : QueueState) → queue_after (replicate count Take) state ≡ queue.without_oldest count state
queue_after-takes zero state = refl
queue_after-takes (suc count) state =
    let more : 1 + count ≡ suc count = omega arith in
    queue_after-takes count (queue.without_oldest 1 state)
    ∙ ap (λ entries. record state { entries = entries }) (drop-drop count 1 state.entries ∙ ap (λ n. drop n state.entries) more)

-- and so keeps it
pub holds_takes : (oldest : Bool) (size count : ℕ) (state : QueueState) (stream : Stream) → Holds oldest size state stream
    → Holds oldest size (queue.without_oldest count state) (stream_from oldest size (replicate count Take) stream)
holds_takes oldest size count state stream h =
    let P : QueueState → Type 0 = λ after. Holds oldest size after (stream_from oldest size (replicate count Take) stream) in
    subst P (queue_after-takes count state) (holds_from oldest size (replicate count Take) state stream h)

-- at size 1 no entry is marked
pub taken_single : (oldest : Bool) (state : QueueState) (stream : Stream) → Holds oldest 1 state stream → All (λ entry. entry.marked ≡ false) state.entries
taken_single oldest state stream h = are_at-single stream.pushed stream.taken stream.held state.entries h.entries

take_at : (oldest : Bool) (size : ℕ) (changes : List Change) (held : List ℕ) (taken : ℕ) (entries : List Entry) (entry : Entry)
    → AreAt size changes taken held entries → slice_get entries 0 ≡ Some entry
    → TakesAtPlace oldest size (record { pushed = changes; held = held; taken = taken }) entry
take_at oldest size changes [] taken [] entry h is = absurd cc
take_at oldest size changes [] taken (first ∷ entries) entry h is = absurd h
take_at oldest size changes (place ∷ places) taken [] entry h is = absurd h
take_at oldest size changes (place ∷ places) taken (first ∷ entries) entry h is =
    let same : first ≡ entry = cc in
    let P : Entry → Type 0 = λ e. TakesAtPlace oldest size (record { pushed = changes; held = place ∷ places; taken = taken }) e in
    subst P same (record {
      place = place;
      first = refl;
      is = h.0;
      next = λ marks unmarked. next_place size taken place marks (sym (h.0).marked ∙ unmarked);
      moves = refl;
    })

-- the oldest entry of a queue stands at the first place held
pub takes_at_place : (oldest : Bool) (size : ℕ) (state : QueueState) (stream : Stream) (entry : Entry) → Holds oldest size state stream
    → slice_get state.entries 0 ≡ Some entry → TakesAtPlace oldest size stream entry
takes_at_place oldest size state stream entry h is = take_at oldest size stream.pushed stream.held stream.taken state.entries entry h.entries is
