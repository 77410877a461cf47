-- Every call on a subscription leaves one that keeps the limits.
use Rattle.std.proofs.Common.{◌≡◌, ℕ, ℤ, suc, ◌+◌, ◌-◌, ◌<◌, ◌≤◌, ◌==◌, min, List, [], ◌∷◌, ◌++◌, Bool, true, false, not, nat_lt, Option, Some, None, IfSome, map, take, drop, length, FitsSigned, refl, sym, ap, subst, arith}
use Rattle.std.specs.List.{AllByRecursion}
use Rattle.std.specs.Int.{w64}
use Rattle.std.proofs.lemmas.List.{length-append, length-drop, length-map, length-take}
use Rattle.ua_base.specs.declared.modes.Mode.{Mode}
use Rattle.set_model.specs.declared.source.Change.{Change}
use Rattle.item_queue.specs.declared.queue.Entry.{Entry}
use Rattle.item_queue.specs.Queue.{empty_queue, marked_first, pushed, replacing, unmarked, without_room}
use Rattle.item_queue.specs.State.{QueueState}
use Rattle.retransmit.specs.declared.retransmission.Sent.{Sent}
use Rattle.retransmit.specs.Kept.{message_of, numbers_of, with_sent, without}
use Rattle.ua_sub_msgs.specs.declared.notification.NotificationMessage.{NotificationMessage}
use Rattle.subscription.specs.declared.cycle.Cycle.{Cycle}
use Rattle.subscription.specs.declared.cycle.Cycle.TheVariants.{Quiet, Notify, KeepAlive, Late, Expired}
use Rattle.subscription.specs.declared.spec.ItemSpec.{ItemSpec}
use Rattle.subscription.specs.declared.spec.SubSpec.{SubSpec}
use Rattle.subscription.specs.Calls.{acknowledged, added, entries_told, fed, items_left, modified, moved, new_sub, next_message, published, removed, sent_with, with_enabled, with_mode_of}
use Rattle.subscription.specs.Cycle.{after_row, cycled, row_of}
use Rattle.subscription.specs.Items.{Told, count_told, fed_item, has_id, idle_item, is_disabled, is_reporting, left, left_of, moded_if, new_item, opened, queue_in, samples, telling, told, told_of, with_mode, without_item}
use Rattle.subscription.specs.Message as message
use Rattle.subscription.specs.State.{ItemState, SubState}
use Rattle.server_keeps.specs.Fitting.{AreUInt32, FitsChange, FitsEntry, FitsItem, FitsMessage, FitsSent, FitsSub, IsUInt32}
use Rattle.server_keeps.proofs.Lists.{all_drop, all_filter, all_join, all_map, all_more, all_take, choice, fewer}
use Rattle.server_keeps.proofs.Messages.{FitsTold, formed_fits}
use Rattle.server_keeps.proofs.Numbers.{next_fits}

-- ---- queues

abbrev pub FitEntries : List Entry → Type 0
FitEntries entries = AllByRecursion FitsEntry entries

marked_fits : (entries : List Entry) → FitEntries entries → FitEntries (marked_first entries)
marked_fits [] h = tt
marked_fits (entry ∷ entries) h = (h.0, h.1)

roomless_fits : (oldest : Bool) (size : ℕ) (change : Change) (entries : List Entry) → FitsChange change → FitEntries entries
    → FitEntries (without_room oldest size change entries)
roomless_fits true size change entries fits h =
    all_more FitsEntry (marked_first (drop 1 entries)) (unmarked change) (marked_fits (drop 1 entries) (all_drop FitsEntry 1 entries h)) fits
roomless_fits false size change entries fits h =
    all_more FitsEntry (take (length entries - 1) entries) (replacing size change) (all_take FitsEntry (length entries - 1) entries h) fits

pushed_fits : (change : Change) (queue : QueueState) → FitsChange change → FitEntries queue.entries → FitEntries (pushed change queue).entries
pushed_fits change queue fits h =
    choice FitEntries (nat_lt (length queue.entries) queue.size) (queue.entries ++ unmarked change ∷ []) (without_room queue.oldest queue.size change queue.entries)
    (all_more FitsEntry queue.entries (unmarked change) h fits) (roomless_fits queue.oldest queue.size change queue.entries fits h)

opened_fits : (current : Option Change) (queue : QueueState) → IfSome current FitsChange → FitEntries (opened current queue).entries
opened_fits None queue fits = tt
opened_fits (Some change) queue fits = pushed_fits change (empty_queue queue.oldest queue.size) fits tt

abbrev pub FitsQueue : QueueState → Type 0
FitsQueue queue = FitEntries queue.entries

queue_fits : (before mode : Mode) (current : Option Change) (queue : QueueState) → IfSome current FitsChange → FitsQueue queue
    → FitsQueue (queue_in before mode current queue)
queue_fits before mode current queue fits h =
    choice FitsQueue (is_disabled mode) _ _ tt (choice FitsQueue (is_disabled before) (opened current queue) queue (opened_fits current queue fits) h)

-- ---- items

mode_fits : (mode : Mode) (current : Option Change) (item : ItemState) → IfSome current FitsChange → FitsItem item → FitsItem (with_mode mode current item)
mode_fits mode current item fits h =
    record { id = h.id; handle = h.handle; entries = queue_fits item.mode mode current item.queue fits h.entries }

new_fits : (id : ℕ) (spec : ItemSpec) (current : Option Change) → IsUInt32 id → IsUInt32 spec.handle → IfSome current FitsChange
    → FitsItem (new_item id spec current)
new_fits id spec current n handle fits = mode_fits spec.mode current (idle_item id spec) fits (record { id = n; handle = handle; entries = tt })

fed_fits : (change : Change) → FitsChange change → (item : ItemState) → FitsItem item → FitsItem (fed_item change item)
fed_fits change fits item h =
    choice FitsItem (samples change item) (record item { queue = pushed change item.queue }) item
    (record { id = h.id; handle = h.handle; entries = pushed_fits change item.queue fits h.entries }) h

moded_fits : (id : ℕ) (mode : Mode) (current : Option Change) → IfSome current FitsChange → (item : ItemState) → FitsItem item
    → FitsItem (moded_if id mode current item)
moded_fits id mode current fits item h =
    choice FitsItem (has_id id item) (with_mode mode current item) item (mode_fits mode current item fits h) h

-- ---- what is told of items

told_of_fits : (room : ℕ) (item : ItemState) → FitsItem item → AllByRecursion FitsTold (told_of room item)
told_of_fits room item h =
    all_map FitsEntry FitsTold (telling item) (λ entry fits. record { handle = h.handle; entry = fits }) (take (count_told room item) item.queue.entries)
    (all_take FitsEntry (count_told room item) item.queue.entries h.entries)

told_fits : (room : ℕ) (items : List ItemState) → AllByRecursion FitsItem items → AllByRecursion FitsTold (told room items)
told_fits room [] h = tt
told_fits room (item ∷ items) h =
    all_join FitsTold (told_of room item) (told (room - count_told room item) items) (told_of_fits room item h.0)
    (told_fits (room - count_told room item) items h.1)

left_of_fits : (room : ℕ) (item : ItemState) → FitsItem item → FitsItem (left_of room item)
left_of_fits room item h =
    record { id = h.id; handle = h.handle; entries = all_drop FitsEntry (count_told room item) item.queue.entries h.entries }

left_fits : (room : ℕ) (items : List ItemState) → AllByRecursion FitsItem items → AllByRecursion FitsItem (left room items)
left_fits room [] h = tt
left_fits room (item ∷ items) h = (left_of_fits room item h.0, left_fits (room - count_told room item) items h.1)

left_long : (room : ℕ) (items : List ItemState) → length (left room items) ≡ length items
left_long room [] = refl
left_long room (item ∷ items) = ap suc (left_long (room - count_told room item) items)

count_few : (room : ℕ) (item : ItemState) → count_told room item ≤ room
count_few room item = choice (λ n. n ≤ room) (is_reporting item.mode) (min room (length item.queue.entries)) 0 (omega arith) (omega arith)

told_of_few : (room : ℕ) (item : ItemState) → length (told_of room item) ≤ count_told room item
told_of_few room item =
    let same = length-map (take (count_told room item) item.queue.entries) (telling item) in
    let few = length-take (count_told room item) item.queue.entries in
    omega (arith, same, few)

told_few : (room : ℕ) (items : List ItemState) → length (told room items) ≤ room
told_few room [] = omega arith
told_few room (item ∷ items) =
    let both = length-append (told_of room item) (told (room - count_told room item) items) in
    let first = told_of_few room item in
    let rest = told_few (room - count_told room item) items in
    let count = count_few room item in
    omega (arith, both, first, rest, count)

-- ---- kept messages

abbrev pub FitKept : List (Sent NotificationMessage) → Type 0
FitKept kept = AllByRecursion FitsSent kept

sent_few : (number : ℕ) (sent : NotificationMessage) (kept : List (Sent NotificationMessage)) → length (with_sent number sent kept) ≤ 64
sent_few number sent kept =
    let all : List (Sent NotificationMessage) = without number kept ++ record { number = number; message = sent } ∷ [] in
    let long = length-drop (length all - 64) all in
    omega (arith, long)

sent_fits : (number : ℕ) (sent : NotificationMessage) (kept : List (Sent NotificationMessage)) → IsUInt32 number → FitsMessage sent → FitKept kept
    → FitKept (with_sent number sent kept)
sent_fits number sent kept n fits h =
    let all : List (Sent NotificationMessage) = without number kept ++ record { number = number; message = sent } ∷ [] in
    all_drop FitsSent (length all - 64) all
    (all_more FitsSent (without number kept) (record { number = number; message = sent })
    (all_filter FitsSent (λ one. not (one.number == number)) kept h) (record { number = n; message = fits }))

pub numbers_fit : (kept : List (Sent NotificationMessage)) → length kept ≤ 64 → FitKept kept → AreUInt32 (numbers_of kept)
numbers_fit kept few h =
    let same = length-map kept (λ (one : Sent NotificationMessage). one.number) in
    (omega (arith, same, few), all_map FitsSent IsUInt32 (λ one. one.number) (λ one fits. fits.number) kept h)

pub kept_message_fits : (number : ℕ) (kept : List (Sent NotificationMessage)) → FitKept kept → IfSome (message_of number kept) FitsMessage
kept_message_fits number [] h = tt
kept_message_fits number (sent ∷ kept) h =
    choice (λ o. IfSome o FitsMessage) (sent.number == number) (Some sent.message) (message_of number kept) h.0.message (kept_message_fits number kept h.1)

-- ---- calls

pub new_sub_fits : (spec : SubSpec) (now : ℕ) → IsUInt32 spec.id → spec.most ≤ 1000 → FitsSub (new_sub spec now)
new_sub_fits spec now id most = record {
  id = id;
  most = most;
  next = omega arith;
  given = omega arith;
  count = omega arith;
  items = tt;
  few = omega arith;
  kept = tt;
}

-- with other items, of which there are no more
items_fit : (items : List ItemState) (s : SubState) → FitsSub s → length items ≤ length s.items → AllByRecursion FitsItem items
    → FitsSub (record s { items = items })
items_fit items s h few fits = record {
  id = h.id;
  most = h.most;
  next = h.next;
  given = h.given;
  count = let count = h.count in omega (arith, few, count);
  items = fits;
  few = h.few;
  kept = h.kept;
}

-- a subscription with room for one item more
pub record HasRoom (s : SubState) : Type 0 where
  pub count : length s.items < 1024
  pub given : IsUInt32 (s.given + 1)

pub added_fits : (spec : ItemSpec) (current : Option Change) (s : SubState) → HasRoom s → IsUInt32 spec.handle → IfSome current FitsChange → FitsSub s
    → FitsSub (added spec current s)
added_fits spec current s room handle fits h = record {
  id = h.id;
  most = h.most;
  next = h.next;
  given = room.given;
  count =
      let long = length-append s.items (new_item (s.given + 1) spec current ∷ []) in
      let count = room.count in
      omega (arith, long, count);
  items = all_more FitsItem s.items (new_item (s.given + 1) spec current) h.items (new_fits (s.given + 1) spec current room.given handle fits);
  few = h.few;
  kept = h.kept;
}

pub removed_fits : (id : ℕ) (s : SubState) → FitsSub s → FitsSub (removed id s)
removed_fits id s h =
    items_fit (without_item id s.items) s h (fewer (λ item. not (has_id id item)) s.items) (all_filter FitsItem (λ item. not (has_id id item)) s.items h.items)

pub mode_of_fits : (id : ℕ) (mode : Mode) (current : Option Change) → IfSome current FitsChange → (s : SubState) → FitsSub s
    → FitsSub (with_mode_of id mode current s)
mode_of_fits id mode current fits s h =
    let same = length-map s.items (moded_if id mode current) in
    items_fit (map (moded_if id mode current) s.items) s h (omega (arith, same))
    (all_map FitsItem FitsItem (moded_if id mode current) (moded_fits id mode current fits) s.items h.items)

pub fed_sub_fits : (change : Change) → FitsChange change → (s : SubState) → FitsSub s → FitsSub (fed change s)
fed_sub_fits change fits s h =
    let same = length-map s.items (fed_item change) in
    items_fit (map (fed_item change) s.items) s h (omega (arith, same))
    (all_map FitsItem FitsItem (fed_item change) (fed_fits change fits) s.items h.items)

-- with another specification of its id, and other counts
specified : (most : ℕ) (s after : SubState) → after.spec.id ≡ s.spec.id → after.spec.most ≡ most → most ≤ 1000 → after.next ≡ s.next → after.given ≡ s.given
    → after.items ≡ s.items → after.kept ≡ s.kept → FitsSub s → FitsSub after
specified most s after id is few next given items kept h = record {
  id = subst IsUInt32 (sym id) h.id;
  most = subst (λ n. n ≤ 1000) (sym is) few;
  next = subst IsUInt32 (sym next) h.next;
  given = subst IsUInt32 (sym given) h.given;
  count = subst (λ l. length l ≤ 1024) (sym items) h.count;
  items = subst (AllByRecursion FitsItem) (sym items) h.items;
  few = subst (λ l. length l ≤ 64) (sym kept) h.few;
  kept = subst FitKept (sym kept) h.kept;
}

pub modified_fits : (spec : SubSpec) (now : ℕ) → spec.most ≤ 1000 → (s : SubState) → FitsSub s → FitsSub (modified spec now s)
modified_fits spec now few s h = specified spec.most s (modified spec now s) refl refl few refl refl refl refl h

pub enabled_fits : (enabled : Bool) (s : SubState) → FitsSub s → FitsSub (with_enabled enabled s)
enabled_fits enabled s h = specified s.spec.most s (with_enabled enabled s) refl refl h.most refl refl refl refl h

pub moved_fits : (s : SubState) → FitsSub s → FitsSub (moved s)
moved_fits s h = specified s.spec.most s (moved s) refl refl h.most refl refl refl refl h

pub acknowledged_fits : (number : ℕ) (s : SubState) → FitsSub s → FitsSub (acknowledged number s)
acknowledged_fits number s h = record {
  id = h.id;
  most = h.most;
  next = h.next;
  given = h.given;
  count = h.count;
  items = h.items;
  few =
      let less = fewer (λ (one : Sent NotificationMessage). not (one.number == number)) s.kept in
      let few = h.few in
      omega (arith, less, few);
  kept = all_filter FitsSent (λ one. not (one.number == number)) s.kept h.kept;
}

row_fits : (row : Cycle) (queued : Bool) (s : SubState) → FitsSub s → FitsSub (after_row row queued s)
row_fits Quiet queued s h = specified s.spec.most s (after_row Quiet queued s) refl refl h.most refl refl refl refl h
row_fits Notify queued s h = specified s.spec.most s (after_row Notify queued s) refl refl h.most refl refl refl refl h
row_fits KeepAlive queued s h = specified s.spec.most s (after_row KeepAlive queued s) refl refl h.most refl refl refl refl h
row_fits Late queued s h = specified s.spec.most s (after_row Late queued s) refl refl h.most refl refl refl refl h
row_fits Expired queued s h = h

row_same : (row : Cycle) (queued : Bool) (s : SubState) → (after_row row queued s).spec.id ≡ s.spec.id
row_same Quiet queued s = refl
row_same Notify queued s = refl
row_same KeepAlive queued s = refl
row_same Late queued s = refl
row_same Expired queued s = refl

pub cycled_same : (queued : Bool) (s : SubState) → (cycled queued s).spec.id ≡ s.spec.id
cycled_same queued s = row_same (row_of queued s) queued s

pub cycled_fits : (queued : Bool) (s : SubState) → FitsSub s → FitsSub (cycled queued s)
cycled_fits queued s h = row_fits (row_of queued s) queued s h

-- ---- messages

entries_fit : (s : SubState) → FitsSub s → AllByRecursion FitsTold (entries_told s)
entries_fit s h = choice (AllByRecursion FitsTold) s.spec.enabled (told s.spec.most s.items) [] (told_fits s.spec.most s.items h.items) tt

entries_few : (s : SubState) → FitsSub s → length (entries_told s) ≤ 1000
entries_few s h =
    let few = told_few s.spec.most s.items in
    let most = h.most in
    choice (λ l. length l ≤ 1000) s.spec.enabled (told s.spec.most s.items) [] (omega (arith, few, most)) (omega arith)

pub next_message_fits : (now : ℤ) (s : SubState) → FitsSigned w64 now → FitsSub s → FitsMessage (next_message now s)
next_message_fits now s at h = formed_fits s.next now (entries_told s) h.next at (entries_fit s h) (entries_few s h)

-- what is kept of entries that fit
sent_with_fits : (entries : List Told) (now : ℤ) (s : SubState) → FitsSigned w64 now → AllByRecursion FitsTold entries → length entries ≤ 1000
    → FitsSub s → FitsSub (sent_with entries now s)
sent_with_fits [] now s at fits few h = h
sent_with_fits (one ∷ more) now s at fits few h = record {
  id = h.id;
  most = h.most;
  next = next_fits s.next h.next;
  given = h.given;
  count = h.count;
  items = h.items;
  few = sent_few s.next (message.message_of s.next now (one ∷ more)) s.kept;
  kept = sent_fits s.next (message.message_of s.next now (one ∷ more)) s.kept h.next (formed_fits s.next now (one ∷ more) h.next at fits few) h.kept;
}

sent_same : (entries : List Told) (now : ℤ) (s : SubState) → (sent_with entries now s).spec.id ≡ s.spec.id
sent_same [] now s = refl
sent_same (one ∷ more) now s = refl

pub published_same : (now : ℤ) (s : SubState) → (published now s).spec.id ≡ s.spec.id
published_same now s = sent_same (entries_told s) now (record s { items = items_left s })

left_items_fit : (s : SubState) → FitsSub s → AllByRecursion FitsItem (items_left s)
left_items_fit s h = choice (AllByRecursion FitsItem) s.spec.enabled (left s.spec.most s.items) s.items (left_fits s.spec.most s.items h.items) h.items

left_items_long : (s : SubState) → length (items_left s) ≤ length s.items
left_items_long s =
    let same = left_long s.spec.most s.items in
    choice (λ l. length l ≤ length s.items) s.spec.enabled (left s.spec.most s.items) s.items (omega (arith, same)) (omega arith)

pub published_fits : (now : ℤ) → FitsSigned w64 now → (s : SubState) → FitsSub s → FitsSub (published now s)
published_fits now at s h =
    let before : SubState = record s { items = items_left s } in
    let sent : SubState = sent_with (entries_told s) now before in
    let fits : FitsSub sent =
    sent_with_fits (entries_told s) now before at (entries_fit s h) (entries_few s h) (items_fit (items_left s) s h (left_items_long s) (left_items_fit s h)) in
    specified sent.spec.most sent (published now s) refl refl fits.most refl refl refl refl fits
