-- No more messages are sent than entries were put into queues.
use Rattle.std.proofs.Common.{◌≡◌, ℕ, ℤ, ◌+◌, ◌-◌, ◌≤◌, ◌&&◌, min, List, [], ◌∷◌, ◌++◌, Bool, true, false, not, cond, map, filter, length, take, drop, nat_lt, Option, Some, None, refl, ap, arith, length-append}
use Rattle.std.proofs.lemmas.List.{length-drop, length-map, length-take}
use Rattle.ua_base.specs.declared.modes.Mode.{Mode}
use Rattle.set_model.specs.declared.source.Change.{Change}
use Rattle.item_queue.specs.declared.queue.Entry.{Entry}
use Rattle.item_queue.specs.State.{QueueState}
use Rattle.item_queue.specs.Queue.{empty_queue, marked_first, pushed, replacing, unmarked, without_room}
use Rattle.ua_sub_msgs.specs.declared.notification.NotificationMessage.{NotificationMessage}
use Rattle.subscription.specs.declared.cycle.Cycle.{Cycle}
use Rattle.subscription.specs.declared.cycle.Cycle.TheVariants.{Quiet, Notify, KeepAlive, Late, Expired}
use Rattle.subscription.specs.declared.spec.ItemSpec.{ItemSpec}
use Rattle.subscription.specs.declared.spec.SubSpec.{SubSpec}
use Rattle.subscription.specs.State.{ItemState, SubState}
use Rattle.subscription.specs.Items.{Told, count_told, fed_item, has_id, is_disabled, is_reporting, left, left_of, moded_if, new_item, opened, queue_in, samples, told, told_of, with_mode, without_item}
use Rattle.subscription.specs.Message.{message_of}
use Rattle.subscription.specs.Cycle.{after_row, cycled, row_of}
use Rattle.subscription.specs.Calls.{after_sending, entries_told, items_left, published, sent_with}
use Rattle.subscription.specs.History.{Call, Add, Remove, SetMode, Feed, Timer, Publish, Acknowledge, Modify, SetEnabled, Moved, state_of}
use Rattle.subscription.specs.Sendings.{data_of}
use Rattle.server_laws.specs.Lives.{messages_sent, with_message}
use Rattle.server_laws.specs.Counted.{entries_put, held, leaves}

-- ---- a queue

marked_length : (entries : List Entry) → length (marked_first entries) ≡ length entries
marked_length [] = refl
marked_length (entry ∷ entries) = refl

room_length : (oldest : Bool) (size : ℕ) (change : Change) (entries : List Entry) → length (without_room oldest size change entries) ≤ length entries + 1
room_length true size change entries =
    let long = length-append (marked_first (drop 1 entries)) (unmarked change ∷ []) in
    let marked = marked_length (drop 1 entries) in
    let less = length-drop 1 entries in
    omega (arith, long, marked, less)
room_length false size change entries =
    let long = length-append (take (length entries - 1) entries) (replacing size change ∷ []) in
    let less = length-take (length entries - 1) entries in
    omega (arith, long, less)

change_length : (oldest : Bool) (size : ℕ) (change : Change) (entries : List Entry) (b : Bool)
    → length (cond b (entries ++ unmarked change ∷ []) (without_room oldest size change entries)) ≤ length entries + 1
change_length oldest size change entries true = let long = length-append entries (unmarked change ∷ []) in omega (arith, long)
change_length oldest size change entries false = room_length oldest size change entries

pushed_length : (change : Change) (queue : QueueState) → length (pushed change queue).entries ≤ length queue.entries + 1
pushed_length change queue = change_length queue.oldest queue.size change queue.entries (nat_lt (length queue.entries) queue.size)

opened_length : (current : Option Change) (queue : QueueState) → length (opened current queue).entries ≤ 1
opened_length None queue = omega arith
opened_length (Some change) queue = let most = pushed_length change (empty_queue queue.oldest queue.size) in omega (arith, most)

-- ---- lists of items

held_more : (items others : List ItemState) → held (items ++ others) ≡ held items + held others
held_more [] others = omega arith
held_more (item ∷ items) others = let rest = held_more items others in omega (arith, rest)

without_by : (b : Bool) (item : ItemState) (rest items : List ItemState) → held rest ≤ held items → held (cond b (item ∷ rest) rest) ≤ held (item ∷ items)
without_by true item rest items h = omega (arith, h)
without_by false item rest items h = omega (arith, h)

without_held : (id : ℕ) (items : List ItemState) → held (without_item id items) ≤ held items
without_held id [] = omega arith
without_held id (item ∷ items) = without_by (not (has_id id item)) item (without_item id items) items (without_held id items)

-- ---- a change is fed

fed_by : (b : Bool) (change : Change) (item : ItemState) (rest items counted : List ItemState) → held rest ≤ length counted + held items
    → held (cond b (record item { queue = pushed change item.queue }) item ∷ rest) ≤ length (cond b (item ∷ counted) counted) + held (item ∷ items)
fed_by true change item rest items counted h = let most = pushed_length change item.queue in omega (arith, h, most)
fed_by false change item rest items counted h = omega (arith, h)

fed_held : (change : Change) (items : List ItemState) → held (map (fed_item change) items) ≤ length (filter (samples change) items) + held items
fed_held change [] = omega arith
fed_held change (item ∷ items) = fed_by (samples change item) change item (map (fed_item change) items) items (filter (samples change) items) (fed_held change items)

-- ---- a mode is set

stops_by : (here : Bool) (mode : Mode) (current : Option Change) (item : ItemState) (rest items : List ItemState) → is_disabled mode ≡ true → held rest ≤ held items
    → held (cond here (with_mode mode current item) item ∷ rest) ≤ held (item ∷ items)
stops_by true mode current item rest items stops h =
    let none : (queue_in item.mode mode current item.queue).entries ≡ [] =
    ap (λ b. (cond b (empty_queue item.queue.oldest item.queue.size) (cond (is_disabled item.mode) (opened current item.queue) item.queue)).entries) stops in
    let zero_long : length (queue_in item.mode mode current item.queue).entries ≡ 0 = ap length none in
    omega (arith, h, zero_long)
stops_by false mode current item rest items stops h = omega (arith, h)

stops_held : (id : ℕ) (mode : Mode) (current : Option Change) (items : List ItemState) → is_disabled mode ≡ true
    → held (map (moded_if id mode current) items) ≤ held items
stops_held id mode current [] stops = omega arith
stops_held id mode current (item ∷ items) stops =
    stops_by (has_id id item) mode current item (map (moded_if id mode current) items) items stops (stops_held id mode current items stops)

begins_by : (here disabled stops : Bool) (mode : Mode) (current : Option Change) (item : ItemState) (rest items counted : List ItemState) → stops ≡ false
    → held rest ≤ length counted + held items
    → held (cond here (record item { mode = mode; queue = cond stops (empty_queue item.queue.oldest item.queue.size) (cond disabled (opened current item.queue) item.queue) }) item ∷ rest)
    ≤ length (cond (here && disabled) (item ∷ counted) counted) + held (item ∷ items)
begins_by here disabled true mode current item rest items counted goes h = absurd cc
begins_by true true false mode current item rest items counted goes h = let most = opened_length current item.queue in omega (arith, h, most)
begins_by true false false mode current item rest items counted goes h = omega (arith, h)
begins_by false disabled false mode current item rest items counted goes h = omega (arith, h)

begins_held : (id : ℕ) (mode : Mode) (current : Option Change) (items : List ItemState) → is_disabled mode ≡ false
    → held (map (moded_if id mode current) items) ≤ length (filter (leaves id) items) + held items
begins_held id mode current [] goes = omega arith
begins_held id mode current (item ∷ items) goes =
    begins_by (has_id id item) (is_disabled item.mode) (is_disabled mode) mode current item (map (moded_if id mode current) items) items (filter (leaves id) items) goes
    (begins_held id mode current items goes)

moded_held : (id : ℕ) (mode : Mode) (current : Option Change) (items : List ItemState) (b : Bool) → is_disabled mode ≡ b
    → held (map (moded_if id mode current) items) ≤ cond b 0 (length (filter (leaves id) items)) + held items
moded_held id mode current items true is = let less = stops_held id mode current items is in omega (arith, less)
moded_held id mode current items false is = begins_held id mode current items is

-- ---- an item is added

new_by : (stops : Bool) (current : Option Change) (id : ℕ) (spec : ItemSpec)
    → length (cond stops (empty_queue spec.oldest spec.queue) (opened current (empty_queue spec.oldest spec.queue))).entries ≤ 1
new_by true current id spec = omega arith
new_by false current id spec = opened_length current (empty_queue spec.oldest spec.queue)

new_held : (id : ℕ) (spec : ItemSpec) (current : Option Change) (items : List ItemState) → held (items ++ new_item id spec current ∷ []) ≤ 1 + held items
new_held id spec current items =
    let long = held_more items (new_item id spec current ∷ []) in
    let most = new_by (is_disabled spec.mode) current id spec in
    omega (arith, long, most)

-- ---- a message is sent

take_counted : (count : ℕ) (entries : List Entry) → count ≤ length entries → length (drop count entries) + length (take count entries) ≡ length entries
take_counted count entries within =
    let dropped = length-drop count entries in
    let taken = length-take count entries in
    omega (arith, dropped, taken)

count_by : (b : Bool) (room : ℕ) (entries : List Entry) → cond b (min room (length entries)) 0 ≤ length entries
count_by true room entries = omega arith
count_by false room entries = omega arith

left_told : (room : ℕ) (item : ItemState) → length (left_of room item).queue.entries + length (told_of room item) ≡ length item.queue.entries
left_told room item =
    let count : ℕ = count_told room item in
    let whole = take_counted count item.queue.entries (count_by (is_reporting item.mode) room item.queue.entries) in
    let told_long : length (told_of room item) ≡ length (take count item.queue.entries) = length-map (take count item.queue.entries) _ in
    omega (arith, whole, told_long)

left_held : (room : ℕ) (items : List ItemState) → held (left room items) + length (told room items) ≡ held items
left_held room [] = refl
left_held room (item ∷ items) =
    let one = left_told room item in
    let rest = left_held (room - count_told room item) items in
    let long = length-append (told_of room item) (told (room - count_told room item) items) in
    omega (arith, one, rest, long)

sent_by : (enabled : Bool) (most : ℕ) (items : List ItemState)
    → held (cond enabled (left most items) items) + length (cond enabled (told most items) []) ≡ held items
sent_by true most items = left_held most items
sent_by false most items = omega arith

pub published_items : (now : ℤ) (s : SubState) → (published now s).items ≡ items_left s
published_items now s = by_entries (entries_told s)
  where
    by_entries : (entries : List Told) → (after_sending (sent_with entries now (record s { items = items_left s }))).items ≡ items_left s
    by_entries [] = refl
    by_entries (one ∷ more) = refl

message_count : (number : ℕ) (now : ℤ) (entries : List Told) (messages : List NotificationMessage)
    → length (with_message messages (data_of number now entries)) ≤ length messages + length entries
message_count number now [] messages = omega arith
message_count number now (one ∷ more) messages = let long = length-append messages (message_of number now (one ∷ more) ∷ []) in omega (arith, long)

pub cycled_items : (queued : Bool) (s : SubState) → (cycled queued s).items ≡ s.items
cycled_items queued s = by_row (row_of queued s)
  where
    by_row : (row : Cycle) → (after_row row queued s).items ≡ s.items
    by_row Quiet = refl
    by_row Notify = refl
    by_row KeepAlive = refl
    by_row Late = refl
    by_row Expired = refl

-- ---- all calls

pub counted : (spec : SubSpec) (start : ℕ) (calls : List Call)
    → length (messages_sent spec start calls) + held (state_of spec start calls).items ≤ entries_put spec start calls
counted spec start [] = omega arith
counted spec start (Add item current ∷ earlier) =
    let s : SubState = state_of spec start earlier in
    let rest = counted spec start earlier in
    let more = new_held (s.given + 1) item current s.items in
    omega (arith, rest, more)
counted spec start (Remove id ∷ earlier) =
    let s : SubState = state_of spec start earlier in
    let rest = counted spec start earlier in
    let less = without_held id s.items in
    omega (arith, rest, less)
counted spec start (SetMode id mode current ∷ earlier) =
    let s : SubState = state_of spec start earlier in
    let rest = counted spec start earlier in
    let more = moded_held id mode current s.items (is_disabled mode) refl in
    omega (arith, rest, more)
counted spec start (Feed change ∷ earlier) =
    let s : SubState = state_of spec start earlier in
    let rest = counted spec start earlier in
    let more = fed_held change s.items in
    omega (arith, rest, more)
counted spec start (Timer queued ∷ earlier) =
    let s : SubState = state_of spec start earlier in
    let rest = counted spec start earlier in
    let same : held (cycled queued s).items ≡ held s.items = ap held (cycled_items queued s) in
    omega (arith, rest, same)
counted spec start (Publish now ∷ earlier) =
    let s : SubState = state_of spec start earlier in
    let rest = counted spec start earlier in
    let same : held (published now s).items ≡ held (items_left s) = ap held (published_items now s) in
    let taken = sent_by s.spec.enabled s.spec.most s.items in
    let message = message_count s.next now (entries_told s) (messages_sent spec start earlier) in
    omega (arith, rest, same, taken, message)
counted spec start (Acknowledge number ∷ earlier) = let rest = counted spec start earlier in omega (arith, rest)
counted spec start (Modify changed now ∷ earlier) = let rest = counted spec start earlier in omega (arith, rest)
counted spec start (SetEnabled enabled ∷ earlier) = let rest = counted spec start earlier in omega (arith, rest)
counted spec start (Moved ∷ earlier) = let rest = counted spec start earlier in omega (arith, rest)
