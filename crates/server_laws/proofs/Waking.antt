-- Items of some nodes, what is put into their queues, and that an item which is woken was off.
use Rattle.std.proofs.Common.{◌≡◌, ℕ, ℤ, ◌+◌, ◌-◌, ◌≤◌, ◌==◌, ◌&&◌, List, [], ◌∷◌, ◌++◌, Bool, true, false, not, cond, map, filter, length, Option, refl, sym, ap, ◌∙◌, arith, length-append}
use Rattle.std.proofs.lemmas.List.Elements.{filter-append}
use Rattle.ua_base.specs.declared.modes.Mode.{Mode}
use Rattle.set_model.specs.declared.source.Change.{Change}
use Rattle.item_queue.specs.Queue.{pushed}
use Rattle.subscription.specs.declared.cycle.Cycle.{Cycle}
use Rattle.subscription.specs.declared.cycle.Cycle.TheVariants.{Quiet, Notify, KeepAlive, Late, Expired}
use Rattle.subscription.specs.declared.spec.ItemSpec.{ItemSpec}
use Rattle.subscription.specs.declared.spec.SubSpec.{SubSpec}
use Rattle.subscription.specs.State.{ItemState, SubState}
use Rattle.subscription.specs.Items.{Told, count_told, fed_item, has_id, is_disabled, left, left_of, moded_if, new_item, samples, with_mode, without_item}
use Rattle.subscription.specs.Calls.{after_sending, entries_told, items_left, published, sent_with}
use Rattle.subscription.specs.Cycle.{after_row, cycled, row_of}
use Rattle.subscription.specs.History.{Call, Add, Remove, SetMode, Feed, Timer, Publish, Acknowledge, Modify, SetEnabled, Moved, state_of}
use Rattle.server_laws.specs.Bounded.{count_disabled, is_of, items_made, made_of, reached}
use Rattle.server_laws.specs.Counted.{entries_put, leaves}
use Rattle.server_laws.proofs.Counting.{counted, cycled_items, published_items}

-- ---- items of some nodes

abbrev pub count_for : (ℕ → Bool) → List ItemState → ℕ
count_for p items = length (filter (λ item. p item.node) items)

abbrev pub made_for : (ℕ → Bool) → List ItemSpec → ℕ
made_for p specs = length (filter (λ spec. p spec.node) specs)

one_by : {X : Type 0} (b : Bool) (x : X) → length (cond b (x ∷ []) []) ≡ cond b 1 0
one_by true x = refl
one_by false x = refl

more_by : {X : Type 0} (b : Bool) (x : X) (xs : List X) → length (cond b (x ∷ xs) xs) ≡ cond b 1 0 + length xs
more_by true x xs = omega arith
more_by false x xs = omega arith

less_by : {X : Type 0} (kept b : Bool) (p : X → Bool) (x : X) (some all : List X) → p x ≡ b → length (filter p some) ≤ length (filter p all)
    → length (filter p (cond kept (x ∷ some) some)) ≤ length (cond b (x ∷ filter p all) (filter p all))
less_by true true p x some all is h = let same : length (filter p (x ∷ some)) ≡ length (x ∷ filter p some) = ap (λ b. length (cond b (x ∷ filter p some) (filter p some))) is in omega (arith, same, h)
less_by true false p x some all is h = let same : length (filter p (x ∷ some)) ≡ length (filter p some) = ap (λ b. length (cond b (x ∷ filter p some) (filter p some))) is in omega (arith, same, h)
less_by false true p x some all is h = omega (arith, h)
less_by false false p x some all is h = h

filter_less : {X : Type 0} (kept p : X → Bool) (xs : List X) → length (filter p (filter kept xs)) ≤ length (filter p xs)
filter_less kept p [] = omega arith
filter_less kept p (x ∷ xs) = less_by (kept x) (p x) p x (filter kept xs) xs refl (filter_less kept p xs)

mapped_count : (p : ℕ → Bool) (f : ItemState → ItemState) (items : List ItemState) → ((item : ItemState) → (f item).node ≡ item.node)
    → count_for p (map f items) ≡ count_for p items
mapped_count p f [] same = refl
mapped_count p f (item ∷ items) same =
    more_by (p (f item).node) (f item) (filter (λ (x : ItemState). p x.node) (map f items))
    ∙ ap (λ n. cond (p n) 1 0 + count_for p (map f items)) (same item)
    ∙ ap (λ n. cond (p item.node) 1 0 + n) (mapped_count p f items same)
    ∙ sym (more_by (p item.node) item (filter (λ (x : ItemState). p x.node) items))

moded_node : (id : ℕ) (mode : Mode) (current : Option Change) (item : ItemState) → (moded_if id mode current item).node ≡ item.node
moded_node id mode current item = by_id (has_id id item)
  where
    by_id : (b : Bool) → (cond b (with_mode mode current item) item).node ≡ item.node
    by_id true = refl
    by_id false = refl

fed_node : (change : Change) (item : ItemState) → (fed_item change item).node ≡ item.node
fed_node change item = by_sample (samples change item)
  where
    by_sample : (b : Bool) → (cond b (record item { queue = pushed change item.queue }) item).node ≡ item.node
    by_sample true = refl
    by_sample false = refl

left_count : (p : ℕ → Bool) (room : ℕ) (items : List ItemState) → count_for p (left room items) ≡ count_for p items
left_count p room [] = refl
left_count p room (item ∷ items) =
    more_by (p item.node) (left_of room item) (filter (λ (x : ItemState). p x.node) (left (room - count_told room item) items))
    ∙ ap (λ n. cond (p item.node) 1 0 + n) (left_count p (room - count_told room item) items)
    ∙ sym (more_by (p item.node) item (filter (λ (x : ItemState). p x.node) items))

sent_count : (p : ℕ → Bool) (enabled : Bool) (most : ℕ) (items : List ItemState) → count_for p (cond enabled (left most items) items) ≡ count_for p items
sent_count p true most items = left_count p most items
sent_count p false most items = refl

added_count : (p : ℕ → Bool) (items : List ItemState) (id : ℕ) (spec : ItemSpec) (current : Option Change)
    → count_for p (items ++ new_item id spec current ∷ []) ≡ count_for p items + cond (p spec.node) 1 0
added_count p items id spec current =
    ap length (filter-append (λ (x : ItemState). p x.node) items (new_item id spec current ∷ []))
    ∙ length-append (filter (λ (x : ItemState). p x.node) items) (filter (λ (x : ItemState). p x.node) (new_item id spec current ∷ []))
    ∙ ap (λ n. count_for p items + n) (one_by (p spec.node) (new_item id spec current))

-- there are no more items of some nodes than were made
node_made : (p : ℕ → Bool) (spec : SubSpec) (start : ℕ) (calls : List Call) → count_for p (state_of spec start calls).items ≤ made_for p (items_made calls)
node_made p spec start [] = omega arith
node_made p spec start (Add item current ∷ earlier) =
    let s : SubState = state_of spec start earlier in
    let rest : count_for p s.items ≤ made_for p (items_made earlier) = node_made p spec start earlier in
    let now : count_for p (s.items ++ new_item (s.given + 1) item current ∷ []) ≡ count_for p s.items + cond (p item.node) 1 0 = added_count p s.items (s.given + 1) item current in
    let made : made_for p (item ∷ items_made earlier) ≡ cond (p item.node) 1 0 + made_for p (items_made earlier) =
    more_by (p item.node) item (filter (λ (x : ItemSpec). p x.node) (items_made earlier)) in
    omega (arith, rest, now, made)
node_made p spec start (Remove id ∷ earlier) =
    let s : SubState = state_of spec start earlier in
    let rest : count_for p s.items ≤ made_for p (items_made earlier) = node_made p spec start earlier in
    let less : count_for p (without_item id s.items) ≤ count_for p s.items = filter_less (λ item. not (has_id id item)) (λ (x : ItemState). p x.node) s.items in
    omega (arith, rest, less)
node_made p spec start (SetMode id mode current ∷ earlier) =
    let s : SubState = state_of spec start earlier in
    let rest : count_for p s.items ≤ made_for p (items_made earlier) = node_made p spec start earlier in
    let same : count_for p (map (moded_if id mode current) s.items) ≡ count_for p s.items = mapped_count p (moded_if id mode current) s.items (moded_node id mode current) in
    omega (arith, rest, same)
node_made p spec start (Feed change ∷ earlier) =
    let s : SubState = state_of spec start earlier in
    let rest : count_for p s.items ≤ made_for p (items_made earlier) = node_made p spec start earlier in
    let same : count_for p (map (fed_item change) s.items) ≡ count_for p s.items = mapped_count p (fed_item change) s.items (fed_node change) in
    omega (arith, rest, same)
node_made p spec start (Timer queued ∷ earlier) =
    let s : SubState = state_of spec start earlier in
    let rest : count_for p s.items ≤ made_for p (items_made earlier) = node_made p spec start earlier in
    let same : count_for p (cycled queued s).items ≡ count_for p s.items = ap (count_for p) (cycled_items queued s) in
    omega (arith, rest, same)
node_made p spec start (Publish now ∷ earlier) =
    let s : SubState = state_of spec start earlier in
    let rest : count_for p s.items ≤ made_for p (items_made earlier) = node_made p spec start earlier in
    let same : count_for p (published now s).items ≡ count_for p s.items = ap (count_for p) (published_items now s) ∙ sent_count p s.spec.enabled s.spec.most s.items in
    omega (arith, rest, same)
node_made p spec start (Acknowledge number ∷ earlier) = node_made p spec start earlier
node_made p spec start (Modify changed now ∷ earlier) = node_made p spec start earlier
node_made p spec start (SetEnabled enabled ∷ earlier) = node_made p spec start earlier
node_made p spec start (Moved ∷ earlier) = node_made p spec start earlier

pub all_pass : {X : Type 0} (xs : List X) → length (filter (λ x. true) xs) ≡ length xs
all_pass [] = refl
all_pass (x ∷ xs) = let rest = all_pass xs in omega (arith, rest)

pub items_fewer : (spec : SubSpec) (start : ℕ) (calls : List Call) → length (state_of spec start calls).items ≤ length (items_made calls)
items_fewer spec start calls =
    let h : count_for (λ n. true) (state_of spec start calls).items ≤ made_for (λ n. true) (items_made calls) = node_made (λ n. true) spec start calls in
    let one : count_for (λ n. true) (state_of spec start calls).items ≡ length (state_of spec start calls).items = all_pass (state_of spec start calls).items in
    let other : made_for (λ n. true) (items_made calls) ≡ length (items_made calls) = all_pass (items_made calls) in
    omega (arith, h, one, other)

-- each has an id of its own
cycled_given : (queued : Bool) (s : SubState) → (cycled queued s).given ≡ s.given
cycled_given queued s = by_row (row_of queued s)
  where
    by_row : (row : Cycle) → (after_row row queued s).given ≡ s.given
    by_row Quiet = refl
    by_row Notify = refl
    by_row KeepAlive = refl
    by_row Late = refl
    by_row Expired = refl

published_given : (now : ℤ) (s : SubState) → (published now s).given ≡ s.given
published_given now s = by_entries (entries_told s)
  where
    by_entries : (entries : List Told) → (after_sending (sent_with entries now (record s { items = items_left s }))).given ≡ s.given
    by_entries [] = refl
    by_entries (one ∷ more) = refl

pub given_made : (spec : SubSpec) (start : ℕ) (calls : List Call) → length (items_made calls) ≡ (state_of spec start calls).given
given_made spec start [] = refl
given_made spec start (Add item current ∷ earlier) = let rest = given_made spec start earlier in omega (arith, rest)
given_made spec start (Remove id ∷ earlier) = given_made spec start earlier
given_made spec start (SetMode id mode current ∷ earlier) = given_made spec start earlier
given_made spec start (Feed change ∷ earlier) = given_made spec start earlier
given_made spec start (Timer queued ∷ earlier) = given_made spec start earlier ∙ sym (cycled_given queued (state_of spec start earlier))
given_made spec start (Publish now ∷ earlier) = given_made spec start earlier ∙ sym (published_given now (state_of spec start earlier))
given_made spec start (Acknowledge number ∷ earlier) = given_made spec start earlier
given_made spec start (Modify changed now ∷ earlier) = given_made spec start earlier
given_made spec start (SetEnabled enabled ∷ earlier) = given_made spec start earlier
given_made spec start (Moved ∷ earlier) = given_made spec start earlier

-- ---- what is put into queues, by its cause

abbrev pub modes_by : Call → SubState → ℕ
modes_by (SetMode id mode current) s = cond (is_disabled mode) 0 (length (filter (leaves id) s.items))
modes_by (Add spec current) s = 0
modes_by (Remove id) s = 0
modes_by (Feed change) s = 0
modes_by (Timer queued) s = 0
modes_by (Publish now) s = 0
modes_by (Acknowledge number) s = 0
modes_by (Modify spec now) s = 0
modes_by (SetEnabled enabled) s = 0
modes_by Moved s = 0

abbrev pub modes_put : SubSpec → ℕ → List Call → ℕ
modes_put spec start [] = 0
modes_put spec start (call ∷ earlier) = modes_by call (state_of spec start earlier) + modes_put spec start earlier

abbrev pub changes_by : Call → List Change
changes_by (Feed change) = change ∷ []
changes_by (Add spec current) = []
changes_by (Remove id) = []
changes_by (SetMode id mode current) = []
changes_by (Timer queued) = []
changes_by (Publish now) = []
changes_by (Acknowledge number) = []
changes_by (Modify spec now) = []
changes_by (SetEnabled enabled) = []
changes_by Moved = []

abbrev pub changes_in : List Call → List Change
changes_in [] = []
changes_in (call ∷ earlier) = changes_by call ++ changes_in earlier

reached_more : (changes : List Change) (spec : ItemSpec) (specs : List ItemSpec) → reached changes specs ≤ reached changes (spec ∷ specs)
reached_more [] spec specs = omega arith
reached_more (change ∷ changes) spec specs =
    let rest : reached changes specs ≤ reached changes (spec ∷ specs) = reached_more changes spec specs in
    let now : made_of change.item (spec ∷ specs) ≡ cond (is_of change.item spec) 1 0 + made_of change.item specs =
    more_by (is_of change.item spec) spec (filter (is_of change.item) specs) in
    omega (arith, rest, now)

sampled_by : (p q : Bool) (item : ItemState) (some all : List ItemState) → length some ≤ length all → length (cond (p && q) (item ∷ some) some) ≤ length (cond p (item ∷ all) all)
sampled_by true true item some all h = omega (arith, h)
sampled_by true false item some all h = omega (arith, h)
sampled_by false q item some all h = h

sampled_less : (change : Change) (items : List ItemState) → length (filter (samples change) items) ≤ count_for (λ n. n == change.item) items
sampled_less change [] = omega arith
sampled_less change (item ∷ items) =
    sampled_by (item.node == change.item) (not (is_disabled item.mode)) item (filter (samples change) items) (filter (λ (x : ItemState). x.node == change.item) items)
    (sampled_less change items)

pub parts : (spec : SubSpec) (start : ℕ) (calls : List Call)
    → entries_put spec start calls ≤ length (items_made calls) + reached (changes_in calls) (items_made calls) + modes_put spec start calls
parts spec start [] = omega arith
parts spec start (Add item current ∷ earlier) =
    let rest = parts spec start earlier in
    let more = reached_more (changes_in earlier) item (items_made earlier) in
    omega (arith, rest, more)
parts spec start (Remove id ∷ earlier) = let rest = parts spec start earlier in omega (arith, rest)
parts spec start (SetMode id mode current ∷ earlier) = let rest = parts spec start earlier in omega (arith, rest)
parts spec start (Feed change ∷ earlier) =
    let rest = parts spec start earlier in
    let s : SubState = state_of spec start earlier in
    let sampled : length (filter (samples change) s.items) ≤ count_for (λ n. n == change.item) s.items = sampled_less change s.items in
    let made : count_for (λ n. n == change.item) s.items ≤ made_of change.item (items_made earlier) = node_made (λ n. n == change.item) spec start earlier in
    omega (arith, rest, sampled, made)
parts spec start (Timer queued ∷ earlier) = let rest = parts spec start earlier in omega (arith, rest)
parts spec start (Publish now ∷ earlier) = let rest = parts spec start earlier in omega (arith, rest)
parts spec start (Acknowledge number ∷ earlier) = let rest = parts spec start earlier in omega (arith, rest)
parts spec start (Modify changed now ∷ earlier) = let rest = parts spec start earlier in omega (arith, rest)
parts spec start (SetEnabled enabled ∷ earlier) = let rest = parts spec start earlier in omega (arith, rest)
parts spec start (Moved ∷ earlier) = let rest = parts spec start earlier in omega (arith, rest)

-- ---- an item that is woken was Disabled

woken_by : (here disabled : Bool) (mode : Mode) (current : Option Change) (item : ItemState) (rest counted others : List ItemState) → is_disabled mode ≡ false
    → is_disabled item.mode ≡ disabled → length rest + length counted ≡ length others
    → length (cond (is_disabled (cond here (with_mode mode current item) item).mode) (cond here (with_mode mode current item) item ∷ rest) rest)
    + length (cond (here && disabled) (item ∷ counted) counted) ≡ length (cond disabled (item ∷ others) others)
woken_by true true mode current item rest counted others goes is h =
    let now : length (cond (is_disabled mode) (with_mode mode current item ∷ rest) rest) ≡ length rest = ap (λ b. length (cond b (with_mode mode current item ∷ rest) rest)) goes in
    omega (arith, h, now)
woken_by true false mode current item rest counted others goes is h =
    let now : length (cond (is_disabled mode) (with_mode mode current item ∷ rest) rest) ≡ length rest = ap (λ b. length (cond b (with_mode mode current item ∷ rest) rest)) goes in
    omega (arith, h, now)
woken_by false true mode current item rest counted others goes is h =
    let now : length (cond (is_disabled item.mode) (item ∷ rest) rest) ≡ length (item ∷ rest) = ap (λ b. length (cond b (item ∷ rest) rest)) is in
    omega (arith, h, now)
woken_by false false mode current item rest counted others goes is h =
    let now : length (cond (is_disabled item.mode) (item ∷ rest) rest) ≡ length rest = ap (λ b. length (cond b (item ∷ rest) rest)) is in
    omega (arith, h, now)

pub woken : (id : ℕ) (mode : Mode) (current : Option Change) (items : List ItemState) → is_disabled mode ≡ false
    → count_disabled (map (moded_if id mode current) items) + length (filter (leaves id) items) ≡ count_disabled items
woken id mode current [] goes = refl
woken id mode current (item ∷ items) goes =
    woken_by (has_id id item) (is_disabled item.mode) mode current item (filter (λ (x : ItemState). is_disabled x.mode) (map (moded_if id mode current) items))
    (filter (leaves id) items) (filter (λ (x : ItemState). is_disabled x.mode) items) goes refl (woken id mode current items goes)

pub filter_length : {X : Type 0} (p : X → Bool) (xs : List X) → length (filter p xs) ≤ length xs
filter_length p [] = omega arith
filter_length p (x ∷ xs) =
    let rest = filter_length p xs in
    by_test (p x) rest
  where
    by_test : (b : Bool) → length (filter p xs) ≤ length xs → length (cond b (x ∷ filter p xs) (filter p xs)) ≤ length (x ∷ xs)
    by_test true h = omega (arith, h)
    by_test false h = omega (arith, h)
