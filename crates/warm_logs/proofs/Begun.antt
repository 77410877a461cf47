-- Of a client's link values of an item come only after the item's values began.
use Rattle.std.proofs.Common.{◌≡◌, ◌⊎◌, inl, inr, ℕ, zero, suc, ◌==◌, ◌≤◌, ◌<◌, nat_le, List, [], ◌∷◌, ◌++◌, reverse, Bool, true, false, Some, None, if◌then◌else◌, refl, sym, ◌∙◌, ap, subst, arith}
use Rattle.std.proofs.lemmas.Bool.Decides.{nat_tests}
use Rattle.std.proofs.lemmas.List.{append-nil, reverse-append}
use Rattle.link_rules.specs.declared.config.LinkConfig.{LinkConfig}
use Rattle.link_rules.specs.declared.notice.Notice.{Notice}
use Rattle.link_rules.specs.declared.notice.Notice.TheVariants as notice
use Rattle.link_rules.specs.declared.remembered.Monitored.{Monitored}
use Rattle.link_rules.specs.declared.remembered.Remembered.{Remembered}
use Rattle.link_rules.specs.State.{LinkState, new_link}
use Rattle.link_rules.specs.Subscribing.{streams}
use Rattle.link_rules.specs.Step as alone
use Rattle.link_laws.specs.Course.{AreDoable, Deed, Forgets, IsCourse, IsSteady, Leaps, Monitors, Passes, Skips, Streams, Takes, data_heard_in, ids_heard_in, is_of_values, of_values, told_after}
use Rattle.client_rules.specs.declared.config.ClientConfig.{ClientConfig}
use Rattle.client_rules.specs.State.{link_config, servers_of}
use Rattle.client_rules.specs.Step.{Moment}
use Rattle.client_laws.specs.Life.{acts_of}
use Rattle.client_links.specs.Links.{IsLinkLife, told_of}

-- ---- values that begin

-- the values of an item began; notices newest first
abbrev pub begun_in : ℕ → List Notice → Bool
begun_in item [] = false
begun_in item (notice.Stream i ∷ earlier) = if i == item then true else begun_in item earlier
begun_in item (other ∷ earlier) = begun_in item earlier

-- each value of an item, of so many, comes after its values began; notices newest first
abbrev pub AreBegun : ℕ → List Notice → Type 0
AreBegun items [] = Unit {0}
AreBegun items (notice.Taken item value ∷ earlier) =
    (1 ≤ item → item ≤ items → begun_in item earlier ≡ true) × AreBegun items earlier
AreBegun items (other ∷ earlier) = AreBegun items earlier

-- ---- notices of values alone

values_by : (b : Bool) (n : Notice) (one other : List Notice)
    → (if b then n ∷ (one ++ other) else one ++ other) ≡ (if b then n ∷ one else one) ++ other
values_by true n one other = refl
values_by false n one other = refl

values_join : (one other : List Notice) → of_values (one ++ other) ≡ of_values one ++ of_values other
values_join [] other = refl
values_join (n ∷ one) other =
    ap (λ (x : List Notice). if is_of_values n then n ∷ x else x) (values_join one other)
    ∙ values_by (is_of_values n) n (of_values one) (of_values other)

single_reverse : (b : Bool) (n : Notice) (one : List Notice)
    → reverse one ++ (if b then n ∷ [] else []) ≡ reverse (if b then n ∷ one else one)
single_reverse true n one = sym (reverse-append (n ∷ []) one)
single_reverse false n one = append-nil (reverse one)

values_reverse : (notices : List Notice) → of_values (reverse notices) ≡ reverse (of_values notices)
values_reverse [] = refl
values_reverse (n ∷ notices) =
    ap of_values (reverse-append (n ∷ []) notices) ∙ values_join (reverse notices) (n ∷ [])
    ∙ ap (λ (l : List Notice). l ++ of_values (n ∷ [])) (values_reverse notices)
    ∙ single_reverse (is_of_values n) n (of_values notices)

begun_only : (mine one other : Bool) → one ≡ other → (if mine then true else one) ≡ (if mine then true else other)
begun_only true one other e = refl
begun_only false one other e = e

begun_of_values : (item : ℕ) (notices : List Notice) → begun_in item (of_values notices) ≡ begun_in item notices
begun_of_values item [] = refl
begun_of_values item (notice.Ready ∷ earlier) = begun_of_values item earlier
begun_of_values item (notice.Lost ∷ earlier) = begun_of_values item earlier
begun_of_values item (notice.Unsupported ∷ earlier) = begun_of_values item earlier
begun_of_values item (notice.Level level ∷ earlier) = begun_of_values item earlier
begun_of_values item (notice.Stream i ∷ earlier) = begun_only (i == item) _ _ (begun_of_values item earlier)
begun_of_values item (notice.Jump ∷ earlier) = begun_of_values item earlier
begun_of_values item (notice.Taken i value ∷ earlier) = begun_of_values item earlier
begun_of_values item (notice.Sent mode ∷ earlier) = begun_of_values item earlier
begun_of_values item (notice.Confirmed mode ∷ earlier) = begun_of_values item earlier

begun_by_values : (items : ℕ) (notices : List Notice) → AreBegun items (of_values notices) → AreBegun items notices
begun_by_values items [] h = tt
begun_by_values items (notice.Ready ∷ earlier) h = begun_by_values items earlier h
begun_by_values items (notice.Lost ∷ earlier) h = begun_by_values items earlier h
begun_by_values items (notice.Unsupported ∷ earlier) h = begun_by_values items earlier h
begun_by_values items (notice.Level level ∷ earlier) h = begun_by_values items earlier h
begun_by_values items (notice.Stream i ∷ earlier) h = begun_by_values items earlier h
begun_by_values items (notice.Jump ∷ earlier) h = begun_by_values items earlier h
begun_by_values items (notice.Taken i value ∷ earlier) h =
    (λ low high. sym (begun_of_values i earlier) ∙ h.0 low high, begun_by_values items earlier h.1)
begun_by_values items (notice.Sent mode ∷ earlier) h = begun_by_values items earlier h
begun_by_values items (notice.Confirmed mode ∷ earlier) h = begun_by_values items earlier h

-- ---- all values begin

streams_more : (count : ℕ) → reverse (streams (suc count)) ≡ notice.Stream (suc count) ∷ reverse (streams count)
streams_more count = reverse-append (streams count) (notice.Stream (suc count) ∷ [])

streams_are_begun : (items count : ℕ) → AreBegun items (reverse (streams count))
streams_are_begun items zero = tt
streams_are_begun items (suc count) = subst (AreBegun items) (sym (streams_more count)) (streams_are_begun items count)

under : (item count : ℕ) → item ≤ suc count → (suc count == item) ≡ false → item ≤ count
under item count high test = grind (arith, nat_tests)

begins_by : (mine before : Bool) → (mine ≡ false → before ≡ true) → (if mine then true else before) ≡ true
begins_by true before h = refl
begins_by false before h = h refl

streams_begin : (item count : ℕ) → 1 ≤ item → item ≤ count → begun_in item (reverse (streams count)) ≡ true
streams_begin item zero low high = absurd (omega arith)
streams_begin item (suc count) low high =
    ap (begun_in item) (streams_more count)
    ∙ begins_by (suc count == item) (begun_in item (reverse (streams count)))
    (λ test. streams_begin item count low (under item count high test))

-- what began stays so

stays_begun : (item : ℕ) (later earlier : List Notice) → begun_in item earlier ≡ true → begun_in item (later ++ earlier) ≡ true
stays_begun item [] earlier is = is
stays_begun item (notice.Stream i ∷ later) earlier is =
    begins_by (i == item) (begun_in item (later ++ earlier)) (λ test. stays_begun item later earlier is)
stays_begun item (other ∷ later) earlier is = stays_begun item later earlier is

all_stay_begun : (items : ℕ) (later earlier : List Notice)
    → ((item : ℕ) → 1 ≤ item → item ≤ items → begun_in item earlier ≡ true) → AreBegun items earlier
    → AreBegun items (later ++ earlier)
all_stay_begun items [] earlier all begun = begun
all_stay_begun items (notice.Taken i value ∷ later) earlier all begun =
    (λ low high. stays_begun i later earlier (all i low high), all_stay_begun items later earlier all begun)
all_stay_begun items (other ∷ later) earlier all begun = all_stay_begun items later earlier all begun

-- ---- a link

-- nothing is told, or the values of all items begin first; oldest first
abbrev BeginsAnew : ℕ → List Notice → Type 0
BeginsAnew count told = (told ≡ []) ⊎ ((rest : List Notice) × (told ≡ streams count ++ rest))

no_some : {A : Type 0} (r : Remembered) → None ≡ Some r → A
no_some r e = absurd cc

all_begin : (count : ℕ) (deeds : List Deed) (monitored : List Monitored) → AreDoable deeds None
    → BeginsAnew count (told_after count deeds monitored)
all_begin count [] monitored h = inl refl
all_begin count (Streams id ∷ deeds) monitored h = inr (told_after count deeds [], refl)
all_begin count (Monitors made ∷ deeds) monitored h = all_begin count deeds made h.1
all_begin count (Takes number values ∷ deeds) monitored h = no_some h.0.0 h.0.1
all_begin count (Leaps number values ∷ deeds) monitored h = no_some h.0.0 h.0.1
all_begin count (Passes number values ∷ deeds) monitored h = no_some h.0.0 h.0.1
all_begin count (Skips number ∷ deeds) monitored h = no_some h.0.0 h.0.1
all_begin count (Forgets ∷ deeds) monitored h = all_begin count deeds [] h.1

anew_begun : (count : ℕ) (told : List Notice) → BeginsAnew count told → AreBegun count (reverse told)
anew_begun count told (inl nothing) = subst (λ (l : List Notice). AreBegun count (reverse l)) (sym nothing) tt
anew_begun count told (inr anew) =
    subst (λ (l : List Notice). AreBegun count (reverse l)) (sym anew.1)
    (subst (AreBegun count) (sym (reverse-append (streams count) anew.0))
    (all_stay_begun count (reverse anew.0) (reverse (streams count)) (λ item low high. streams_begin item count low high)
    (streams_are_begun count count)))

link_begun : ((happenings : List alone.Happening) (l : LinkState) → IsSteady l
    → IsCourse l (data_heard_in happenings) (ids_heard_in happenings) (alone.after_all happenings l))
    → (config : LinkConfig) (happenings : List alone.Happening)
    → AreBegun config.items (reverse (alone.after_all happenings (new_link config)).notices)
link_begun course config happenings =
    let notices : List Notice = (alone.after_all happenings (new_link config)).notices in
    let done : IsCourse (new_link config) (data_heard_in happenings) (ids_heard_in happenings)
    (alone.after_all happenings (new_link config)) = course happenings (new_link config) (λ is. refl) in
    let told : of_values (reverse notices) ≡ reverse (told_after config.items done.deeds []) =
    values_reverse notices ∙ ap reverse done.told in
    begun_by_values config.items (reverse notices) (subst (AreBegun config.items) (sym told)
    (anew_begun config.items (told_after config.items done.deeds []) (all_begin config.items done.deeds [] done.doable)))

-- ---- a client

within_or_not : (server count : ℕ) (p q : Bool) → nat_le 1 server ≡ p → nat_le server count ≡ q
    → ((1 ≤ server) × (server ≤ count)) ⊎ ((server ≡ 0) ⊎ (count < server))
within_or_not server count true true e f =
    let low : 1 ≤ server = grind (arith, nat_tests) in
    let high : server ≤ count = grind (arith, nat_tests) in
    inl (low, high)
within_or_not server count true false e f =
    let above : count < server = grind (arith, nat_tests) in
    inr (inr above)
within_or_not server count false q e f =
    let none : server ≡ 0 = grind (arith, nat_tests) in
    inr (inl none)

server_begun : ((happenings : List alone.Happening) (l : LinkState) → IsSteady l
    → IsCourse l (data_heard_in happenings) (ids_heard_in happenings) (alone.after_all happenings l))
    → ((config : ClientConfig) (moments : List Moment) (server : ℕ) → 1 ≤ server → server ≤ servers_of config
    → IsLinkLife server config moments)
    → ((config : ClientConfig) (moments : List Moment) (server : ℕ) → (server ≡ 0) ⊎ (servers_of config < server)
    → told_of server (acts_of config moments) ≡ [])
    → (config : ClientConfig) (moments : List Moment) (server : ℕ)
    → ((1 ≤ server) × (server ≤ servers_of config)) ⊎ ((server ≡ 0) ⊎ (servers_of config < server))
    → AreBegun config.items (reverse (told_of server (acts_of config moments)))
server_begun course lives others config moments server (inl within) =
    let life : IsLinkLife server config moments = lives config moments server within.0 within.1 in
    subst (λ (l : List Notice). AreBegun config.items (reverse l)) (sym life.told)
    (link_begun course (link_config config) life.happenings)
server_begun course lives others config moments server (inr outside) =
    subst (λ (l : List Notice). AreBegun config.items (reverse l)) (sym (others config moments server outside)) tt

-- what a client's acts tell of any server
pub are_begun : ((happenings : List alone.Happening) (l : LinkState) → IsSteady l
    → IsCourse l (data_heard_in happenings) (ids_heard_in happenings) (alone.after_all happenings l))
    → ((config : ClientConfig) (moments : List Moment) (server : ℕ) → 1 ≤ server → server ≤ servers_of config
    → IsLinkLife server config moments)
    → ((config : ClientConfig) (moments : List Moment) (server : ℕ) → (server ≡ 0) ⊎ (servers_of config < server)
    → told_of server (acts_of config moments) ≡ [])
    → (config : ClientConfig) (moments : List Moment) (server : ℕ)
    → AreBegun config.items (reverse (told_of server (acts_of config moments)))
are_begun course lives others config moments server =
    server_begun course lives others config moments server
    (within_or_not server (servers_of config) (nat_le 1 server) (nat_le server (servers_of config)) refl refl)
