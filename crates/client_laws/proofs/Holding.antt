-- In a warm set an item's joint is what its window says.
use Rattle.std.proofs.Common.{◌≡◌, ℕ, ◌==◌, ◌&&◌, ◌≤◌, List, [], ◌∷◌, Bool, true, false, nat_le, Option, Some, None, if◌then◌else◌, refl, sym, ap, subst, arith}
use Rattle.std.specs.Prelude.{ℤ}
use Rattle.std.proofs.lemmas.Bool.Decides.{nat_tests}
use Rattle.ua_base.specs.declared.modes.Mode.{Mode}
use Rattle.ua_base.specs.declared.modes.Mode.TheVariants.{Disabled, Sampling, Reporting}
use Rattle.ua_base.specs.declared.modes.SetMode.TheVariants.{Warm}
use Rattle.set_model.specs.declared.line.GapCause.TheVariants as cause
use Rattle.delivery_log.specs.declared.rule.Joint.{Joint}
use Rattle.delivery_log.specs.declared.rule.Joint.TheVariants.{Joined, Open, Held}
use Rattle.delivery_log.specs.declared.rule.Turn.TheVariants.{Loosen, Confirm}
use Rattle.delivery_log.specs.Judge.{joint_after, turned}
use Rattle.delivery_log.specs.History.{Act, Enter, Set, joint_by, joint_of}
use Rattle.ua_variants.specs.declared.variant.Stamped.{Stamped}
use Rattle.ua_variants.specs.declared.variant.Variant.{Variant}
use Rattle.link_rules.specs.declared.notice.Notice.{Notice}
use Rattle.link_rules.specs.declared.notice.Notice.TheVariants as notice
use Rattle.client_rules.specs.declared.config.ClientConfig.{ClientConfig}
use Rattle.client_rules.specs.Arrival.{arrived_of, stamp_of}
use Rattle.client_rules.specs.Acts.{ClientAct, Happened, Tells, Says, Switches, on_confirmed, on_sent, seen_of_act, seen_of_notice}
use Rattle.client_rules.specs.History.{history_after, seen_before}
use Rattle.client_rules.specs.Step.{Moment}
use Rattle.client_laws.specs.Life.{acts_of, history_of}
use Rattle.client_laws.specs.Windows.{IsShownBy, Window, asked_by, confirmed_by, has_time, new_window, no_window, window_after, window_by, windowed}

-- the joint after what the log sees, if it sees anything
abbrev joint_seen : ℕ → ℕ → Option Act → Joint → Joint
joint_seen server item None joint = joint
joint_seen server item (Some act) joint = joint_by server item act joint

seen_is : (server item : ℕ) (seen : Option Act) (earlier : List Act)
    → joint_of server item (seen_before seen earlier) ≡ joint_seen server item seen (joint_of server item earlier)
seen_is server item None earlier = refl
seen_is server item (Some act) earlier = refl

-- once its values began to come
abbrev Shown : Window → Joint → Type 0
Shown w joint = w.begun ≡ true → IsShownBy w joint

-- ---- another server's notices

item_aside : (server item : ℕ) (within : Bool) (act : Act) (joint : Joint) → joint_by server item act joint ≡ joint
    → joint_seen server item (if within then Some act else None) joint ≡ joint
item_aside server item true act joint e = e
item_aside server item false act joint e = refl

pair_aside : (same b : Bool) (next joint : Joint) → same ≡ false → (if same && b then next else joint) ≡ joint
pair_aside true b next joint e = absurd cc
pair_aside false b next joint e = refl

all_aside : (same : Bool) (next joint : Joint) → same ≡ false → (if same then next else joint) ≡ joint
all_aside true next joint e = absurd cc
all_aside false next joint e = refl

sent_aside : (server item s : ℕ) (mode : Mode) (joint : Joint) → (s == server) ≡ false
    → joint_seen server item (on_sent Warm mode s) joint ≡ joint
sent_aside server item s Disabled joint e = all_aside (s == server) Held joint e
sent_aside server item s Sampling joint e = refl
sent_aside server item s Reporting joint e = refl

confirmed_aside : (server item s : ℕ) (mode : Mode) (joint : Joint) → (s == server) ≡ false
    → joint_seen server item (on_confirmed Warm mode s) joint ≡ joint
confirmed_aside server item s Disabled joint e = refl
confirmed_aside server item s Sampling joint e = refl
confirmed_aside server item s Reporting joint e = all_aside (s == server) _ joint e

notice_aside : (items server item s : ℕ) (n : Notice) (joint : Joint) → (s == server) ≡ false
    → joint_seen server item (seen_of_notice Warm items s n) joint ≡ joint
notice_aside items server item s notice.Ready joint e = refl
notice_aside items server item s notice.Lost joint e = refl
notice_aside items server item s notice.Unsupported joint e = refl
notice_aside items server item s (notice.Level level) joint e = refl
notice_aside items server item s (notice.Stream i) joint e =
    item_aside server item (nat_le 1 i && nat_le i items) (Set s i Held) joint (pair_aside (s == server) (i == item) Held joint e)
notice_aside items server item s notice.Jump joint e = all_aside (s == server) _ joint e
notice_aside items server item s (notice.Taken i value) joint e =
    item_aside server item (nat_le 1 i && nat_le i items) (Enter s i (arrived_of value)) joint (pair_aside (s == server) (i == item) _ joint e)
notice_aside items server item s (notice.Sent mode) joint e = sent_aside server item s mode joint e
notice_aside items server item s (notice.Confirmed mode) joint e = confirmed_aside server item s mode joint e

-- ---- its own server's

jump_shown : (w : Window) (joint : Joint) → IsShownBy w joint
    → IsShownBy (record w { goes_on = false }) (turned (Loosen cause.Lost) joint)
jump_shown w Held shown = (shown.0, refl)
jump_shown w Joined shown = (shown.0, refl)
jump_shown w (Open c) shown = (shown.0, refl)

taken_shown : (w : Window) (time : Option ℤ) (pico : Option ℕ) (joint : Joint) → IsShownBy w joint
    → IsShownBy (record w { goes_on = w.reports && has_time time }) (joint_after (stamp_of time pico) joint)
taken_shown w None pico Held shown = (shown.0, ap (λ r. r && false) shown.0)
taken_shown w None pico Joined shown = (shown.0, ap (λ r. r && false) shown.0)
taken_shown w None pico (Open c) shown = (shown.0, ap (λ r. r && false) shown.0)
taken_shown w (Some time) pico Held shown = (shown.0, ap (λ r. r && true) shown.0)
taken_shown w (Some time) pico Joined shown = (shown.0, ap (λ r. r && true) shown.0)
taken_shown w (Some time) pico (Open c) shown = (shown.0, ap (λ r. r && true) shown.0)

turn_on : (w : Window) (joint : Joint) → IsShownBy w joint → IsShownBy (record w { reports = true }) (turned Confirm joint)
turn_on w Held shown = (refl, shown.1)
turn_on w Joined shown = (refl, shown.1)
turn_on w (Open c) shown = (refl, shown.1)

pair_there : (same mine : Bool) (next joint : Joint) → same ≡ true → mine ≡ true → (if same && mine then next else joint) ≡ next
pair_there true true next joint e f = refl
pair_there true false next joint e f = absurd cc
pair_there false mine next joint e f = absurd cc

pair_other : (same mine : Bool) (next joint : Joint) → mine ≡ false → (if same && mine then next else joint) ≡ joint
pair_other true true next joint e = absurd cc
pair_other true false next joint e = refl
pair_other false mine next joint e = refl

all_there : (same : Bool) (next joint : Joint) → same ≡ true → (if same then next else joint) ≡ next
all_there true next joint e = refl
all_there false next joint e = absurd cc

stream_shown : (server item s i : ℕ) (w : Window) (joint : Joint) (mine within : Bool) → (s == server) ≡ true
    → (i == item) ≡ mine → (mine ≡ true → within ≡ true) → Shown w joint
    → Shown (if mine then new_window else w) (joint_seen server item (if within then Some (Set s i Held) else None) joint)
stream_shown server item s i w joint true false same is inside shown = absurd (let never : false ≡ true = inside refl in cc)
stream_shown server item s i w joint true true same is inside shown =
    subst (Shown new_window) (sym (pair_there (s == server) (i == item) Held joint same is)) (λ begun. (refl, refl))
stream_shown server item s i w joint false within same is inside shown =
    subst (Shown w) (sym (item_aside server item within (Set s i Held) joint (pair_other (s == server) (i == item) Held joint is))) shown

value_shown : (server item s i : ℕ) (value : Stamped Variant) (w : Window) (joint : Joint) (mine within : Bool)
    → (s == server) ≡ true → (i == item) ≡ mine → (mine ≡ true → within ≡ true) → Shown w joint
    → Shown (if mine then record w { goes_on = w.reports && has_time value.source_timestamp } else w)
    (joint_seen server item (if within then Some (Enter s i (arrived_of value)) else None) joint)
unfolding arrived_of
value_shown server item s i value w joint true false same is inside shown = absurd (let never : false ≡ true = inside refl in cc)
value_shown server item s i value w joint true true same is inside shown =
    subst (Shown (record w { goes_on = w.reports && has_time value.source_timestamp }))
    (sym (pair_there (s == server) (i == item) (joint_after (arrived_of value).time joint) joint same is))
    (λ begun. taken_shown w value.source_timestamp value.source_picoseconds joint (shown begun))
value_shown server item s i value w joint false within same is inside shown =
    subst (Shown w) (sym (item_aside server item within (Enter s i (arrived_of value)) joint
    (pair_other (s == server) (i == item) (joint_after (arrived_of value).time joint) joint is))) shown

sent_shown : (server item s : ℕ) (mode : Mode) (w : Window) (joint : Joint) → (s == server) ≡ true → Shown w joint
    → Shown (asked_by mode w) (joint_seen server item (on_sent Warm mode s) joint)
sent_shown server item s Disabled w joint same shown =
    subst (Shown (asked_by Disabled w)) (sym (all_there (s == server) Held joint same)) (λ begun. (refl, refl))
sent_shown server item s Sampling w joint same shown = shown
sent_shown server item s Reporting w joint same shown = shown

confirmed_shown : (server item s : ℕ) (mode : Mode) (w : Window) (joint : Joint) → (s == server) ≡ true → Shown w joint
    → Shown (confirmed_by mode w) (joint_seen server item (on_confirmed Warm mode s) joint)
confirmed_shown server item s Disabled w joint same shown = shown
confirmed_shown server item s Sampling w joint same shown = shown
confirmed_shown server item s Reporting w joint same shown =
    subst (Shown (confirmed_by Reporting w)) (sym (all_there (s == server) (turned Confirm joint) joint same))
    (λ begun. turn_on w joint (shown begun))

range_test : (i item items : ℕ) (p q : Bool) → nat_le 1 i ≡ p → nat_le i items ≡ q → 1 ≤ item → item ≤ items
    → (i == item) ≡ true → (p && q) ≡ true
range_test i item items true true e f from to is = refl
range_test i item items true false e f from to is = absurd (grind (arith, nat_tests))
range_test i item items false q e f from to is = absurd (grind (arith, nat_tests))

own_shown : (items server item s : ℕ) (n : Notice) (w : Window) (joint : Joint) → (s == server) ≡ true → 1 ≤ item
    → item ≤ items → Shown w joint → Shown (window_by item n w) (joint_seen server item (seen_of_notice Warm items s n) joint)
own_shown items server item s notice.Ready w joint same from to shown = shown
own_shown items server item s notice.Lost w joint same from to shown = shown
own_shown items server item s notice.Unsupported w joint same from to shown = shown
own_shown items server item s (notice.Level level) w joint same from to shown = shown
own_shown items server item s (notice.Stream i) w joint same from to shown =
    stream_shown server item s i w joint (i == item) (nat_le 1 i && nat_le i items) same refl
    (range_test i item items _ _ refl refl from to) shown
own_shown items server item s notice.Jump w joint same from to shown =
    subst (Shown (window_by item notice.Jump w)) (sym (all_there (s == server) (turned (Loosen cause.Lost) joint) joint same))
    (λ begun. jump_shown w joint (shown begun))
own_shown items server item s (notice.Taken i value) w joint same from to shown =
    value_shown server item s i value w joint (i == item) (nat_le 1 i && nat_le i items) same refl
    (range_test i item items _ _ refl refl from to) shown
own_shown items server item s (notice.Sent mode) w joint same from to shown = sent_shown server item s mode w joint same shown
own_shown items server item s (notice.Confirmed mode) w joint same from to shown =
    confirmed_shown server item s mode w joint same shown

-- ---- acts

notice_shown : (items server item s : ℕ) (n : Notice) (w : Window) (joint : Joint) (same : Bool) → (s == server) ≡ same
    → 1 ≤ item → item ≤ items → Shown w joint
    → Shown (if same then window_by item n w else w) (joint_seen server item (seen_of_notice Warm items s n) joint)
notice_shown items server item s n w joint true e from to shown = own_shown items server item s n w joint e from to shown
notice_shown items server item s n w joint false e from to shown =
    subst (Shown w) (sym (notice_aside items server item s n joint e)) shown

act_shown : (items server item : ℕ) (act : ClientAct) (w : Window) (joint : Joint) → 1 ≤ item → item ≤ items
    → Shown w joint → Shown (windowed server item act w) (joint_seen server item (seen_of_act Warm items act) joint)
act_shown items server item (Happened happening) w joint from to shown = shown
act_shown items server item (Tells s n) w joint from to shown =
    notice_shown items server item s n w joint (s == server) refl from to shown
act_shown items server item (Says s said) w joint from to shown = shown
act_shown items server item (Switches before after) w joint from to shown = shown

acts_shown : (items server item : ℕ) (acts : List ClientAct) (earlier : List Act) (w : Window) → 1 ≤ item → item ≤ items
    → Shown w (joint_of server item earlier)
    → Shown (window_after server item acts w) (joint_of server item (history_after Warm items acts earlier))
unfolding window_after history_after
acts_shown items server item [] earlier w from to shown = shown
acts_shown items server item (act ∷ acts) earlier w from to shown =
    acts_shown items server item acts (seen_before (seen_of_act Warm items act) earlier) (windowed server item act w) from to
    (subst (Shown (windowed server item act w)) (sym (seen_is server item (seen_of_act Warm items act) earlier))
    (act_shown items server item act w (joint_of server item earlier) from to shown))

pub are_held : (config : ClientConfig) (moments : List Moment) (server item : ℕ) → config.mode ≡ Warm → 1 ≤ item
    → item ≤ config.items → (window_after server item (acts_of config moments) no_window).begun ≡ true
    → IsShownBy (window_after server item (acts_of config moments) no_window) (joint_of server item (history_of config moments))
are_held config moments server item warm from to begun =
    subst (λ mode. IsShownBy (window_after server item (acts_of config moments) no_window)
    (joint_of server item (history_after mode config.items (acts_of config moments) []))) (sym warm)
    (acts_shown config.items server item (acts_of config moments) [] no_window from to (λ never. absurd cc) begun)
