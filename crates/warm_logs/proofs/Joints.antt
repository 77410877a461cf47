-- In a warm set an item whose values began is held, or it reports; and its joint is joined only where values came of it since
-- it began to report and since messages were missing last, and then the last of these is the entry that came before.
use Rattle.std.proofs.Common.{◌≡◌, ℕ, ◌==◌, ◌&&◌, ◌≤◌, List, [], ◌∷◌, ◌++◌, Bool, true, false, nat_le, reverse, Option, Some, None, if◌then◌else◌, refl, sym, ◌∙◌, ap, subst, arith}
use Rattle.std.specs.Prelude.{IsSomeAnd}
use Rattle.std.proofs.lemmas.Bool.Decides.{nat_tests}
use Rattle.std.proofs.lemmas.Grind.{reverse_onto}
use Rattle.std.proofs.lemmas.List.{append-nil, append_assoc}
use Rattle.ua_base.specs.declared.modes.Mode.{Mode}
use Rattle.ua_base.specs.declared.modes.Mode.TheVariants.{Disabled, Sampling, Reporting}
use Rattle.ua_base.specs.declared.modes.SetMode.TheVariants.{Warm}
use Rattle.set_model.specs.declared.line.Arrived.{Arrived}
use Rattle.set_model.specs.declared.line.GapCause.TheVariants as cause
use Rattle.set_model.specs.declared.line.LogLine.TheVariants as line
use Rattle.set_model.specs.declared.source.Change.{Change}
use Rattle.set_model.specs.declared.stamp.Stamp.{Stamp}
use Rattle.set_model.specs.Source.{IsSource}
use Rattle.delivery_log.specs.declared.rule.Joint.{Joint}
use Rattle.delivery_log.specs.declared.rule.Joint.TheVariants.{Joined, Open, Held}
use Rattle.delivery_log.specs.declared.rule.Turn.TheVariants.{Loosen, Confirm}
use Rattle.delivery_log.specs.Judge.{joint_after, turned}
use Rattle.delivery_log.specs.History.{Act, Enter, Set, Note, joint_of, lines_of, previous}
use Rattle.delivery_log.specs.Safe.{Safe}
use Rattle.delivery_log.specs.WellFed.{Linked, WellFed}
use Rattle.ua_variants.specs.declared.variant.Stamped.{Stamped}
use Rattle.ua_variants.specs.declared.variant.Variant.{Variant}
use Rattle.link_rules.specs.declared.notice.Notice.{Notice}
use Rattle.link_rules.specs.declared.notice.Notice.TheVariants as notice
use Rattle.client_rules.specs.declared.config.ClientConfig.{ClientConfig}
use Rattle.client_rules.specs.Arrival.{arrived_of}
use Rattle.client_rules.specs.Acts.{ClientAct, Happened, Tells, Says, Switches, on_confirmed, on_sent, seen_of_notice}
use Rattle.client_rules.specs.History.{history_after, seen_before}
use Rattle.client_rules.specs.Step.{Moment}
use Rattle.client_laws.specs.Life.{acts_of, client_after, history_of}
use Rattle.client_links.specs.Links.{told_in, told_of}
use Rattle.client_links.specs.Feeding.{FollowsFormer}
use Rattle.warm_logs.specs.Reporting.{AreFollowingOn, confirmed_by, former_on, reports_in, sent_by, unless_off}
use Rattle.warm_logs.proofs.Begun.{AreBegun, begun_in}

-- ---- what a joint says of an item

-- one that isn't held reports; and where it is joined the last value is the entry that came before
abbrev pub GoesOn : Joint → Bool → Option (Stamped Variant) → Option Arrived → Type 0
GoesOn Joined reports former before =
    (value : Stamped Variant) × (reports ≡ true) × (former ≡ Some value) × (before ≡ Some (arrived_of value))
GoesOn (Open c) reports former before = reports ≡ true
GoesOn Held reports former before = Unit {0}

-- once its values began
abbrev pub Goes : Bool → Joint → Bool → Option (Stamped Variant) → Option Arrived → Type 0
Goes begun joint reports former before = begun ≡ true → GoesOn joint reports former before

-- of an item of a server, whose notices are these
abbrev pub GoesOnAt : ℕ → ℕ → List Act → List Notice → Type 0
GoesOnAt server item history notices =
    Goes (begun_in item notices) (joint_of server item history) (reports_in item notices) (former_on item notices)
    (previous server item history)

chosen : {A : Type 0} (b : Bool) (one other : A) → b ≡ true → (if b then one else other) ≡ one
chosen true one other e = refl
chosen false one other e = absurd cc

entered_goes : (time : Option Stamp) (joint : Joint) (reports : Bool) (former : Option (Stamped Variant))
    (before : Option Arrived) (value : Stamped Variant) → GoesOn joint reports former before
    → GoesOn (joint_after time joint) reports (if reports then Some value else None) (Some (arrived_of value))
entered_goes None Joined reports former before value goes = goes.1
entered_goes None (Open c) reports former before value goes = goes
entered_goes None Held reports former before value goes = tt
entered_goes (Some stamp) Joined reports former before value goes =
    (value, goes.1, chosen reports (Some value) None goes.1, refl)
entered_goes (Some stamp) (Open c) reports former before value goes =
    (value, goes, chosen reports (Some value) None goes, refl)
entered_goes (Some stamp) Held reports former before value goes = tt

loosened_goes : (joint : Joint) (reports : Bool) (former other : Option (Stamped Variant)) (before : Option Arrived)
    → GoesOn joint reports former before → GoesOn (turned (Loosen cause.Lost) joint) reports other before
loosened_goes Joined reports former other before goes = goes.1
loosened_goes (Open c) reports former other before goes = goes
loosened_goes Held reports former other before goes = tt

turned_on_goes : (joint : Joint) (reports : Bool) (former : Option (Stamped Variant)) (before : Option Arrived)
    → GoesOn joint reports former before → GoesOn (turned Confirm joint) true former before
turned_on_goes Joined reports former before goes = (goes.0, refl, goes.2, goes.3)
turned_on_goes (Open c) reports former before goes = refl
turned_on_goes Held reports former before goes = refl

-- what is linked to the former value is linked to the entry before
linked_on : (source : List Change) (item : ℕ) (value : Stamped Variant) (joint : Joint) (reports : Bool)
    (former : Option (Stamped Variant)) (before : Option Arrived) → joint ≡ Joined → GoesOn joint reports former before
    → FollowsFormer source item value former → IsSomeAnd before (λ entry. Linked source item entry (arrived_of value))
linked_on source item value Joined reports former before is goes follows =
    let P : Option Arrived → Type 0 = λ o. IsSomeAnd o (λ entry. Linked source item entry (arrived_of value)) in
    subst P (sym goes.3) (subst (FollowsFormer source item value) goes.2 follows)
linked_on source item value (Open c) reports former before is goes follows = absurd cc
linked_on source item value Held reports former before is goes follows = absurd cc

-- ---- another server's notices

-- what the log sees changes nothing of an item of a server
record IsSame (server item : ℕ) (seen : Option Act) (earlier : List Act) : Type 0 where
  joint : joint_of server item (seen_before seen earlier) ≡ joint_of server item earlier
  entry : previous server item (seen_before seen earlier) ≡ previous server item earlier

pair_aside : {A : Type 0} (same b : Bool) (next stays : A) → same ≡ false → (if same && b then next else stays) ≡ stays
pair_aside true b next stays e = absurd cc
pair_aside false b next stays e = refl

all_aside : {A : Type 0} (same : Bool) (next stays : A) → same ≡ false → (if same then next else stays) ≡ stays
all_aside true next stays e = absurd cc
all_aside false next stays e = refl

test_aside : (server item : ℕ) (within : Bool) (act : Act) (earlier : List Act) → IsSame server item (Some act) earlier
    → IsSame server item (if within then Some act else None) earlier
test_aside server item true act earlier same = same
test_aside server item false act earlier same = record { joint = refl; entry = refl }

sent_aside : (server item s : ℕ) (mode : Mode) (earlier : List Act) → (s == server) ≡ false
    → IsSame server item (on_sent Warm mode s) earlier
sent_aside server item s Disabled earlier e =
    record { joint = all_aside (s == server) Held (joint_of server item earlier) e; entry = refl }
sent_aside server item s Sampling earlier e = record { joint = refl; entry = refl }
sent_aside server item s Reporting earlier e = record { joint = refl; entry = refl }

confirmed_aside : (server item s : ℕ) (mode : Mode) (earlier : List Act) → (s == server) ≡ false
    → IsSame server item (on_confirmed Warm mode s) earlier
confirmed_aside server item s Disabled earlier e = record { joint = refl; entry = refl }
confirmed_aside server item s Sampling earlier e = record { joint = refl; entry = refl }
confirmed_aside server item s Reporting earlier e =
    record { joint = all_aside (s == server) _ (joint_of server item earlier) e; entry = refl }

aside : (items server item s : ℕ) (n : Notice) (earlier : List Act) → (s == server) ≡ false
    → IsSame server item (seen_of_notice Warm items s n) earlier
aside items server item s notice.Ready earlier e = record { joint = refl; entry = refl }
aside items server item s notice.Lost earlier e = record { joint = refl; entry = refl }
aside items server item s notice.Unsupported earlier e = record { joint = refl; entry = refl }
aside items server item s (notice.Level level) earlier e = record { joint = refl; entry = refl }
aside items server item s (notice.Stream i) earlier e =
    test_aside server item (nat_le 1 i && nat_le i items) (Set s i Held) earlier
    (record { joint = pair_aside (s == server) (i == item) _ _ e; entry = refl })
aside items server item s notice.Jump earlier e =
    record { joint = all_aside (s == server) _ _ e; entry = refl }
aside items server item s (notice.Taken i value) earlier e =
    test_aside server item (nat_le 1 i && nat_le i items) (Enter s i (arrived_of value)) earlier (record {
      joint = pair_aside (s == server) (i == item) _ _ e;
      entry = pair_aside (s == server) (i == item) _ _ e;
    })
aside items server item s (notice.Sent mode) earlier e = sent_aside server item s mode earlier e
aside items server item s (notice.Confirmed mode) earlier e = confirmed_aside server item s mode earlier e

same_goes : (server item : ℕ) (seen : Option Act) (earlier : List Act) (begun reports : Bool)
    (former : Option (Stamped Variant)) → IsSame server item seen earlier
    → Goes begun (joint_of server item earlier) reports former (previous server item earlier)
    → Goes begun (joint_of server item (seen_before seen earlier)) reports former (previous server item (seen_before seen earlier))
same_goes server item seen earlier begun reports former same goes =
    subst (λ j. Goes begun j reports former (previous server item (seen_before seen earlier))) (sym same.joint)
    (subst (λ o. Goes begun (joint_of server item earlier) reports former o) (sym same.entry) goes)

-- ---- its own server's

pair_there : {A : Type 0} (same mine : Bool) (next stays : A) → same ≡ true → mine ≡ true
    → (if same && mine then next else stays) ≡ next
pair_there true true next stays e f = refl
pair_there true false next stays e f = absurd cc
pair_there false mine next stays e f = absurd cc

pair_other : {A : Type 0} (same mine : Bool) (next stays : A) → mine ≡ false
    → (if same && mine then next else stays) ≡ stays
pair_other true true next stays e = absurd cc
pair_other true false next stays e = refl
pair_other false mine next stays e = refl

all_there : {A : Type 0} (same : Bool) (next stays : A) → same ≡ true → (if same then next else stays) ≡ next
all_there true next stays e = refl
all_there false next stays e = absurd cc

range_test : (i item items : ℕ) (p q : Bool) → nat_le 1 i ≡ p → nat_le i items ≡ q → 1 ≤ item → item ≤ items
    → (i == item) ≡ true → (p && q) ≡ true
range_test i item items true true e f from to is = refl
range_test i item items true false e f from to is = absurd (grind (arith, nat_tests))
range_test i item items false q e f from to is = absurd (grind (arith, nat_tests))

stream_goes : (server item i : ℕ) (earlier : List Act) (begun reports : Bool) (former : Option (Stamped Variant))
    (mine within : Bool) → (server == server) ≡ true → (i == item) ≡ mine → (mine ≡ true → within ≡ true)
    → Goes begun (joint_of server item earlier) reports former (previous server item earlier)
    → Goes (if mine then true else begun)
    (joint_of server item (seen_before (if within then Some (Set server i Held) else None) earlier))
    (if mine then false else reports) (if mine then None else former)
    (previous server item (seen_before (if within then Some (Set server i Held) else None) earlier))
stream_goes server item i earlier begun reports former true false own is inside goes =
    absurd (let never : false ≡ true = inside refl in cc)
stream_goes server item i earlier begun reports former true true own is inside goes =
    subst (λ j. Goes true j false None (previous server item earlier))
    (sym (pair_there (server == server) (i == item) Held (joint_of server item earlier) own is)) (λ began. tt)
stream_goes server item i earlier begun reports former false within own is inside goes =
    same_goes server item (if within then Some (Set server i Held) else None) earlier begun reports former
    (test_aside server item within (Set server i Held) earlier
    (record { joint = pair_other (server == server) (i == item) _ _ is; entry = refl })) goes

value_goes : (server item i : ℕ) (value : Stamped Variant) (earlier : List Act) (begun reports : Bool)
    (former : Option (Stamped Variant)) (mine within : Bool) → (server == server) ≡ true → (i == item) ≡ mine
    → (mine ≡ true → within ≡ true)
    → Goes begun (joint_of server item earlier) reports former (previous server item earlier)
    → Goes begun
    (joint_of server item (seen_before (if within then Some (Enter server i (arrived_of value)) else None) earlier))
    reports (if mine then (if reports then Some value else None) else former)
    (previous server item (seen_before (if within then Some (Enter server i (arrived_of value)) else None) earlier))
value_goes server item i value earlier begun reports former true false own is inside goes =
    absurd (let never : false ≡ true = inside refl in cc)
value_goes server item i value earlier begun reports former true true own is inside goes =
    let joint : joint_of server item (Enter server i (arrived_of value) ∷ earlier)
    ≡ joint_after (arrived_of value).time (joint_of server item earlier) =
    pair_there (server == server) (i == item) _ (joint_of server item earlier) own is in
    let entry : previous server item (Enter server i (arrived_of value) ∷ earlier) ≡ Some (arrived_of value) =
    pair_there (server == server) (i == item) (Some (arrived_of value)) (previous server item earlier) own is in
    let now : Option (Stamped Variant) = if reports then Some value else None in
    subst (λ j. Goes begun j reports now (previous server item (Enter server i (arrived_of value) ∷ earlier))) (sym joint)
    (subst (λ o. Goes begun (joint_after (arrived_of value).time (joint_of server item earlier)) reports now o) (sym entry)
    (λ began. entered_goes (arrived_of value).time (joint_of server item earlier) reports former (previous server item earlier)
    value (goes began)))
value_goes server item i value earlier begun reports former false within own is inside goes =
    same_goes server item (if within then Some (Enter server i (arrived_of value)) else None) earlier begun reports former
    (test_aside server item within (Enter server i (arrived_of value)) earlier (record {
      joint = pair_other (server == server) (i == item) _ _ is;
      entry = pair_other (server == server) (i == item) _ _ is;
    })) goes

sent_goes : (server item : ℕ) (mode : Mode) (earlier : List Act) (begun reports : Bool) (former : Option (Stamped Variant))
    → (server == server) ≡ true
    → Goes begun (joint_of server item earlier) reports former (previous server item earlier)
    → Goes begun (joint_of server item (seen_before (on_sent Warm mode server) earlier)) (sent_by mode reports)
    (unless_off mode former) (previous server item (seen_before (on_sent Warm mode server) earlier))
sent_goes server item Disabled earlier begun reports former own goes =
    subst (λ j. Goes begun j false None (previous server item earlier))
    (sym (all_there (server == server) Held (joint_of server item earlier) own)) (λ began. tt)
sent_goes server item Sampling earlier begun reports former own goes = goes
sent_goes server item Reporting earlier begun reports former own goes = goes

confirmed_goes : (server item : ℕ) (mode : Mode) (earlier : List Act) (begun reports : Bool)
    (former : Option (Stamped Variant)) → (server == server) ≡ true
    → Goes begun (joint_of server item earlier) reports former (previous server item earlier)
    → Goes begun (joint_of server item (seen_before (on_confirmed Warm mode server) earlier)) (confirmed_by mode reports)
    former (previous server item (seen_before (on_confirmed Warm mode server) earlier))
confirmed_goes server item Disabled earlier begun reports former own goes = goes
confirmed_goes server item Sampling earlier begun reports former own goes = goes
confirmed_goes server item Reporting earlier begun reports former own goes =
    subst (λ j. Goes begun j true former (previous server item earlier))
    (sym (all_there (server == server) (turned Confirm (joint_of server item earlier)) (joint_of server item earlier) own))
    (λ began. turned_on_goes (joint_of server item earlier) reports former (previous server item earlier) (goes began))

own_goes : (items server item : ℕ) (n : Notice) (earlier : List Act) (notices : List Notice)
    → (server == server) ≡ true → 1 ≤ item → item ≤ items → GoesOnAt server item earlier notices
    → GoesOnAt server item (seen_before (seen_of_notice Warm items server n) earlier) (n ∷ notices)
own_goes items server item notice.Ready earlier notices own from to goes = goes
own_goes items server item notice.Lost earlier notices own from to goes = goes
own_goes items server item notice.Unsupported earlier notices own from to goes = goes
own_goes items server item (notice.Level level) earlier notices own from to goes = goes
own_goes items server item (notice.Stream i) earlier notices own from to goes =
    stream_goes server item i earlier (begun_in item notices) (reports_in item notices) (former_on item notices) (i == item)
    (nat_le 1 i && nat_le i items) own refl (range_test i item items _ _ refl refl from to) goes
own_goes items server item notice.Jump earlier notices own from to goes =
    subst (λ j. Goes (begun_in item notices) j (reports_in item notices) None (previous server item earlier))
    (sym (all_there (server == server) (turned (Loosen cause.Lost) (joint_of server item earlier)) (joint_of server item earlier) own))
    (λ began. loosened_goes (joint_of server item earlier) (reports_in item notices) (former_on item notices) None
    (previous server item earlier) (goes began))
own_goes items server item (notice.Taken i value) earlier notices own from to goes =
    value_goes server item i value earlier (begun_in item notices) (reports_in item notices) (former_on item notices)
    (i == item) (nat_le 1 i && nat_le i items) own refl (range_test i item items _ _ refl refl from to) goes
own_goes items server item (notice.Sent mode) earlier notices own from to goes =
    sent_goes server item mode earlier (begun_in item notices) (reports_in item notices) (former_on item notices) own goes
own_goes items server item (notice.Confirmed mode) earlier notices own from to goes =
    confirmed_goes server item mode earlier (begun_in item notices) (reports_in item notices) (former_on item notices) own goes

itself : (server : ℕ) → (server == server) ≡ true
itself server = by_test (server == server) refl
  where
    by_test : (b : Bool) → (server == server) ≡ b → b ≡ true
    by_test true test = refl
    by_test false test = absurd (grind (arith, nat_tests))

-- of any server, whose notices were these before
notice_goes : (items server item s : ℕ) (n : Notice) (earlier : List Act) (notices : List Notice) (same : Bool)
    → (s == server) ≡ same → 1 ≤ item → item ≤ items → GoesOnAt server item earlier notices
    → GoesOnAt server item (seen_before (seen_of_notice Warm items s n) earlier) ((if same then n ∷ [] else []) ++ notices)
notice_goes items server item s n earlier notices true e from to goes =
    let is : s ≡ server = grind (arith, nat_tests) in
    subst (λ k. GoesOnAt server item (seen_before (seen_of_notice Warm items k n) earlier) (n ∷ notices)) (sym is)
    (own_goes items server item n earlier notices (itself server) from to goes)
notice_goes items server item s n earlier notices false e from to goes =
    same_goes server item (seen_of_notice Warm items s n) earlier (begun_in item notices) (reports_in item notices)
    (former_on item notices) (aside items server item s n earlier e) goes

-- ---- what is fed

-- each value follows the one before it, and its item's values began
abbrev Follows : List Change → ℕ → List Notice → Type 0
Follows source items notices = AreFollowingOn source items notices × AreBegun items notices

value_fed : (source : List Change) (items server i : ℕ) (value : Stamped Variant) (earlier : List Act) (notices : List Notice)
    (p q : Bool) → nat_le 1 i ≡ p → nat_le i items ≡ q → Follows source items (notice.Taken i value ∷ notices)
    → (1 ≤ i → i ≤ items → GoesOnAt server i earlier notices) → WellFed source earlier
    → WellFed source (seen_before (if p && q then Some (Enter server i (arrived_of value)) else None) earlier)
value_fed source items server i value earlier notices false q e f follows goes fed = fed
value_fed source items server i value earlier notices true false e f follows goes fed = fed
value_fed source items server i value earlier notices true true e f follows goes fed =
    let from : 1 ≤ i = grind (arith, nat_tests) in
    let to : i ≤ items = grind (arith, nat_tests) in
    let this = follows.0.0 from to in
    let began : begun_in i notices ≡ true = follows.1.0 from to in (
      this.0,
      λ stamp timed joined. linked_on source i value (joint_of server i earlier) (reports_in i notices) (former_on i notices)
          (previous server i earlier) joined (goes from to began) this.1,
      fed,
    )

stream_fed : (source : List Change) (server i : ℕ) (joint : Joint) (within : Bool) (earlier : List Act) → WellFed source earlier
    → WellFed source (seen_before (if within then Some (Set server i joint) else None) earlier)
stream_fed source server i joint true earlier fed = (tt, tt, fed)
stream_fed source server i joint false earlier fed = fed

sent_fed : (source : List Change) (server : ℕ) (mode : Mode) (earlier : List Act) → WellFed source earlier
    → WellFed source (seen_before (on_sent Warm mode server) earlier)
sent_fed source server Disabled earlier fed = (tt, tt, fed)
sent_fed source server Sampling earlier fed = fed
sent_fed source server Reporting earlier fed = fed

confirmed_fed : (source : List Change) (server : ℕ) (mode : Mode) (earlier : List Act) → WellFed source earlier
    → WellFed source (seen_before (on_confirmed Warm mode server) earlier)
confirmed_fed source server Disabled earlier fed = fed
confirmed_fed source server Sampling earlier fed = fed
confirmed_fed source server Reporting earlier fed = (tt, tt, fed)

notice_fed : (source : List Change) (items server : ℕ) (n : Notice) (earlier : List Act) (notices : List Notice)
    → Follows source items (n ∷ notices)
    → ((item : ℕ) → 1 ≤ item → item ≤ items → GoesOnAt server item earlier notices) → WellFed source earlier
    → WellFed source (seen_before (seen_of_notice Warm items server n) earlier)
notice_fed source items server notice.Ready earlier notices follows goes fed = (refl, tt, fed)
notice_fed source items server notice.Lost earlier notices follows goes fed = (refl, tt, fed)
notice_fed source items server notice.Unsupported earlier notices follows goes fed = (refl, tt, fed)
notice_fed source items server (notice.Level level) earlier notices follows goes fed = fed
notice_fed source items server (notice.Stream i) earlier notices follows goes fed =
    stream_fed source server i Held (nat_le 1 i && nat_le i items) earlier fed
notice_fed source items server notice.Jump earlier notices follows goes fed = (tt, tt, fed)
notice_fed source items server (notice.Taken i value) earlier notices follows goes fed =
    value_fed source items server i value earlier notices _ _ refl refl follows (goes i) fed
notice_fed source items server (notice.Sent mode) earlier notices follows goes fed =
    sent_fed source server mode earlier fed
notice_fed source items server (notice.Confirmed mode) earlier notices follows goes fed =
    confirmed_fed source server mode earlier fed

-- ---- acts

-- what follows is what followed before it
rest_follows : (source : List Change) (items : ℕ) (n : Notice) (notices : List Notice)
    → Follows source items (n ∷ notices) → Follows source items notices
rest_follows source items (notice.Taken i value) notices follows = (follows.0.1, follows.1.1)
rest_follows source items other notices follows = follows

behind : (source : List Change) (items : ℕ) (later notices : List Notice) → Follows source items (later ++ notices)
    → Follows source items notices
behind source items [] notices follows = follows
behind source items (n ∷ later) notices follows =
    behind source items later notices (rest_follows source items n (later ++ notices) follows)

-- a notice that comes next stands before those that came
turned_on : (b : Bool) (n : Notice) (later notices : List Notice)
    → reverse ((if b then n ∷ [] else []) ++ later) ++ notices ≡ reverse later ++ ((if b then n ∷ [] else []) ++ notices)
turned_on true n later notices =
    ap (λ (l : List Notice). l ++ notices) (reverse_onto later n []) ∙ append_assoc (reverse later) (n ∷ []) notices
turned_on false n later notices = refl

acts_feed : (source : List Change) (items : ℕ) (acts : List ClientAct) (earlier : List Act) (notices : ℕ → List Notice)
    → ((server : ℕ) → Follows source items (reverse (told_of server acts) ++ notices server))
    → ((server item : ℕ) → 1 ≤ item → item ≤ items → GoesOnAt server item earlier (notices server))
    → WellFed source earlier → WellFed source (history_after Warm items acts earlier)
unfolding history_after
acts_feed source items [] earlier notices follow go fed = fed
acts_feed source items (Happened happening ∷ acts) earlier notices follow go fed =
    acts_feed source items acts earlier notices follow go fed
acts_feed source items (Says server said ∷ acts) earlier notices follow go fed =
    acts_feed source items acts earlier notices follow go fed
acts_feed source items (Switches before after ∷ acts) earlier notices follow go fed =
    acts_feed source items acts (Note (line.Switch before after) ∷ earlier) notices follow go (refl, tt, fed)
acts_feed source items (Tells s n ∷ acts) earlier notices follow go fed =
    let next : ℕ → List Notice = λ server. told_in server (Tells s n) ++ notices server in
    let follow_next : (server : ℕ) → Follows source items (reverse (told_of server acts) ++ next server) =
    λ server. subst (Follows source items) (turned_on (s == server) n (told_of server acts) (notices server)) (follow server) in
    let own : Follows source items (n ∷ notices s) =
    subst (λ b. Follows source items ((if b then n ∷ [] else []) ++ notices s)) (itself s)
    (behind source items (reverse (told_of s acts)) (next s) (follow_next s)) in
    acts_feed source items acts (seen_before (seen_of_notice Warm items s n) earlier) next follow_next
    (λ server item from to. notice_goes items server item s n earlier (notices server) (s == server) refl from to
    (go server item from to))
    (notice_fed source items s n earlier (notices s) own (go s) fed)

-- what a warm client's links tell feeds its log, where values come only of items whose values began
pub are_fed : ((config : ClientConfig) (moments : List Moment) (server : ℕ)
    → AreBegun config.items (reverse (told_of server (acts_of config moments))))
    → (config : ClientConfig) (moments : List Moment) (source : List Change) → config.mode ≡ Warm
    → ((server : ℕ) → AreFollowingOn source config.items (reverse (told_of server (acts_of config moments))))
    → WellFed source (history_of config moments)
are_fed begun config moments source warm follow =
    subst (λ mode. WellFed source (history_after mode config.items (acts_of config moments) [])) (sym warm)
    (acts_feed source config.items (acts_of config moments) [] (λ server. [])
    (λ server. subst (Follows source config.items) (sym (append-nil (reverse (told_of server (acts_of config moments)))))
    (follow server, begun config moments server))
    (λ server item from to never. absurd cc) tt)

-- so what it delivers is safe, where well fed histories are and the log's lines are those of its history
pub are_safe : ((config : ClientConfig) (moments : List Moment) (server : ℕ)
    → AreBegun config.items (reverse (told_of server (acts_of config moments))))
    → ((source : List Change) (history : List Act) → IsSource source → WellFed source history
    → Safe source (lines_of history))
    → ((config : ClientConfig) (moments : List Moment)
    → (client_after config moments).log.lines ≡ lines_of (history_of config moments))
    → (config : ClientConfig) (moments : List Moment) (source : List Change) → config.mode ≡ Warm
    → ((server : ℕ) → AreFollowingOn source config.items (reverse (told_of server (acts_of config moments))))
    → IsSource source → Safe source (client_after config moments).log.lines
are_safe begun safe lines config moments source warm follow rises =
    subst (Safe source) (sym (lines config moments))
    (safe source (history_of config moments) rises (are_fed begun config moments source warm follow))
