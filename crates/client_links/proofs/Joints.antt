-- In a hot or a cold set an item's joint is joined only where a value came of it since its values began and since messages
-- were missing last, and then the last of these is the entry that came before.
use Rattle.std.proofs.Common.{◌≡◌, inl, inr, ℕ, ◌==◌, ◌&&◌, ◌≤◌, List, [], ◌∷◌, ◌++◌, Bool, true, false, nat_le, reverse, Option, Some, None, if◌then◌else◌, refl, sym, ◌∙◌, ap, subst, arith}
use Rattle.std.specs.Prelude.{IsSomeAnd}
use Rattle.std.proofs.lemmas.Bool.Decides.{nat_tests}
use Rattle.std.proofs.lemmas.Grind.{reverse_onto}
use Rattle.std.proofs.lemmas.List.{append-nil, append_assoc}
use Rattle.ua_base.specs.declared.modes.Mode.{Mode}
use Rattle.ua_base.specs.declared.modes.SetMode.{SetMode}
use Rattle.set_model.specs.declared.line.Arrived.{Arrived}
use Rattle.set_model.specs.declared.line.GapCause.{GapCause}
use Rattle.set_model.specs.declared.line.GapCause.TheVariants as cause
use Rattle.set_model.specs.declared.line.LogLine.TheVariants as line
use Rattle.set_model.specs.declared.source.Change.{Change}
use Rattle.set_model.specs.declared.stamp.Stamp.{Stamp}
use Rattle.set_model.specs.Source.{IsSource}
use Rattle.delivery_log.specs.declared.rule.Joint.{Joint}
use Rattle.delivery_log.specs.declared.rule.Joint.TheVariants.{Joined, Open, Held}
use Rattle.delivery_log.specs.declared.rule.Turn.TheVariants.{Loosen}
use Rattle.delivery_log.specs.Judge.{joint_after, turned}
use Rattle.delivery_log.specs.History.{Act, Enter, Set, Note, joint_of, lines_of, previous}
use Rattle.delivery_log.specs.Safe.{Safe}
use Rattle.delivery_log.specs.WellFed.{Linked, WellFed}
use Rattle.ua_variants.specs.declared.variant.Stamped.{Stamped}
use Rattle.ua_variants.specs.declared.variant.Variant.{Variant}
use Rattle.link_rules.specs.declared.notice.Notice.{Notice}
use Rattle.link_rules.specs.declared.notice.Notice.TheVariants as notice
use Rattle.client_rules.specs.declared.config.ClientConfig.{ClientConfig}
use Rattle.client_rules.specs.Arrival.{arrived_of}
use Rattle.client_rules.specs.Acts.{ClientAct, Happened, Tells, Says, Switches, beginning, on_confirmed, on_sent, seen_of_notice}
use Rattle.client_rules.specs.History.{history_after, seen_before}
use Rattle.client_rules.specs.Step.{Moment}
use Rattle.client_laws.specs.Life.{acts_of, client_after, history_of}
use Rattle.client_links.specs.Links.{IsHotOrCold, told_in, told_of}
use Rattle.client_links.specs.Feeding.{AreFollowing, FollowsFormer, former_of}

-- ---- hot and cold sets

-- an item's values begin with an open joint, and no mode turns any joint
record IsPlain (set : SetMode) : Type 0 where
  opens : GapCause
  begins : beginning set ≡ Open opens
  sent : (mode : Mode) (server : ℕ) → on_sent set mode server ≡ None
  confirmed : (mode : Mode) (server : ℕ) → on_confirmed set mode server ≡ None

plain : (set : SetMode) → IsHotOrCold set → IsPlain set
plain set (inl is) = subst IsPlain (sym is) (record {
  opens = cause.Late;
  begins = refl;
  sent = λ mode server. refl;
  confirmed = λ mode server. refl;
})
plain set (inr is) = subst IsPlain (sym is) (record {
  opens = cause.Cold;
  begins = refl;
  sent = λ mode server. refl;
  confirmed = λ mode server. refl;
})

-- ---- what a joint says of the values before

-- where it is joined the last value is the entry that came before
abbrev pub GoesOn : Joint → Option (Stamped Variant) → Option Arrived → Type 0
GoesOn Joined former before = (value : Stamped Variant) × (former ≡ Some value) × (before ≡ Some (arrived_of value))
GoesOn (Open c) former before = Unit {0}
GoesOn Held former before = Unit {0}

-- of an item of a server, whose notices are these
abbrev pub GoesOnAt : ℕ → ℕ → List Act → List Notice → Type 0
GoesOnAt server item history notices =
    GoesOn (joint_of server item history) (former_of item notices) (previous server item history)

entered_goes : (time : Option Stamp) (joint : Joint) (value : Stamped Variant)
    → GoesOn (joint_after time joint) (Some value) (Some (arrived_of value))
entered_goes None Joined value = tt
entered_goes None (Open c) value = tt
entered_goes None Held value = tt
entered_goes (Some stamp) Joined value = (value, refl, refl)
entered_goes (Some stamp) (Open c) value = (value, refl, refl)
entered_goes (Some stamp) Held value = tt

loosened_goes : (joint : Joint) (former : Option (Stamped Variant)) (before : Option Arrived)
    → GoesOn (turned (Loosen cause.Lost) joint) former before
loosened_goes Joined former before = tt
loosened_goes (Open c) former before = tt
loosened_goes Held former before = tt

-- what is linked to the former value is linked to the entry before
linked_on : (source : List Change) (item : ℕ) (value : Stamped Variant) (joint : Joint) (former : Option (Stamped Variant))
    (before : Option Arrived) → joint ≡ Joined → GoesOn joint former before → FollowsFormer source item value former
    → IsSomeAnd before (λ entry. Linked source item entry (arrived_of value))
linked_on source item value Joined former before is goes follows =
    let P : Option Arrived → Type 0 = λ o. IsSomeAnd o (λ entry. Linked source item entry (arrived_of value)) in
    subst P (sym goes.2) (subst (FollowsFormer source item value) goes.1 follows)
linked_on source item value (Open c) former before is goes follows = absurd cc
linked_on source item value Held former before is goes follows = absurd cc

-- ---- another server's notices

-- what the log sees changes nothing of an item of a server
record IsSame (server item : ℕ) (seen : Option Act) (earlier : List Act) : Type 0 where
  joint : joint_of server item (seen_before seen earlier) ≡ joint_of server item earlier
  entry : previous server item (seen_before seen earlier) ≡ previous server item earlier

pair_aside : {A : Type 0} (same b : Bool) (next stays : A) → same ≡ false → (if same && b then next else stays) ≡ stays
pair_aside true b next stays e = absurd cc
pair_aside false b next stays e = refl

all_aside : {A : Type 0} (same : Bool) (next stays : A) → same ≡ false → (if same then next else stays) ≡ stays
all_aside true next stays e = absurd cc
all_aside false next stays e = refl

test_aside : (server item : ℕ) (within : Bool) (act : Act) (earlier : List Act) → IsSame server item (Some act) earlier
    → IsSame server item (if within then Some act else None) earlier
test_aside server item true act earlier same = same
test_aside server item false act earlier same = record { joint = refl; entry = refl }

unseen_aside : (server item : ℕ) (seen : Option Act) (earlier : List Act) → seen ≡ None → IsSame server item seen earlier
unseen_aside server item seen earlier is =
    subst (λ o. IsSame server item o earlier) (sym is) (record { joint = refl; entry = refl })

aside : (set : SetMode) (items server item s : ℕ) (n : Notice) (earlier : List Act) → IsPlain set → (s == server) ≡ false
    → IsSame server item (seen_of_notice set items s n) earlier
aside set items server item s notice.Ready earlier plain e = record { joint = refl; entry = refl }
aside set items server item s notice.Lost earlier plain e = record { joint = refl; entry = refl }
aside set items server item s notice.Unsupported earlier plain e = record { joint = refl; entry = refl }
aside set items server item s (notice.Level level) earlier plain e = record { joint = refl; entry = refl }
aside set items server item s (notice.Stream i) earlier plain e =
    test_aside server item (nat_le 1 i && nat_le i items) (Set s i (beginning set)) earlier
    (record { joint = pair_aside (s == server) (i == item) _ _ e; entry = refl })
aside set items server item s notice.Jump earlier plain e =
    record { joint = all_aside (s == server) _ _ e; entry = refl }
aside set items server item s (notice.Taken i value) earlier plain e =
    test_aside server item (nat_le 1 i && nat_le i items) (Enter s i (arrived_of value)) earlier (record {
      joint = pair_aside (s == server) (i == item) _ _ e;
      entry = pair_aside (s == server) (i == item) _ _ e;
    })
aside set items server item s (notice.Sent mode) earlier plain e =
    unseen_aside server item (on_sent set mode s) earlier (plain.sent mode s)
aside set items server item s (notice.Confirmed mode) earlier plain e =
    unseen_aside server item (on_confirmed set mode s) earlier (plain.confirmed mode s)

same_goes : (server item : ℕ) (seen : Option Act) (earlier : List Act) (former : Option (Stamped Variant))
    → IsSame server item seen earlier → GoesOn (joint_of server item earlier) former (previous server item earlier)
    → GoesOn (joint_of server item (seen_before seen earlier)) former (previous server item (seen_before seen earlier))
same_goes server item seen earlier former same goes =
    subst (λ j. GoesOn j former (previous server item (seen_before seen earlier))) (sym same.joint)
    (subst (GoesOn (joint_of server item earlier) former) (sym same.entry) goes)

-- ---- its own server's

pair_there : {A : Type 0} (same mine : Bool) (next stays : A) → same ≡ true → mine ≡ true
    → (if same && mine then next else stays) ≡ next
pair_there true true next stays e f = refl
pair_there true false next stays e f = absurd cc
pair_there false mine next stays e f = absurd cc

pair_other : {A : Type 0} (same mine : Bool) (next stays : A) → mine ≡ false
    → (if same && mine then next else stays) ≡ stays
pair_other true true next stays e = absurd cc
pair_other true false next stays e = refl
pair_other false mine next stays e = refl

all_there : {A : Type 0} (same : Bool) (next stays : A) → same ≡ true → (if same then next else stays) ≡ next
all_there true next stays e = refl
all_there false next stays e = absurd cc

range_test : (i item items : ℕ) (p q : Bool) → nat_le 1 i ≡ p → nat_le i items ≡ q → 1 ≤ item → item ≤ items
    → (i == item) ≡ true → (p && q) ≡ true
range_test i item items true true e f from to is = refl
range_test i item items true false e f from to is = absurd (grind (arith, nat_tests))
range_test i item items false q e f from to is = absurd (grind (arith, nat_tests))

stream_goes : (set : SetMode) (server item i : ℕ) (earlier : List Act) (former : Option (Stamped Variant))
    (mine within : Bool) → IsPlain set → (server == server) ≡ true → (i == item) ≡ mine → (mine ≡ true → within ≡ true)
    → GoesOn (joint_of server item earlier) former (previous server item earlier)
    → GoesOn (joint_of server item (seen_before (if within then Some (Set server i (beginning set)) else None) earlier))
    (if mine then None else former)
    (previous server item (seen_before (if within then Some (Set server i (beginning set)) else None) earlier))
stream_goes set server item i earlier former true false plain own is inside goes =
    absurd (let never : false ≡ true = inside refl in cc)
stream_goes set server item i earlier former true true plain own is inside goes =
    let at : joint_of server item (Set server i (beginning set) ∷ earlier) ≡ Open plain.opens =
    pair_there (server == server) (i == item) (beginning set) (joint_of server item earlier) own is ∙ plain.begins in
    subst (λ j. GoesOn j None (previous server item earlier)) (sym at) tt
stream_goes set server item i earlier former false within plain own is inside goes =
    same_goes server item (if within then Some (Set server i (beginning set)) else None) earlier former
    (test_aside server item within (Set server i (beginning set)) earlier
    (record { joint = pair_other (server == server) (i == item) _ _ is; entry = refl })) goes

value_goes : (server item i : ℕ) (value : Stamped Variant) (earlier : List Act) (former : Option (Stamped Variant))
    (mine within : Bool) → (server == server) ≡ true → (i == item) ≡ mine → (mine ≡ true → within ≡ true)
    → GoesOn (joint_of server item earlier) former (previous server item earlier)
    → GoesOn (joint_of server item (seen_before (if within then Some (Enter server i (arrived_of value)) else None) earlier))
    (if mine then Some value else former)
    (previous server item (seen_before (if within then Some (Enter server i (arrived_of value)) else None) earlier))
value_goes server item i value earlier former true false own is inside goes =
    absurd (let never : false ≡ true = inside refl in cc)
value_goes server item i value earlier former true true own is inside goes =
    let joint : joint_of server item (Enter server i (arrived_of value) ∷ earlier)
    ≡ joint_after (arrived_of value).time (joint_of server item earlier) =
    pair_there (server == server) (i == item) _ (joint_of server item earlier) own is in
    let entry : previous server item (Enter server i (arrived_of value) ∷ earlier) ≡ Some (arrived_of value) =
    pair_there (server == server) (i == item) (Some (arrived_of value)) (previous server item earlier) own is in
    subst (λ j. GoesOn j (Some value) (previous server item (Enter server i (arrived_of value) ∷ earlier))) (sym joint)
    (subst (GoesOn (joint_after (arrived_of value).time (joint_of server item earlier)) (Some value)) (sym entry)
    (entered_goes (arrived_of value).time (joint_of server item earlier) value))
value_goes server item i value earlier former false within own is inside goes =
    same_goes server item (if within then Some (Enter server i (arrived_of value)) else None) earlier former
    (test_aside server item within (Enter server i (arrived_of value)) earlier (record {
      joint = pair_other (server == server) (i == item) _ _ is;
      entry = pair_other (server == server) (i == item) _ _ is;
    })) goes

unseen_goes : (server item : ℕ) (seen : Option Act) (earlier : List Act) (notices : List Notice) → seen ≡ None
    → GoesOnAt server item earlier notices → GoesOnAt server item (seen_before seen earlier) notices
unseen_goes server item seen earlier notices is goes =
    subst (λ o. GoesOnAt server item (seen_before o earlier) notices) (sym is) goes

own_goes : (set : SetMode) (items server item : ℕ) (n : Notice) (earlier : List Act) (notices : List Notice) → IsPlain set
    → (server == server) ≡ true → 1 ≤ item → item ≤ items → GoesOnAt server item earlier notices
    → GoesOnAt server item (seen_before (seen_of_notice set items server n) earlier) (n ∷ notices)
own_goes set items server item notice.Ready earlier notices plain own from to goes = goes
own_goes set items server item notice.Lost earlier notices plain own from to goes = goes
own_goes set items server item notice.Unsupported earlier notices plain own from to goes = goes
own_goes set items server item (notice.Level level) earlier notices plain own from to goes = goes
own_goes set items server item (notice.Stream i) earlier notices plain own from to goes =
    stream_goes set server item i earlier (former_of item notices) (i == item) (nat_le 1 i && nat_le i items) plain own refl
    (range_test i item items _ _ refl refl from to) goes
own_goes set items server item notice.Jump earlier notices plain own from to goes =
    subst (λ j. GoesOn j None (previous server item earlier))
    (sym (all_there (server == server) (turned (Loosen cause.Lost) (joint_of server item earlier)) (joint_of server item earlier) own))
    (loosened_goes (joint_of server item earlier) None (previous server item earlier))
own_goes set items server item (notice.Taken i value) earlier notices plain own from to goes =
    value_goes server item i value earlier (former_of item notices) (i == item) (nat_le 1 i && nat_le i items) own refl
    (range_test i item items _ _ refl refl from to) goes
own_goes set items server item (notice.Sent mode) earlier notices plain own from to goes =
    unseen_goes server item (on_sent set mode server) earlier notices (plain.sent mode server) goes
own_goes set items server item (notice.Confirmed mode) earlier notices plain own from to goes =
    unseen_goes server item (on_confirmed set mode server) earlier notices (plain.confirmed mode server) goes

itself : (server : ℕ) → (server == server) ≡ true
itself server = by_test (server == server) refl
  where
    by_test : (b : Bool) → (server == server) ≡ b → b ≡ true
    by_test true test = refl
    by_test false test = absurd (grind (arith, nat_tests))

-- of any server, whose notices were these before
notice_goes : (set : SetMode) (items server item s : ℕ) (n : Notice) (earlier : List Act) (notices : List Notice) (same : Bool)
    → IsPlain set → (s == server) ≡ same → 1 ≤ item → item ≤ items → GoesOnAt server item earlier notices
    → GoesOnAt server item (seen_before (seen_of_notice set items s n) earlier) ((if same then n ∷ [] else []) ++ notices)
notice_goes set items server item s n earlier notices true plain e from to goes =
    let is : s ≡ server = grind (arith, nat_tests) in
    subst (λ k. GoesOnAt server item (seen_before (seen_of_notice set items k n) earlier) (n ∷ notices)) (sym is)
    (own_goes set items server item n earlier notices plain (itself server) from to goes)
notice_goes set items server item s n earlier notices false plain e from to goes =
    same_goes server item (seen_of_notice set items s n) earlier (former_of item notices)
    (aside set items server item s n earlier plain e) goes

-- ---- what is fed

value_fed : (source : List Change) (items server i : ℕ) (value : Stamped Variant) (earlier : List Act) (notices : List Notice)
    (p q : Bool) → nat_le 1 i ≡ p → nat_le i items ≡ q → AreFollowing source items (notice.Taken i value ∷ notices)
    → (1 ≤ i → i ≤ items → GoesOnAt server i earlier notices) → WellFed source earlier
    → WellFed source (seen_before (if p && q then Some (Enter server i (arrived_of value)) else None) earlier)
value_fed source items server i value earlier notices false q e f follows goes fed = fed
value_fed source items server i value earlier notices true false e f follows goes fed = fed
value_fed source items server i value earlier notices true true e f follows goes fed =
    let from : 1 ≤ i = grind (arith, nat_tests) in
    let to : i ≤ items = grind (arith, nat_tests) in
    let this = follows.0 from to in (
      this.0,
      λ stamp timed joined. linked_on source i value (joint_of server i earlier) (former_of i notices) (previous server i earlier)
          joined (goes from to) this.1,
      fed,
    )

unseen_fed : (source : List Change) (seen : Option Act) (earlier : List Act) → seen ≡ None → WellFed source earlier
    → WellFed source (seen_before seen earlier)
unseen_fed source seen earlier is fed = subst (λ o. WellFed source (seen_before o earlier)) (sym is) fed

stream_fed : (source : List Change) (server i : ℕ) (joint : Joint) (within : Bool) (earlier : List Act) → WellFed source earlier
    → WellFed source (seen_before (if within then Some (Set server i joint) else None) earlier)
stream_fed source server i joint true earlier fed = (tt, tt, fed)
stream_fed source server i joint false earlier fed = fed

notice_fed : (set : SetMode) (source : List Change) (items server : ℕ) (n : Notice) (earlier : List Act) (notices : List Notice)
    → IsPlain set → AreFollowing source items (n ∷ notices)
    → ((item : ℕ) → 1 ≤ item → item ≤ items → GoesOnAt server item earlier notices) → WellFed source earlier
    → WellFed source (seen_before (seen_of_notice set items server n) earlier)
notice_fed set source items server notice.Ready earlier notices plain follows goes fed = (refl, tt, fed)
notice_fed set source items server notice.Lost earlier notices plain follows goes fed = (refl, tt, fed)
notice_fed set source items server notice.Unsupported earlier notices plain follows goes fed = (refl, tt, fed)
notice_fed set source items server (notice.Level level) earlier notices plain follows goes fed = fed
notice_fed set source items server (notice.Stream i) earlier notices plain follows goes fed =
    stream_fed source server i (beginning set) (nat_le 1 i && nat_le i items) earlier fed
notice_fed set source items server notice.Jump earlier notices plain follows goes fed = (tt, tt, fed)
notice_fed set source items server (notice.Taken i value) earlier notices plain follows goes fed =
    value_fed source items server i value earlier notices _ _ refl refl follows (goes i) fed
notice_fed set source items server (notice.Sent mode) earlier notices plain follows goes fed =
    unseen_fed source (on_sent set mode server) earlier (plain.sent mode server) fed
notice_fed set source items server (notice.Confirmed mode) earlier notices plain follows goes fed =
    unseen_fed source (on_confirmed set mode server) earlier (plain.confirmed mode server) fed

-- ---- acts

-- what follows is what followed before it
rest_follows : (source : List Change) (items : ℕ) (n : Notice) (notices : List Notice)
    → AreFollowing source items (n ∷ notices) → AreFollowing source items notices
rest_follows source items (notice.Taken i value) notices follows = follows.1
rest_follows source items other notices follows = follows

behind : (source : List Change) (items : ℕ) (later notices : List Notice) → AreFollowing source items (later ++ notices)
    → AreFollowing source items notices
behind source items [] notices follows = follows
behind source items (n ∷ later) notices follows =
    behind source items later notices (rest_follows source items n (later ++ notices) follows)

-- a notice that comes next stands before those that came
turned_on : (b : Bool) (n : Notice) (later notices : List Notice)
    → reverse ((if b then n ∷ [] else []) ++ later) ++ notices ≡ reverse later ++ ((if b then n ∷ [] else []) ++ notices)
turned_on true n later notices =
    ap (λ (l : List Notice). l ++ notices) (reverse_onto later n []) ∙ append_assoc (reverse later) (n ∷ []) notices
turned_on false n later notices = refl

acts_feed : (set : SetMode) (source : List Change) (items : ℕ) (acts : List ClientAct) (earlier : List Act)
    (notices : ℕ → List Notice) → IsPlain set
    → ((server : ℕ) → AreFollowing source items (reverse (told_of server acts) ++ notices server))
    → ((server item : ℕ) → 1 ≤ item → item ≤ items → GoesOnAt server item earlier (notices server))
    → WellFed source earlier → WellFed source (history_after set items acts earlier)
unfolding history_after
acts_feed set source items [] earlier notices plain follow go fed = fed
acts_feed set source items (Happened happening ∷ acts) earlier notices plain follow go fed =
    acts_feed set source items acts earlier notices plain follow go fed
acts_feed set source items (Says server said ∷ acts) earlier notices plain follow go fed =
    acts_feed set source items acts earlier notices plain follow go fed
acts_feed set source items (Switches before after ∷ acts) earlier notices plain follow go fed =
    acts_feed set source items acts (Note (line.Switch before after) ∷ earlier) notices plain follow go (refl, tt, fed)
acts_feed set source items (Tells s n ∷ acts) earlier notices plain follow go fed =
    let next : ℕ → List Notice = λ server. told_in server (Tells s n) ++ notices server in
    let follow_next : (server : ℕ) → AreFollowing source items (reverse (told_of server acts) ++ next server) =
    λ server. subst (AreFollowing source items) (turned_on (s == server) n (told_of server acts) (notices server)) (follow server) in
    let own : AreFollowing source items (n ∷ notices s) =
    subst (λ b. AreFollowing source items ((if b then n ∷ [] else []) ++ notices s)) (itself s)
    (behind source items (reverse (told_of s acts)) (next s) (follow_next s)) in
    acts_feed set source items acts (seen_before (seen_of_notice set items s n) earlier) next plain follow_next
    (λ server item from to. notice_goes set items server item s n earlier (notices server) (s == server) plain refl from to
    (go server item from to))
    (notice_fed set source items s n earlier (notices s) plain own (go s) fed)

-- what a hot or a cold client's links tell feeds its log
pub are_fed : (config : ClientConfig) (moments : List Moment) (source : List Change) → IsHotOrCold config.mode
    → ((server : ℕ) → AreFollowing source config.items (reverse (told_of server (acts_of config moments))))
    → WellFed source (history_of config moments)
are_fed config moments source is follow =
    acts_feed config.mode source config.items (acts_of config moments) [] (λ server. []) (plain config.mode is)
    (λ server. subst (AreFollowing source config.items) (sym (append-nil (reverse (told_of server (acts_of config moments)))))
    (follow server))
    (λ server item from to. tt) tt

-- so what it delivers is safe, where well fed histories are and the log's lines are those of its history
pub are_safe : ((source : List Change) (history : List Act) → IsSource source → WellFed source history
    → Safe source (lines_of history))
    → ((config : ClientConfig) (moments : List Moment)
    → (client_after config moments).log.lines ≡ lines_of (history_of config moments))
    → (config : ClientConfig) (moments : List Moment) (source : List Change) → IsHotOrCold config.mode
    → ((server : ℕ) → AreFollowing source config.items (reverse (told_of server (acts_of config moments))))
    → IsSource source → Safe source (client_after config moments).log.lines
are_safe safe lines config moments source is follow rises =
    subst (Safe source) (sym (lines config moments))
    (safe source (history_of config moments) rises (are_fed config moments source is follow))
