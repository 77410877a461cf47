-- In a life items are asked for once, and nothing is turned off.
use Rattle.std.proofs.Common.{◌≡◌, ℕ, ℤ, pos, negsuc, ◌+◌, ◌*◌, ◌≤◌, ◌==◌, List, [], ◌∷◌, ◌++◌, Bool, true, false, cond, Option, Some, None, Result, Ok, Err, refl, ap, ◌∙◌, subst, arith, ◌⊎◌, inl, inr}
use Rattle.std.specs.List.{AllByRecursion}
use Rattle.std.proofs.lemmas.Bool.Decides.{nat_tests}
use Rattle.std.proofs.lemmas.List.{append-nil}
use Rattle.ua_base.specs.declared.modes.Mode.{Mode}
use Rattle.ua_base.specs.declared.modes.Mode.TheVariants.{Disabled, Sampling, Reporting}
use Rattle.ua_base.specs.declared.modes.Timestamps.TheVariants as timestamps
use Rattle.ua_base.specs.Modes.{mode_number}
use Rattle.ua_channel.specs.declared.heard.Heard.{Heard}
use Rattle.ua_channel.specs.declared.heard.Heard.TheVariants as heard
use Rattle.ua_sub_msgs.specs.declared.item.CreateMonitoredItemsRequest.{CreateMonitoredItemsRequest}
use Rattle.ua_sub_msgs.specs.declared.request.SubRequest.{SubRequest}
use Rattle.ua_sub_msgs.specs.declared.request.SubRequest.TheVariants as sub_request
use Rattle.ua_session_msgs.specs.declared.request.SessionRequest.{SessionRequest}
use Rattle.ua_session_msgs.specs.declared.request.SessionRequest.TheVariants as session_request
use Rattle.ua_services.specs.declared.request.Request.{Request}
use Rattle.ua_services.specs.declared.request.Request.TheVariants as request
use Rattle.ua_services.specs.declared.request.RequestFault.{RequestFault}
use Rattle.ua_services.specs.Requests.{request_at}
use Rattle.subscription.specs.Items.{is_disabled}
use Rattle.server_rules.specs.Said.{Said}
use Rattle.server_rules.specs.Operations.{mode_named, timestamps_named}
use Rattle.server_rules.specs.Step.{Happening, Hears}
use Rattle.server_laws.specs.Course.{Setting, leave_of, leave_of_heard, leave_of_request, leave_of_sub, leave_of_session, said_after}
use Rattle.server_laws.specs.Facts.{RiseBetween, facts_said, ids_in}
use Rattle.server_laws.specs.Whole.{NeverOff}
use Rattle.server_makings.specs.Asked.{AskedItem, asked_by, asked_in, asked_of_heard, asked_of_request, asked_of_sub, asked_with}
use Rattle.link_rules.specs.declared.config.LinkConfig.{LinkConfig}
use Rattle.link_rules.specs.Requests.{item_requests}
use Rattle.link_laws.specs.Asked.{IsStandard, items_in}
use Rattle.set_talks.specs.On.{AreOn, IsIn}
use Rattle.set_talks.specs.Lives.{heard_by, heard_on}
use Rattle.client_dials.specs.Making.{asks_for}
use Rattle.server_tellings.proofs.Hearing.{IsSaidAgain}
use Rattle.set_talks.specs.Meetings.{Life, Served, connections_of, served_by, start_of}
use Rattle.set_askings.proofs.Hearing.{IsGoodHeard, IsGoodRequest, asks_by_all, asks_heard, asks_in_request, asks_join}
use Rattle.set_askings.proofs.Making.{makes_all, makes_apart, makes_facts, makes_on}
use Rattle.set_askings.proofs.Sharing.{IsServedWell, IsSpokenOn, ReadsSo, all_served, back_of, front_of}
use Rattle.set_askings.proofs.Sums.{count, count_once, sum, sum_in, sum_two}
use Rattle.set_askings.specs.Once.{IsAskedOnce, IsOrderly}

-- ---- all that a life heard

abbrev asks_at : ℕ → Happening → ℕ
asks_at id (Hears conn h) = asks_heard id h
asks_at id other = 0

abbrev pub asks_all : ℕ → List Happening → ℕ
asks_all id [] = 0
asks_all id (happening ∷ earlier) = asks_all id earlier + asks_at id happening

abbrev IsGoodAt : LinkConfig → Happening → Type 0
IsGoodAt config (Hears conn h) = IsGoodHeard config h
IsGoodAt config other = Unit {0}

-- a happening is heard on a connection of the life
abbrev IsOnOne : List ℕ → Happening → Type 0
IsOnOne numbers (Hears conn h) = IsIn conn numbers
IsOnOne numbers other = Unit {0}

own_first : (b : Bool) (id n : ℕ) (h : Heard) → (n == n) ≡ b → asks_heard id h ≤ asks_by_all id (cond b (h ∷ []) [])
own_first true id n h test = omega arith
own_first false id n h test = absurd (grind (arith, nat_tests))

-- what is heard counts on one of the connections
at_one : (id : ℕ) (numbers : List ℕ) (happening : Happening) → IsOnOne numbers happening
    → asks_at id happening ≤ sum (λ n. asks_by_all id (heard_by n happening)) numbers
at_one id numbers (Hears conn h) on =
    let here : asks_heard id h ≤ asks_by_all id (heard_by conn (Hears conn h)) = own_first (conn == conn) id conn h refl in
    let all : asks_by_all id (heard_by conn (Hears conn h)) ≤ sum (λ n. asks_by_all id (heard_by n (Hears conn h))) numbers =
    sum_in (λ n. asks_by_all id (heard_by n (Hears conn h))) conn numbers on in
    omega arith
at_one id numbers other on = omega arith

on_front : (numbers : List ℕ) (happening : Happening) (earlier : List Happening) → AreOn numbers (happening ∷ earlier) → IsOnOne numbers happening
on_front numbers (Hears conn h) earlier on = on.0
on_front numbers other earlier on = tt

on_back : (numbers : List ℕ) (happening : Happening) (earlier : List Happening) → AreOn numbers (happening ∷ earlier) → AreOn numbers earlier
on_back numbers (Hears conn h) earlier on = on.1
on_back numbers other earlier on = on

pub asks_on_all : (id : ℕ) (numbers : List ℕ) (happenings : List Happening) → AreOn numbers happenings
    → asks_all id happenings ≤ sum (λ n. asks_by_all id (heard_on n happenings)) numbers
asks_on_all id numbers [] on = omega arith
asks_on_all id numbers (happening ∷ earlier) on =
    let rest : asks_all id earlier ≤ sum (λ n. asks_by_all id (heard_on n earlier)) numbers =
    asks_on_all id numbers earlier (on_back numbers happening earlier on) in
    let first : asks_at id happening ≤ sum (λ n. asks_by_all id (heard_by n happening)) numbers =
    at_one id numbers happening (on_front numbers happening earlier on) in
    let both : sum (λ n. asks_by_all id (heard_on n (happening ∷ earlier))) numbers
    ≡ sum (λ n. asks_by_all id (heard_on n earlier)) numbers + sum (λ n. asks_by_all id (heard_by n happening)) numbers =
    sum_two (λ n. asks_by_all id (heard_on n earlier)) (λ n. asks_by_all id (heard_by n happening)) (λ n. asks_by_all id (heard_on n (happening ∷ earlier)))
    (λ n. asks_join id (heard_on n earlier) (heard_by n happening)) numbers in
    omega arith

-- ---- and all of it is good

own_good : (b : Bool) (config : LinkConfig) (n : ℕ) (h : Heard) → (n == n) ≡ b → AllByRecursion (IsGoodHeard config) (cond b (h ∷ []) []) → IsGoodHeard config h
own_good true config n h test good = good.0
own_good false config n h test good = absurd (grind (arith, nat_tests))

good_at : (config : LinkConfig) (numbers : List ℕ) (happening : Happening) → IsOnOne numbers happening
    → ((n : ℕ) → IsIn n numbers → AllByRecursion (IsGoodHeard config) (heard_by n happening)) → IsGoodAt config happening
good_at config numbers (Hears conn h) on good = own_good (conn == conn) config conn h refl (good conn on)
good_at config numbers other on good = tt

each_good : (config : LinkConfig) (numbers : List ℕ) (happenings : List Happening) → AreOn numbers happenings
    → ((n : ℕ) → IsIn n numbers → AllByRecursion (IsGoodHeard config) (heard_on n happenings)) → AllByRecursion (IsGoodAt config) happenings
each_good config numbers [] on good = tt
each_good config numbers (happening ∷ earlier) on good = (
  good_at config numbers happening (on_front numbers happening earlier on)
      (λ n is. back_of (IsGoodHeard config) (heard_on n earlier) (heard_by n happening) (good n is)),
  each_good config numbers earlier (on_back numbers happening earlier on)
      (λ n is. front_of (IsGoodHeard config) (heard_on n earlier) (heard_by n happening) (good n is)),
)

well_at : (config : LinkConfig) (life : Life) (before : List ℕ) (n : ℕ) (later : List ℕ)
    → AllByRecursion (IsServedWell config life) (before ++ n ∷ later) → IsServedWell config life n
well_at config life [] n later all = all.0
well_at config life (other ∷ before) n later all = well_at config life before n later all.1

well_in : (config : LinkConfig) (life : Life) (n : ℕ) (numbers : List ℕ) → AllByRecursion (IsServedWell config life) numbers → IsIn n numbers
    → IsServedWell config life n
well_in config life n numbers all is =
    well_at config life is.0 n is.1 (subst (AllByRecursion (IsServedWell config life)) is.2 all)

-- ---- what is asked for at one moment

abbrev wanted : LinkConfig → List AskedItem
wanted config = asked_with (Some timestamps.Source) (item_requests config config.items)

-- nothing, or all items as the link asks for them
abbrev IsSeen : LinkConfig → ℕ → List AskedItem → Type 0
IsSeen config asks asked = ((asks ≡ 0) × (asked ≡ [])) ⊎ ((asks ≡ 1) × (asked ≡ wanted config))

seen_items : (b : Bool) (config : LinkConfig) (r : CreateMonitoredItemsRequest) → IsStandard r.subscription_id config r
    → IsSeen config (cond b 1 0 + 0) (cond b (asked_with (timestamps_named r.timestamps_to_return) r.items_to_create) [])
seen_items true config r is =
    inr (
      refl,
      ap (λ (z : ℤ). asked_with (timestamps_named z) r.items_to_create) is.times
          ∙ ap (λ items. asked_with (Some timestamps.Source) items) is.items,
    )
seen_items false config r is = inl (refl, refl)

seen_sub : (config : LinkConfig) (id : ℕ) (r : SubRequest) → IsGoodRequest config (request.Subscription r)
    → IsSeen config (asks_for id (items_in (request.Subscription r))) (asked_of_sub id r)
seen_sub config id (sub_request.CreateMonitoredItems r) good = seen_items (r.subscription_id == id) config r good.standard.0
seen_sub config id other good = inl (refl, refl)

seen_result : (config : LinkConfig) (id : ℕ) (x : Result Request RequestFault) → ((r : Request) → x ≡ Ok r → IsGoodRequest config r)
    → IsSeen config (asks_in_request id x) (asked_of_request id x)
seen_result config id (Ok (request.Subscription r)) good = seen_sub config id r (good (request.Subscription r) refl)
seen_result config id (Ok (request.Session r)) good = inl (refl, refl)
seen_result config id (Err fault) good = inl (refl, refl)

seen_heard : (config : LinkConfig) (id : ℕ) (h : Heard) → IsGoodHeard config h → IsSeen config (asks_heard id h) (asked_of_heard id h)
seen_heard config id (heard.Message number body) good = seen_result config id (request_at body) good
seen_heard config id other good = inl (refl, refl)

seen_at : (config : LinkConfig) (id : ℕ) (happening : Happening) → IsGoodAt config happening → IsSeen config (asks_at id happening) (asked_by id happening)
seen_at config id (Hears conn h) good = seen_heard config id h good
seen_at config id other good = inl (refl, refl)

-- ---- and in all of them

more_none : (config : LinkConfig) (before now : List AskedItem) (asks : ℕ) → IsSeen config asks now → asks ≡ 0 → before ≡ [] → before ++ now ≡ []
more_none config before now asks (inl seen) none first = ap (λ l. l ++ now) first ∙ seen.1
more_none config before now asks (inr seen) none first = absurd (omega arith)

none_asked : (config : LinkConfig) (id : ℕ) (happenings : List Happening) → AllByRecursion (IsGoodAt config) happenings → asks_all id happenings ≡ 0
    → asked_in id happenings ≡ []
none_asked config id [] good none = refl
none_asked config id (happening ∷ earlier) good none =
    more_none config (asked_in id earlier) (asked_by id happening) (asks_at id happening) (seen_at config id happening good.0) (omega arith)
    (none_asked config id earlier good.1 (omega arith))

abbrev IsOneOrNone : LinkConfig → List AskedItem → Type 0
IsOneOrNone config asked = (asked ≡ []) ⊎ (asked ≡ wanted config)

more_one : (config : LinkConfig) (before now : List AskedItem) (asks others : ℕ) → IsSeen config asks now → others + asks ≤ 1
    → IsOneOrNone config before → (others ≡ 0 → before ≡ []) → IsOneOrNone config (before ++ now)
more_one config before now asks others (inl seen) few (inl none) rest = inl (ap (λ l. l ++ now) none ∙ seen.1)
more_one config before now asks others (inl seen) few (inr one) rest =
    inr (ap (λ l. before ++ l) seen.1 ∙ append-nil before ∙ one)
more_one config before now asks others (inr seen) few before_is rest = inr (ap (λ l. l ++ now) (rest (omega arith)) ∙ seen.1)

once_asked : (config : LinkConfig) (id : ℕ) (happenings : List Happening) → AllByRecursion (IsGoodAt config) happenings → asks_all id happenings ≤ 1
    → IsOneOrNone config (asked_in id happenings)
once_asked config id [] good few = inl refl
once_asked config id (happening ∷ earlier) good few =
    more_one config (asked_in id earlier) (asked_by id happening) (asks_at id happening) (asks_all id earlier) (seen_at config id happening good.0) few
    (once_asked config id earlier good.1 (omega arith)) (none_asked config id earlier good.1)

-- ---- no mode is Disabled

zero_off : (b c d : Bool) (n : ℕ) → (n == 0) ≡ b → cond b (Some Disabled) (cond c (Some Sampling) (cond d (Some Reporting) None)) ≡ Some Disabled
    → n ≡ 0
zero_off true c d n test is = grind (arith, nat_tests)
zero_off false true d n test is = absurd cc
zero_off false false true n test is = absurd cc
zero_off false false false n test is = absurd cc

named_on : (z : ℤ) (mode : Mode) → (◌≡◌ {A = Option ℤ} (Some z) (Some (pos (mode_number Disabled))) → ⊥) → mode_named z ≡ Some mode → is_disabled mode ≡ false
named_on z Sampling on is = refl
named_on z Reporting on is = refl
named_on (pos n) Disabled on is = absurd (on (ap (λ (k : ℕ). Some (pos k)) (zero_off (n == 0) (n == 1) (n == 2) n refl is)))
named_on (negsuc n) Disabled on is = absurd cc

sub_on : (config : LinkConfig) (id : ℕ) (mode : Mode) (r : SubRequest) → IsGoodRequest config (request.Subscription r)
    → leave_of_sub r ≡ Setting id (Some mode) → is_disabled mode ≡ false
sub_on config id mode (sub_request.SetMonitoringMode r) good is =
    let named : mode_named r.monitoring_mode ≡ Some mode = cc in
    named_on r.monitoring_mode mode good.on named
sub_on config id mode other good is = absurd cc

session_on : (id : ℕ) (mode : Mode) (r : SessionRequest) → leave_of_session r ≡ Setting id (Some mode) → is_disabled mode ≡ false
session_on id mode (session_request.Read r) is = absurd cc
session_on id mode other is = absurd cc

result_on : (config : LinkConfig) (id : ℕ) (mode : Mode) (x : Result Request RequestFault) → ((r : Request) → x ≡ Ok r → IsGoodRequest config r)
    → leave_of_request x ≡ Setting id (Some mode) → is_disabled mode ≡ false
result_on config id mode (Ok (request.Subscription r)) good is = sub_on config id mode r (good (request.Subscription r) refl) is
result_on config id mode (Ok (request.Session r)) good is = session_on id mode r is
result_on config id mode (Err fault) good is = absurd cc

heard_on_only : (config : LinkConfig) (id : ℕ) (mode : Mode) (h : Heard) → IsGoodHeard config h → leave_of_heard h ≡ Setting id (Some mode)
    → is_disabled mode ≡ false
heard_on_only config id mode (heard.Message number body) good is = result_on config id mode (request_at body) good is
heard_on_only config id mode other good is = absurd cc

at_on : (config : LinkConfig) (id : ℕ) (mode : Mode) (happening : Happening) → IsGoodAt config happening → leave_of happening ≡ Setting id (Some mode)
    → is_disabled mode ≡ false
at_on config id mode (Hears conn h) good is = heard_on_only config id mode h good is
at_on config id mode other good is = absurd cc

never_off : (config : LinkConfig) (id : ℕ) (happenings : List Happening) → AllByRecursion (IsGoodAt config) happenings → NeverOff happenings id
never_off config id [] good mode asked = absurd asked
never_off config id (happening ∷ earlier) good mode (inl now) = at_on config id mode happening good.0 now
never_off config id (happening ∷ earlier) good mode (inr before) = never_off config id earlier good.1 mode before

-- ---- a life

sum_well : (config : LinkConfig) (life : Life) (id : ℕ) (numbers : List ℕ) → AllByRecursion (IsServedWell config life) numbers
    → sum (λ n. asks_by_all id (heard_on n life.happenings)) numbers ≤ sum (makes_on id (said_after life.happenings (start_of life))) numbers
sum_well config life id [] well = omega arith
sum_well config life id (n ∷ numbers) well =
    let first : asks_by_all id (heard_on n life.happenings) ≤ makes_on id (said_after life.happenings (start_of life)) n = well.0.few id in
    let rest : sum (λ n. asks_by_all id (heard_on n life.happenings)) numbers ≤ sum (makes_on id (said_after life.happenings (start_of life))) numbers =
    sum_well config life id numbers well.1 in
    omega arith

abbrev pub RisesSo : Life → Type 0
RisesSo life = RiseBetween (life.config.boot * 65536) (life.config.boot * 65536 + 65535)
    (ids_in (facts_said (said_after life.happenings (start_of life))))

pub asked_once : (config : LinkConfig) (id : ℕ) (life : Life) → IsOrderly life → RisesSo life
    → AllByRecursion (IsServedWell config life) life.connections → IsAskedOnce config id life
asked_once config id life orderly rises well =
    let happenings : List Happening = life.happenings in
    let numbers : List ℕ = life.connections in
    let all : List Said = said_after happenings (start_of life) in
    let good : AllByRecursion (IsGoodAt config) happenings =
    each_good config numbers happenings orderly.on (λ n is. (well_in config life n numbers well is).good) in
    let one : asks_all id happenings ≤ sum (λ n. asks_by_all id (heard_on n happenings)) numbers = asks_on_all id numbers happenings orderly.on in
    let two : sum (λ n. asks_by_all id (heard_on n happenings)) numbers ≤ sum (makes_on id all) numbers =
    sum_well config life id numbers well in
    let three : sum (makes_on id all) numbers ≤ makes_all id all = makes_apart id all numbers orderly.apart in
    let four : makes_all id all ≤ count id (ids_in (facts_said all)) = makes_facts id all in
    let five : count id (ids_in (facts_said all)) ≤ 1 = count_once id _ _ (ids_in (facts_said all)) rises in
    record { once = once_asked config id happenings good (omega arith); on = never_off config id happenings good }

-- ---- all lives

abbrev pub AgainSo : Life → Type 0
AgainSo life = AllByRecursion IsSaidAgain (said_after life.happenings (start_of life))

pub all_once : ReadsSo → ((life : Life) → IsOrderly life → AgainSo life) → ((life : Life) → RisesSo life) → (config : LinkConfig) (id : ℕ) (lives : List Life)
    → AllByRecursion (IsSpokenOn config) (connections_of lives) → AllByRecursion IsOrderly lives → AllByRecursion (IsAskedOnce config id) lives
all_once reads again rises config id [] spoken orderly = tt
all_once reads again rises config id (life ∷ lives) spoken orderly =
    let own : List Served = served_by life life.connections in (
      asked_once config id life orderly.0 (rises life)
          (all_served reads config life life.connections (again life orderly.0) (front_of (IsSpokenOn config) own (connections_of lives) spoken)),
      all_once reads again rises config id lives (back_of (IsSpokenOn config) own (connections_of lives) spoken) orderly.1,
    )
