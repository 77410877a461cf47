-- A transfer makes the session the owner.
use Rattle.std.proofs.Common.{◌≡◌, ℕ, ◌+◌, ◌*◌, ◌==◌, ◌≤◌, List, [], ◌∷◌, Bool, true, false, cond, length, map, is_some, Option, Some, None, refl, sym, ap, ◌∙◌, subst, arith, inl, inr}
use Rattle.std.specs.Prelude.{Result, Ok, Err}
use Rattle.std.proofs.lemmas.Bool.Decides.{nat_tests}
use Rattle.ua_base.specs.Status.{good, good_subscription_transferred}
use Rattle.set_model.specs.declared.source.Change.{Change}
use Rattle.sessions.specs.declared.ownership.Ownership.{Ownership}
use Rattle.sessions.specs.declared.session.Session.{Session}
use Rattle.sessions.specs.State.{SessionsState}
use Rattle.sessions.specs.Table.{check_answer, given_to, lives, may_own, may_transfer, owner_of, ownership_of, session_at, session_of}
use Rattle.ua_channel.specs.declared.heard.Heard.TheVariants as heard_as
use Rattle.ua_channel.specs.State.{is_deaf}
use Rattle.ua_structures.specs.declared.header.ResponseHeader.{ResponseHeader}
use Rattle.ua_sub_msgs.specs.declared.reply.SubReply.TheVariants as sub_reply
use Rattle.ua_sub_msgs.specs.declared.request.SubRequest.TheVariants as sub_request
use Rattle.ua_sub_msgs.specs.declared.subscription.TransferResult.{TransferResult}
use Rattle.ua_sub_msgs.specs.declared.subscription.TransferSubscriptionsRequest.{TransferSubscriptionsRequest}
use Rattle.ua_services.specs.declared.reply.Reply.{Reply}
use Rattle.ua_services.specs.declared.reply.Reply.TheVariants as reply
use Rattle.ua_services.specs.declared.request.Request.{Request}
use Rattle.ua_services.specs.declared.request.Request.TheVariants as request
use Rattle.ua_services.specs.declared.request.RequestFault.{RequestFault}
use Rattle.ua_services.specs.Requests.{header_of, request_at}
use Rattle.subscription.specs.State.{SubState}
use Rattle.server_rules.specs.declared.config.ServerConfig.{ServerConfig}
use Rattle.server_rules.specs.declared.conn.Asker.{Asker}
use Rattle.server_rules.specs.declared.conn.Conn.{Conn}
use Rattle.server_rules.specs.State.{ServerState, conn_at, new_server, sub_at}
use Rattle.server_rules.specs.Said.{Did, each, nothing}
use Rattle.server_rules.specs.Answering.{fault_reply, good_header}
use Rattle.server_rules.specs.Moves.{given_sub, is_session, other_than, owner, told_why, transferred_sub}
use Rattle.server_rules.specs.Operations.{answered, answers, done, leaves, operations_fault, own_sub, passes}
use Rattle.server_rules.specs.Requests.{asked, asker_of, done_for, noted, requested, served, sub_served, token_in}
use Rattle.server_rules.specs.Subscriptions.{sub_to_move, transfer_all, transfer_one, transfer_reply, transfer_result, transfer_subs, transfer_told}
use Rattle.server_rules.specs.Connecting.{hears, hears_by}
use Rattle.server_rules.specs.Step.{Happening, Hears, after, ear_of, ears, heard}
use Rattle.server_rules.specs.Acts.{state_after}
use Rattle.server_laws.specs.Beginning.{IsAnsweredBy}
use Rattle.server_laws.specs.Course.{Comes, IsAmong, Leave, MayTransfer, Nothing, Transferring, core_of}
use Rattle.server_laws.specs.Lockstep.{Anywhere}
use Rattle.server_laws.specs.Moves.{Core, Move, id_of, moved, moved_all}
use Rattle.server_laws.specs.Owners.{AllOwn, GivesOwner, StillOwns}
use Rattle.server_laws.proofs.Asking.{transfer_one_comes}
use Rattle.server_laws.proofs.Beginning.{Bounded, answers_now, boot_kept, bounded, faulted_row, made_more}
use Rattle.server_laws.proofs.Holding.{Given, Holds, IsOwner, all_given, all_hold, held_still, lives_under, move_counter}
use Rattle.server_laws.proofs.Keeping.{all_anywhere}
use Rattle.server_laws.proofs.Kept.{transfer_same}
use Rattle.server_laws.proofs.Living.{course}
use Rattle.server_laws.proofs.Owning.{told_why_comes}
use Rattle.server_laws.proofs.Quieting.{checked, first_of_token}
use Rattle.server_laws.proofs.Replying.{replied_says}
use Rattle.server_laws.proofs.Serving.{Row, behind, from_row, noted_waits, single, transfer_tells}
use Rattle.server_laws.proofs.Silent.{each_tells, found_conn}

-- ---- the owner after a transfer

own_number : (who : ℕ) → (who == who) ≡ true
own_number who = grind (arith, nat_tests)

given_by : (b : Bool) (who which : ℕ) (o : Ownership) (rest more : Option Ownership) → (o.id == which) ≡ b
    → (is_some rest ≡ true → is_session who (owner_of more) ≡ true) → is_some (cond b (Some o) rest) ≡ true
    → is_session who (owner_of (cond ((cond b (record o { owner = Some who }) o).id == which) (Some (cond b (record o { owner = Some who }) o)) more)) ≡ true
given_by true who which o rest more test on is =
    ap (λ b. is_session who (owner_of (cond b (Some (record o { owner = Some who })) more))) test ∙ own_number who
given_by false who which o rest more test on is = ap (λ b. is_session who (owner_of (cond b (Some o) more))) test ∙ on is

given_own : (who which : ℕ) (owned : List Ownership) → is_some (ownership_of which owned) ≡ true → IsOwner who which (map (given_to which who) owned)
given_own who which [] is = absurd cc
given_own who which (o ∷ owned) is =
    given_by (o.id == which) who which o (ownership_of which owned) (ownership_of which (map (given_to which who) owned)) refl (given_own who which owned) is

may_is : (found : Option Ownership) (session : Option Session) → may_own found session ≡ true → is_some found ≡ true
may_is None None is = absurd cc
may_is None (Some session) is = absurd cc
may_is (Some o) session is = refl

transferred_own : (b : Bool) (who which : ℕ) (state : SessionsState) → may_transfer which who state ≡ b → b ≡ true
    → IsOwner who which (cond b (record state { owned = map (given_to which who) state.owned }) state).owned
transferred_own true who which state may is = given_own who which state.owned (may_is (ownership_of which state.owned) (session_at who state.sessions) may)
transferred_own false who which state may is = absurd cc

last_given : (b : Bool) (which who : ℕ) (state : SessionsState) → (cond b (record state { owned = map (given_to which who) state.owned }) state).last_counter ≡ state.last_counter
last_given true which who state = refl
last_given false which who state = refl

given_holds : (who which : ℕ) (s : ServerState) → who ≤ s.sessions.last_counter → which ≤ id_of s.config.boot s.made → may_transfer which who s.sessions ≡ true
    → Holds who which (core_of (given_sub which who s))
given_holds who which s counter id may =
    let same = last_given (may_transfer which who s.sessions) which who s.sessions in
    record {
      counter = omega (arith, counter, same);
      id = id;
      held = inl (transferred_own (may_transfer which who s.sessions) who which s.sessions refl may);
    }

comes_hold : (who which : ℕ) (leave : Leave) (s : ServerState) (did : Did) → Comes leave s did → (MayTransfer leave which → ⊥) → Holds who which (core_of s)
    → Holds who which (core_of did.state)
comes_hold who which leave s did comes never h =
    subst (Holds who which) (sym comes.leads) (all_hold who which leave comes.moves (core_of s) comes.fair comes.may never h)

given_or : (b : Bool) (who which : ℕ) (s : ServerState) (did : Did) → b ≡ true → Holds who which (core_of did.state) → Holds who which (core_of (cond b did (nothing s)).state)
given_or true who which s did is h = h
given_or false who which s did is h = absurd cc

one_holds : (who which : ℕ) (s : ServerState) → who ≤ s.sessions.last_counter → which ≤ id_of s.config.boot s.made → may_transfer which who s.sessions ≡ true
    → Holds who which (core_of (transfer_one who which s).state)
unfolding transfer_one transferred_sub
one_holds who which s counter id may =
    let t : ServerState = given_sub which who s in
    let did : Did = told_why (other_than who (owner which s)) good_subscription_transferred (sub_at which s.subs) t in
    given_or (may_transfer which who s.sessions) who which s did may
    (comes_hold who which Nothing t did (told_why_comes Nothing (other_than who (owner which s)) good_subscription_transferred (sub_at which s.subs) t) (λ h. h)
    (given_holds who which s counter id may))

not_given : (b : Bool) (who which : ℕ) (s : ServerState) (did : Did) → b ≡ false → Holds who which (core_of s) → Holds who which (core_of (cond b did (nothing s)).state)
not_given true who which s did is h = absurd cc
not_given false who which s did is h = h

none_holds : (who which : ℕ) (s : ServerState) → may_transfer which who s.sessions ≡ false → Holds who which (core_of s) → Holds who which (core_of (transfer_one who which s).state)
unfolding transfer_one transferred_sub
none_holds who which s may h = not_given (may_transfer which who s.sessions) who which s _ may h

again_holds : (b : Bool) (who which : ℕ) (s : ServerState) → may_transfer which who s.sessions ≡ b → Holds who which (core_of s) → Holds who which (core_of (transfer_one who which s).state)
again_holds true who which s may h = one_holds who which s h.counter h.id may
again_holds false who which s may h = none_holds who which s may h

turn_holds : (b : Bool) (who which id : ℕ) (s : ServerState) → (id == which) ≡ b → Holds who which (core_of s) → Holds who which (core_of (transfer_one who id s).state)
turn_holds true who which id s test h =
    let own : id ≡ which = grind (arith, nat_tests) in
    subst (λ n. Holds who which (core_of (transfer_one who n s).state)) (sym own) (again_holds (may_transfer which who s.sessions) who which s refl h)
turn_holds false who which id s test h =
    comes_hold who which (Transferring (id ∷ [])) s (transfer_one who id s) (transfer_one_comes (Transferring (id ∷ [])) who id s (inl refl)) (λ among. other_one among) h
  where
    other_one : IsAmong which (id ∷ []) → ⊥
    other_one (inl same) = absurd (grind (arith, nat_tests))
    other_one (inr none) = none

each_holds : (who which : ℕ) (ids : List ℕ) (s : ServerState) → Holds who which (core_of s) → Holds who which (core_of (each (transfer_one who) ids s).state)
each_holds who which [] s h = h
each_holds who which (id ∷ ids) s h = each_holds who which ids (transfer_one who id s).state (turn_holds (id == which) who which id s refl h)

-- ---- in turn

abbrev pub Ready : ℕ → ServerState → Type 0
Ready who s = (who ≤ s.sessions.last_counter) × Bounded s

all_counters : (who : ℕ) (moves : List Move) (c : Core) → who ≤ c.sessions.last_counter → who ≤ (moved_all moves c).sessions.last_counter
all_counters who [] c under = under
all_counters who (move ∷ moves) c under = all_counters who moves (moved move c) (move_counter who move c under)

turn_ready : (who id : ℕ) (s : ServerState) → Ready who s → Ready who (transfer_one who id s).state
turn_ready who id s ready =
    let t : ServerState = (transfer_one who id s).state in
    let h = transfer_one_comes (Transferring (id ∷ [])) who id s (inl refl) in
    let boot : t.config.boot ≡ s.config.boot = ap (λ (c : Core). c.boot) h.leads ∙ boot_kept h.moves (core_of s) in
    let same : t.made ≡ (moved_all h.moves (core_of s)).made = ap (λ (c : Core). c.made) h.leads in
    let more : s.made ≤ (moved_all h.moves (core_of s)).made = made_more h.moves (core_of s) in
    let last : t.sessions.last_counter ≡ (moved_all h.moves (core_of s)).sessions.last_counter = ap (λ (c : Core). c.sessions.last_counter) h.leads in
    let counter : who ≤ (moved_all h.moves (core_of s)).sessions.last_counter = all_counters who h.moves (core_of s) ready.0 in (
      omega (arith, last, counter),
      λ other sub found.
          let was = transfer_same who id s other sub found in
          let under : other ≤ s.config.boot * 65536 + s.made = ready.1 other was.before was.found in
          omega (arith, under, boot, same, more),
    )

result_by : (found : Option SubState) → (transfer_told found).status_code ≡ good → is_some found ≡ true
result_by None is = absurd cc
result_by (Some sub) is = refl

both_by : (b : Bool) (found : Option SubState) → is_some (cond b found None) ≡ true → (b ≡ true) × (is_some found ≡ true)
both_by true found is = (refl, is)
both_by false found is = absurd cc

some_is : (found : Option SubState) → is_some found ≡ true → (sub : SubState) × (found ≡ Some sub)
some_is None is = absurd cc
some_is (Some sub) is = (sub, refl)

result_holds : (who id : ℕ) (s : ServerState) → Ready who s → (transfer_result who id s).status_code ≡ good → Holds who id (core_of (transfer_one who id s).state)
unfolding transfer_result
result_holds who id s ready is =
    let h = both_by (may_transfer id who s.sessions) (sub_at id s.subs) (result_by (sub_to_move who id s) is) in
    let sub = some_is (sub_at id s.subs) h.1 in
    one_holds who id s ready.0 (ready.1 id sub.0 sub.1) h.0

results_own : (who : ℕ) (ids : List ℕ) (s end : ServerState) → Ready who s → core_of end ≡ core_of (each (transfer_one who) ids s).state
    → AllOwn who ids (answers (transfer_result who) (leaves (transfer_one who)) ids s) end
results_own who [] s end ready is = tt
results_own who (id ∷ ids) s end ready is = (
  λ well. held_still who id end (subst (Holds who id) (sym is) (each_holds who id ids (transfer_one who id s).state (result_holds who id s ready well))).held,
  results_own who ids (transfer_one who id s).state end (turn_ready who id s ready) is,
)

-- ---- a TransferSubscriptions

never_fault : (conn : ℕ) (r : TransferSubscriptionsRequest) (before now : ServerState) (handle code : ℕ) (s : ServerState) → GivesOwner conn r before now (fault_reply handle code s)
never_fault conn r before now handle code s response is = absurd cc

told_owner : (conn session : ℕ) (r : TransferSubscriptionsRequest) (before now : ServerState) (results : List TransferResult) (header : ResponseHeader)
    → check_answer (token_in r.request_header) conn before.sessions ≡ Ok session → AllOwn session r.subscription_ids results now
    → GivesOwner conn r before now (transfer_reply results header)
told_owner conn session r before now results header checks own response is =
    let same : results ≡ response.results = ap results_in is in
    (session, checks, subst (λ l. AllOwn session r.subscription_ids l now) same own)
  where
    results_in : Reply → List TransferResult
    results_in (reply.Subscription (sub_reply.TransferSubscriptions told)) = told.results
    results_in other = []

passed_row : (conn : ℕ) (asker : Asker) (session : ℕ) (r : TransferSubscriptionsRequest) (before now s : ServerState) (result : Result (Unit {0}) ℕ)
    → check_answer (token_in r.request_header) conn before.sessions ≡ Ok session → Ready session s
    → core_of now ≡ core_of (done asker (transfer_all asker session r.subscription_ids) result s).state
    → Row Anywhere asker (GivesOwner conn r before now) s (done asker (transfer_all asker session r.subscription_ids) result s)
passed_row conn asker session r before now s (Err code) checks ready is =
    faulted_row Anywhere asker (GivesOwner conn r before now) code s (never_fault conn r before now asker.handle code s)
passed_row conn asker session r before now s (Ok found) checks ready is =
    let first : Did = each (transfer_one session) r.subscription_ids s in
    let results : List TransferResult = answers (transfer_result session) (leaves (transfer_one session)) r.subscription_ids s in
    let header : ResponseHeader = good_header asker.handle first.state in
    let end : core_of now ≡ core_of first.state = is ∙ (replied_says asker (transfer_reply results header) first.state).same in
    behind Anywhere asker (GivesOwner conn r before now) s (answered asker (transfer_reply results)) first
    (each_tells Anywhere (transfer_one session) r.subscription_ids s (transfer_tells Anywhere session))
    (single Anywhere asker (GivesOwner conn r before now) first.state first.state (transfer_reply results header) refl (λ h. h)
    (told_owner conn session r before now results header checks (results_own session r.subscription_ids s now ready end)))

subs_row : (conn : ℕ) (asker : Asker) (session : ℕ) (r : TransferSubscriptionsRequest) (before now s : ServerState)
    → check_answer (token_in r.request_header) conn before.sessions ≡ Ok session → Ready session s
    → core_of now ≡ core_of (transfer_subs asker session r s).state
    → Row Anywhere asker (GivesOwner conn r before now) s (transfer_subs asker session r s)
unfolding transfer_subs
subs_row conn asker session r before now s checks ready is =
    passed_row conn asker session r before now s (passes (operations_fault (length r.subscription_ids))) checks ready is

-- a session that is checked was given
checked_lives : (conn : ℕ) (token : Option (List ℕ)) (session : ℕ) (s : ServerState) → check_answer token conn s.sessions ≡ Ok session → lives session s.sessions.sessions ≡ true
checked_lives conn token session s is =
    let c = checked conn session (session_of token s.sessions) is in
    let x : Session = c.x in
    let first = first_of_token s.sessions.boot token s.sessions.sessions x c.is in
    ap (λ n. is_some (session_at n s.sessions.sessions)) (sym c.counter) ∙ ap (λ (o : Option Session). is_some o) first.0

given_session : (asker : Asker) (token : Option (List ℕ)) (session : ℕ) (s : ServerState) → Given (core_of s) → check_answer token asker.conn s.sessions ≡ Ok session
    → session ≤ s.sessions.last_counter
given_session asker token session s given is =
    lives_under session s.sessions.last_counter s.sessions.sessions (checked_lives asker.conn token session s is) given

-- a session that asks, and still owns what it has not, had what is no more
pub gone_only : (conn session id : ℕ) (token : Option (List ℕ)) (now : ServerState) → StillOwns session id now → check_answer token conn now.sessions ≡ Ok session
    → own_sub session id now ≡ None → sub_at id now.subs ≡ None
gone_only conn session id token now (inl own) checks none = sym (ap (λ b. cond b (sub_at id now.subs) None) own) ∙ none
gone_only conn session id token now (inr (inl gone)) checks none = gone
gone_only conn session id token now (inr (inr dead)) checks none =
    let wrong : true ≡ false = sym (checked_lives conn token session now checks) ∙ dead in absurd cc

for_row : (conn number handle : ℕ) (r : TransferSubscriptionsRequest) (answer : Result ℕ ℕ) (s now : ServerState) → Given (core_of s) → Bounded s
    → check_answer (token_in r.request_header) conn s.sessions ≡ answer
    → core_of now ≡ core_of (done_for (sub_served (asker_of conn number handle) (sub_request.TransferSubscriptions r)) (asker_of conn number handle) answer (noted (asker_of conn number handle) (token_in r.request_header) s)).state
    → Row Anywhere (asker_of conn number handle) (GivesOwner conn r s now) (noted (asker_of conn number handle) (token_in r.request_header) s)
    (done_for (sub_served (asker_of conn number handle) (sub_request.TransferSubscriptions r)) (asker_of conn number handle) answer (noted (asker_of conn number handle) (token_in r.request_header) s))
unfolding sub_served
for_row conn number handle r (Ok session) s now given low checks is =
    let asker : Asker = asker_of conn number handle in
    subs_row conn asker session r s now (noted asker (token_in r.request_header) s) checks
    (given_session asker (token_in r.request_header) session s given checks, λ id sub found. low id sub found) is
for_row conn number handle r (Err code) s now given low checks is =
    let asker : Asker = asker_of conn number handle in
    faulted_row Anywhere asker (GivesOwner conn r s now) code (noted asker (token_in r.request_header) s) (never_fault conn r s now handle code (noted asker (token_in r.request_header) s))

served_row : (conn number handle : ℕ) (r : TransferSubscriptionsRequest) (s now : ServerState) → Given (core_of s) → Bounded s
    → core_of now ≡ core_of (served (asker_of conn number handle) (request.Subscription (sub_request.TransferSubscriptions r)) s).state
    → Row Anywhere (asker_of conn number handle) (GivesOwner conn r s now) s (served (asker_of conn number handle) (request.Subscription (sub_request.TransferSubscriptions r)) s)
unfolding served
served_row conn number handle r s now given low is =
    let asker : Asker = asker_of conn number handle in
    from_row Anywhere asker (GivesOwner conn r s now) s (noted asker (token_in r.request_header) s) _ refl (noted_waits Anywhere asker (token_in r.request_header) s)
    (for_row conn number handle r (check_answer (token_in r.request_header) conn s.sessions) s now given low refl is)

-- what happens is that it is served
served_by : (found : Option Conn) (conn number : ℕ) (body : List ℕ) (q : Request) (s : ServerState) → conn_at conn s.conns ≡ found → is_deaf (ear_of found) ≡ false
    → request_at body ≡ Ok q → hears_by found (heard_as.Message number body) s ≡ served (asker_of conn number (header_of q).request_handle) q s
unfolding requested
served_by None conn number body q s is hears asks = absurd cc
served_by (Some c) conn number body q s is hears asks =
    ap (λ n. asked n number (request_at body) s) (found_conn conn s.conns c is) ∙ ap (λ (r : Result Request RequestFault). asked conn number r s) asks

heard_by : (b : Bool) (s : ServerState) (did : Did) → b ≡ false → cond b (nothing s) did ≡ did
heard_by true s did is = absurd cc
heard_by false s did is = refl

after_is : (conn number : ℕ) (body : List ℕ) (q : Request) (s : ServerState) → is_deaf (ears conn s) ≡ false → request_at body ≡ Ok q
    → after (Hears conn (heard_as.Message number body)) s ≡ served (asker_of conn number (header_of q).request_handle) q s
unfolding heard hears
after_is conn number body q s hears asks =
    heard_by (is_deaf (ears conn s)) s (hears_by (conn_at conn s.conns) (heard_as.Message number body) s) hears
    ∙ served_by (conn_at conn s.conns) conn number body q s refl hears asks

pub transfers_own : (config : ServerConfig) (current : List Change) (earlier : List Happening) (conn number : ℕ) (body : List ℕ) (r : TransferSubscriptionsRequest)
    → is_deaf (ears conn (state_after earlier (new_server config current))) ≡ false
    → request_at body ≡ Ok (request.Subscription (sub_request.TransferSubscriptions r))
    → IsAnsweredBy Anywhere
    (GivesOwner conn r (state_after earlier (new_server config current)) (after (Hears conn (heard_as.Message number body)) (state_after earlier (new_server config current))).state)
    conn number (after (Hears conn (heard_as.Message number body)) (state_after earlier (new_server config current)))
transfers_own config current earlier conn number body r hears asks =
    let s : ServerState = state_after earlier (new_server config current) in
    let q : Request = request.Subscription (sub_request.TransferSubscriptions r) in
    let did : Did = after (Hears conn (heard_as.Message number body)) s in
    let c = course earlier (new_server config current) in
    let given : Given (core_of s) = subst Given (sym c.leads) (all_given c.moves (core_of (new_server config current)) tt) in
    answers_now Anywhere (GivesOwner conn r s did.state) conn number body q s hears asks (all_anywhere s.sessions.sessions)
    (served_row conn number (header_of q).request_handle r s did.state given (bounded config current earlier)
    (ap (λ (d : Did). core_of d.state) (after_is conn number body q s hears asks)))
