-- A connection on which no Publish came is told nothing but the answers to its own requests.
use Rattle.std.proofs.Common.{◌≡◌, ℕ, ◌==◌, List, [], ◌∷◌, Bool, true, false, cond, not, length, nat_lt, map, Option, Some, None, refl, sym, ap, ◌∙◌, subst, arith, inr}
use Rattle.std.specs.Prelude.{Result, Ok, Err}
use Rattle.std.specs.List.{find}
use Rattle.std.proofs.lemmas.Bool.Decides.{nat_tests}
use Rattle.ua_base.specs.Number.{after_message}
use Rattle.ua_base.specs.Status.{bad_decoding_error, bad_no_subscription, bad_security_policy_rejected, bad_sequence_number_invalid, bad_service_unsupported, bad_session_not_activated, bad_secure_channel_id_invalid, bad_session_id_invalid, bad_tcp_message_too_large, bad_tcp_secure_channel_unknown, bad_too_many_operations, bad_too_many_publish_requests}
use Rattle.set_model.specs.declared.source.Change.{Change}
use Rattle.sessions.specs.declared.session.Parked.{Parked}
use Rattle.sessions.specs.declared.session.Session.{Session}
use Rattle.sessions.specs.Session as one
use Rattle.sessions.specs.Session.{has_token, is_bound_to, is_numbered}
use Rattle.sessions.specs.Token.{is_token_of}
use Rattle.sessions.specs.Table as table
use Rattle.sessions.specs.Table.{at_first, check_answer, conn_of, driven_out_of, parked, session_at, session_of}
use Rattle.ua_values.specs.Reading.{Fault, input}
use Rattle.ua_chunks.specs.Bodies.{hello_at, value_of, whole_at}
use Rattle.ua_chunks.specs.declared.greeting.Greeting.{Greeting}
use Rattle.ua_channel.specs.declared.ear.Ear.{Ear}
use Rattle.ua_channel.specs.declared.ear.Ear.TheVariants as ear
use Rattle.ua_channel.specs.declared.heard.Heard.{Heard}
use Rattle.ua_channel.specs.declared.heard.Heard.TheVariants as heard_as
use Rattle.ua_channel.specs.State.{is_deaf}
use Rattle.ua_structures.specs.declared.body.BodyFault.{BodyFault}
use Rattle.ua_structures.specs.declared.front.BodyType.{BodyType}
use Rattle.ua_structures.specs.declared.header.RequestHeader.{RequestHeader}
use Rattle.ua_structures.specs.Body.{body_at, body_type_at, service}
use Rattle.ua_structures.specs.Header.{header_at}
use Rattle.ua_session_msgs.specs.declared.channel.OpenSecureChannelResponse.{OpenSecureChannelResponse}
use Rattle.ua_sub_msgs.specs.declared.publish.PublishRequest.{PublishRequest}
use Rattle.ua_sub_msgs.specs.declared.publish.SubscriptionAcknowledgement.{SubscriptionAcknowledgement}
use Rattle.ua_sub_msgs.specs.declared.request.SubRequest.{SubRequest}
use Rattle.ua_sub_msgs.specs.declared.request.SubRequest.TheVariants as sub_request
use Rattle.ua_services.specs.declared.reply.Reply.{Reply}
use Rattle.ua_services.specs.declared.request.Request.{Request}
use Rattle.ua_services.specs.declared.request.Request.TheVariants as request
use Rattle.ua_services.specs.declared.request.RequestFault.{RequestFault}
use Rattle.ua_services.specs.declared.request.RequestFault.TheVariants as faults
use Rattle.ua_services.specs.Families.{requests}
use Rattle.ua_services.specs.Requests.{asked_behind, asked_by, asked_of, header_of, names_service, request_at, sub_header}
use Rattle.subscription.specs.Calls.{acknowledged}
use Rattle.subscription.specs.State.{SubState}
use Rattle.server_rules.specs.declared.conn.Asker.{Asker}
use Rattle.server_rules.specs.declared.conn.Conn.{Conn}
use Rattle.server_rules.specs.declared.opening.OpeningRequest.{OpeningRequest}
use Rattle.server_rules.specs.declared.opening.SecurityTokenRequestType.{SecurityTokenRequestType}
use Rattle.server_rules.specs.declared.opening.SecurityTokenRequestType.TheVariants as request_type
use Rattle.server_rules.specs.declared.waiting.Waiting.{Waiting}
use Rattle.server_rules.specs.State.{ServerState, conn_at, with_sub, is_conn}
use Rattle.server_rules.specs.Said.{Did, nothing}
use Rattle.server_rules.specs.Answering.{deafened, fault_reply, faulted, refused_on, replied, takes}
use Rattle.server_rules.specs.Moves.{has_notice, has_subs, oldest_waiting, owns, unqueued, waiting_of, waiting_on}
use Rattle.server_rules.specs.Publishing.{ack_results, acked, all_acked, driven_out, enqueued, first_of, late_sub, parked_of, publish, queued_on, sent, sent_on, taken, taken_by, turned, used, waiting_with}
use Rattle.server_rules.specs.Opening.{asked_at, granted, granted_on, is_unsecured, issued, opened_as, opened_by, opened_for, opening, opening_reply, opening_response, security_mode_of, token_renewed, with_channel, with_next_channel}
use Rattle.server_rules.specs.Requests.{asked, asker_of, done_for, noted, requested, served, sub_served, token_in}
use Rattle.server_rules.specs.Connecting.{acknowledged as welcomed, greeted, closed, closed_by, closing, greeted_by, greeting, hears, hears_by, hears_on, is_above, is_small, opened, with_new_conn}
use Rattle.server_rules.specs.Step.{Happening, Opens, Hears, Closes, Feeds, Ticks, Levels, after, ear_of, ears, fed, heard, leveled}
use Rattle.server_laws.specs.Lockstep.{AllWait, IsAtOnceOf, IsFault, IsReplied, MayHear, SaysOn, WaitsOn, IsGoodFor, IsTold}
use Rattle.server_laws.proofs.Serving.{Row, fault_row, served_row, KeptRow}
use Rattle.server_laws.proofs.Silent.{Tells, either_tells, from_tells, idle_tells, refused_spoken, replied_spoken, says_join, sent_on_tells, sent_tells, spoken_tells, then_tells, ticked_tells, told_tells, found_conn, unqueued_waits, numbers_of, with_numbers}
use Rattle.server_laws.proofs.Waiting.{map_waits, oldest_waits, requested_waits, unbound_waits, first_waits}

-- ---- a Publish of a session that is bound to such a connection

-- where a session is bound
abbrev pub BoundOn : (ℕ → Type 0) → ℕ → List Session → Type 0
BoundOn P session sessions = (conn : ℕ) → conn_of (session_at session sessions) ≡ Some conn → P conn

parked_by : (P : ℕ → Type 0) (b : Bool) (session : ℕ) (change : Session → Session) (x : Session) (sessions rest : List Session) → is_numbered session x ≡ b
    → ((y : Session) → session_at session (x ∷ sessions) ≡ Some y → WaitsOn P y → WaitsOn P (change y)) → WaitsOn P x × AllWait P sessions
    → (((y : Session) → session_at session sessions ≡ Some y → WaitsOn P y → WaitsOn P (change y)) → AllWait P rest)
    → AllWait P (cond b (change x ∷ sessions) (x ∷ rest))
parked_by P true session change x sessions rest test on h more =
    (on x (ap (λ b. cond b (Some x) (session_at session sessions)) test) h.0, h.1)
parked_by P false session change x sessions rest test on h more =
    (h.0, more (λ y is. on y (ap (λ b. cond b (Some x) (session_at session sessions)) test ∙ is)))

parked_first : (P : ℕ → Type 0) (session : ℕ) (change : Session → Session) (sessions : List Session)
    → ((y : Session) → session_at session sessions ≡ Some y → WaitsOn P y → WaitsOn P (change y)) → AllWait P sessions
    → AllWait P (at_first (is_numbered session) change sessions)
parked_first P session change [] on h = tt
parked_first P session change (x ∷ sessions) on h =
    parked_by P (is_numbered session x) session change x sessions (at_first (is_numbered session) change sessions) refl on h
    (λ later. parked_first P session change sessions later h.1)

parked_waits : (P : ℕ → Type 0) (session : ℕ) (publish : Parked) (sessions : List Session) → BoundOn P session sessions → AllWait P sessions
    → AllWait P (at_first (is_numbered session) (one.with_parked publish) sessions)
parked_waits P session publish sessions bound h =
    parked_first P session (one.with_parked publish) sessions (λ y is w conn own. inr (bound conn (ap conn_of is ∙ own))) h

-- a change that leaves where sessions are bound
bound_now : (session : ℕ) (change : Session → Session) (x : Session) (rest : Option Session) (b : Bool) → is_numbered session x ≡ b
    → (change x).counter ≡ x.counter → (change x).conn ≡ x.conn
    → conn_of (cond (is_numbered session (change x)) (Some (change x)) rest) ≡ conn_of (cond (is_numbered session x) (Some x) rest)
bound_now session change x rest true is same conn = rw (same, is) conn
bound_now session change x rest false is same conn = rw (same, is) refl

bound_later : (b : Bool) (x : Session) (rest later : Option Session) → conn_of rest ≡ conn_of later → conn_of (cond b (Some x) rest) ≡ conn_of (cond b (Some x) later)
bound_later true x rest later h = refl
bound_later false x rest later h = h

bound_by : (b : Bool) (session : ℕ) (change : Session → Session) (x : Session) (sessions rest : List Session) → (change x).counter ≡ x.counter
    → (change x).conn ≡ x.conn → conn_of (session_at session rest) ≡ conn_of (session_at session sessions)
    → conn_of (session_at session (cond b (change x ∷ sessions) (x ∷ rest))) ≡ conn_of (session_at session (x ∷ sessions))
bound_by true session change x sessions rest same conn h = bound_now session change x (session_at session sessions) (is_numbered session x) refl same conn
bound_by false session change x sessions rest same conn h = bound_later (is_numbered session x) x (session_at session rest) (session_at session sessions) h

bound_same : (session : ℕ) (test : Session → Bool) (change : Session → Session) (sessions : List Session) → ((x : Session) → (change x).counter ≡ x.counter)
    → ((x : Session) → (change x).conn ≡ x.conn) → conn_of (session_at session (at_first test change sessions)) ≡ conn_of (session_at session sessions)
bound_same session test change [] same conn = refl
bound_same session test change (x ∷ sessions) same conn =
    bound_by (test x) session change x sessions (at_first test change sessions) (same x) (conn x) (bound_same session test change sessions same conn)

-- ---- what becomes of it

acked_same : (session : ℕ) (ack : SubscriptionAcknowledgement) (s : ServerState) → (acked session ack s).sessions ≡ s.sessions
acked_same session ack s = by_owner (owns session ack.subscription_id s)
  where
    by_owner : (b : Bool) → (cond b (with_sub ack.subscription_id (acknowledged ack.sequence_number) s) s).sessions ≡ s.sessions
    by_owner true = refl
    by_owner false = refl

all_acked_same : (session : ℕ) (acks : List SubscriptionAcknowledgement) (s : ServerState) → (all_acked session acks s).sessions ≡ s.sessions
all_acked_same session [] s = refl
all_acked_same session (ack ∷ acks) s = all_acked_same session acks (acked session ack s) ∙ acked_same session ack s

acked_conns : (session : ℕ) (ack : SubscriptionAcknowledgement) (s : ServerState) → numbers_of (acked session ack s) ≡ numbers_of s
acked_conns session ack s = by_owner (owns session ack.subscription_id s)
  where
    by_owner : (b : Bool) → numbers_of (cond b (with_sub ack.subscription_id (acknowledged ack.sequence_number) s) s) ≡ numbers_of s
    by_owner true = refl
    by_owner false = refl

all_acked_conns : (session : ℕ) (acks : List SubscriptionAcknowledgement) (s : ServerState) → numbers_of (all_acked session acks s) ≡ numbers_of s
all_acked_conns session [] s = refl
all_acked_conns session (ack ∷ acks) s = all_acked_conns session acks (acked session ack s) ∙ acked_conns session ack s

fault_tells : (P : ℕ → Type 0) (asker : Asker) (code : ℕ) (s : ServerState) → P asker.conn → Tells P s (faulted asker code s)
fault_tells P asker code s p = spoken_tells P s _ (replied_spoken P asker (fault_reply asker.handle code s) s p)

driven_by : (P : ℕ → Type 0) (conn : ℕ) (publish : Option Parked) (waiting : Waiting) → waiting_of (Some conn) publish ≡ Some waiting → P conn → P waiting.asker.conn
driven_by P conn None waiting is p = absurd cc
driven_by P conn (Some publish) waiting is p = let same : waiting_on conn publish ≡ waiting = cc in subst (λ (w : Waiting). P w.asker.conn) same p

driven_out_tells : (P : ℕ → Type 0) (conn : ℕ) (publish : Option Parked) (waiting : Option Waiting) (s : ServerState) → waiting_of (Some conn) publish ≡ waiting → P conn
    → Tells P s (driven_out waiting s)
driven_out_tells P conn publish None s is p = idle_tells P s
driven_out_tells P conn publish (Some waiting) s is p = fault_tells P waiting.asker bad_too_many_publish_requests s (driven_by P conn publish waiting is p)

queued_on_tells : (P : ℕ → Type 0) (conn : Option ℕ) (waiting : Waiting) (session : ℕ) (s : ServerState) → conn_of (session_at session s.sessions.sessions) ≡ conn
    → BoundOn P session s.sessions.sessions → Tells P s (queued_on conn waiting session s)
queued_on_tells P None waiting session s is bound = idle_tells P s
queued_on_tells P (Some conn) waiting session s is bound =
    from_tells P s (record s { sessions = parked session (parked_of waiting) s.sessions }) _ refl
    (λ h. parked_waits P session (parked_of waiting) s.sessions.sessions bound h)
    (driven_out_tells P conn (driven_out_of (session_at session s.sessions.sessions)) _ _ refl (bound conn is))

enqueued_tells : (P : ℕ → Type 0) (waiting : Waiting) (session : ℕ) (s : ServerState) → BoundOn P session s.sessions.sessions → Tells P s (enqueued waiting session s)
unfolding enqueued
enqueued_tells P waiting session s bound = queued_on_tells P (conn_of (session_at session s.sessions.sessions)) waiting session s refl bound

first_conn : (P : ℕ → Type 0) (session : ℕ) (s : ServerState) (oldest : Option Waiting) (waiting : Waiting) → oldest_waiting session s ≡ oldest
    → AllWait P s.sessions.sessions → P waiting.asker.conn → P (first_of oldest waiting).asker.conn
first_conn P session s None waiting is h p = p
first_conn P session s (Some oldest) waiting is h p = oldest_waits P session s oldest h is

turned_waits : (P : ℕ → Type 0) (oldest : Option Waiting) (waiting : Waiting) (session : ℕ) (s : ServerState) → BoundOn P session s.sessions.sessions
    → AllWait P s.sessions.sessions → AllWait P (turned oldest waiting session s).sessions.sessions
turned_waits P None waiting session s bound h = h
turned_waits P (Some oldest) waiting session s bound h =
    parked_waits P session (parked_of waiting) (unqueued session s).sessions.sessions
    (λ conn is. bound conn (sym (bound_same session (is_numbered session) one.without_oldest s.sessions.sessions (λ x. refl) (λ x. refl)) ∙ is))
    (unqueued_waits P session s h)

turned_numbers : (oldest : Option Waiting) (waiting : Waiting) (session : ℕ) (s : ServerState) → numbers_of (turned oldest waiting session s) ≡ numbers_of s
turned_numbers None waiting session s = refl
turned_numbers (Some oldest) waiting session s = refl

used_tells : (P : ℕ → Type 0) (waiting : Waiting) (id session : ℕ) (s : ServerState) → P waiting.asker.conn → BoundOn P session s.sessions.sessions
    → Tells P s (used waiting id session s)
unfolding used
used_tells P waiting id session s p bound = λ h.
    let first : Waiting = first_of (oldest_waiting session s) waiting in
    let queue : ServerState = turned (oldest_waiting session s) waiting session s in
    let one = then_tells P queue (sent_on id session) (sent first id queue)
    (sent_tells P first id queue (first_conn P session s (oldest_waiting session s) waiting refl h p))
    (sent_on_tells P id session (sent first id queue).state) (turned_waits P (oldest_waiting session s) waiting session s bound h) in
    record { told = one.told; numbers = one.numbers ∙ turned_numbers (oldest_waiting session s) waiting session s }

taken_by_tells : (P : ℕ → Type 0) (sub : Option SubState) (waiting : Waiting) (session : ℕ) (s : ServerState) → P waiting.asker.conn → BoundOn P session s.sessions.sessions
    → Tells P s (taken_by sub waiting session s)
taken_by_tells P None waiting session s p bound = enqueued_tells P waiting session s bound
taken_by_tells P (Some sub) waiting session s p bound = used_tells P waiting sub.spec.id session s p bound

taken_tells : (P : ℕ → Type 0) (waiting : Waiting) (session : ℕ) (s : ServerState) → P waiting.asker.conn → BoundOn P session s.sessions.sessions
    → Tells P s (taken waiting session s)
unfolding taken
taken_tells P waiting session s p bound =
    either_tells P (has_notice session s) s _ _ (told_tells P waiting session s p)
    (either_tells P (has_subs session s) s _ _ (taken_by_tells P (late_sub session s) waiting session s p bound)
    (fault_tells P waiting.asker bad_no_subscription s p))

publish_tells : (P : ℕ → Type 0) (asker : Asker) (session : ℕ) (r : PublishRequest) (s : ServerState) → P asker.conn → BoundOn P session s.sessions.sessions
    → Tells P s (publish asker session r s)
unfolding publish
publish_tells P asker session r s p bound =
    either_tells P (nat_lt 1000 (length r.subscription_acknowledgements)) s _ _ (fault_tells P asker bad_too_many_operations s p)
    (from_tells P s (all_acked session r.subscription_acknowledgements s) _ (all_acked_conns session r.subscription_acknowledgements s)
    (λ h. subst (λ sessions. AllWait P sessions.sessions) (sym (all_acked_same session r.subscription_acknowledgements s)) h)
    (taken_tells P (waiting_with asker (ack_results session r.subscription_acknowledgements s)) session (all_acked session r.subscription_acknowledgements s) p
    (subst (λ sessions. BoundOn P session sessions.sessions) (sym (all_acked_same session r.subscription_acknowledgements s)) bound)))

-- ---- a session that is checked is bound to the connection

pub record IsChecked (conn session : ℕ) (found : Option Session) : Type 0 where
  pub x : Session
  pub is : found ≡ Some x
  pub counter : x.counter ≡ session
  pub bound : is_bound_to conn x ≡ true

check_by : (bound activated : Bool) (conn session : ℕ) (x : Session) → is_bound_to conn x ≡ bound
    → cond bound (cond activated (Ok x.counter) (Err bad_session_not_activated)) (Err bad_secure_channel_id_invalid) ≡ Ok session → IsChecked conn session (Some x)
check_by true true conn session x test is = record { x = x; is = refl; counter = cc; bound = test }
check_by true false conn session x test is = absurd cc
check_by false activated conn session x test is = absurd cc

pub checked : (conn session : ℕ) (found : Option Session) → table.answer_of bad_session_id_invalid (one.check_answer conn) found ≡ Ok session → IsChecked conn session found
checked conn session None is = absurd cc
checked conn session (Some x) is = check_by (is_bound_to conn x) x.activated conn session x refl is

-- the first session of a token is the first of its counter
first_by : (b : Bool) (boot : ℕ) (token : Option (List ℕ)) (y x : Session) (rest numbered : Option Session) → has_token boot token y ≡ b
    → cond b (Some y) rest ≡ Some x → (rest ≡ Some x → (numbered ≡ Some x) × (has_token boot token x ≡ true))
    → (cond (is_numbered x.counter y) (Some y) numbered ≡ Some x) × (has_token boot token x ≡ true)
first_by true boot token y x rest numbered test is on =
    let same : y ≡ x = cc in
    let own : (y.counter == x.counter) ≡ true = subst (λ (z : Session). (y.counter == z.counter) ≡ true) same (grind (arith, nat_tests)) in
    (ap (λ b. cond b (Some y) numbered) own ∙ is, subst (λ (z : Session). has_token boot token z ≡ true) same test)
first_by false boot token y x rest numbered test is on = by_counter (y.counter == x.counter) refl
  where
    by_counter : (b : Bool) → (y.counter == x.counter) ≡ b → (cond (is_numbered x.counter y) (Some y) numbered ≡ Some x) × (has_token boot token x ≡ true)
    by_counter true own =
        let same : y.counter ≡ x.counter = grind (arith, nat_tests) in
        let known : is_token_of boot x.counter token ≡ true = (on is).1 in
        let wrong : true ≡ false = sym known ∙ sym (ap (λ n. is_token_of boot n token) same) ∙ test in
        absurd cc
    by_counter false own = (ap (λ b. cond b (Some y) numbered) own ∙ (on is).0, (on is).1)

pub first_of_token : (boot : ℕ) (token : Option (List ℕ)) (sessions : List Session) (x : Session) → find (has_token boot token) sessions ≡ Some x
    → (session_at x.counter sessions ≡ Some x) × (has_token boot token x ≡ true)
first_of_token boot token [] x is = absurd cc
first_of_token boot token (y ∷ sessions) x is =
    first_by _ boot token y x (find (has_token boot token) sessions) (session_at x.counter sessions) refl is (first_of_token boot token sessions x)

bound_is : (conn other : ℕ) (bound : Option ℕ) → one.is_conn conn bound ≡ true → bound ≡ Some other → conn ≡ other
bound_is conn other None test is = absurd cc
bound_is conn other (Some number) test is =
    let own : number ≡ conn = grind (arith, nat_tests) in
    let same : number ≡ other = cc in
    sym own ∙ same

requested_counter : (conn now : ℕ) (x : Session) → (one.requested conn now x).counter ≡ x.counter
requested_counter conn now x = by_bound (is_bound_to conn x)
  where
    by_bound : (b : Bool) → (cond b (record x { last = now }) x).counter ≡ x.counter
    by_bound true = refl
    by_bound false = refl

requested_conn : (conn now : ℕ) (x : Session) → (one.requested conn now x).conn ≡ x.conn
requested_conn conn now x = by_bound (is_bound_to conn x)
  where
    by_bound : (b : Bool) → (cond b (record x { last = now }) x).conn ≡ x.conn
    by_bound true = refl
    by_bound false = refl

checked_bound : (P : ℕ → Type 0) (asker : Asker) (token : Option (List ℕ)) (session : ℕ) (s : ServerState) → P asker.conn
    → check_answer token asker.conn s.sessions ≡ Ok session → BoundOn P session (noted asker token s).sessions.sessions
checked_bound P asker token session s p is conn found =
    let c = checked asker.conn session (session_of token s.sessions) is in
    let x : Session = c.x in
    let first = first_of_token s.sessions.boot token s.sessions.sessions x c.is in
    let before : conn_of (session_at session s.sessions.sessions) ≡ Some conn =
    sym (bound_same session (has_token s.sessions.boot token) (one.requested asker.conn s.age) s.sessions.sessions
    (requested_counter asker.conn s.age) (requested_conn asker.conn s.age)) ∙ found in
    let own : x.conn ≡ Some conn = sym (ap conn_of (sym (ap (λ n. session_at n s.sessions.sessions) c.counter) ∙ first.0)) ∙ before in
    subst P (bound_is asker.conn conn x.conn c.bound own) p

-- ---- whatever comes on such a connection

-- an answer to one who asks on such a connection
answered_tells : (P : ℕ → Type 0) (asker : Asker) (Good : Reply → Type 0) (s : ServerState) (did : Did) → P asker.conn → Row P asker Good s did → Tells P s did
answered_tells P asker Good s did p row h =
    let kept = row h in
    let one = kept.answered in
    record {
      told = record {
        on = subst (SaysOn P) (sym one.said) (says_join P one.front (replied asker one.answer one.from).said one.on (replied_spoken P asker one.answer one.from p).on);
        waits = one.waits;
      };
      numbers = kept.numbers;
    }

publish_for : (P : ℕ → Type 0) (asker : Asker) (r : PublishRequest) (token : Option (List ℕ)) (answer : Result ℕ ℕ) (s : ServerState) → P asker.conn
    → check_answer token asker.conn s.sessions ≡ answer
    → Tells P (noted asker token s) (done_for (λ session. sub_served asker (sub_request.Publish r) session) asker answer (noted asker token s))
unfolding sub_served
publish_for P asker r token (Ok session) s p is = publish_tells P asker session r (noted asker token s) p (checked_bound P asker token session s p is)
publish_for P asker r token (Err code) s p is = fault_tells P asker code (noted asker token s) p

publish_served : (P : ℕ → Type 0) (asker : Asker) (r : PublishRequest) (s : ServerState) → P asker.conn
    → Tells P s (served asker (request.Subscription (sub_request.Publish r)) s)
unfolding served
publish_served P asker r s p =
    let token : Option (List ℕ) = token_in (sub_header (sub_request.Publish r)) in
    from_tells P s (noted asker token s) _ refl
    (λ h. first_waits P (has_token s.sessions.boot token) (one.requested asker.conn s.age) s.sessions.sessions (requested_waits P asker.conn s.age) h)
    (publish_for P asker r token (check_answer token asker.conn s.sessions) s p refl)

sub_tells : (P : ℕ → Type 0) (asker : Asker) (r : SubRequest) (s : ServerState) → P asker.conn → Tells P s (served asker (request.Subscription r) s)
sub_tells P asker (sub_request.CreateMonitoredItems r) s p = answered_tells P asker _ s _ p (served_row P asker (request.Subscription (sub_request.CreateMonitoredItems r)) s tt)
sub_tells P asker (sub_request.SetMonitoringMode r) s p = answered_tells P asker _ s _ p (served_row P asker (request.Subscription (sub_request.SetMonitoringMode r)) s tt)
sub_tells P asker (sub_request.DeleteMonitoredItems r) s p = answered_tells P asker _ s _ p (served_row P asker (request.Subscription (sub_request.DeleteMonitoredItems r)) s tt)
sub_tells P asker (sub_request.CreateSubscription r) s p = answered_tells P asker _ s _ p (served_row P asker (request.Subscription (sub_request.CreateSubscription r)) s tt)
sub_tells P asker (sub_request.ModifySubscription r) s p = answered_tells P asker _ s _ p (served_row P asker (request.Subscription (sub_request.ModifySubscription r)) s tt)
sub_tells P asker (sub_request.SetPublishingMode r) s p = answered_tells P asker _ s _ p (served_row P asker (request.Subscription (sub_request.SetPublishingMode r)) s tt)
sub_tells P asker (sub_request.Publish r) s p = publish_served P asker r s p
sub_tells P asker (sub_request.Republish r) s p = answered_tells P asker _ s _ p (served_row P asker (request.Subscription (sub_request.Republish r)) s tt)
sub_tells P asker (sub_request.TransferSubscriptions r) s p = answered_tells P asker _ s _ p (served_row P asker (request.Subscription (sub_request.TransferSubscriptions r)) s tt)
sub_tells P asker (sub_request.DeleteSubscriptions r) s p = answered_tells P asker _ s _ p (served_row P asker (request.Subscription (sub_request.DeleteSubscriptions r)) s tt)

served_tells : (P : ℕ → Type 0) (asker : Asker) (r : Request) (s : ServerState) → P asker.conn → Tells P s (served asker r s)
served_tells P asker (request.Session r) s p = answered_tells P asker _ s _ p (served_row P asker (request.Session r) s tt)
served_tells P asker (request.Subscription r) s p = sub_tells P asker r s p

asked_tells : (P : ℕ → Type 0) (conn number : ℕ) (r : Result Request RequestFault) (s : ServerState) → P conn → Tells P s (asked conn number r s)
asked_tells P conn number (Ok r) s p = served_tells P (asker_of conn number (header_of r).request_handle) r s p
asked_tells P conn number (Err faults.Header) s p = fault_tells P (asker_of conn number 0) bad_decoding_error s p
asked_tells P conn number (Err (faults.Service handle)) s p = fault_tells P (asker_of conn number handle) bad_service_unsupported s p
asked_tells P conn number (Err (faults.Body handle)) s p = fault_tells P (asker_of conn number handle) bad_decoding_error s p
asked_tells P conn number (Err faults.OutOfMemory) s p = idle_tells P s

requested_tells : (P : ℕ → Type 0) (conn number : ℕ) (body : List ℕ) (s : ServerState) → P conn → Tells P s (requested conn number body s)
unfolding requested
requested_tells P conn number body s p = asked_tells P conn number (request_at body) s p

refused_tells : (P : ℕ → Type 0) (conn : Conn) (code : ℕ) (s : ServerState) → P conn.number → Tells P s (refused_on conn code s)
refused_tells P conn code s p = spoken_tells P s _ (refused_spoken P conn code s p)

granted_on_tells : (P : ℕ → Type 0) (conn : Conn) (number : ℕ) (response : OpenSecureChannelResponse) (s : ServerState) → P conn.number
    → Tells P s (granted_on conn number response s)
unfolding granted_on
granted_on_tells P conn number response s p h = record { told = record { on = (p, (p, tt)); waits = h }; numbers = with_numbers conn s }

granted_tells : (P : ℕ → Type 0) (channel token : ℕ) (conn : Conn) (number : ℕ) (a : OpeningRequest) (s : ServerState) → P conn.number
    → Tells P s (granted channel token conn number a s)
unfolding granted
granted_tells P channel token conn number a s p =
    either_tells P (takes conn (opening_reply (opening_response (with_channel channel token conn) a s))) s _ _
    (granted_on_tells P (with_channel channel token conn) number (opening_response (with_channel channel token conn) a s) s p)
    (refused_tells P conn bad_tcp_message_too_large s p)

issued_tells : (P : ℕ → Type 0) (conn : Conn) (number : ℕ) (a : OpeningRequest) (s : ServerState) → P conn.number → Tells P s (issued conn number a s)
unfolding issued
issued_tells P conn number a s p =
    from_tells P s (with_next_channel s) _ refl (λ h. h) (granted_tells P (after_message s.channels_given) 1 conn number a (with_next_channel s) p)

renewed_tells : (P : ℕ → Type 0) (conn : Conn) (number : ℕ) (a : OpeningRequest) (s : ServerState) → P conn.number → Tells P s (token_renewed conn number a s)
unfolding token_renewed
renewed_tells P conn number a s p = granted_tells P conn.channel (after_message conn.token) conn number a s p

opened_as_tells : (P : ℕ → Type 0) (e : Ear) (t : Option SecurityTokenRequestType) (channel : ℕ) (conn : Conn) (number : ℕ) (a : OpeningRequest) (s : ServerState)
    → P conn.number → Tells P s (opened_as e t channel conn number a s)
opened_as_tells P ear.Opening (Some request_type.Issue) channel conn number a s p = issued_tells P conn number a s p
opened_as_tells P ear.Open (Some request_type.Renew) channel conn number a s p =
    either_tells P _ s _ _ (renewed_tells P conn number a s p) (refused_tells P conn bad_tcp_secure_channel_unknown s p)
opened_as_tells P _ _ channel conn number a s p = refused_tells P conn bad_tcp_secure_channel_unknown s p

opened_for_tells : (P : ℕ → Type 0) (channel : ℕ) (follows : Bool) (conn : Conn) (number : ℕ) (a : OpeningRequest) (s : ServerState) → P conn.number
    → Tells P s (opened_for channel follows conn number a s)
unfolding opened_for
opened_for_tells P channel follows conn number a s p =
    either_tells P (not follows) s _ _ (refused_tells P conn bad_sequence_number_invalid s p)
    (either_tells P (not (is_unsecured (security_mode_of a.security_mode))) s _ _ (refused_tells P conn bad_security_policy_rejected s p)
    (opened_as_tells P conn.ear _ channel conn number a s p))

opened_by_tells : (P : ℕ → Type 0) (a : Option OpeningRequest) (channel : ℕ) (follows : Bool) (conn : Conn) (number : ℕ) (s : ServerState) → P conn.number
    → Tells P s (opened_by a channel follows conn number s)
opened_by_tells P None channel follows conn number s p = refused_tells P conn bad_decoding_error s p
opened_by_tells P (Some a) channel follows conn number s p = opened_for_tells P channel follows conn number a s p

opening_tells : (P : ℕ → Type 0) (channel : ℕ) (follows : Bool) (number : ℕ) (body : List ℕ) (conn : Conn) (s : ServerState) → P conn.number
    → Tells P s (opening channel follows number body conn s)
unfolding opening
opening_tells P channel follows number body conn s p = opened_by_tells P (asked_at body) channel follows conn number s p

welcomed_tells : (P : ℕ → Type 0) (hello : Greeting) (conn : Conn) (s : ServerState) → P conn.number → Tells P s (welcomed hello conn s)
unfolding welcomed
welcomed_tells P hello conn s p h = record { told = record { on = (p, (p, tt)); waits = h }; numbers = with_numbers (greeted hello conn) s }

greeted_tells : (P : ℕ → Type 0) (read : Result (Greeting × Option (List ℕ)) Fault) (conn : Conn) (s : ServerState) → P conn.number → Tells P s (greeted_by read conn s)
greeted_tells P (Ok hello) conn s p =
    either_tells P (is_small hello.0) s _ _ (refused_tells P conn bad_decoding_error s p) (welcomed_tells P hello.0 conn s p)
greeted_tells P (Err fault) conn s p = refused_tells P conn bad_decoding_error s p

greeting_tells : (P : ℕ → Type 0) (body : List ℕ) (conn : Conn) (s : ServerState) → P conn.number → Tells P s (greeting body conn s)
unfolding greeting
greeting_tells P body conn s p = greeted_tells P (value_of (whole_at hello_at (input 0 body))) conn s p

closing_tells : (P : ℕ → Type 0) (conn : Conn) (s : ServerState) → Tells P s (closing conn s)
unfolding closing
closing_tells P conn s h = record { told = record { on = tt; waits = h }; numbers = with_numbers (deafened conn) s }

hears_on_tells : (P : ℕ → Type 0) (h : Heard) (conn : Conn) (s : ServerState) → P conn.number → Tells P s (hears_on h conn s)
hears_on_tells P (heard_as.Greeting body) conn s p = greeting_tells P body conn s p
hears_on_tells P (heard_as.Opening channel follows number body) conn s p = opening_tells P channel follows number body conn s p
hears_on_tells P (heard_as.Message number body) conn s p = requested_tells P conn.number number body s p
hears_on_tells P heard_as.Close conn s p = closing_tells P conn s
hears_on_tells P (heard_as.Fault code) conn s p = refused_tells P conn code s p

hears_by_tells : (P : ℕ → Type 0) (number : ℕ) (found : Option Conn) (h : Heard) (s : ServerState) → conn_at number s.conns ≡ found → P number
    → Tells P s (hears_by found h s)
hears_by_tells P number None h s is p = idle_tells P s
hears_by_tells P number (Some conn) h s is p = hears_on_tells P h conn s (subst P (sym (found_conn number s.conns conn is)) p)

pub heard_tells : (P : ℕ → Type 0) (number : ℕ) (h : Heard) (s : ServerState) → P number → Tells P s (heard number h s)
unfolding heard hears
heard_tells P number h s p =
    either_tells P (is_deaf (ears number s)) s _ _ (idle_tells P s) (hears_by_tells P number (conn_at number s.conns) h s refl p)

-- connections come and go
begun_told : (P : ℕ → Type 0) (b : Bool) (number : ℕ) (s : ServerState) → AllWait P s.sessions.sessions
    → IsTold P (cond b (nothing (with_new_conn number s)) (nothing s))
begun_told P true number s h = record { on = tt; waits = h }
begun_told P false number s h = record { on = tt; waits = h }

opened_told : (P : ℕ → Type 0) (number : ℕ) (s : ServerState) → AllWait P s.sessions.sessions → IsTold P (opened number s)
unfolding opened
opened_told P number s h = begun_told P (is_above s.highest number) number s h

closed_by_told : (P : ℕ → Type 0) (conn : Option Conn) (number : ℕ) (s : ServerState) → AllWait P s.sessions.sessions → IsTold P (closed_by conn number s)
closed_by_told P None number s h = record { on = tt; waits = h }
closed_by_told P (Some conn) number s h =
    record { on = tt; waits = map_waits P (one.unbound_from number) s.sessions.sessions (unbound_waits P number) h }

closed_told : (P : ℕ → Type 0) (number : ℕ) (s : ServerState) → AllWait P s.sessions.sessions → IsTold P (closed number s)
unfolding closed
closed_told P number s h = closed_by_told P (conn_at number s.conns) number s h

pub fed_tells : (P : ℕ → Type 0) (change : Change) (s : ServerState) → Tells P s (fed change s)
unfolding fed
fed_tells P change s h = record { told = record { on = tt; waits = h }; numbers = refl }

pub leveled_tells : (P : ℕ → Type 0) (level : ℕ) (s : ServerState) → Tells P s (leveled level s)
unfolding leveled
leveled_tells P level s h = record { told = record { on = tt; waits = h }; numbers = refl }

pub after_tells : (P : ℕ → Type 0) (happening : Happening) (s : ServerState) → MayHear P happening → AllWait P s.sessions.sessions
    → IsTold P (after happening s)
after_tells P (Opens number) s may h = opened_told P number s h
after_tells P (Hears number heard_now) s may h = (heard_tells P number heard_now s may h).told
after_tells P (Closes number) s may h = closed_told P number s h
after_tells P (Feeds change) s may h = (fed_tells P change s h).told
after_tells P (Ticks ms) s may h = (ticked_tells P ms s h).told
after_tells P (Levels level) s may h = (leveled_tells P level s h).told

-- ---- a request on a connection on which no Publish waits

never_faulted : (handle : ℕ) (read : Result Request BodyFault) → asked_by handle read ≡ Err faults.OutOfMemory → ⊥
never_faulted handle (Ok r) is = absurd cc
never_faulted handle (Err fault) is = absurd cc

never_asked : (b : Bool) (handle : ℕ) (read : Result Request BodyFault) → cond b (asked_by handle read) (Err (faults.Service handle)) ≡ Err faults.OutOfMemory → ⊥
never_asked true handle read is = never_faulted handle read is
never_asked false handle read is = absurd cc

never_of : (handle : ℕ) (bytes : List ℕ) (t : Result BodyType BodyFault) → asked_of handle bytes t ≡ Err faults.OutOfMemory → ⊥
never_of handle bytes (Ok t) is = never_asked (names_service (service requests t.id)) handle (body_at requests bytes) is
never_of handle bytes (Err fault) is = absurd cc

never_behind : (bytes : List ℕ) (header : Result RequestHeader BodyFault) → asked_behind bytes header ≡ Err faults.OutOfMemory → ⊥
never_behind bytes (Ok header) is = never_of header.request_handle bytes (body_type_at bytes) is
never_behind bytes (Err fault) is = absurd cc

-- the same connections are there
there_by : (b : Bool) (number : ℕ) (x y c : Conn) (rest others : Option Conn) → (y.number == number) ≡ b → x.number ≡ y.number
    → (others ≡ Some c → (d : Conn) × (rest ≡ Some d)) → cond b (Some y) others ≡ Some c → (d : Conn) × (cond (is_conn number x) (Some x) rest ≡ Some d)
there_by true number x y c rest others test same on is =
    let own : (x.number == number) ≡ true = ap (λ n. n == number) same ∙ test in
    (x, ap (λ b. cond b (Some x) rest) own)
there_by false number x y c rest others test same on is =
    let own : (x.number == number) ≡ false = ap (λ n. n == number) same ∙ test in
    let more = on is in
    (more.0, ap (λ b. cond b (Some x) rest) own ∙ more.1)

pub there : (number : ℕ) (conns others : List Conn) (c : Conn) → map (λ (conn : Conn). conn.number) conns ≡ map (λ (conn : Conn). conn.number) others
    → conn_at number others ≡ Some c → (d : Conn) × (conn_at number conns ≡ Some d)
there number conns [] c same is = absurd cc
there number [] (y ∷ others) c same is = absurd cc
there number (x ∷ conns) (y ∷ others) c same is =
    let head : x.number ≡ y.number = cc in
    let tail : map (λ (conn : Conn). conn.number) conns ≡ map (λ (conn : Conn). conn.number) others = cc in
    there_by (is_conn number y) number x y c (conn_at number conns) (conn_at number others) refl head (there number conns others c tail) is

row_replied : (P : ℕ → Type 0) (conn number handle : ℕ) (r : Result Request RequestFault) (s : ServerState) (did : Did) (c : Conn) → conn_at conn s.conns ≡ Some c
    → KeptRow P (asker_of conn number handle) (IsGoodFor r s.subs) s did → IsReplied P conn number r s did
row_replied P conn number handle r s did c is kept =
    record { handle = handle; answered = kept.answered; there = there conn kept.answered.from.conns s.conns c (ap (λ (numbers : Option ℕ × List ℕ). numbers.1) kept.from_numbers) is }

asked_row : (P : ℕ → Type 0) (conn number : ℕ) (r : Result Request RequestFault) (s : ServerState) (c : Conn) → conn_at conn s.conns ≡ Some c
    → (r ≡ Err faults.OutOfMemory → ⊥) → IsAtOnceOf r → AllWait P s.sessions.sessions → IsReplied P conn number r s (asked conn number r s)
asked_row P conn number (Ok r) s c is never at_once h =
    row_replied P conn number (header_of r).request_handle (Ok r) s (asked conn number (Ok r) s) c is (served_row P (asker_of conn number (header_of r).request_handle) r s at_once h)
asked_row P conn number (Err faults.Header) s c is never at_once h =
    row_replied P conn number 0 (Err faults.Header) s (asked conn number (Err faults.Header) s) c is
    (fault_row P (asker_of conn number 0) IsFault bad_decoding_error s (λ handle code t. refl) h)
asked_row P conn number (Err (faults.Service handle)) s c is never at_once h =
    row_replied P conn number handle (Err (faults.Service handle)) s (asked conn number (Err (faults.Service handle)) s) c is
    (fault_row P (asker_of conn number handle) IsFault bad_service_unsupported s (λ handle code t. refl) h)
asked_row P conn number (Err (faults.Body handle)) s c is never at_once h =
    row_replied P conn number handle (Err (faults.Body handle)) s (asked conn number (Err (faults.Body handle)) s) c is
    (fault_row P (asker_of conn number handle) IsFault bad_decoding_error s (λ handle code t. refl) h)
asked_row P conn number (Err faults.OutOfMemory) s c is never at_once h = absurd (never refl)

requested_row : (P : ℕ → Type 0) (conn number : ℕ) (body : List ℕ) (s : ServerState) (c : Conn) → conn_at conn s.conns ≡ Some c → IsAtOnceOf (request_at body)
    → AllWait P s.sessions.sessions → IsReplied P conn number (request_at body) s (requested conn number body s)
unfolding requested
requested_row P conn number body s c is at_once h = asked_row P conn number (request_at body) s c is (never_behind body (header_at body)) at_once h

message_row : (P : ℕ → Type 0) (conn number : ℕ) (body : List ℕ) (s : ServerState) (found : Option Conn) → conn_at conn s.conns ≡ found → is_deaf (ear_of found) ≡ false
    → IsAtOnceOf (request_at body) → AllWait P s.sessions.sessions → IsReplied P conn number (request_at body) s (hears_by found (heard_as.Message number body) s)
message_row P conn number body s None is hears at_once h = absurd cc
message_row P conn number body s (Some c) is hears at_once h =
    subst (λ n. IsReplied P conn number (request_at body) s (requested n number body s)) (sym (found_conn conn s.conns c is)) (requested_row P conn number body s c is at_once h)

heard_by : (P : ℕ → Type 0) (conn number : ℕ) (r : Result Request RequestFault) (s : ServerState) (b : Bool) (did : Did) → b ≡ false
    → IsReplied P conn number r s did → IsReplied P conn number r s (cond b (nothing s) did)
heard_by P conn number r s true did is h = absurd cc
heard_by P conn number r s false did is h = h

pub replied_at_once : (P : ℕ → Type 0) (conn number : ℕ) (body : List ℕ) (s : ServerState) → is_deaf (ears conn s) ≡ false → IsAtOnceOf (request_at body)
    → AllWait P s.sessions.sessions → IsReplied P conn number (request_at body) s (after (Hears conn (heard_as.Message number body)) s)
unfolding heard hears
replied_at_once P conn number body s hears at_once h =
    heard_by P conn number (request_at body) s (is_deaf (ears conn s)) _ hears
    (message_row P conn number body s (conn_at conn s.conns) refl hears at_once h)
