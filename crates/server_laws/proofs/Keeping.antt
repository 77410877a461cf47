-- What leaves the sessions as they are, and what ends them.
use Rattle.std.proofs.Common.{◌≡◌, ℕ, List, [], ◌∷◌, Bool, true, false, cond, not, map, Option, Some, None, refl, sym, ap, ◌∙◌, subst, arith, inl, inr}
use Rattle.std.specs.Prelude.{Result, Ok, Err}
use Rattle.std.proofs.lemmas.Bool.Decides.{nat_tests}
use Rattle.ua_base.specs.Number.{after_message}
use Rattle.ua_base.specs.Status.{bad_decoding_error, bad_security_policy_rejected, bad_sequence_number_invalid, bad_tcp_message_too_large, bad_tcp_secure_channel_unknown}
use Rattle.sessions.specs.declared.session.Session.{Session}
use Rattle.sessions.specs.Session as one
use Rattle.sessions.specs.Session.{is_bound_to}
use Rattle.sessions.specs.State.{SessionsState}
use Rattle.ua_values.specs.Reading.{Fault, input}
use Rattle.ua_chunks.specs.Bodies.{hello_at, value_of, whole_at}
use Rattle.ua_chunks.specs.declared.greeting.Greeting.{Greeting}
use Rattle.ua_channel.specs.declared.ear.Ear.{Ear}
use Rattle.ua_channel.specs.declared.ear.Ear.TheVariants as ear
use Rattle.ua_channel.specs.declared.heard.Heard.{Heard}
use Rattle.ua_channel.specs.declared.heard.Heard.TheVariants as heard_as
use Rattle.ua_channel.specs.State.{is_deaf}
use Rattle.ua_session_msgs.specs.declared.channel.OpenSecureChannelResponse.{OpenSecureChannelResponse}
use Rattle.ua_sub_msgs.specs.declared.request.SubRequest.TheVariants as sub_request
use Rattle.ua_sub_msgs.specs.declared.subscription.TransferSubscriptionsRequest.{TransferSubscriptionsRequest}
use Rattle.ua_services.specs.declared.request.Request.TheVariants as request
use Rattle.ua_services.specs.Requests.{request_at}
use Rattle.server_rules.specs.declared.conn.Conn.{Conn}
use Rattle.server_rules.specs.declared.opening.OpeningRequest.{OpeningRequest}
use Rattle.server_rules.specs.declared.opening.SecurityTokenRequestType.{SecurityTokenRequestType}
use Rattle.server_rules.specs.declared.opening.SecurityTokenRequestType.TheVariants as request_type
use Rattle.server_rules.specs.State.{ServerState, conn_at}
use Rattle.server_rules.specs.Said.{Did, Said, nothing}
use Rattle.server_rules.specs.Answering.{refused_on, takes}
use Rattle.server_rules.specs.Opening.{asked_at, granted, granted_on, is_unsecured, issued, opened_as, opened_by, opened_for, opening, opening_reply, opening_response, security_mode_of, token_renewed, with_channel, with_next_channel}
use Rattle.server_rules.specs.Connecting.{acknowledged as welcomed, closed, closed_by, closing, greeted_by, greeting, hears, hears_by, hears_on, is_small}
use Rattle.server_rules.specs.Step.{Happening, Hears, Closes, after, ears, heard}
use Rattle.server_laws.specs.Lockstep.{AllWait, Anywhere, IsAtOnceOf, IsNoPublish, IsQuiet, IsReplied, MayHear, Never, NoneWaits, Other, SaysOn, WaitsOn}
use Rattle.server_laws.proofs.Quieting.{after_tells, replied_at_once}
use Rattle.server_laws.proofs.Silent.{refused_spoken}

-- ---- all but messages leaves the sessions

abbrev pub Stays : ServerState → Did → Type 0
Stays s did = did.state.sessions ≡ s.sessions

either_stays : (b : Bool) (s : ServerState) (first other : Did) → Stays s first → Stays s other → Stays s (cond b first other)
either_stays true s first other h rest = h
either_stays false s first other h rest = rest

refused_stays : (conn : Conn) (code : ℕ) (s : ServerState) → Stays s (refused_on conn code s)
refused_stays conn code s = (refused_spoken Anywhere conn code s tt).same

granted_on_stays : (conn : Conn) (number : ℕ) (response : OpenSecureChannelResponse) (s : ServerState) → Stays s (granted_on conn number response s)
unfolding granted_on
granted_on_stays conn number response s = refl

granted_stays : (channel token : ℕ) (conn : Conn) (number : ℕ) (a : OpeningRequest) (s : ServerState) → Stays s (granted channel token conn number a s)
unfolding granted
granted_stays channel token conn number a s =
    either_stays (takes conn (opening_reply (opening_response (with_channel channel token conn) a s))) s _ _
    (granted_on_stays (with_channel channel token conn) number (opening_response (with_channel channel token conn) a s) s)
    (refused_stays conn bad_tcp_message_too_large s)

issued_stays : (conn : Conn) (number : ℕ) (a : OpeningRequest) (s : ServerState) → Stays s (issued conn number a s)
unfolding issued
issued_stays conn number a s = granted_stays (after_message s.channels_given) 1 conn number a (with_next_channel s)

renewed_stays : (conn : Conn) (number : ℕ) (a : OpeningRequest) (s : ServerState) → Stays s (token_renewed conn number a s)
unfolding token_renewed
renewed_stays conn number a s = granted_stays conn.channel (after_message conn.token) conn number a s

opened_as_stays : (e : Ear) (t : Option SecurityTokenRequestType) (channel : ℕ) (conn : Conn) (number : ℕ) (a : OpeningRequest) (s : ServerState)
    → Stays s (opened_as e t channel conn number a s)
opened_as_stays ear.Opening (Some request_type.Issue) channel conn number a s = issued_stays conn number a s
opened_as_stays ear.Open (Some request_type.Renew) channel conn number a s =
    either_stays _ s _ _ (renewed_stays conn number a s) (refused_stays conn bad_tcp_secure_channel_unknown s)
opened_as_stays _ _ channel conn number a s = refused_stays conn bad_tcp_secure_channel_unknown s

opened_for_stays : (channel : ℕ) (follows : Bool) (conn : Conn) (number : ℕ) (a : OpeningRequest) (s : ServerState) → Stays s (opened_for channel follows conn number a s)
unfolding opened_for
opened_for_stays channel follows conn number a s =
    either_stays (not follows) s _ _ (refused_stays conn bad_sequence_number_invalid s)
    (either_stays (not (is_unsecured (security_mode_of a.security_mode))) s _ _ (refused_stays conn bad_security_policy_rejected s)
    (opened_as_stays conn.ear _ channel conn number a s))

opened_by_stays : (a : Option OpeningRequest) (channel : ℕ) (follows : Bool) (conn : Conn) (number : ℕ) (s : ServerState)
    → Stays s (opened_by a channel follows conn number s)
opened_by_stays None channel follows conn number s = refused_stays conn bad_decoding_error s
opened_by_stays (Some a) channel follows conn number s = opened_for_stays channel follows conn number a s

opening_stays : (channel : ℕ) (follows : Bool) (number : ℕ) (body : List ℕ) (conn : Conn) (s : ServerState) → Stays s (opening channel follows number body conn s)
unfolding opening
opening_stays channel follows number body conn s = opened_by_stays (asked_at body) channel follows conn number s

welcomed_stays : (hello : Greeting) (conn : Conn) (s : ServerState) → Stays s (welcomed hello conn s)
unfolding welcomed
welcomed_stays hello conn s = refl

greeted_stays : (read : Result (Greeting × Option (List ℕ)) Fault) (conn : Conn) (s : ServerState) → Stays s (greeted_by read conn s)
greeted_stays (Ok hello) conn s = either_stays (is_small hello.0) s _ _ (refused_stays conn bad_decoding_error s) (welcomed_stays hello.0 conn s)
greeted_stays (Err fault) conn s = refused_stays conn bad_decoding_error s

greeting_stays : (body : List ℕ) (conn : Conn) (s : ServerState) → Stays s (greeting body conn s)
unfolding greeting
greeting_stays body conn s = greeted_stays (value_of (whole_at hello_at (input 0 body))) conn s

closing_stays : (conn : Conn) (s : ServerState) → Stays s (closing conn s)
unfolding closing
closing_stays conn s = refl

by_conn : (found : Option Conn) (h : Heard) (s : ServerState) → ((conn : Conn) → Stays s (hears_on h conn s)) → Stays s (hears_by found h s)
by_conn None h s on = refl
by_conn (Some conn) h s on = on conn

heard_stays : (number : ℕ) (h : Heard) (s : ServerState) → ((conn : Conn) → Stays s (hears_on h conn s)) → Stays s (heard number h s)
unfolding heard hears
heard_stays number h s on = either_stays (is_deaf (ears number s)) s _ _ refl (by_conn (conn_at number s.conns) h s on)

waits_same : (P : ℕ → Type 0) (s : ServerState) (did : Did) → Stays s did → AllWait P s.sessions.sessions → AllWait P did.state.sessions.sessions
waits_same P s did same h = subst (λ (sessions : SessionsState). AllWait P sessions.sessions) (sym same) h

either_quiet : (P : ℕ → Type 0) (conn : ℕ) (number : ℕ) (body : List ℕ) (s : ServerState) (b : Bool) → is_deaf (ears conn s) ≡ b → IsAtOnceOf (request_at body)
    → AllWait P s.sessions.sessions → AllWait P (heard conn (heard_as.Message number body) s).state.sessions.sessions
unfolding heard
either_quiet P conn number body s true is at_once h =
    waits_same P s (cond (is_deaf (ears conn s)) (nothing s) (hears conn (heard_as.Message number body) s))
    (ap (λ b. (cond b (nothing s) (hears conn (heard_as.Message number body) s)).state.sessions) is) h
either_quiet P conn number body s false is at_once h = (replied_at_once P conn number body s is at_once h).answered.waits

pub own_waits : (P : ℕ → Type 0) (conn : ℕ) (h : Heard) (s : ServerState) → IsNoPublish h → AllWait P s.sessions.sessions
    → AllWait P (after (Hears conn h) s).state.sessions.sessions
own_waits P conn (heard_as.Greeting body) s no_publish h = waits_same P s (heard conn (heard_as.Greeting body) s) (heard_stays conn (heard_as.Greeting body) s (λ c. greeting_stays body c s)) h
own_waits P conn (heard_as.Opening channel follows number body) s no_publish h =
    waits_same P s (heard conn (heard_as.Opening channel follows number body) s) (heard_stays conn (heard_as.Opening channel follows number body) s (λ c. opening_stays channel follows number body c s)) h
own_waits P conn (heard_as.Message number body) s no_publish h = either_quiet P conn number body s (is_deaf (ears conn s)) refl no_publish h
own_waits P conn heard_as.Close s no_publish h = waits_same P s (heard conn heard_as.Close s) (heard_stays conn heard_as.Close s (λ c. closing_stays c s)) h
own_waits P conn (heard_as.Fault code) s no_publish h = waits_same P s (heard conn (heard_as.Fault code) s) (heard_stays conn (heard_as.Fault code) s (λ c. refused_stays c code s)) h

-- ---- an end

other_by : (b : Bool) (conn : ℕ) (x : Session) → is_bound_to conn x ≡ b → WaitsOn (Other conn) (cond b (one.unbound x) x)
other_by true conn x is = λ other bound. inl refl
other_by false conn x is = λ other bound. inr (λ same. apart conn other x.conn is bound same)
  where
    apart : (conn other : ℕ) (bound : Option ℕ) → one.is_conn conn bound ≡ false → bound ≡ Some other → other ≡ conn → ⊥
    apart conn other None test is same = absurd cc
    apart conn other (Some number) test is same =
        let own : number ≡ other = cc in
        let both : number ≡ conn = own ∙ same in
        absurd (grind (arith, nat_tests))

unbound_quiet : (conn : ℕ) (sessions : List Session) → AllWait (Other conn) (map (one.unbound_from conn) sessions)
unbound_quiet conn [] = tt
unbound_quiet conn (x ∷ sessions) = (other_by (is_bound_to conn x) conn x refl, unbound_quiet conn sessions)

closed_by_quiet : (conn : ℕ) (found : Option Conn) (c : Conn) (s : ServerState) → found ≡ Some c → IsQuiet conn (closed_by found conn s).state
closed_by_quiet conn None c s is = absurd cc
closed_by_quiet conn (Some one_conn) c s is = unbound_quiet conn s.sessions.sessions

pub ends_quiet : (conn : ℕ) (c : Conn) (s : ServerState) → conn_at conn s.conns ≡ Some c → IsQuiet conn (after (Closes conn) s).state
unfolding closed
ends_quiet conn c s is = closed_by_quiet conn (conn_at conn s.conns) c s is

-- ---- said of connections

pub never_says : (said : List Said) → SaysOn Never said → said ≡ []
never_says [] h = refl
never_says (one ∷ more) h = absurd h.0

pub nothing_said : (happening : Happening) (s : ServerState) → MayHear Never happening → NoneWaits s
    → ((after happening s).said ≡ []) × NoneWaits (after happening s).state
nothing_said happening s may h =
    let told = after_tells Never happening s may h in
    (never_says (after happening s).said told.on, told.waits)

pub all_anywhere : (sessions : List Session) → AllWait Anywhere sessions
all_anywhere [] = tt
all_anywhere (x ∷ sessions) = (λ conn is. inr tt, all_anywhere sessions)

pub transfers_tell : (conn number : ℕ) (body : List ℕ) (r : TransferSubscriptionsRequest) (s : ServerState) → is_deaf (ears conn s) ≡ false
    → request_at body ≡ Ok (request.Subscription (sub_request.TransferSubscriptions r))
    → IsReplied Anywhere conn number (Ok (request.Subscription (sub_request.TransferSubscriptions r))) s (after (Hears conn (heard_as.Message number body)) s)
transfers_tell conn number body r s hears is =
    subst (λ q. IsReplied Anywhere conn number q s (after (Hears conn (heard_as.Message number body)) s)) is
    (replied_at_once Anywhere conn number body s hears (subst IsAtOnceOf (sym is) tt) (all_anywhere s.sessions.sessions))
