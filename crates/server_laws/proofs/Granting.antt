-- What OpenSecureChannel responses tell.
use Rattle.std.proofs.Common.{◌≡◌, ℕ, zero, suc, ◌+◌, ◌-◌, ◌%◌, ◌^◌, ◌==◌, ◌≤◌, ◌<◌, List, [], ◌∷◌, ◌++◌, Bool, true, false, cond, not, map, Option, Some, None, refl, sym, ap, ◌∙◌, subst, arith, ◌⊎◌, inl, inr}
use Rattle.std.specs.Prelude.{Result, Ok, Err}
use Rattle.std.proofs.lemmas.Bool.Decides.{nat_tests}
use Rattle.std.proofs.lemmas.List.{append-nil, map-append}
use Rattle.std.proofs.Math.Nat.{suc-mod, mod_self, mod-eq_of_lt, mod-lt}
use Rattle.ua_base.specs.Number.{after_message}
use Rattle.ua_base.specs.Status.{bad_decoding_error, bad_security_policy_rejected, bad_sequence_number_invalid, bad_tcp_message_too_large, bad_tcp_secure_channel_unknown}
use Rattle.set_model.specs.declared.source.Change.{Change}
use Rattle.ua_channel.specs.declared.ear.Ear.{Ear}
use Rattle.ua_channel.specs.declared.ear.Ear.TheVariants as ear
use Rattle.ua_channel.specs.declared.heard.Heard.{Heard}
use Rattle.ua_channel.specs.declared.heard.Heard.TheVariants as heard_as
use Rattle.ua_channel.specs.State.{is_deaf}
use Rattle.ua_session_msgs.specs.declared.channel.OpenSecureChannelResponse.{OpenSecureChannelResponse}
use Rattle.ua_session_msgs.specs.declared.request.SessionRequest.{SessionRequest}
use Rattle.ua_session_msgs.specs.declared.request.SessionRequest.TheVariants as session_request
use Rattle.ua_sub_msgs.specs.declared.request.SubRequest.{SubRequest}
use Rattle.ua_sub_msgs.specs.declared.request.SubRequest.TheVariants as sub_request
use Rattle.ua_services.specs.declared.request.Request.{Request}
use Rattle.ua_services.specs.declared.request.Request.TheVariants as request
use Rattle.ua_services.specs.declared.request.RequestFault.{RequestFault}
use Rattle.ua_services.specs.Requests.{request_at}
use Rattle.subscription.specs.Sendings.{number_of}
use Rattle.server_rules.specs.declared.config.ServerConfig.{ServerConfig}
use Rattle.server_rules.specs.declared.conn.Conn.{Conn}
use Rattle.server_rules.specs.declared.opening.OpeningRequest.{OpeningRequest}
use Rattle.server_rules.specs.declared.opening.SecurityTokenRequestType.{SecurityTokenRequestType}
use Rattle.server_rules.specs.declared.opening.SecurityTokenRequestType.TheVariants as request_type
use Rattle.server_rules.specs.State.{ServerState, conn_at, is_conn, new_server, renewed_conn, with_conn}
use Rattle.server_rules.specs.Said.{Acknowledged, Did, Limited, Opened, Refused, Renewed, Replied, Said, Told, nothing}
use Rattle.server_rules.specs.Answering.{refused_on, said_on, takes}
use Rattle.server_rules.specs.Opening.{asked_at, granted, granted_on, is_unsecured, issued, opened_as, opened_by as opened_with, opened_for, opening, opening_reply, opening_response, security_mode_of, token_renewed, with_channel, with_next_channel}
use Rattle.server_rules.specs.Connecting.{hears, hears_by}
use Rattle.server_rules.specs.Step.{Happening, Opens, Hears, Closes, Feeds, Ticks, Levels, after, ear_of, ears, heard}
use Rattle.server_rules.specs.Acts.{state_after}
use Rattle.server_laws.specs.Moves.{Answered, ChannelOpened, Fact}
use Rattle.server_laws.specs.Facts.{IsWithin, RiseBetween, facts_said, facts_told}
use Rattle.server_laws.specs.Course.{MayAnswer, leave_of, leave_of_request, leave_of_session, leave_of_sub}
use Rattle.server_laws.specs.Beginning.{AreNoSendings}
use Rattle.server_laws.specs.Opened.{AreNext, IsIssued, IsOpened, IsRenewed, channel_in, channels_in, is_opening, opened_by, opened_in}
use Rattle.server_laws.proofs.Channels.{gives_next}
use Rattle.server_laws.proofs.Living.{state_is}
use Rattle.server_laws.proofs.Responding.{answers_asked}
use Rattle.server_laws.proofs.Silent.{found_conn}
use Rattle.server_laws.proofs.Within.{all_within, none_within, not_within, one_is, within_join}

-- ---- an OPN

-- a response is said on the connection, which has the channel and the token that it tells
pub record IsGrant (conn : Conn) (s : ServerState) (did : Did) : Type 0 where
  pub request : ℕ
  pub response : OpenSecureChannelResponse
  pub new : Conn
  pub said : did.said ≡ said_on new (Opened request response) ∷ said_on new (Renewed new.channel new.token) ∷ []
  pub conns : did.state.conns ≡ map (renewed_conn new) s.conns
  pub number : new.number ≡ conn.number
  pub channel : response.security_token.channel_id ≡ new.channel
  pub token : response.security_token.token_id ≡ new.token
  pub kind : IsIssued response conn s did.state ⊎ IsRenewed response conn s did.state

-- nothing is said of which the moves tell
abbrev pub SaysNothing : Did → Type 0
SaysNothing did = (facts_said did.said ≡ []) × AreNoSendings did.said

-- or none is; and the subscriptions stay
pub record Grants (conn : Conn) (s : ServerState) (did : Did) : Type 0 where
  pub subs : did.state.subs ≡ s.subs
  pub either : SaysNothing did ⊎ IsGrant conn s did

either_grants : (conn : Conn) (s : ServerState) (b : Bool) (one other : Did) → Grants conn s one → Grants conn s other → Grants conn s (cond b one other)
either_grants conn s true one other h rest = h
either_grants conn s false one other h rest = rest

refused_grants : (conn : Conn) (s t : ServerState) (code : ℕ) → t.subs ≡ s.subs → Grants conn s (refused_on conn code t)
unfolding refused_on
refused_grants conn s t code same = record { subs = same; either = inl (refl, (tt, tt)) }

granted_on_grants : (conn new : Conn) (number : ℕ) (r : OpenSecureChannelResponse) (s t : ServerState) → t.subs ≡ s.subs → t.conns ≡ s.conns → new.number ≡ conn.number
    → r.security_token.channel_id ≡ new.channel → r.security_token.token_id ≡ new.token
    → IsIssued r conn s (with_conn new t) ⊎ IsRenewed r conn s (with_conn new t) → Grants conn s (granted_on new number r t)
unfolding granted_on
granted_on_grants conn new number r s t subs same own channel token kind = record {
  subs = subs;
  either = inr (record {
    request = number;
    response = r;
    new = new;
    said = refl;
    conns = ap (map (renewed_conn new)) same;
    number = own;
    channel = channel;
    token = token;
    kind = kind;
  });
}

issued_grants : (conn : Conn) (number : ℕ) (a : OpeningRequest) (s : ServerState) → conn.ear ≡ ear.Opening → Grants conn s (issued conn number a s)
unfolding issued granted
issued_grants conn number a s is =
    let t : ServerState = with_next_channel s in
    let new : Conn = with_channel (after_message s.channels_given) 1 conn in
    either_grants conn s (takes conn (opening_reply (opening_response new a t))) _ _
    (granted_on_grants conn new number (opening_response new a t) s t refl refl refl refl refl (inl (record { begins = is; channel = refl; last = refl; token = refl })))
    (refused_grants conn s t bad_tcp_message_too_large refl)

renewed_grants : (conn : Conn) (number : ℕ) (a : OpeningRequest) (s : ServerState) → conn.ear ≡ ear.Open → Grants conn s (token_renewed conn number a s)
unfolding token_renewed granted
renewed_grants conn number a s is =
    let new : Conn = with_channel conn.channel (after_message conn.token) conn in
    either_grants conn s (takes conn (opening_reply (opening_response new a s))) _ _
    (granted_on_grants conn new number (opening_response new a s) s s refl refl refl refl refl (inr (record { stays = is; channel = refl; last = refl; token = refl })))
    (refused_grants conn s s bad_tcp_message_too_large refl)

opened_as_grants : (e : Ear) (t : Option SecurityTokenRequestType) (channel : ℕ) (conn : Conn) (number : ℕ) (a : OpeningRequest) (s : ServerState) → conn.ear ≡ e
    → Grants conn s (opened_as e t channel conn number a s)
opened_as_grants ear.Opening (Some request_type.Issue) channel conn number a s is = issued_grants conn number a s is
opened_as_grants ear.Open (Some request_type.Renew) channel conn number a s is =
    either_grants conn s _ _ _ (renewed_grants conn number a s is) (refused_grants conn s s bad_tcp_secure_channel_unknown refl)
opened_as_grants _ _ channel conn number a s is = refused_grants conn s s bad_tcp_secure_channel_unknown refl

opened_for_grants : (channel : ℕ) (follows : Bool) (conn : Conn) (number : ℕ) (a : OpeningRequest) (s : ServerState)
    → Grants conn s (opened_for channel follows conn number a s)
unfolding opened_for
opened_for_grants channel follows conn number a s =
    either_grants conn s (not follows) _ _ (refused_grants conn s s bad_sequence_number_invalid refl)
    (either_grants conn s (not (is_unsecured (security_mode_of a.security_mode))) _ _ (refused_grants conn s s bad_security_policy_rejected refl)
    (opened_as_grants conn.ear _ channel conn number a s refl))

opened_with_grants : (a : Option OpeningRequest) (channel : ℕ) (follows : Bool) (conn : Conn) (number : ℕ) (s : ServerState)
    → Grants conn s (opened_with a channel follows conn number s)
opened_with_grants None channel follows conn number s = refused_grants conn s s bad_decoding_error refl
opened_with_grants (Some a) channel follows conn number s = opened_for_grants channel follows conn number a s

opening_grants : (channel : ℕ) (follows : Bool) (number : ℕ) (body : List ℕ) (conn : Conn) (s : ServerState)
    → Grants conn s (opening channel follows number body conn s)
unfolding opening
opening_grants channel follows number body conn s = opened_with_grants (asked_at body) channel follows conn number s

-- on a connection of this number
pub record IsGranted (number : ℕ) (s : ServerState) (did : Did) : Type 0 where
  pub conn : Conn
  pub found : conn_at number s.conns ≡ Some conn
  pub grant : IsGrant conn s did

pub record OpensWell (number : ℕ) (s : ServerState) (did : Did) : Type 0 where
  pub subs : did.state.subs ≡ s.subs
  pub either : SaysNothing did ⊎ IsGranted number s did

on_found : (number : ℕ) (conn : Conn) (s : ServerState) (did : Did) → conn_at number s.conns ≡ Some conn → SaysNothing did ⊎ IsGrant conn s did
    → SaysNothing did ⊎ IsGranted number s did
on_found number conn s did found (inl none) = inl none
on_found number conn s did found (inr grant) = inr (record { conn = conn; found = found; grant = grant })

of_conn : (number : ℕ) (conn : Conn) (s : ServerState) (did : Did) → conn_at number s.conns ≡ Some conn → Grants conn s did → OpensWell number s did
of_conn number conn s did found h = record { subs = h.subs; either = on_found number conn s did found h.either }

none_opens : (number : ℕ) (s : ServerState) → OpensWell number s (nothing s)
none_opens number s = record { subs = refl; either = inl (refl, tt) }

by_conn : (found : Option Conn) (number channel : ℕ) (follows : Bool) (request : ℕ) (body : List ℕ) (s : ServerState) → conn_at number s.conns ≡ found
    → OpensWell number s (hears_by found (heard_as.Opening channel follows request body) s)
by_conn None number channel follows request body s is = none_opens number s
by_conn (Some conn) number channel follows request body s is =
    of_conn number conn s (opening channel follows request body conn s) is (opening_grants channel follows request body conn s)

by_deaf : (b : Bool) (number : ℕ) (s : ServerState) (did : Did) → OpensWell number s did → OpensWell number s (cond b (nothing s) did)
by_deaf true number s did h = none_opens number s
by_deaf false number s did h = h

pub opening_heard : (number channel : ℕ) (follows : Bool) (request : ℕ) (body : List ℕ) (s : ServerState)
    → OpensWell number s (after (Hears number (heard_as.Opening channel follows request body)) s)
unfolding heard hears
opening_heard number channel follows request body s =
    by_deaf (is_deaf (ears number s)) number s _ (by_conn (conn_at number s.conns) number channel follows request body s refl)

-- ---- nothing else says one

sub_never : (channel : ℕ) (r : SubRequest) → MayAnswer (leave_of_sub r) (ChannelOpened channel) → ⊥
sub_never channel (sub_request.SetMonitoringMode r) h = h
sub_never channel (sub_request.Republish r) h = h
sub_never channel _ h = h

session_never : (channel : ℕ) (r : SessionRequest) → MayAnswer (leave_of_session r) (ChannelOpened channel) → ⊥
session_never channel (session_request.Read r) h = h
session_never channel _ h = h

request_never : (channel : ℕ) (r : Result Request RequestFault) → MayAnswer (leave_of_request r) (ChannelOpened channel) → ⊥
request_never channel (Ok (request.Subscription r)) h = sub_never channel r h
request_never channel (Ok (request.Session r)) h = session_never channel r h
request_never channel (Err fault) h = h

-- an OPN
abbrev pub IsOpn : Happening → Type 0
IsOpn (Hears number (heard_as.Opening channel follows request body)) = Unit {0}
IsOpn other = ⊥

opn_only : (channel : ℕ) (happening : Happening) → MayAnswer (leave_of happening) (ChannelOpened channel) → IsOpn happening
opn_only channel (Opens number) h = h
opn_only channel (Hears number (heard_as.Greeting body)) h = h
opn_only channel (Hears number (heard_as.Opening named follows request body)) h = tt
opn_only channel (Hears number (heard_as.Message request body)) h = absurd (request_never channel (request_at body) h)
opn_only channel (Hears number heard_as.Close) h = h
opn_only channel (Hears number (heard_as.Fault code)) h = h
opn_only channel (Closes number) h = h
opn_only channel (Feeds change) h = h
opn_only channel (Ticks ms) h = h
opn_only channel (Levels level) h = h

said_within : (some all : List Said) → IsWithin some all → IsWithin (facts_said some) (facts_said all)
said_within some [] h = ap facts_said h
said_within some (one ∷ all) (inl h) =
    within_join [] (facts_told one.told) (facts_said some) (facts_said all) (none_within (facts_told one.told)) (said_within some all h)
said_within some (one ∷ all) (inr h) =
    subst (λ l. IsWithin (facts_said l) (facts_told one.told ++ facts_said all)) (sym h.1)
    (within_join (facts_told one.told) (facts_told one.told) (facts_said h.0) (facts_said all) (all_within (facts_told one.told)) (said_within h.0 all h.2))

-- a response that is said is a fact
fact_said : (said : Said) (number : ℕ) (r : OpenSecureChannelResponse) (all : List Said) → IsWithin (said ∷ []) all → said.told ≡ Opened number r
    → IsWithin (Answered (ChannelOpened r.security_token.channel_id) ∷ []) (facts_said all)
fact_said said number r all h is = subst (λ told. IsWithin (facts_told told ++ []) (facts_said all)) is (said_within (said ∷ []) all h)

-- where no such fact is said, no channel is
none_by : (told : Told) (more : List ℕ) (facts : List Fact) → ((channel : ℕ) → IsWithin (Answered (ChannelOpened channel) ∷ []) (facts_told told ++ facts) → ⊥)
    → more ≡ [] → channel_in told ++ more ≡ []
none_by (Opened number r) more facts never none = absurd (never r.security_token.channel_id (inr ([], refl, none_within facts)))
none_by (Acknowledged hello) more facts never none = none
none_by (Replied number answer) more facts never none = none
none_by (Refused code) more facts never none = none
none_by (Limited limits) more facts never none = none
none_by (Renewed channel token) more facts never none = none

none_opened : (said : List Said) → ((channel : ℕ) → IsWithin (Answered (ChannelOpened channel) ∷ []) (facts_said said) → ⊥) → channels_in said ≡ []
none_opened [] never = refl
none_opened (one ∷ said) never =
    none_by one.told (channels_in said) (facts_said said) never
    (none_opened said (λ channel h. never channel
    (within_join [] (facts_told one.told) (Answered (ChannelOpened channel) ∷ []) (facts_said said) (none_within (facts_told one.told)) h)))

-- ---- the connection of a response

found_by : (b : Bool) (new x : Conn) (old : Conn) (rest others : Option Conn) → (x.number == new.number) ≡ b → (others ≡ Some old → rest ≡ Some new)
    → cond (is_conn new.number x) (Some x) others ≡ Some old
    → cond (is_conn new.number (cond (is_conn new.number x) new x)) (Some (cond (is_conn new.number x) new x)) rest ≡ Some new
found_by true new x old rest others test on is =
    let own : (new.number == new.number) ≡ true = grind (arith, nat_tests) in
    rw (test, own) refl
found_by false new x old rest others test on is = rw (test, test) (on (sym (ap (λ b. cond b (Some x) others) test) ∙ is))

renewed_found : (new old : Conn) (conns : List Conn) → conn_at new.number conns ≡ Some old → conn_at new.number (map (renewed_conn new) conns) ≡ Some new
renewed_found new old [] is = absurd cc
renewed_found new old (x ∷ conns) is =
    found_by _ new x old (conn_at new.number (map (renewed_conn new) conns)) (conn_at new.number conns) refl (renewed_found new old conns) is

told_of : (number : ℕ) (s : ServerState) (did : Did) (g : IsGranted number s did) → IsOpened (said_on g.grant.new (Opened g.grant.request g.grant.response)) g.grant.response s did.state
told_of number s did g =
    let new : Conn = g.grant.new in
    let own : conn_at new.number s.conns ≡ Some g.conn = ap (λ n. conn_at n s.conns) (g.grant.number ∙ found_conn number s.conns g.conn g.found) ∙ g.found in
    record {
      was = g.conn;
      found = own;
      conn = new;
      there = ap (conn_at new.number) g.grant.conns ∙ renewed_found new g.conn s.conns own;
      channel = g.grant.channel;
      token = g.grant.token;
      under = (refl, refl);
      given = g.grant.kind;
    }

first_said : (said one other : Said) (number : ℕ) (r : OpenSecureChannelResponse) (channel token : ℕ) → other.told ≡ Renewed channel token → said.told ≡ Opened number r
    → IsWithin (said ∷ []) (one ∷ other ∷ []) → one ≡ said
first_said said one other number r channel token renews is (inl h) =
    let same : other ≡ said = one_is said other h in
    let both : Renewed channel token ≡ Opened number r = sym renews ∙ ap (λ (x : Said). x.told) same ∙ is in
    absurd cc
first_said said one other number r channel token renews is (inr h) = let both : said ∷ [] ≡ one ∷ h.0 = h.1 in cc

granted_told : (number : ℕ) (s : ServerState) (did : Did) (said : Said) (request_number : ℕ) (r : OpenSecureChannelResponse) → IsGranted number s did
    → IsWithin (said ∷ []) did.said → said.told ≡ Opened request_number r → IsOpened said r s did.state
granted_told number s did said request_number r g within is =
    let new : Conn = g.grant.new in
    let same : said_on new (Opened g.grant.request g.grant.response) ≡ said =
    first_said said _ (said_on new (Renewed new.channel new.token)) request_number r new.channel new.token refl is (subst (IsWithin (said ∷ [])) g.grant.said within) in
    let told : Opened g.grant.request g.grant.response ≡ Opened request_number r = ap (λ (x : Said). x.told) same ∙ is in
    let response : g.grant.response ≡ r = cc in
    subst (λ (x : Said). IsOpened x r s did.state) same
    (subst (λ x. IsOpened (said_on new (Opened g.grant.request g.grant.response)) x s did.state) response (told_of number s did g))

opening_told : (number : ℕ) (s : ServerState) (did : Did) (said : Said) (request_number : ℕ) (r : OpenSecureChannelResponse) → SaysNothing did ⊎ IsGranted number s did
    → IsWithin (said ∷ []) did.said → said.told ≡ Opened request_number r → IsOpened said r s did.state
opening_told number s did said request_number r (inl none) within is = absurd (not_within _ (facts_said did.said) none.0 (fact_said said request_number r did.said within is))
opening_told number s did said request_number r (inr g) within is = granted_told number s did said request_number r g within is

opn_told : (happening : Happening) (s : ServerState) (said : Said) (number : ℕ) (r : OpenSecureChannelResponse) → IsOpn happening
    → IsWithin (said ∷ []) (after happening s).said → said.told ≡ Opened number r → IsOpened said r s (after happening s).state
opn_told (Hears conn (heard_as.Opening channel follows request body)) s said number r opn within is =
    opening_told conn s (after (Hears conn (heard_as.Opening channel follows request body)) s) said number r (opening_heard conn channel follows request body s).either within is
opn_told (Hears conn (heard_as.Greeting body)) s said number r opn within is = absurd opn
opn_told (Hears conn (heard_as.Message request body)) s said number r opn within is = absurd opn
opn_told (Hears conn heard_as.Close) s said number r opn within is = absurd opn
opn_told (Hears conn (heard_as.Fault code)) s said number r opn within is = absurd opn
opn_told (Opens conn) s said number r opn within is = absurd opn
opn_told (Closes conn) s said number r opn within is = absurd opn
opn_told (Feeds change) s said number r opn within is = absurd opn
opn_told (Ticks ms) s said number r opn within is = absurd opn
opn_told (Levels level) s said number r opn within is = absurd opn

pub responses_told : (happening : Happening) (s : ServerState) (said : Said) (number : ℕ) (r : OpenSecureChannelResponse)
    → IsWithin (said ∷ []) (after happening s).said → said.told ≡ Opened number r → IsOpened said r s (after happening s).state
responses_told happening s said number r within is =
    opn_told happening s said number r
    (opn_only r.security_token.channel_id happening
    (answers_asked happening s (ChannelOpened r.security_token.channel_id) (fact_said said number r (after happening s).said within is))) within is

-- ---- the channels of a life

-- none is opened, and none or one is used up; or the next one is opened
abbrev pub Gives : List ℕ → ℕ → ℕ → Type 0
Gives ids given next = ((ids ≡ []) × ((next ≡ given) ⊎ (next ≡ after_message given))) ⊎ ((ids ≡ next ∷ []) × (next ≡ after_message given))

next_of : (happening : Happening) (s : ServerState)
    → ((after happening s).state.channels_given ≡ s.channels_given) ⊎ ((after happening s).state.channels_given ≡ after_message s.channels_given)
next_of happening s = by_case (gives_next happening s)
  where
    by_case : {A : Type 0} → ((after happening s).state.channels_given ≡ s.channels_given) ⊎ (A × ((after happening s).state.channels_given ≡ after_message s.channels_given))
        → ((after happening s).state.channels_given ≡ s.channels_given) ⊎ ((after happening s).state.channels_given ≡ after_message s.channels_given)
    by_case (inl same) = inl same
    by_case (inr next) = inr next.1

none_gives : (happening : Happening) (s : ServerState) (ids : List ℕ) → ids ≡ [] → Gives ids s.channels_given (after happening s).state.channels_given
none_gives happening s ids none = inl (none, next_of happening s)

issued_gives : (r : OpenSecureChannelResponse) (conn : Conn) (s t : ServerState) (ids : List ℕ) → ids ≡ r.security_token.channel_id ∷ [] → IsIssued r conn s t
    → Gives ids s.channels_given t.channels_given
issued_gives r conn s t ids are h = inr (are ∙ ap (λ n. n ∷ []) (sym h.last), h.last ∙ h.channel)

kind_gives : (number : ℕ) (s : ServerState) (did : Did) (ids : List ℕ) (g : IsGranted number s did) → is_opening (ears number s) ≡ true
    → ids ≡ g.grant.response.security_token.channel_id ∷ [] → IsIssued g.grant.response g.conn s did.state ⊎ IsRenewed g.grant.response g.conn s did.state
    → Gives ids s.channels_given did.state.channels_given
kind_gives number s did ids g opens are (inl h) = issued_gives g.grant.response g.conn s did.state ids are h
kind_gives number s did ids g opens are (inr h) =
    let wrong : true ≡ false = sym opens ∙ ap (λ found. is_opening (ear_of found)) g.found ∙ ap is_opening h.stays in
    absurd cc

opening_gives : (number : ℕ) (s : ServerState) (happening : Happening) → is_opening (ears number s) ≡ true
    → SaysNothing (after happening s) ⊎ IsGranted number s (after happening s)
    → Gives (channels_in (after happening s).said) s.channels_given (after happening s).state.channels_given
opening_gives number s happening opens (inl none) =
    none_gives happening s (channels_in (after happening s).said)
    (none_opened (after happening s).said (λ channel h. not_within (Answered (ChannelOpened channel)) (facts_said (after happening s).said) none.0 h))
opening_gives number s happening opens (inr g) = kind_gives number s (after happening s) (channels_in (after happening s).said) g opens (ap channels_in g.grant.said) g.grant.kind

not_opn : (happening : Happening) (s : ServerState) → (IsOpn happening → ⊥) → channels_in (after happening s).said ≡ []
not_opn happening s other = none_opened (after happening s).said (λ channel h. other (opn_only channel happening (answers_asked happening s (ChannelOpened channel) h)))

heard_gives : (number : ℕ) (h : Heard) (s : ServerState) → is_opening (ears number s) ≡ true
    → Gives (channels_in (after (Hears number h) s).said) s.channels_given (after (Hears number h) s).state.channels_given
heard_gives number (heard_as.Opening channel follows request body) s opens =
    opening_gives number s (Hears number (heard_as.Opening channel follows request body)) opens (opening_heard number channel follows request body s).either
heard_gives number (heard_as.Greeting body) s opens = none_gives (Hears number (heard_as.Greeting body)) s _ (not_opn (Hears number (heard_as.Greeting body)) s (λ h. h))
heard_gives number (heard_as.Message request body) s opens =
    none_gives (Hears number (heard_as.Message request body)) s _ (not_opn (Hears number (heard_as.Message request body)) s (λ h. h))
heard_gives number heard_as.Close s opens = none_gives (Hears number heard_as.Close) s _ (not_opn (Hears number heard_as.Close) s (λ h. h))
heard_gives number (heard_as.Fault code) s opens = none_gives (Hears number (heard_as.Fault code)) s _ (not_opn (Hears number (heard_as.Fault code)) s (λ h. h))

by_ear : (b : Bool) (number : ℕ) (h : Heard) (s : ServerState) → is_opening (ears number s) ≡ b
    → Gives (cond b (channels_in (after (Hears number h) s).said) []) s.channels_given (after (Hears number h) s).state.channels_given
by_ear true number h s is = heard_gives number h s is
by_ear false number h s is = none_gives (Hears number h) s [] refl

step_gives : (happening : Happening) (s : ServerState) → Gives (opened_by happening s) s.channels_given (after happening s).state.channels_given
step_gives (Hears number h) s = by_ear (is_opening (ears number s)) number h s refl
step_gives (Opens number) s = none_gives (Opens number) s [] refl
step_gives (Closes number) s = none_gives (Closes number) s [] refl
step_gives (Feeds change) s = none_gives (Feeds change) s [] refl
step_gives (Ticks ms) s = none_gives (Ticks ms) s [] refl
step_gives (Levels level) s = none_gives (Levels level) s [] refl

-- the id that was given last, after so many
abbrev pub last_given : ℕ → ℕ
last_given zero = 0
last_given (suc k) = number_of (suc k)

number_by : (k : ℕ) (b : Bool) → (1 + k % (2 ^ 32 - 1) == 2 ^ 32 - 1) ≡ b
    → after_message (1 + k % (2 ^ 32 - 1)) ≡ 1 + (k + 1) % (2 ^ 32 - 1)
number_by k true test =
    let last : suc (k % (2 ^ 32 - 1)) ≡ 2 ^ 32 - 1 = grind (arith, nat_tests) in
    let none : suc k % (2 ^ 32 - 1) ≡ 0 = suc-mod k (2 ^ 32 - 1) ∙ ap (λ n. n % (2 ^ 32 - 1)) last ∙ mod_self (2 ^ 32 - 1) in
    let next : k + 1 ≡ suc k = omega arith in
    ap (λ b. cond b 1 (1 + k % (2 ^ 32 - 1) + 1)) test ∙ ap (λ n. 1 + n) (sym (ap (λ n. n % (2 ^ 32 - 1)) next ∙ none))
number_by k false test =
    let below : k % (2 ^ 32 - 1) < 2 ^ 32 - 1 = mod-lt k (omega arith) in
    let less : suc (k % (2 ^ 32 - 1)) < 2 ^ 32 - 1 = grind (arith, nat_tests) in
    let more : suc k % (2 ^ 32 - 1) ≡ suc (k % (2 ^ 32 - 1)) = suc-mod k (2 ^ 32 - 1) ∙ mod-eq_of_lt less in
    let next : k + 1 ≡ suc k = omega arith in
    let sum : 1 + k % (2 ^ 32 - 1) + 1 ≡ 1 + suc (k % (2 ^ 32 - 1)) = omega arith in
    ap (λ b. cond b 1 (1 + k % (2 ^ 32 - 1) + 1)) test ∙ sum ∙ ap (λ n. 1 + n) (sym (ap (λ n. n % (2 ^ 32 - 1)) next ∙ more))

number_at : (k : ℕ) → number_of (suc k) ≡ 1 + k % (2 ^ 32 - 1)
number_at k = let same : suc k - 1 ≡ k = omega arith in ap (λ n. 1 + n % (2 ^ 32 - 1)) same

given_next : (k : ℕ) → after_message (last_given k) ≡ last_given (suc k)
given_next zero = refl
given_next (suc k) =
    let same : k + 1 ≡ suc k = omega arith in
    ap after_message (number_at k) ∙ number_by k _ refl ∙ ap (λ n. 1 + n % (2 ^ 32 - 1)) same ∙ sym (number_at (suc k))

pub record AreGiven (ids : List ℕ) (given : ℕ) : Type 0 where
  pub last : ℕ
  pub places : List ℕ
  pub rise : RiseBetween 0 last places
  pub are : ids ≡ map number_of places
  pub is : given ≡ last_given last

rise_higher : (low high higher : ℕ) (numbers : List ℕ) → high ≤ higher → RiseBetween low high numbers → RiseBetween low higher numbers
rise_higher low high higher [] under h = tt
rise_higher low high higher (number ∷ numbers) under h = let below = h.1 in (h.0, omega arith, rise_higher number high higher numbers under h.2)

rise_more : (low high : ℕ) (numbers : List ℕ) → low ≤ high → RiseBetween low high numbers → RiseBetween low (suc high) (numbers ++ suc high ∷ [])
rise_more low high [] under h = (omega arith, omega arith, tt)
rise_more low high (number ∷ numbers) under h =
    let below = h.1 in (h.0, omega arith, rise_more number high numbers below h.2)

given_more : (ids more : List ℕ) (given next : ℕ) → AreGiven ids given → Gives more given next → AreGiven (ids ++ more) next
given_more ids more given next h (inl (none, inl same)) = record {
  last = h.last;
  places = h.places;
  rise = h.rise;
  are = ap (λ l. ids ++ l) none ∙ append-nil ids ∙ h.are;
  is = same ∙ h.is;
}
given_more ids more given next h (inl (none, inr on)) = record {
  last = suc h.last;
  places = h.places;
  rise = rise_higher 0 h.last (suc h.last) h.places (omega arith) h.rise;
  are = ap (λ l. ids ++ l) none ∙ append-nil ids ∙ h.are;
  is = on ∙ ap after_message h.is ∙ given_next h.last;
}
given_more ids more given next h (inr (new, on)) =
    let is : next ≡ last_given (suc h.last) = on ∙ ap after_message h.is ∙ given_next h.last in
    record {
      last = suc h.last;
      places = h.places ++ suc h.last ∷ [];
      rise = rise_more 0 h.last h.places (omega arith) h.rise;
      are = ap (λ l. ids ++ l) (new ∙ ap (λ n. n ∷ []) is) ∙ ap (λ l. l ++ number_of (suc h.last) ∷ []) h.are ∙ sym (map-append number_of h.places (suc h.last ∷ []));
      is = is;
    }

none_given : (config : ServerConfig) (current : List Change) → AreGiven (opened_in [] (new_server config current)) (state_after [] (new_server config current)).channels_given
unfolding state_after
none_given config current = record { last = 0; places = []; rise = tt; are = refl; is = refl }

all_given : (config : ServerConfig) (current : List Change) (happenings : List Happening)
    → AreGiven (opened_in happenings (new_server config current)) (state_after happenings (new_server config current)).channels_given
all_given config current [] = none_given config current
all_given config current (happening ∷ earlier) =
    let s : ServerState = new_server config current in
    subst (λ (t : ServerState). AreGiven (opened_in (happening ∷ earlier) s) t.channels_given) (sym (state_is happening earlier s))
    (given_more (opened_in earlier s) (opened_by happening (state_after earlier s)) (state_after earlier s).channels_given (after happening (state_after earlier s)).state.channels_given
    (all_given config current earlier) (step_gives happening (state_after earlier s)))

pub channels_next : (config : ServerConfig) (current : List Change) (happenings : List Happening) → AreNext (opened_in happenings (new_server config current))
channels_next config current happenings =
    let h = all_given config current happenings in
    record { last = h.last; places = h.places; rise = h.rise; are = h.are }
