-- The id of the secure channel that was issued last.
use Rattle.std.proofs.Common.{◌≡◌, ℕ, List, [], ◌∷◌, Bool, true, false, cond, not, Option, Some, None, refl, ap, ◌∙◌, ◌⊎◌, inl, inr}
use Rattle.std.specs.Prelude.{Result, Ok, Err}
use Rattle.ua_base.specs.Number.{after_message}
use Rattle.ua_base.specs.Status.{bad_decoding_error, bad_security_policy_rejected, bad_sequence_number_invalid, bad_tcp_message_too_large, bad_tcp_secure_channel_unknown}
use Rattle.ua_channel.specs.declared.ear.Ear.{Ear}
use Rattle.ua_channel.specs.declared.ear.Ear.TheVariants as ear
use Rattle.ua_channel.specs.declared.heard.Heard.TheVariants as heard_as
use Rattle.ua_channel.specs.State.{is_deaf}
use Rattle.ua_session_msgs.specs.declared.channel.OpenSecureChannelResponse.{OpenSecureChannelResponse}
use Rattle.ua_session_msgs.specs.declared.request.SessionRequest.{SessionRequest}
use Rattle.ua_session_msgs.specs.declared.request.SessionRequest.TheVariants as session_request
use Rattle.ua_sub_msgs.specs.declared.request.SubRequest.{SubRequest}
use Rattle.ua_sub_msgs.specs.declared.request.SubRequest.TheVariants as sub_request
use Rattle.ua_services.specs.declared.request.Request.{Request}
use Rattle.ua_services.specs.declared.request.Request.TheVariants as request
use Rattle.ua_services.specs.declared.request.RequestFault.{RequestFault}
use Rattle.ua_services.specs.Requests.{request_at}
use Rattle.server_rules.specs.declared.conn.Conn.{Conn}
use Rattle.server_rules.specs.declared.opening.OpeningRequest.{OpeningRequest}
use Rattle.server_rules.specs.declared.opening.SecurityTokenRequestType.{SecurityTokenRequestType}
use Rattle.server_rules.specs.declared.opening.SecurityTokenRequestType.TheVariants as request_type
use Rattle.server_rules.specs.State.{ServerState, conn_at}
use Rattle.server_rules.specs.Said.{Did}
use Rattle.server_rules.specs.Answering.{refused_on, takes}
use Rattle.server_rules.specs.Opening.{asked_at, granted, granted_on, is_unsecured, issued, opened_as, opened_by, opened_for, opening, opening_reply, opening_response, security_mode_of, token_renewed, with_channel, with_next_channel}
use Rattle.server_rules.specs.Connecting.{hears, hears_by}
use Rattle.server_rules.specs.Step.{Happening, Opens, Hears, Closes, Feeds, Ticks, Levels, after, ears, heard}
use Rattle.server_laws.specs.Moves.{Core, Move, Makes, Does, Enters, Ends, Asks, Issues, Repeats, Answers, moved, moved_all}
use Rattle.server_laws.specs.Course.{Issuing, Leave, MayIssue, MayMoves, core_of, leave_of, leave_of_request, leave_of_session, leave_of_sub}
use Rattle.server_laws.proofs.Hearing.{after_comes}

-- ---- where none is issued

abbrev pub IssuesNone : Leave → Type 0
IssuesNone leave = MayIssue leave → ⊥

channels_kept : (leave : Leave) → IssuesNone leave → (moves : List Move) (c : Core) → MayMoves leave moves → (moved_all moves c).channels ≡ c.channels
channels_kept leave none [] c may = refl
channels_kept leave none (Makes spec start ∷ moves) c may = channels_kept leave none moves (moved (Makes spec start) c) may.1
channels_kept leave none (Does id doing ∷ moves) c may = channels_kept leave none moves (moved (Does id doing) c) may.1
channels_kept leave none (Enters change ∷ moves) c may = channels_kept leave none moves (moved (Enters change) c) may.1
channels_kept leave none (Ends id ∷ moves) c may = channels_kept leave none moves (moved (Ends id) c) may.1
channels_kept leave none (Asks call ∷ moves) c may = channels_kept leave none moves (moved (Asks call) c) may.1
channels_kept leave none (Issues ∷ moves) c may = absurd (none may.0)
channels_kept leave none (Repeats id number ∷ moves) c may = channels_kept leave none moves c may.1
channels_kept leave none (Answers answer ∷ moves) c may = channels_kept leave none moves c may.1

stays : (happening : Happening) (s : ServerState) → IssuesNone (leave_of happening) → (after happening s).state.channels_given ≡ s.channels_given
stays happening s none =
    let h = after_comes happening s in
    ap (λ (c : Core). c.channels) h.leads ∙ channels_kept (leave_of happening) none h.moves (core_of s) h.may

sub_none : (r : SubRequest) → IssuesNone (leave_of_sub r)
sub_none (sub_request.SetMonitoringMode r) h = h
sub_none (sub_request.Republish r) h = h
sub_none _ h = h

session_none : (r : SessionRequest) → IssuesNone (leave_of_session r)
session_none (session_request.Read r) h = h
session_none _ h = h

request_none : (r : Result Request RequestFault) → IssuesNone (leave_of_request r)
request_none (Ok (request.Subscription r)) h = sub_none r h
request_none (Ok (request.Session r)) h = session_none r h
request_none (Err fault) h = h

-- ---- an OPN issues one at the most

abbrev pub Gives : ServerState → Did → Type 0
Gives s did = (did.state.channels_given ≡ s.channels_given) ⊎ (did.state.channels_given ≡ after_message s.channels_given)

refused_keeps : (conn : Conn) (code : ℕ) (s : ServerState) → (refused_on conn code s).state.channels_given ≡ s.channels_given
unfolding refused_on
refused_keeps conn code s = refl

granted_on_keeps : (conn : Conn) (number : ℕ) (response : OpenSecureChannelResponse) (s : ServerState)
    → (granted_on conn number response s).state.channels_given ≡ s.channels_given
unfolding granted_on
granted_on_keeps conn number response s = refl

keeps_either : (b : Bool) (s : ServerState) (one other : Did) → one.state.channels_given ≡ s.channels_given → other.state.channels_given ≡ s.channels_given
    → (cond b one other).state.channels_given ≡ s.channels_given
keeps_either true s one other h rest = h
keeps_either false s one other h rest = rest

granted_keeps : (channel token : ℕ) (conn : Conn) (number : ℕ) (a : OpeningRequest) (s : ServerState)
    → (granted channel token conn number a s).state.channels_given ≡ s.channels_given
unfolding granted
granted_keeps channel token conn number a s =
    keeps_either (takes conn (opening_reply (opening_response (with_channel channel token conn) a s))) s _ _
    (granted_on_keeps (with_channel channel token conn) number (opening_response (with_channel channel token conn) a s) s)
    (refused_keeps conn bad_tcp_message_too_large s)

gives_either : (b : Bool) (s : ServerState) (one other : Did) → Gives s one → Gives s other → Gives s (cond b one other)
gives_either true s one other h rest = h
gives_either false s one other h rest = rest

issued_gives : (conn : Conn) (number : ℕ) (a : OpeningRequest) (s : ServerState) → Gives s (issued conn number a s)
unfolding issued
issued_gives conn number a s = inr (granted_keeps (after_message s.channels_given) 1 conn number a (with_next_channel s))

renewed_gives : (conn : Conn) (number : ℕ) (a : OpeningRequest) (s : ServerState) → Gives s (token_renewed conn number a s)
unfolding token_renewed
renewed_gives conn number a s = inl (granted_keeps conn.channel (after_message conn.token) conn number a s)

opened_as_gives : (e : Ear) (t : Option SecurityTokenRequestType) (channel : ℕ) (conn : Conn) (number : ℕ) (a : OpeningRequest) (s : ServerState)
    → Gives s (opened_as e t channel conn number a s)
opened_as_gives ear.Opening (Some request_type.Issue) channel conn number a s = issued_gives conn number a s
opened_as_gives ear.Open (Some request_type.Renew) channel conn number a s =
    gives_either _ s _ _ (renewed_gives conn number a s) (inl (refused_keeps conn bad_tcp_secure_channel_unknown s))
opened_as_gives _ _ channel conn number a s = inl (refused_keeps conn bad_tcp_secure_channel_unknown s)

opened_for_gives : (channel : ℕ) (follows : Bool) (conn : Conn) (number : ℕ) (a : OpeningRequest) (s : ServerState)
    → Gives s (opened_for channel follows conn number a s)
unfolding opened_for
opened_for_gives channel follows conn number a s =
    gives_either (not follows) s _ _ (inl (refused_keeps conn bad_sequence_number_invalid s))
    (gives_either (not (is_unsecured (security_mode_of a.security_mode))) s _ _ (inl (refused_keeps conn bad_security_policy_rejected s))
    (opened_as_gives conn.ear _ channel conn number a s))

opened_by_gives : (a : Option OpeningRequest) (channel : ℕ) (follows : Bool) (conn : Conn) (number : ℕ) (s : ServerState)
    → Gives s (opened_by a channel follows conn number s)
opened_by_gives None channel follows conn number s = inl (refused_keeps conn bad_decoding_error s)
opened_by_gives (Some a) channel follows conn number s = opened_for_gives channel follows conn number a s

opening_gives : (channel : ℕ) (follows : Bool) (number : ℕ) (body : List ℕ) (conn : Conn) (s : ServerState)
    → Gives s (opening channel follows number body conn s)
unfolding opening
opening_gives channel follows number body conn s = opened_by_gives (asked_at body) channel follows conn number s

opening_by_gives : (conn : Option Conn) (channel : ℕ) (follows : Bool) (number : ℕ) (body : List ℕ) (s : ServerState)
    → Gives s (hears_by conn (heard_as.Opening channel follows number body) s)
opening_by_gives None channel follows number body s = inl refl
opening_by_gives (Some conn) channel follows number body s = opening_gives channel follows number body conn s

opening_heard_gives : (conn channel : ℕ) (follows : Bool) (number : ℕ) (body : List ℕ) (s : ServerState)
    → Gives s (heard conn (heard_as.Opening channel follows number body) s)
unfolding heard hears
opening_heard_gives conn channel follows number body s =
    gives_either (is_deaf (ears conn s)) s _ _ (inl refl) (opening_by_gives (conn_at conn s.conns) channel follows number body s)

-- ---- all that happens

abbrev pub GivesIn : Happening → ServerState → Type 0
GivesIn happening s = ((after happening s).state.channels_given ≡ s.channels_given)
    ⊎ ((leave_of happening ≡ Issuing) × ((after happening s).state.channels_given ≡ after_message s.channels_given))

opening_in : (conn channel : ℕ) (follows : Bool) (number : ℕ) (body : List ℕ) (s : ServerState)
    → Gives s (heard conn (heard_as.Opening channel follows number body) s) → GivesIn (Hears conn (heard_as.Opening channel follows number body)) s
opening_in conn channel follows number body s (inl same) = inl same
opening_in conn channel follows number body s (inr next) = inr (refl, next)

pub gives_next : (happening : Happening) (s : ServerState) → GivesIn happening s
gives_next (Opens number) s = inl (stays (Opens number) s (λ h. h))
gives_next (Hears conn (heard_as.Greeting body)) s = inl (stays (Hears conn (heard_as.Greeting body)) s (λ h. h))
gives_next (Hears conn (heard_as.Opening channel follows number body)) s =
    opening_in conn channel follows number body s (opening_heard_gives conn channel follows number body s)
gives_next (Hears conn (heard_as.Message number body)) s = inl (stays (Hears conn (heard_as.Message number body)) s (request_none (request_at body)))
gives_next (Hears conn heard_as.Close) s = inl (stays (Hears conn heard_as.Close) s (λ h. h))
gives_next (Hears conn (heard_as.Fault code)) s = inl (stays (Hears conn (heard_as.Fault code)) s (λ h. h))
gives_next (Closes number) s = inl (stays (Closes number) s (λ h. h))
gives_next (Feeds change) s = inl (stays (Feeds change) s (λ h. h))
gives_next (Ticks ms) s = inl (stays (Ticks ms) s (λ h. h))
gives_next (Levels level) s = inl (stays (Levels level) s (λ h. h))
