-- What comes and goes with a connection, and what is heard on it, is answered within the limits.
use Rattle.std.proofs.Common.{ℕ, ◌==◌, ◌≤◌, min, max, List, Bool, not, cond, Option, Some, None, IfSome, arith}
use Rattle.std.specs.Prelude.{Result, Ok, Err, IfOk}
use Rattle.ua_base.specs.Number.{after_message}
use Rattle.ua_base.specs.Status.{bad_decoding_error, bad_security_policy_rejected, bad_sequence_number_invalid, bad_tcp_message_too_large, bad_tcp_secure_channel_unknown}
use Rattle.ua_values.specs.Reading.{Fault, input}
use Rattle.ua_chunks.specs.declared.greeting.Greeting.{Greeting}
use Rattle.ua_chunks.specs.Bodies.{KeepsGreeting, hello_at, value_of, whole_at}
use Rattle.ua_channel.specs.declared.ear.Ear.{Ear}
use Rattle.ua_channel.specs.declared.ear.Ear.TheVariants as ear
use Rattle.ua_channel.specs.declared.heard.Heard.{Heard}
use Rattle.ua_channel.specs.declared.heard.Heard.TheVariants as heard
use Rattle.ua_structures.specs.declared.body.BodyFault.{BodyFault}
use Rattle.ua_structures.specs.Body.{body_at}
use Rattle.ua_session_msgs.specs.declared.request.SessionRequest.{SessionRequest}
use Rattle.ua_session_msgs.specs.declared.request.SessionRequest.TheVariants as session_request
use Rattle.ua_session_msgs.specs.Families as session
use Rattle.server_rules.specs.declared.conn.Conn.{Conn}
use Rattle.server_rules.specs.declared.opening.OpeningRequest.{OpeningRequest}
use Rattle.server_rules.specs.declared.opening.SecurityTokenRequestType.{SecurityTokenRequestType}
use Rattle.server_rules.specs.declared.opening.SecurityTokenRequestType.TheVariants as request_type
use Rattle.server_rules.specs.State.{ServerState, conn_at, is_conn, with_conn}
use Rattle.server_rules.specs.Said.{Acknowledged, Limited, Opened, Renewed, nothing}
use Rattle.server_rules.specs.Answering.{deafened, refused_on, takes}
use Rattle.server_rules.specs.Opening.{asked_at, asked_in, granted, granted_on, is_unsecured, issued, opened_as, opened_by, opened_for, opening, opening_reply, opening_response, request_type_of, revised_lifetime, security_mode_of, token_renewed, with_channel, with_next_channel}
use Rattle.server_rules.specs.Connecting.{acknowledged, acknowledgement, closed, closed_by, closing, first_ear, greeted, greeted_by, greeting, hears, hears_by, hears_on, is_above, is_small, limits_of, new_conn, opened, with_new_conn, without_conn}
use Rattle.server_keeps.specs.Fitting.{FitsConn, FitsHeard, FitsServer, IsUInt32, KeepsDid, KeepsReply}
use Rattle.server_keeps.proofs.Answering.{conn_fits, good_fits, now_fits, quiet, refused_keeps, said_keeps}
use Rattle.server_keeps.proofs.Asked.{opening_handle}
use Rattle.server_keeps.proofs.Asking.{requested_keeps}
use Rattle.server_keeps.proofs.Lists.{all_filter, all_more, choice, found}
use Rattle.server_keeps.proofs.Numbers.{next_fits}
use Rattle.server_keeps.proofs.Replies.{opened_keeps}
use Rattle.server_keeps.proofs.Sessions.{unbound_fits}

-- ---- connections

new_conn_fits : (number : ℕ) (s : ServerState) → FitsServer s → FitsServer (with_new_conn number s)
new_conn_fits number s h = record {
  config = h.config;
  level = h.level;
  current = h.current;
  sessions = h.sessions;
  notices = h.notices;
  subs = h.subs;
  apart = h.apart;
  channels = h.channels;
  conns = all_more FitsConn s.conns (new_conn number (first_ear s.conns)) h.conns (record { channel = omega arith; token = omega arith });
}

pub opened_conn_keeps : (number : ℕ) (s : ServerState) → FitsServer s → KeepsDid (opened number s)
unfolding opened
opened_conn_keeps number s h =
    choice KeepsDid (is_above s.highest number) (nothing (with_new_conn number s)) (nothing s) (quiet (with_new_conn number s) (new_conn_fits number s h)) (quiet s h)

without_conn_fits : (number : ℕ) (s : ServerState) → FitsServer s → FitsServer (without_conn number s)
without_conn_fits number s h = record {
  config = h.config;
  level = h.level;
  current = h.current;
  sessions = unbound_fits number s.sessions h.sessions;
  notices = h.notices;
  subs = h.subs;
  apart = h.apart;
  channels = h.channels;
  conns = all_filter FitsConn (λ conn. not (is_conn number conn)) s.conns h.conns;
}

closed_by_keeps : (conn : Option Conn) (number : ℕ) (s : ServerState) → FitsServer s → KeepsDid (closed_by conn number s)
closed_by_keeps None number s h = quiet s h
closed_by_keeps (Some conn) number s h = quiet (without_conn number s) (without_conn_fits number s h)

pub closed_keeps : (number : ℕ) (s : ServerState) → FitsServer s → KeepsDid (closed number s)
unfolding closed
closed_keeps number s h = closed_by_keeps (conn_at number s.conns) number s h

-- ---- a HEL

acknowledgement_keeps : (hello : Greeting) → KeepsGreeting (acknowledgement hello)
acknowledgement_keeps hello =
    let receive : min 65536 hello.send ≤ 65536 = omega arith in
    let send : min 65536 hello.receive ≤ 65536 = omega arith in
    (omega arith, omega (arith, receive), omega (arith, send), omega arith, omega arith)

acknowledged_keeps : (hello : Greeting) (conn : Conn) (s : ServerState) → FitsServer s → FitsConn conn → KeepsDid (acknowledged hello conn s)
unfolding acknowledged
acknowledged_keeps hello conn s h fits = record {
  state = conn_fits (greeted hello conn) s h (record { channel = fits.channel; token = fits.token });
  said = (
    said_keeps conn (Limited (limits_of hello)) fits tt,
    (said_keeps conn (Acknowledged (acknowledgement hello)) fits (acknowledgement_keeps hello), tt),
  );
}

greeted_by_keeps : (read : Result (Greeting × Option (List ℕ)) Fault) (conn : Conn) (s : ServerState) → FitsServer s → FitsConn conn
    → KeepsDid (greeted_by read conn s)
greeted_by_keeps (Ok hello) conn s h fits =
    choice KeepsDid (is_small hello.0) (refused_on conn bad_decoding_error s) (acknowledged hello.0 conn s)
    (refused_keeps conn bad_decoding_error s h fits (omega arith)) (acknowledged_keeps hello.0 conn s h fits)
greeted_by_keeps (Err fault) conn s h fits = refused_keeps conn bad_decoding_error s h fits (omega arith)

greeting_keeps : (body : List ℕ) (conn : Conn) (s : ServerState) → FitsServer s → FitsConn conn → KeepsDid (greeting body conn s)
unfolding greeting
greeting_keeps body conn s h fits = greeted_by_keeps (value_of (whole_at hello_at (input 0 body))) conn s h fits

-- ---- an OPN

-- what an OPN asks for
abbrev pub FitsAsked : OpeningRequest → Type 0
FitsAsked asked = IsUInt32 asked.handle

lifetime_small : (lifetime : ℕ) → IsUInt32 (revised_lifetime lifetime)
lifetime_small lifetime = let most : min (max lifetime 10000) 3600000 ≤ 3600000 = omega arith in omega (arith, most)

response_keeps : (conn : Conn) (asked : OpeningRequest) (s : ServerState) → FitsServer s → FitsConn conn → FitsAsked asked
    → KeepsReply (opening_reply (opening_response conn asked s))
response_keeps conn asked s h fits handle = record {
  keeps = opened_keeps (opening_response conn asked s) (good_fits asked.handle s h handle) (omega arith) fits.channel fits.token (now_fits s h)
      (lifetime_small asked.lifetime) tt;
  brings = tt;
}

granted_on_keeps : (conn : Conn) (request : ℕ) (asked : OpeningRequest) (s : ServerState) → FitsServer s → FitsConn conn → IsUInt32 request → FitsAsked asked
    → KeepsDid (granted_on conn request (opening_response conn asked s) s)
unfolding granted_on
granted_on_keeps conn request asked s h fits r handle = record {
  state = conn_fits conn s h fits;
  said = (
    said_keeps conn (Opened request (opening_response conn asked s)) fits (r, response_keeps conn asked s h fits handle),
    (said_keeps conn (Renewed conn.channel conn.token) fits (fits.channel, fits.token), tt),
  );
}

granted_keeps : (channel token : ℕ) (conn : Conn) (request : ℕ) (asked : OpeningRequest) (s : ServerState) → FitsServer s → FitsConn conn → IsUInt32 channel
    → IsUInt32 token → IsUInt32 request → FitsAsked asked → KeepsDid (granted channel token conn request asked s)
unfolding granted
granted_keeps channel token conn request asked s h fits c t r handle =
    let new : Conn = with_channel channel token conn in
    choice KeepsDid (takes new (opening_reply (opening_response new asked s))) (granted_on new request (opening_response new asked s) s)
    (refused_on conn bad_tcp_message_too_large s) (granted_on_keeps new request asked s h (record { channel = c; token = t }) r handle)
    (refused_keeps conn bad_tcp_message_too_large s h fits (omega arith))

next_channel_fits : (s : ServerState) → FitsServer s → FitsServer (with_next_channel s)
next_channel_fits s h = record {
  config = h.config;
  level = h.level;
  current = h.current;
  sessions = h.sessions;
  notices = h.notices;
  subs = h.subs;
  apart = h.apart;
  channels = next_fits s.channels_given h.channels;
  conns = h.conns;
}

issued_keeps : (conn : Conn) (request : ℕ) (asked : OpeningRequest) (s : ServerState) → FitsServer s → FitsConn conn → IsUInt32 request → FitsAsked asked
    → KeepsDid (issued conn request asked s)
unfolding issued
issued_keeps conn request asked s h fits r handle =
    granted_keeps (after_message s.channels_given) 1 conn request asked (with_next_channel s) (next_channel_fits s h) fits (next_fits s.channels_given h.channels)
    (omega arith) r handle

renewed_keeps : (conn : Conn) (request : ℕ) (asked : OpeningRequest) (s : ServerState) → FitsServer s → FitsConn conn → IsUInt32 request → FitsAsked asked
    → KeepsDid (token_renewed conn request asked s)
unfolding token_renewed
renewed_keeps conn request asked s h fits r handle =
    granted_keeps conn.channel (after_message conn.token) conn request asked s h fits fits.channel (next_fits conn.token fits.token) r handle

unknown_keeps : (conn : Conn) (s : ServerState) → FitsServer s → FitsConn conn → KeepsDid (refused_on conn bad_tcp_secure_channel_unknown s)
unknown_keeps conn s h fits = refused_keeps conn bad_tcp_secure_channel_unknown s h fits (omega arith)

opened_as_keeps : (one : Ear) (named : Option SecurityTokenRequestType) (channel : ℕ) (conn : Conn) (request : ℕ) (asked : OpeningRequest) (s : ServerState)
    → FitsServer s → FitsConn conn → IsUInt32 request → FitsAsked asked → KeepsDid (opened_as one named channel conn request asked s)
opened_as_keeps ear.Opening (Some request_type.Issue) channel conn request asked s h fits r handle = issued_keeps conn request asked s h fits r handle
opened_as_keeps ear.Open (Some request_type.Renew) channel conn request asked s h fits r handle =
    choice KeepsDid (channel == conn.channel) (token_renewed conn request asked s) (refused_on conn bad_tcp_secure_channel_unknown s)
    (renewed_keeps conn request asked s h fits r handle) (unknown_keeps conn s h fits)
opened_as_keeps ear.Opening (Some request_type.Renew) channel conn request asked s h fits r handle = unknown_keeps conn s h fits
opened_as_keeps ear.Opening None channel conn request asked s h fits r handle = unknown_keeps conn s h fits
opened_as_keeps ear.Open (Some request_type.Issue) channel conn request asked s h fits r handle = unknown_keeps conn s h fits
opened_as_keeps ear.Open None channel conn request asked s h fits r handle = unknown_keeps conn s h fits
opened_as_keeps ear.Hello named channel conn request asked s h fits r handle = unknown_keeps conn s h fits
opened_as_keeps ear.Acknowledge named channel conn request asked s h fits r handle = unknown_keeps conn s h fits
opened_as_keeps ear.Deaf named channel conn request asked s h fits r handle = unknown_keeps conn s h fits

opened_for_keeps : (channel : ℕ) (follows : Bool) (conn : Conn) (request : ℕ) (asked : OpeningRequest) (s : ServerState) → FitsServer s → FitsConn conn
    → IsUInt32 request → FitsAsked asked → KeepsDid (opened_for channel follows conn request asked s)
unfolding opened_for
opened_for_keeps channel follows conn request asked s h fits r handle =
    choice KeepsDid (not follows) (refused_on conn bad_sequence_number_invalid s)
    (cond (not (is_unsecured (security_mode_of asked.security_mode))) (refused_on conn bad_security_policy_rejected s)
    (opened_as conn.ear (request_type_of asked.request_type) channel conn request asked s))
    (refused_keeps conn bad_sequence_number_invalid s h fits (omega arith))
    (choice KeepsDid (not (is_unsecured (security_mode_of asked.security_mode))) (refused_on conn bad_security_policy_rejected s)
    (opened_as conn.ear (request_type_of asked.request_type) channel conn request asked s)
    (refused_keeps conn bad_security_policy_rejected s h fits (omega arith))
    (opened_as_keeps conn.ear (request_type_of asked.request_type) channel conn request asked s h fits r handle))

opened_by_keeps : (asked : Option OpeningRequest) (channel : ℕ) (follows : Bool) (conn : Conn) (request : ℕ) (s : ServerState) → FitsServer s → FitsConn conn
    → IsUInt32 request → IfSome asked FitsAsked → KeepsDid (opened_by asked channel follows conn request s)
opened_by_keeps None channel follows conn request s h fits r handle = refused_keeps conn bad_decoding_error s h fits (omega arith)
opened_by_keeps (Some asked) channel follows conn request s h fits r handle = opened_for_keeps channel follows conn request asked s h fits r handle

asked_fits : (read : Result SessionRequest BodyFault) → IfOk read (λ one. (session.request_put one).keeps) → IfSome (asked_in read) FitsAsked
asked_fits (Ok (session_request.OpenSecureChannel r)) h = opening_handle (session_request.OpenSecureChannel r) h
asked_fits (Ok (session_request.CloseSecureChannel r)) h = tt
asked_fits (Ok (session_request.FindServers r)) h = tt
asked_fits (Ok (session_request.GetEndpoints r)) h = tt
asked_fits (Ok (session_request.CreateSession r)) h = tt
asked_fits (Ok (session_request.ActivateSession r)) h = tt
asked_fits (Ok (session_request.CloseSession r)) h = tt
asked_fits (Ok (session_request.Read r)) h = tt
asked_fits (Ok (session_request.Call r)) h = tt
asked_fits (Err fault) h = tt

opening_keeps : (channel : ℕ) (follows : Bool) (request : ℕ) (body : List ℕ) (conn : Conn) (s : ServerState) → FitsServer s → FitsConn conn
    → FitsHeard (heard.Opening channel follows request body) → KeepsDid (opening channel follows request body conn s)
unfolding opening
opening_keeps channel follows request body conn s h fits asks =
    opened_by_keeps (asked_at body) channel follows conn request s h fits asks.0 (asked_fits (body_at session.session_requests body) asks.1)

-- ---- what is heard

closing_keeps : (conn : Conn) (s : ServerState) → FitsServer s → FitsConn conn → KeepsDid (closing conn s)
unfolding closing
closing_keeps conn s h fits = quiet (with_conn (deafened conn) s) (conn_fits (deafened conn) s h (record { channel = fits.channel; token = fits.token }))

hears_on_keeps : (one : Heard) (conn : Conn) (s : ServerState) → FitsServer s → FitsConn conn → FitsHeard one → KeepsDid (hears_on one conn s)
hears_on_keeps (heard.Greeting body) conn s h fits asks = greeting_keeps body conn s h fits
hears_on_keeps (heard.Opening channel follows request body) conn s h fits asks = opening_keeps channel follows request body conn s h fits asks
hears_on_keeps (heard.Message request body) conn s h fits asks = requested_keeps conn.number request body s h asks.0 asks.1
hears_on_keeps heard.Close conn s h fits asks = closing_keeps conn s h fits
hears_on_keeps (heard.Fault code) conn s h fits asks = refused_keeps conn code s h fits asks

hears_by_keeps : (conn : Option Conn) (one : Heard) (s : ServerState) → FitsServer s → IfSome conn FitsConn → FitsHeard one → KeepsDid (hears_by conn one s)
hears_by_keeps None one s h fits asks = quiet s h
hears_by_keeps (Some conn) one s h fits asks = hears_on_keeps one conn s h fits asks

pub hears_keeps : (number : ℕ) (one : Heard) (s : ServerState) → FitsServer s → FitsHeard one → KeepsDid (hears number one s)
unfolding hears
hears_keeps number one s h asks = hears_by_keeps (conn_at number s.conns) one s h (found FitsConn (is_conn number) s.conns h.conns) asks
