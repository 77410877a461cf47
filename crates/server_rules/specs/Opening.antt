-- How a secure channel is opened, and its token renewed (OPC 10000-4, 5.5.2, and OPC 10000-6, 6.7.4).
use Rattle.std.specs.Prelude.{ℕ, ℤ, pos, ◌==◌, not, min, max, List, [], ◌∷◌, Bool, true, false, Option, Some, None, Result, Ok, Err, if◌then◌else◌}
use Rattle.std.specs.Ordering.{int_eq}
use Rattle.ua_base.specs.Number.{after_message}
use Rattle.ua_base.specs.Status.{bad_decoding_error, bad_security_policy_rejected, bad_sequence_number_invalid, bad_tcp_message_too_large, bad_tcp_secure_channel_unknown}
use Rattle.ua_channel.specs.declared.ear.Ear.{Ear}
use Rattle.ua_channel.specs.declared.ear.Ear.TheVariants as ear
use Rattle.ua_structures.specs.declared.body.BodyFault.{BodyFault}
use Rattle.ua_structures.specs.Body.{body_at}
use Rattle.ua_session_msgs.specs.declared.channel.OpenSecureChannelRequest.{OpenSecureChannelRequest}
use Rattle.ua_session_msgs.specs.declared.channel.OpenSecureChannelResponse.{OpenSecureChannelResponse}
use Rattle.ua_session_msgs.specs.declared.request.SessionRequest.{SessionRequest}
use Rattle.ua_session_msgs.specs.declared.request.SessionRequest.TheVariants as session_request
use Rattle.ua_session_msgs.specs.declared.reply.SessionReply.TheVariants as session_reply
use Rattle.ua_session_msgs.specs.Families.{session_requests}
use Rattle.ua_services.specs.declared.reply.Reply.{Reply}
use Rattle.ua_services.specs.declared.reply.Reply.TheVariants as reply
use Rattle.server_rules.specs.declared.conn.Conn.{Conn}
use Rattle.server_rules.specs.declared.opening.OpeningRequest.{OpeningRequest}
use Rattle.server_rules.specs.declared.opening.SecurityMode.{SecurityMode}
use Rattle.server_rules.specs.declared.opening.SecurityMode.TheVariants as mode
use Rattle.server_rules.specs.declared.opening.SecurityTokenRequestType.{SecurityTokenRequestType}
use Rattle.server_rules.specs.declared.opening.SecurityTokenRequestType.TheVariants as request_type
use Rattle.server_rules.specs.State.{ServerState, server_time, with_conn}
use Rattle.server_rules.specs.Said.{Did, Opened, Renewed}
use Rattle.server_rules.specs.Answering.{good_header, refused_on, said_on, takes}

-- ---- numbers on the wire

-- OPC 10000-4, 7.20
abbrev pub security_mode_of : ℤ → Option SecurityMode
security_mode_of number =
    if int_eq number (pos 1) then Some mode.None
    else if int_eq number (pos 2) then Some mode.Sign
    else if int_eq number (pos 3) then Some mode.SignAndEncrypt
    else None

-- OPC 10000-4, 5.5.2.2
abbrev pub request_type_of : ℤ → Option SecurityTokenRequestType
request_type_of number =
    if int_eq number (pos 0) then Some request_type.Issue
    else if int_eq number (pos 1) then Some request_type.Renew
    else None

-- ---- what is asked

abbrev pub asked_of : OpenSecureChannelRequest → OpeningRequest
asked_of r = record {
  handle = r.request_header.request_handle;
  request_type = r.request_type;
  security_mode = r.security_mode;
  lifetime = r.requested_lifetime;
}

-- another structure asks for no channel
abbrev pub asked_in : Result SessionRequest BodyFault → Option OpeningRequest
asked_in (Ok (session_request.OpenSecureChannel r)) = Some (asked_of r)
asked_in _ = None

abbrev pub asked_at : List ℕ → Option OpeningRequest
asked_at body = asked_in (body_at session_requests body)

-- ---- what is answered

-- from ten seconds to an hour
abbrev pub revised_lifetime : ℕ → ℕ
revised_lifetime lifetime = min (max lifetime 10000) 3600000

abbrev pub opening_response : Conn → OpeningRequest → ServerState → OpenSecureChannelResponse
opening_response conn asked s = record {
  response_header = good_header asked.handle s;
  server_protocol_version = 0;
  security_token = record {
    channel_id = conn.channel;
    token_id = conn.token;
    created_at = server_time s;
    revised_lifetime = revised_lifetime asked.lifetime;
  };
  server_nonce = None;
}

abbrev pub opening_reply : OpenSecureChannelResponse → Reply
opening_reply response = reply.Session (session_reply.OpenSecureChannel response)

-- ---- a token given

abbrev pub with_channel : ℕ → ℕ → Conn → Conn
with_channel channel token conn = record conn { ear = ear.Open; channel = channel; token = token }

-- the reply is said under the new token, which is taken from then on
unfoldable pub granted_on : Conn → ℕ → OpenSecureChannelResponse → ServerState → Did
granted_on conn request response s = record {
  state = with_conn conn s;
  said = said_on conn (Opened request response) ∷ said_on conn (Renewed conn.channel conn.token) ∷ [];
}

-- a reply that is too large ends the connection: nobody would know of the token
unfoldable pub granted : ℕ → ℕ → Conn → ℕ → OpeningRequest → ServerState → Did
granted channel token conn request asked s =
    if takes conn (opening_reply (opening_response (with_channel channel token conn) asked s)) then
    granted_on (with_channel channel token conn) request
    (opening_response (with_channel channel token conn) asked s) s
    else refused_on conn bad_tcp_message_too_large s

-- the ids of channels rise from 1, and after the last one of 32 bits comes 1
abbrev pub with_next_channel : ServerState → ServerState
with_next_channel s = record s { channels_given = after_message s.channels_given }

-- a channel's first token is 1
unfoldable pub issued : Conn → ℕ → OpeningRequest → ServerState → Did
issued conn request asked s =
    granted (after_message s.channels_given) 1 conn request asked (with_next_channel s)

-- and each further one the next
unfoldable pub token_renewed : Conn → ℕ → OpeningRequest → ServerState → Did
token_renewed conn request asked s = granted conn.channel (after_message conn.token) conn request asked s

-- ---- the checks, in order

-- a channel is issued where none is open; a token is renewed by an OPN that names the open one
abbrev pub opened_as : Ear → Option SecurityTokenRequestType → ℕ → Conn → ℕ → OpeningRequest → ServerState → Did
opened_as ear.Opening (Some request_type.Issue) channel conn request asked s = issued conn request asked s
opened_as ear.Open (Some request_type.Renew) channel conn request asked s =
    if channel == conn.channel then token_renewed conn request asked s
    else refused_on conn bad_tcp_secure_channel_unknown s
opened_as _ _ channel conn request asked s = refused_on conn bad_tcp_secure_channel_unknown s

abbrev pub is_unsecured : Option SecurityMode → Bool
is_unsecured (Some mode.None) = true
is_unsecured _ = false

unfoldable pub opened_for : ℕ → Bool → Conn → ℕ → OpeningRequest → ServerState → Did
opened_for channel follows conn request asked s =
    if not follows then refused_on conn bad_sequence_number_invalid s
    else if not (is_unsecured (security_mode_of asked.security_mode)) then
    refused_on conn bad_security_policy_rejected s
    else opened_as conn.ear (request_type_of asked.request_type) channel conn request asked s

abbrev pub opened_by : Option OpeningRequest → ℕ → Bool → Conn → ℕ → ServerState → Did
opened_by None channel follows conn request s = refused_on conn bad_decoding_error s
opened_by (Some asked) channel follows conn request s = opened_for channel follows conn request asked s

-- an OPN that names this channel, and whose number follows the last one or doesn't
unfoldable pub opening : ℕ → Bool → ℕ → List ℕ → Conn → ServerState → Did
opening channel follows request body conn s = opened_by (asked_at body) channel follows conn request s
