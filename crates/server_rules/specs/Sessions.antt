-- Discovery and sessions (OPC 10000-4, 5.4 and 5.6).
use Rattle.std.specs.Prelude.{ℕ, pos, ◌+◌, ◌-◌, ◌||◌, List, [], ◌∷◌, length, map, filter, replicate, slice_get, codes, nat_eq, ◌==◌, Bool, true, false, Option, Some, None, Result, Ok, Err, is_ok, if◌then◌else◌}
use Rattle.std.specs.List.{list_any}
use Rattle.ua_base.specs.Status.{bad_identity_token_rejected, bad_session_closed, bad_too_many_sessions}
use Rattle.ua_chunks.specs.Sending.{none_policy}
use Rattle.ua_values.specs.declared.extension.ExtensionBody.{ExtensionBody}
use Rattle.ua_values.specs.declared.extension.ExtensionBody.TheVariants as extension
use Rattle.ua_values.specs.declared.extension.ExtensionObject.{ExtensionObject}
use Rattle.ua_values.specs.declared.node.NodeId.{NodeId}
use Rattle.ua_values.specs.declared.node.NodeId.TheVariants as node
use Rattle.ua_structures.specs.Body.{object_at}
use Rattle.ua_session_msgs.specs.declared.discovery.ApplicationDescription.{ApplicationDescription}
use Rattle.ua_session_msgs.specs.declared.discovery.EndpointDescription.{EndpointDescription}
use Rattle.ua_session_msgs.specs.declared.discovery.FindServersRequest.{FindServersRequest}
use Rattle.ua_session_msgs.specs.declared.discovery.GetEndpointsRequest.{GetEndpointsRequest}
use Rattle.ua_session_msgs.specs.declared.session.ActivateSessionRequest.{ActivateSessionRequest}
use Rattle.ua_session_msgs.specs.declared.session.CloseSessionRequest.{CloseSessionRequest}
use Rattle.ua_session_msgs.specs.declared.session.CreateSessionRequest.{CreateSessionRequest}
use Rattle.ua_session_msgs.specs.declared.session.CreateSessionResponse.{CreateSessionResponse}
use Rattle.ua_session_msgs.specs.declared.reply.SessionReply.{SessionReply}
use Rattle.ua_session_msgs.specs.declared.reply.SessionReply.TheVariants as session_reply
use Rattle.ua_session_msgs.specs.Families.{identity_tokens}
use Rattle.ua_services.specs.declared.reply.Reply.{Reply}
use Rattle.ua_services.specs.declared.reply.Reply.TheVariants as reply
use Rattle.redundancy_nodes.specs.declared.member.Member.{Member}
use Rattle.sessions.specs.declared.fault.SessionFault.{SessionFault}
use Rattle.sessions.specs.declared.fault.SessionFault.TheVariants as session_fault
use Rattle.sessions.specs.Table.{activate_answer, activated, closed, created, is_full, same_text}
use Rattle.sessions.specs.Token.{token_of}
use Rattle.subscription.specs.State.{SubState}
use Rattle.server_rules.specs.declared.config.ServerConfig.{ServerConfig}
use Rattle.server_rules.specs.declared.conn.Asker.{Asker}
use Rattle.server_rules.specs.Durations.{duration_bits, revised_duration}
use Rattle.server_rules.specs.State.{ServerState}
use Rattle.server_rules.specs.Said.{Did, and_then, nothing}
use Rattle.server_rules.specs.Answering.{faulted, good_header, replied}
use Rattle.server_rules.specs.Moves.{answered_queued, gone, own_subs}
use Rattle.server_rules.specs.Reading.{own_uri}

abbrev pub session_replied : Asker → SessionReply → ServerState → Did
session_replied asker answer s = replied asker (reply.Session answer) s

-- ---- the server as others see it

abbrev pub url_of : Option Member → Option (List ℕ)
url_of None = None
url_of (Some member) = member.url

-- its own url, as the member of this number
abbrev pub own_url : ServerConfig → Option (List ℕ)
own_url config = url_of (slice_get config.members (config.number - 1))

abbrev pub uaset : Option (List ℕ)
uaset = Some (codes "uaset")

-- a server of this ApplicationUri at this url; its type is 0 (OPC 10000-4, 7.1)
abbrev pub application : Option (List ℕ) → Option (List ℕ) → ApplicationDescription
application uri url = record {
  application_uri = uri;
  product_uri = Some (codes "urn:uaset");
  application_name = record { locale = None; text = uaset };
  application_type = pos 0;
  gateway_server_uri = None;
  discovery_profile_uri = None;
  discovery_urls = url ∷ [];
}

-- the one endpoint: no security, and nobody says who it is (OPC 10000-4, 7.10 and 7.37; OPC 10000-7)
abbrev pub endpoint_of : Option (List ℕ) → Option (List ℕ) → EndpointDescription
endpoint_of uri url = record {
  endpoint_url = url;
  server = application uri url;
  server_certificate = None;
  security_mode = pos 1;
  security_policy_uri = Some none_policy;
  user_identity_tokens = record {
    policy_id = Some (codes "anonymous");
    token_type = pos 0;
    issued_token_type = None;
    issuer_endpoint_url = None;
    security_policy_uri = None;
  } ∷ [];
  transport_profile_uri = Some (codes "http://opcfoundation.org/UA-Profile/Transport/uatcp-uasc-uabinary");
  security_level = 0;
}

unfoldable pub endpoint : ServerConfig → EndpointDescription
endpoint config = endpoint_of (own_uri config) (own_url config)

-- ---- discovery (5.4)

-- all servers are listed where none is named
abbrev pub is_listed : List (Option (List ℕ)) → Member → Bool
is_listed uris member = length uris == 0 || list_any (λ uri. same_text member.uri uri) uris

abbrev pub described : Member → ApplicationDescription
described member = application member.uri member.url

unfoldable pub servers_listed : List (Option (List ℕ)) → List Member → List ApplicationDescription
servers_listed uris members = map described (filter (is_listed uris) members)

unfoldable pub find_servers : Asker → FindServersRequest → ServerState → Did
find_servers asker request s = session_replied asker (session_reply.FindServers (record {
  response_header = good_header asker.handle s;
  servers = servers_listed request.server_uris s.config.members;
})) s

unfoldable pub get_endpoints : Asker → GetEndpointsRequest → ServerState → Did
get_endpoints asker request s = session_replied asker (session_reply.GetEndpoints (record {
  response_header = good_header asker.handle s;
  endpoints = endpoint s.config ∷ [];
})) s

-- ---- sessions (5.6)

-- nothing is signed, and nonces stand for none
abbrev pub nonce : Option (List ℕ)
nonce = Some (replicate 32 0)

-- in the namespace 0 the token that the session's requests carry, in the namespace 1 its public id
abbrev pub session_node : ℕ → ℕ → ℕ → NodeId
session_node namespace boot counter = node.Opaque namespace (Some (token_of boot counter))

-- from ten seconds to an hour
abbrev pub session_timeout : CreateSessionRequest → ℕ
session_timeout request = revised_duration 10000 3600000 request.requested_session_timeout

unfoldable pub created_response : Asker → ℕ → ℕ → ServerState → CreateSessionResponse
created_response asker counter timeout s = record {
  response_header = good_header asker.handle s;
  session_id = session_node 1 s.config.boot counter;
  authentication_token = session_node 0 s.config.boot counter;
  revised_session_timeout = duration_bits timeout;
  server_nonce = nonce;
  server_certificate = None;
  server_endpoints = endpoint s.config ∷ [];
  server_software_certificates = [];
  server_signature = record { algorithm = None; signature = None };
  max_request_message_size = 0;
}

unfoldable pub creation_answered : Asker → ℕ → ℕ → ServerState → Did
creation_answered asker counter timeout s =
    session_replied asker (session_reply.CreateSession (created_response asker counter timeout s)) s

abbrev pub with_session : Asker → Option (List ℕ) → ℕ → ServerState → ServerState
with_session asker uri timeout s = record s { sessions = created asker.conn uri timeout s.age s.sessions }

abbrev pub session_created : Asker → Option (List ℕ) → ℕ → ServerState → Did
session_created asker uri timeout s =
    creation_answered asker (s.sessions.last_counter + 1) timeout (with_session asker uri timeout s)

unfoldable pub create_session : Asker → CreateSessionRequest → ServerState → Did
create_session asker request s =
    if is_full s.sessions then faulted asker bad_too_many_sessions s
    else session_created asker request.client_description.application_uri (session_timeout request) s

-- an identity without a body, or the anonymous one (7.36)
abbrev pub is_anonymous_body : ExtensionBody → ExtensionObject → Bool
is_anonymous_body extension.Absent object = true
is_anonymous_body (extension.Binary bytes) object = is_ok (object_at identity_tokens object)
is_anonymous_body (extension.Xml text) object = is_ok (object_at identity_tokens object)

abbrev pub is_anonymous : ExtensionObject → Bool
is_anonymous object = is_anonymous_body object.body object

-- the bytes of a token; other NodeIds are no session's
abbrev pub token_at : NodeId → Option (List ℕ)
token_at (node.Opaque namespace bytes) = if namespace == 0 then bytes else None
token_at (node.Numeric namespace number) = None
token_at (node.Text namespace name) = None
token_at (node.Guid namespace name) = None

unfoldable pub activation_done : Asker → ServerState → Did
activation_done asker s = session_replied asker (session_reply.ActivateSession (record {
  response_header = good_header asker.handle s;
  server_nonce = nonce;
  results = [];
  diagnostic_infos = record {};
})) s

abbrev pub activation_answered : Asker → Result ℕ SessionFault → ServerState → Did
activation_answered asker (Ok counter) s = activation_done asker s
activation_answered asker (Err (session_fault.Code code)) s = faulted asker code s
activation_answered asker (Err session_fault.OutOfMemory) s = nothing s

unfoldable pub session_activated : Asker → Option (List ℕ) → ServerState → Did
session_activated asker token s =
    activation_answered asker (activate_answer token asker.conn s.sessions)
    (record s { sessions = activated token asker.conn s.age s.sessions })

-- the identity is looked at first
unfoldable pub activate_session : Asker → ActivateSessionRequest → ServerState → Did
activate_session asker request s =
    if is_anonymous request.user_identity_token then
    session_activated asker (token_at request.request_header.authentication_token) s
    else faulted asker bad_identity_token_rejected s

-- ---- CloseSession (5.6.4)

abbrev pub ids_of : List SubState → List ℕ
ids_of subs = map (λ sub. sub.spec.id) subs

abbrev pub all_gone : List ℕ → ServerState → ServerState
all_gone [] s = s
all_gone (id ∷ ids) s = all_gone ids (gone id s)

-- its subscriptions are deleted, or stay without an owner
abbrev pub without_owned : Bool → ℕ → ServerState → ServerState
without_owned true session s = all_gone (ids_of (own_subs session s)) s
without_owned false session s = s

abbrev pub without_session : ℕ → ServerState → ServerState
without_session session s = record s { sessions = closed session s.sessions }

unfoldable pub close_answered : Asker → ServerState → Did
close_answered asker s = session_replied asker (session_reply.CloseSession (good_header asker.handle s)) s

unfoldable pub session_closed : Asker → Bool → ℕ → ServerState → Did
session_closed asker deletes session s =
    close_answered asker (without_session session (without_owned deletes session s))

-- its queued Publishes are answered first
unfoldable pub close_session : Asker → ℕ → CloseSessionRequest → ServerState → Did
close_session asker session request s =
    and_then (session_closed asker request.delete_subscriptions session) (answered_queued bad_session_closed session s)
