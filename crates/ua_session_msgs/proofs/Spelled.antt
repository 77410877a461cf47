-- What is written of each value that keeps the rules is a spelling of it.
use Rattle.std.specs.Prelude.{refl}
use Rattle.ua_session_msgs.specs.declared.request.SessionRequest.TheVariants as request
use Rattle.ua_session_msgs.specs.declared.reply.SessionReply.TheVariants as reply
use Rattle.ua_session_msgs.specs.declared.identity.IdentityToken.TheVariants as token
use Rattle.ua_structures.proofs.BodyLaws.{Spells}
use Rattle.ua_structures.specs.Structures.{a_request_header, a_response_header}
use Rattle.ua_session_msgs.specs.Structures.{a_call_request, a_call_response, a_close_session_request, a_create_session_request, a_create_session_response, a_find_servers_request, a_find_servers_response, a_get_endpoints_request, a_get_endpoints_response, a_read_request, a_read_response, an_activate_session_request, an_activate_session_response, an_anonymous_identity_token, an_open_secure_channel_request, an_open_secure_channel_response}
use Rattle.ua_session_msgs.specs.Families.{session_requests, request_put, session_replies, reply_put, identity_tokens, token_put}

pub request_spelled : Spells session_requests request_put
request_spelled (request.OpenSecureChannel p) kept = (p, refl, an_open_secure_channel_request.spelled p kept)
request_spelled (request.CloseSecureChannel p) kept = (p, refl, a_request_header.spelled p kept)
request_spelled (request.FindServers p) kept = (p, refl, a_find_servers_request.spelled p kept)
request_spelled (request.GetEndpoints p) kept = (p, refl, a_get_endpoints_request.spelled p kept)
request_spelled (request.CreateSession p) kept = (p, refl, a_create_session_request.spelled p kept)
request_spelled (request.ActivateSession p) kept = (p, refl, an_activate_session_request.spelled p kept)
request_spelled (request.CloseSession p) kept = (p, refl, a_close_session_request.spelled p kept)
request_spelled (request.Read p) kept = (p, refl, a_read_request.spelled p kept)
request_spelled (request.Call p) kept = (p, refl, a_call_request.spelled p kept)

pub reply_spelled : Spells session_replies reply_put
reply_spelled (reply.ServiceFault p) kept = (p, refl, a_response_header.spelled p kept)
reply_spelled (reply.OpenSecureChannel p) kept = (p, refl, an_open_secure_channel_response.spelled p kept)
reply_spelled (reply.CloseSecureChannel p) kept = (p, refl, a_response_header.spelled p kept)
reply_spelled (reply.FindServers p) kept = (p, refl, a_find_servers_response.spelled p kept)
reply_spelled (reply.GetEndpoints p) kept = (p, refl, a_get_endpoints_response.spelled p kept)
reply_spelled (reply.CreateSession p) kept = (p, refl, a_create_session_response.spelled p kept)
reply_spelled (reply.ActivateSession p) kept = (p, refl, an_activate_session_response.spelled p kept)
reply_spelled (reply.CloseSession p) kept = (p, refl, a_response_header.spelled p kept)
reply_spelled (reply.Read p) kept = (p, refl, a_read_response.spelled p kept)
reply_spelled (reply.Call p) kept = (p, refl, a_call_response.spelled p kept)

pub token_spelled : Spells identity_tokens token_put
token_spelled (token.Anonymous p) kept = (p, refl, an_anonymous_identity_token.spelled p kept)
