-- Which structure may be a body: the families of this crate, and how a value of each is written.
use Rattle.ua_session_msgs.specs.declared.request.SessionRequest.{SessionRequest}
use Rattle.ua_session_msgs.specs.declared.request.SessionRequest.TheVariants as request
use Rattle.ua_session_msgs.specs.declared.request.SessionRequestType.{SessionRequestType}
use Rattle.ua_session_msgs.specs.declared.request.SessionRequestType.TheVariants as request_type
use Rattle.ua_session_msgs.specs.declared.reply.SessionReply.{SessionReply}
use Rattle.ua_session_msgs.specs.declared.reply.SessionReply.TheVariants as reply
use Rattle.ua_session_msgs.specs.declared.reply.SessionReplyType.{SessionReplyType}
use Rattle.ua_session_msgs.specs.declared.reply.SessionReplyType.TheVariants as reply_type
use Rattle.ua_session_msgs.specs.declared.identity.IdentityToken.{IdentityToken}
use Rattle.ua_session_msgs.specs.declared.identity.IdentityToken.TheVariants as token
use Rattle.ua_session_msgs.specs.declared.identity.IdentityTokenType.{IdentityTokenType}
use Rattle.ua_session_msgs.specs.declared.identity.IdentityTokenType.TheVariants as token_type
use Rattle.ua_structures.specs.Body.{Case, case, Family, Put, put}
use Rattle.ua_structures.specs.Structures.{a_request_header, a_response_header}
use Rattle.ua_session_msgs.specs.Structures.{a_call_request, a_call_response, a_close_session_request, a_create_session_request, a_create_session_response, a_find_servers_request, a_find_servers_response, a_get_endpoints_request, a_get_endpoints_response, a_read_request, a_read_response, an_activate_session_request, an_activate_session_response, an_anonymous_identity_token, an_open_secure_channel_request, an_open_secure_channel_response}
use Rattle.ua_session_msgs.specs.Numbers.{request_id, every_request, request_known, request_small, reply_id, every_reply, reply_known, reply_small, token_id, every_token, token_known, token_small}

abbrev pub request_case : SessionRequestType → Case SessionRequest
request_case request_type.OpenSecureChannel = case an_open_secure_channel_request request.OpenSecureChannel
request_case request_type.CloseSecureChannel = case a_request_header request.CloseSecureChannel
request_case request_type.FindServers = case a_find_servers_request request.FindServers
request_case request_type.GetEndpoints = case a_get_endpoints_request request.GetEndpoints
request_case request_type.CreateSession = case a_create_session_request request.CreateSession
request_case request_type.ActivateSession = case an_activate_session_request request.ActivateSession
request_case request_type.CloseSession = case a_close_session_request request.CloseSession
request_case request_type.Read = case a_read_request request.Read
request_case request_type.Call = case a_call_request request.Call

abbrev pub session_requests : Family SessionRequestType SessionRequest
session_requests = record { all = every_request; id = request_id; cases = request_case; known = request_known; small = request_small }

abbrev pub request_put : SessionRequest → Put SessionRequestType
request_put (request.OpenSecureChannel p) = put request_type.OpenSecureChannel an_open_secure_channel_request p
request_put (request.CloseSecureChannel p) = put request_type.CloseSecureChannel a_request_header p
request_put (request.FindServers p) = put request_type.FindServers a_find_servers_request p
request_put (request.GetEndpoints p) = put request_type.GetEndpoints a_get_endpoints_request p
request_put (request.CreateSession p) = put request_type.CreateSession a_create_session_request p
request_put (request.ActivateSession p) = put request_type.ActivateSession an_activate_session_request p
request_put (request.CloseSession p) = put request_type.CloseSession a_close_session_request p
request_put (request.Read p) = put request_type.Read a_read_request p
request_put (request.Call p) = put request_type.Call a_call_request p

abbrev pub reply_case : SessionReplyType → Case SessionReply
reply_case reply_type.ServiceFault = case a_response_header reply.ServiceFault
reply_case reply_type.OpenSecureChannel = case an_open_secure_channel_response reply.OpenSecureChannel
reply_case reply_type.CloseSecureChannel = case a_response_header reply.CloseSecureChannel
reply_case reply_type.FindServers = case a_find_servers_response reply.FindServers
reply_case reply_type.GetEndpoints = case a_get_endpoints_response reply.GetEndpoints
reply_case reply_type.CreateSession = case a_create_session_response reply.CreateSession
reply_case reply_type.ActivateSession = case an_activate_session_response reply.ActivateSession
reply_case reply_type.CloseSession = case a_response_header reply.CloseSession
reply_case reply_type.Read = case a_read_response reply.Read
reply_case reply_type.Call = case a_call_response reply.Call

abbrev pub session_replies : Family SessionReplyType SessionReply
session_replies = record { all = every_reply; id = reply_id; cases = reply_case; known = reply_known; small = reply_small }

abbrev pub reply_put : SessionReply → Put SessionReplyType
reply_put (reply.ServiceFault p) = put reply_type.ServiceFault a_response_header p
reply_put (reply.OpenSecureChannel p) = put reply_type.OpenSecureChannel an_open_secure_channel_response p
reply_put (reply.CloseSecureChannel p) = put reply_type.CloseSecureChannel a_response_header p
reply_put (reply.FindServers p) = put reply_type.FindServers a_find_servers_response p
reply_put (reply.GetEndpoints p) = put reply_type.GetEndpoints a_get_endpoints_response p
reply_put (reply.CreateSession p) = put reply_type.CreateSession a_create_session_response p
reply_put (reply.ActivateSession p) = put reply_type.ActivateSession an_activate_session_response p
reply_put (reply.CloseSession p) = put reply_type.CloseSession a_response_header p
reply_put (reply.Read p) = put reply_type.Read a_read_response p
reply_put (reply.Call p) = put reply_type.Call a_call_response p

abbrev pub token_case : IdentityTokenType → Case IdentityToken
token_case token_type.Anonymous = case an_anonymous_identity_token token.Anonymous

abbrev pub identity_tokens : Family IdentityTokenType IdentityToken
identity_tokens = record { all = every_token; id = token_id; cases = token_case; known = token_known; small = token_small }

abbrev pub token_put : IdentityToken → Put IdentityTokenType
token_put (token.Anonymous p) = put token_type.Anonymous an_anonymous_identity_token p
