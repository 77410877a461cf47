-- The numbers of the structures' types (OPC 10000-6, annex A.3).
use Rattle.std.specs.Prelude.{◌≡◌, ◌==◌, ◌<◌, ◌^◌, ℕ, List, [], ◌∷◌, Some, refl}
use Rattle.std.specs.List.{find}
use Rattle.std.proofs.Common.{arith}
use Rattle.ua_session_msgs.specs.declared.request.SessionRequestType.{SessionRequestType}
use Rattle.ua_session_msgs.specs.declared.request.SessionRequestType.TheVariants as request_type
use Rattle.ua_session_msgs.specs.declared.reply.SessionReplyType.{SessionReplyType}
use Rattle.ua_session_msgs.specs.declared.reply.SessionReplyType.TheVariants as reply_type
use Rattle.ua_session_msgs.specs.declared.identity.IdentityTokenType.{IdentityTokenType}
use Rattle.ua_session_msgs.specs.declared.identity.IdentityTokenType.TheVariants as token_type

-- The number of its NodeId in the namespace 0, which says that it is encoded in binary (OPC 10000-6, annex A.3)
abbrev pub request_id : SessionRequestType → ℕ
request_id request_type.OpenSecureChannel = 446
request_id request_type.CloseSecureChannel = 452
request_id request_type.FindServers = 422
request_id request_type.GetEndpoints = 428
request_id request_type.CreateSession = 461
request_id request_type.ActivateSession = 467
request_id request_type.CloseSession = 473
request_id request_type.Read = 631
request_id request_type.Call = 712

abbrev pub every_request : List SessionRequestType
every_request = request_type.OpenSecureChannel ∷ request_type.CloseSecureChannel ∷ request_type.FindServers ∷ request_type.GetEndpoints ∷ request_type.CreateSession ∷ request_type.ActivateSession ∷ request_type.CloseSession ∷ request_type.Read ∷ request_type.Call ∷ []

-- no two have one number
pub request_known : (k : SessionRequestType) → find (λ other. request_id other == request_id k) every_request ≡ Some k
request_known request_type.OpenSecureChannel = refl
request_known request_type.CloseSecureChannel = refl
request_known request_type.FindServers = refl
request_known request_type.GetEndpoints = refl
request_known request_type.CreateSession = refl
request_known request_type.ActivateSession = refl
request_known request_type.CloseSession = refl
request_known request_type.Read = refl
request_known request_type.Call = refl

pub request_small : (k : SessionRequestType) → request_id k < 2 ^ 32
request_small request_type.OpenSecureChannel = omega arith
request_small request_type.CloseSecureChannel = omega arith
request_small request_type.FindServers = omega arith
request_small request_type.GetEndpoints = omega arith
request_small request_type.CreateSession = omega arith
request_small request_type.ActivateSession = omega arith
request_small request_type.CloseSession = omega arith
request_small request_type.Read = omega arith
request_small request_type.Call = omega arith

-- The number of its NodeId in the namespace 0, which says that it is encoded in binary (OPC 10000-6, annex A.3)
abbrev pub reply_id : SessionReplyType → ℕ
reply_id reply_type.ServiceFault = 397
reply_id reply_type.OpenSecureChannel = 449
reply_id reply_type.CloseSecureChannel = 455
reply_id reply_type.FindServers = 425
reply_id reply_type.GetEndpoints = 431
reply_id reply_type.CreateSession = 464
reply_id reply_type.ActivateSession = 470
reply_id reply_type.CloseSession = 476
reply_id reply_type.Read = 634
reply_id reply_type.Call = 715

abbrev pub every_reply : List SessionReplyType
every_reply = reply_type.ServiceFault ∷ reply_type.OpenSecureChannel ∷ reply_type.CloseSecureChannel ∷ reply_type.FindServers ∷ reply_type.GetEndpoints ∷ reply_type.CreateSession ∷ reply_type.ActivateSession ∷ reply_type.CloseSession ∷ reply_type.Read ∷ reply_type.Call ∷ []

-- no two have one number
pub reply_known : (k : SessionReplyType) → find (λ other. reply_id other == reply_id k) every_reply ≡ Some k
reply_known reply_type.ServiceFault = refl
reply_known reply_type.OpenSecureChannel = refl
reply_known reply_type.CloseSecureChannel = refl
reply_known reply_type.FindServers = refl
reply_known reply_type.GetEndpoints = refl
reply_known reply_type.CreateSession = refl
reply_known reply_type.ActivateSession = refl
reply_known reply_type.CloseSession = refl
reply_known reply_type.Read = refl
reply_known reply_type.Call = refl

pub reply_small : (k : SessionReplyType) → reply_id k < 2 ^ 32
reply_small reply_type.ServiceFault = omega arith
reply_small reply_type.OpenSecureChannel = omega arith
reply_small reply_type.CloseSecureChannel = omega arith
reply_small reply_type.FindServers = omega arith
reply_small reply_type.GetEndpoints = omega arith
reply_small reply_type.CreateSession = omega arith
reply_small reply_type.ActivateSession = omega arith
reply_small reply_type.CloseSession = omega arith
reply_small reply_type.Read = omega arith
reply_small reply_type.Call = omega arith

-- The number of its NodeId in the namespace 0, which says that it is encoded in binary (OPC 10000-6, annex A.3)
abbrev pub token_id : IdentityTokenType → ℕ
token_id token_type.Anonymous = 321

abbrev pub every_token : List IdentityTokenType
every_token = token_type.Anonymous ∷ []

-- no two have one number
pub token_known : (k : IdentityTokenType) → find (λ other. token_id other == token_id k) every_token ≡ Some k
token_known token_type.Anonymous = refl

pub token_small : (k : IdentityTokenType) → token_id k < 2 ^ 32
token_small token_type.Anonymous = omega arith
