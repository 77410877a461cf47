-- A request that keeps the limits fits where it is taken.
use Rattle.std.proofs.Common.{◌≡◌, ℕ, Bool, true, sym, subst}
use Rattle.std.specs.Prelude.{Ok, IfOk}
use Rattle.ua_channel.specs.declared.heard.Heard.TheVariants as heard
use Rattle.ua_structures.specs.Body.{AreLawful}
use Rattle.ua_session_msgs.specs.declared.channel.OpenSecureChannelRequest.{OpenSecureChannelRequest}
use Rattle.ua_session_msgs.specs.declared.request.SessionRequest.TheVariants as session_request
use Rattle.ua_session_msgs.specs.Families as session
use Rattle.ua_session_msgs.specs.Structures.{an_open_secure_channel_request}
use Rattle.ua_services.specs.declared.request.Request.{Request}
use Rattle.ua_services.specs.declared.request.Request.TheVariants as request
use Rattle.ua_services.specs.Families.{request_put, written_request}
use Rattle.ua_services.specs.Requests.{is_service, request_at}
use Rattle.server_keeps.specs.Fitting.{FitsHeard, FitsRequest, IsUInt32}

pub message_fits : ((r : Request) → (request_put r).keeps → is_service (request_put r).kind ≡ true → request_at (written_request r) ≡ Ok r)
    → (number : ℕ) (r : Request) → IsUInt32 number → (request_put r).keeps → is_service (request_put r).kind ≡ true
    → FitsHeard (heard.Message number (written_request r))
message_fits again number r n kept asks = (n, subst FitsRequest (sym (again r kept asks)) kept)

pub opening_fits : AreLawful session.session_requests session.request_put → (channel : ℕ) (follows : Bool) (number : ℕ) (r : OpenSecureChannelRequest) → IsUInt32 number
    → an_open_secure_channel_request.keeps r
    → FitsHeard (heard.Opening channel follows number (written_request (request.Session (session_request.OpenSecureChannel r))))
opening_fits law channel follows number r n kept =
    (n, subst (λ read. IfOk read (λ asked. (session.request_put asked).keeps)) (sym (law.again (session_request.OpenSecureChannel r) kept)) kept)
