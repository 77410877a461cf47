-- What was asked for where a message is said again, and what was kept then (OPC 10000-4, 5.13.6).
use Rattle.std.specs.Prelude.{◌≡◌, ℕ, List, Ok}
use Rattle.ua_channel.specs.declared.heard.Heard.{Heard}
use Rattle.ua_channel.specs.declared.heard.Heard.TheVariants as heard_as
use Rattle.ua_sub_msgs.specs.declared.notification.NotificationMessage.{NotificationMessage}
use Rattle.ua_sub_msgs.specs.declared.publish.RepublishRequest.{RepublishRequest}
use Rattle.ua_sub_msgs.specs.declared.request.SubRequest.TheVariants as sub_request
use Rattle.ua_services.specs.declared.request.Request.TheVariants as request
use Rattle.ua_services.specs.Requests.{request_at}
use Rattle.server_rules.specs.State.{ServerState}
use Rattle.server_laws.specs.Beginning.{KeptUnder}

-- what was heard is a Republish request, and the subscription that it names kept the message under the number that it asks
-- for when it was heard
pub record WasKeptThen (h : Heard) (message : NotificationMessage) (s : ServerState) : Type 0 where
  pub number : ℕ
  pub body : List ℕ
  pub asked : RepublishRequest
  pub is : h ≡ heard_as.Message number body
  pub reads : request_at body ≡ Ok (request.Subscription (sub_request.Republish asked))
  pub kept : KeptUnder asked.subscription_id asked.retransmit_sequence_number message s
