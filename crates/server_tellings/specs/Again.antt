-- What a message is that is said again (OPC 10000-4, 5.13.6).
use Rattle.std.specs.Prelude.{◌≡◌, ℕ, List, [], ◌∷◌, ◌++◌, Ok}
use Rattle.ua_channel.specs.declared.heard.Heard.TheVariants as heard
use Rattle.ua_sub_msgs.specs.declared.notification.NotificationMessage.{NotificationMessage}
use Rattle.ua_sub_msgs.specs.declared.publish.RepublishRequest.{RepublishRequest}
use Rattle.ua_sub_msgs.specs.declared.request.SubRequest.TheVariants as sub_request
use Rattle.ua_services.specs.declared.request.Request.TheVariants as request
use Rattle.ua_services.specs.Requests.{request_at}
use Rattle.server_rules.specs.State.{ServerState}
use Rattle.server_rules.specs.Step.{Happening, Hears, after}
use Rattle.server_rules.specs.Acts.{state_after}
use Rattle.server_laws.specs.Beginning.{KeptUnder}
use Rattle.server_laws.specs.Course.{life_of}
use Rattle.server_laws.specs.Facts.{IsWithin, facts_said}
use Rattle.server_laws.specs.Messages.{AreMessages}
use Rattle.server_laws.specs.Moves.{Repeated}
use Rattle.server_tellings.specs.Heard.{IsAtPlace}

-- a request is taken on a connection
abbrev pub asks : ℕ → ℕ → List ℕ → Happening
asks conn number body = Hears conn (heard.Message number body)

-- of what happened, newest first: a Republish was taken, and then the message was said again; when it was taken, the
-- subscription that it names kept the message under the number that it asks for. So the message is one of those that the
-- subscription had sent
pub record IsKeptMessage (message : NotificationMessage) (happenings : List Happening) (s : ServerState) : Type 0 where
  pub later : List Happening
  pub conn : ℕ
  pub number : ℕ
  pub body : List ℕ
  pub earlier : List Happening
  pub is : happenings ≡ later ++ asks conn number body ∷ earlier
  pub asked : RepublishRequest
  pub reads : request_at body ≡ Ok (request.Subscription (sub_request.Republish asked))
  pub repeated : IsWithin (Repeated message ∷ []) (facts_said (after (asks conn number body) (state_after earlier s)).said)
  pub kept : KeptUnder asked.subscription_id asked.retransmit_sequence_number message (state_after earlier s)
  pub sent : (messages : List NotificationMessage) → AreMessages asked.subscription_id messages (life_of earlier s)
      → IsAtPlace asked.retransmit_sequence_number message messages
