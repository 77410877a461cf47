-- The quiet beginning of a connection: what stays as it is until a Publish is taken (OPC 10000-4, 5.13.5 to 5.13.7).
use Rattle.std.specs.Prelude.{◌≡◌, ◌⊎◌, ℕ, List, [], ◌∷◌, Some, None, Ok}
use Rattle.ua_base.specs.Status.{bad_message_not_available, bad_secure_channel_id_invalid, bad_session_id_invalid, bad_session_not_activated, bad_subscription_id_invalid, good}
use Rattle.retransmit.specs.Kept.{message_of, numbers_of}
use Rattle.sessions.specs.Table.{check_answer}
use Rattle.ua_structures.specs.declared.header.ResponseHeader.{ResponseHeader}
use Rattle.ua_sub_msgs.specs.declared.notification.NotificationMessage.{NotificationMessage}
use Rattle.ua_sub_msgs.specs.declared.publish.RepublishRequest.{RepublishRequest}
use Rattle.ua_sub_msgs.specs.declared.reply.SubReply.TheVariants as sub_reply
use Rattle.ua_sub_msgs.specs.declared.subscription.TransferResult.{TransferResult}
use Rattle.ua_sub_msgs.specs.declared.subscription.TransferSubscriptionsRequest.{TransferSubscriptionsRequest}
use Rattle.ua_sub_msgs.specs.declared.subscription.TransferSubscriptionsResponse.{TransferSubscriptionsResponse}
use Rattle.ua_services.specs.declared.reply.Reply.{Reply}
use Rattle.ua_services.specs.declared.reply.Reply.TheVariants as reply
use Rattle.subscription.specs.State.{SubState}
use Rattle.server_rules.specs.declared.conn.Conn.{Conn}
use Rattle.server_rules.specs.State.{ServerState, conn_at, sub_at}
use Rattle.server_rules.specs.Said.{Did, Replied, Said, Told}
use Rattle.server_rules.specs.Answering.{fault_reply}
use Rattle.server_rules.specs.Operations.{own_sub}
use Rattle.server_rules.specs.Requests.{asker_of, token_in}
use Rattle.server_rules.specs.Subscriptions.{republished_reply}
use Rattle.server_rules.specs.Step.{Happening, Hears}
use Rattle.server_laws.specs.Facts.{facts_said}
use Rattle.server_laws.specs.Lives.{messages_for}
use Rattle.server_laws.specs.Lockstep.{IsAnswered, IsNoPublish, NoneWaits}

-- ---- what is taken

-- no Publish is
abbrev pub HearsNoPublish : Happening → Type 0
HearsNoPublish (Hears conn h) = IsNoPublish h
HearsNoPublish other = Unit {0}

abbrev pub HearNoPublish : List Happening → Type 0
HearNoPublish [] = Unit {0}
HearNoPublish (happening ∷ earlier) = HearsNoPublish happening × HearNoPublish earlier

-- ---- what is said

-- no Publish response, so no message of a subscription
abbrev pub IsNoSending : Told → Type 0
IsNoSending (Replied number (reply.Subscription (sub_reply.Publish response))) = ⊥
IsNoSending other = Unit {0}

abbrev pub AreNoSendings : List Said → Type 0
AreNoSendings [] = Unit {0}
AreNoSendings (said ∷ more) = IsNoSending said.told × AreNoSendings more

-- ---- what is kept

-- a subscription was there before and kept the same messages; or it was made since then, and keeps none
abbrev pub IsKeptFrom : ℕ → SubState → ServerState → Type 0
IsKeptFrom id sub s =
    ((before : SubState) × (sub_at id s.subs ≡ Some before) × (before.kept ≡ sub.kept)) ⊎ ((sub_at id s.subs ≡ None) × (sub.kept ≡ []))

-- each subscription that is there after; others may have gone
abbrev pub KeepsAll : ServerState → ServerState → Type 0
KeepsAll s after = (id : ℕ) (sub : SubState) → sub_at id after.subs ≡ Some sub → IsKeptFrom id sub s

-- nothing is sent, no Publish waits, and what is kept stays
pub record IsQuietSince (s : ServerState) (did : Did) : Type 0 where
  pub none : AreNoSendings did.said
  pub unsent : (id : ℕ) → messages_for id (facts_said did.said) ≡ []
  pub waits : NoneWaits did.state
  pub kept : KeepsAll s did.state

-- ---- what is answered then

-- what comes on a connection is answered there, and nothing else is said
pub record IsAnsweredBy (P : ℕ → Type 0) (Good : Reply → Type 0) (conn number : ℕ) (did : Did) : Type 0 where
  pub handle : ℕ
  pub answered : IsAnswered P (asker_of conn number handle) Good did
  pub there : (c : Conn) × (conn_at conn answered.from.conns ≡ Some c)

abbrev pub KeptUnder : ℕ → ℕ → NotificationMessage → ServerState → Type 0
KeptUnder id number message s = (sub : SubState) × (sub_at id s.subs ≡ Some sub) × (message_of number sub.kept ≡ Some message)

-- the status code of a ServiceFault
abbrev pub IsFaultOf : ℕ → Reply → Type 0
IsFaultOf code answer = (handle : ℕ) × (s : ServerState) × (answer ≡ fault_reply handle code s)

-- there is no such session on the connection, or it wasn't activated (OPC 10000-4, 5.6)
abbrev pub IsOfSession : ℕ → Type 0
IsOfSession code = (code ≡ bad_session_id_invalid) ⊎ ((code ≡ bad_secure_channel_id_invalid) ⊎ (code ≡ bad_session_not_activated))

-- the session has no such subscription
abbrev pub HasNone : ℕ → RepublishRequest → ServerState → Type 0
HasNone conn r now =
    (session : ℕ) × (check_answer (token_in r.request_header) conn now.sessions ≡ Ok session) × (own_sub session r.subscription_id now ≡ None)

-- a Republish says what was kept under its number; or there is no such session, or it has no such subscription, or nothing
-- was kept under the number
abbrev pub Refuses : ℕ → RepublishRequest → ServerState → ServerState → ℕ → Type 0
Refuses conn r s now code =
    IsOfSession code
    ⊎ (((code ≡ bad_subscription_id_invalid) × HasNone conn r now)
    ⊎ ((code ≡ bad_message_not_available) × ((message : NotificationMessage) → KeptUnder r.subscription_id r.retransmit_sequence_number message s → ⊥)))

abbrev pub RepeatsKept : ℕ → RepublishRequest → ServerState → ServerState → Reply → Type 0
RepeatsKept conn r s now answer =
    ((message : NotificationMessage) × KeptUnder r.subscription_id r.retransmit_sequence_number message s
    × ((header : ResponseHeader) × (answer ≡ republished_reply message header)))
    ⊎ ((code : ℕ) × IsFaultOf code answer × Refuses conn r s now code)

-- a good result of a transfer tells the numbers of what was kept, and none of a subscription that was made since then
abbrev pub TellsKeptFrom : ℕ → TransferResult → ServerState → Type 0
TellsKeptFrom id result s = result.status_code ≡ good
    → ((sub : SubState) × (sub_at id s.subs ≡ Some sub) × (result.available_sequence_numbers ≡ numbers_of sub.kept))
    ⊎ ((sub_at id s.subs ≡ None) × (result.available_sequence_numbers ≡ []))

abbrev pub AllTellFrom : List ℕ → List TransferResult → ServerState → Type 0
AllTellFrom [] [] s = Unit {0}
AllTellFrom [] (result ∷ results) s = ⊥
AllTellFrom (id ∷ ids) [] s = ⊥
AllTellFrom (id ∷ ids) (result ∷ results) s = TellsKeptFrom id result s × AllTellFrom ids results s

abbrev pub TransfersKept : TransferSubscriptionsRequest → ServerState → Reply → Type 0
TransfersKept r s answer = (response : TransferSubscriptionsResponse) → answer ≡ reply.Subscription (sub_reply.TransferSubscriptions response)
    → AllTellFrom r.subscription_ids response.results s
