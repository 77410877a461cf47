-- On which connections something is said, and when a request is answered by the next that is put on its connection.
use Rattle.std.specs.Prelude.{◌≡◌, ◌≢◌, ℕ, ◌+◌, List, [], ◌∷◌, ◌++◌, ◌⊎◌, Some, Result, Ok, Err, Bool, true, false, filter}
use Rattle.ua_base.specs.Status.{good}
use Rattle.retransmit.specs.Kept.{numbers_of}
use Rattle.sessions.specs.declared.session.Session.{Session}
use Rattle.ua_channel.specs.declared.heard.Heard.{Heard}
use Rattle.ua_channel.specs.declared.heard.Heard.TheVariants as heard
use Rattle.subscription.specs.State.{SubState}
use Rattle.ua_sub_msgs.specs.declared.reply.SubReply.{SubReply}
use Rattle.ua_sub_msgs.specs.declared.reply.SubReply.TheVariants as sub_reply
use Rattle.ua_sub_msgs.specs.declared.request.SubRequest.{SubRequest}
use Rattle.ua_sub_msgs.specs.declared.request.SubRequest.TheVariants as sub_request
use Rattle.ua_sub_msgs.specs.declared.subscription.TransferResult.{TransferResult}
use Rattle.ua_sub_msgs.specs.declared.subscription.TransferSubscriptionsResponse.{TransferSubscriptionsResponse}
use Rattle.ua_services.specs.declared.request.Request.{Request}
use Rattle.ua_services.specs.declared.request.Request.TheVariants as request
use Rattle.ua_services.specs.declared.reply.Reply.{Reply}
use Rattle.ua_services.specs.declared.reply.Reply.TheVariants as reply
use Rattle.ua_services.specs.Requests.{request_at}
use Rattle.ua_services.specs.Families.{reply_id, reply_put, request_id, request_put}
use Rattle.ua_services.specs.declared.request.RequestFault.{RequestFault}
use Rattle.server_rules.specs.declared.conn.Asker.{Asker}
use Rattle.server_rules.specs.declared.conn.Conn.{Conn}
use Rattle.server_rules.specs.State.{ServerState, conn_at, sub_at}
use Rattle.server_rules.specs.Said.{Acknowledged, Did, Limited, Opened, Refused, Renewed, Replied, Said, Told}
use Rattle.server_rules.specs.Requests.{asker_of}
use Rattle.server_rules.specs.Step.{Happening, Hears}
use Rattle.server_rules.specs.Answering.{replied}

-- all of it is said on such connections
abbrev pub SaysOn : (ℕ → Type 0) → List Said → Type 0
SaysOn P [] = Unit {0}
SaysOn P (said ∷ more) = P said.conn × SaysOn P more

-- a session has queued Publishes only where it is bound to such a connection
abbrev pub WaitsOn : (ℕ → Type 0) → Session → Type 0
WaitsOn P session = (conn : ℕ) → session.conn ≡ Some conn → (session.queued ≡ []) ⊎ P conn

abbrev pub AllWait : (ℕ → Type 0) → List Session → Type 0
AllWait P [] = Unit {0}
AllWait P (session ∷ sessions) = WaitsOn P session × AllWait P sessions

-- what is said and what waits is on such connections
pub record IsTold (P : ℕ → Type 0) (did : Did) : Type 0 where
  pub on : SaysOn P did.said
  pub waits : AllWait P did.state.sessions.sessions

-- the answer is the last that is said, and what is said before it is on such connections
pub record IsAnswered (P : ℕ → Type 0) (asker : Asker) (Good : Reply → Type 0) (did : Did) : Type 0 where
  pub front : List Said
  pub answer : Reply
  pub from : ServerState
  pub said : did.said ≡ front ++ (replied asker answer from).said
  pub on : SaysOn P front
  pub good : Good answer
  pub waits : AllWait P did.state.sessions.sessions

-- every other connection
abbrev pub Other : ℕ → ℕ → Type 0
Other conn other = other ≢ conn

-- no Publish waits on a connection
abbrev pub IsQuiet : ℕ → ServerState → Type 0
IsQuiet conn s = AllWait (Other conn) s.sessions.sessions

-- ---- which answers a request may get

-- a response has the number that is three more than its request's (OPC 10000-6, annex A.3); and a ServiceFault, whose number
-- is 397, may answer any request
abbrev pub Fits : Request → Reply → Type 0
Fits r answer =
    (reply_id (reply_put answer).kind ≡ request_id (request_put r).kind + 3) ⊎ (reply_id (reply_put answer).kind ≡ 397)

-- a good result of a transfer tells the numbers of the messages that the subscription keeps
abbrev pub TellsKept : ℕ → TransferResult → List SubState → Type 0
TellsKept id result subs = result.status_code ≡ good
    → (sub : SubState) × (sub_at id subs ≡ Some sub) × (result.available_sequence_numbers ≡ numbers_of sub.kept)

abbrev pub AllTellKept : List ℕ → List TransferResult → List SubState → Type 0
AllTellKept [] [] subs = Unit {0}
AllTellKept [] (result ∷ results) subs = ⊥
AllTellKept (id ∷ ids) [] subs = ⊥
AllTellKept (id ∷ ids) (result ∷ results) subs = TellsKept id result subs × AllTellKept ids results subs

abbrev pub TellsOf : TransferSubscriptionsResponse → SubRequest → List SubState → Type 0
TellsOf answer (sub_request.TransferSubscriptions r) subs = AllTellKept r.subscription_ids answer.results subs
TellsOf answer other subs = Unit {0}

abbrev pub TellsIn : SubReply → Request → List SubState → Type 0
TellsIn (sub_reply.TransferSubscriptions answer) (request.Subscription r) subs = TellsOf answer r subs
TellsIn (sub_reply.TransferSubscriptions answer) (request.Session r) subs = Unit {0}
TellsIn other r subs = Unit {0}

abbrev pub Tells : Reply → Request → List SubState → Type 0
Tells (reply.Subscription answer) r subs = TellsIn answer r subs
Tells (reply.Session answer) r subs = Unit {0}

abbrev pub IsGood : Request → List SubState → Reply → Type 0
IsGood r subs answer = Fits r answer × Tells answer r subs

-- every request but Publish is answered at once
abbrev pub IsAtOnceSub : SubRequest → Type 0
IsAtOnceSub (sub_request.Publish r) = ⊥
IsAtOnceSub other = Unit {0}

abbrev pub IsAtOnce : Request → Type 0
IsAtOnce (request.Subscription r) = IsAtOnceSub r
IsAtOnce (request.Session r) = Unit {0}

abbrev pub IsAtOnceOf : Result Request RequestFault → Type 0
IsAtOnceOf (Ok r) = IsAtOnce r
IsAtOnceOf (Err fault) = Unit {0}

-- a ServiceFault
abbrev pub IsFault : Reply → Type 0
IsFault answer = reply_id (reply_put answer).kind ≡ 397

-- a body that is no request gets a fault
abbrev pub IsGoodFor : Result Request RequestFault → List SubState → Reply → Type 0
IsGoodFor (Ok r) subs answer = IsGood r subs answer
IsGoodFor (Err fault) subs answer = IsFault answer

-- what comes on a connection is answered there under its own number, and the connection is there then; and all else that is
-- said is on such connections
pub record IsReplied (P : ℕ → Type 0) (conn number : ℕ) (r : Result Request RequestFault) (s : ServerState) (did : Did) : Type 0 where
  pub handle : ℕ
  pub answered : IsAnswered P (asker_of conn number handle) (IsGoodFor r s.subs) did
  pub there : (c : Conn) × (conn_at conn answered.from.conns ≡ Some c)

-- what is heard is heard on such a connection
abbrev pub MayHear : (ℕ → Type 0) → Happening → Type 0
MayHear P (Hears number h) = P number
MayHear P other = Unit {0}

-- none at all
abbrev pub Never : ℕ → Type 0
Never conn = ⊥

-- no Publish waits anywhere
abbrev pub NoneWaits : ServerState → Type 0
NoneWaits s = AllWait Never s.sessions.sessions

-- what is heard is no Publish
abbrev pub IsNoPublish : Heard → Type 0
IsNoPublish (heard.Message number body) = IsAtOnceOf (request_at body)
IsNoPublish other = Unit {0}

-- any connection
abbrev pub Anywhere : ℕ → Type 0
Anywhere conn = Unit {0}

-- ---- messages that are put

-- limits and a new token are no messages
abbrev pub is_put : Told → Bool
is_put (Acknowledged greeting) = true
is_put (Opened number response) = true
is_put (Replied number answer) = true
is_put (Refused code) = true
is_put (Limited limits) = false
is_put (Renewed channel token) = false

abbrev pub puts : List Said → List Said
puts said = filter (λ one. is_put one.told) said

-- one message is put, on this connection
pub record IsOnePut (conn : ℕ) (did : Did) : Type 0 where
  pub one : Said
  pub put : puts did.said ≡ one ∷ []
  pub on : one.conn ≡ conn

-- a HEL, an OPN, or a fault
abbrev pub IsOpening : Heard → Type 0
IsOpening (heard.Greeting body) = Unit {0}
IsOpening (heard.Opening channel follows number body) = Unit {0}
IsOpening (heard.Message number body) = ⊥
IsOpening heard.Close = ⊥
IsOpening (heard.Fault code) = Unit {0}
