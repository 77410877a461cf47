-- What the other ends may read of a server's moves in what it says.
use Rattle.std.specs.Prelude.{◌≡◌, ◌<◌, ◌≤◌, ℕ, List, [], ◌∷◌, ◌++◌, ◌==◌, ◌&&◌, Bool, false, Some, None, ◌⊎◌, if◌then◌else◌}
use Rattle.ua_values.specs.declared.extension.ExtensionObject.{ExtensionObject}
use Rattle.ua_values.specs.declared.node.NodeId.{NodeId}
use Rattle.ua_values.specs.declared.node.NodeId.TheVariants as node
use Rattle.ua_session_msgs.specs.declared.reply.SessionReply.{SessionReply}
use Rattle.ua_session_msgs.specs.declared.reply.SessionReply.TheVariants as session_reply
use Rattle.ua_sub_msgs.specs.declared.notification.NotificationMessage.{NotificationMessage}
use Rattle.ua_sub_msgs.specs.declared.reply.SubReply.{SubReply}
use Rattle.ua_sub_msgs.specs.declared.reply.SubReply.TheVariants as sub_reply
use Rattle.ua_services.specs.declared.reply.Reply.{Reply}
use Rattle.ua_services.specs.declared.reply.Reply.TheVariants as reply
use Rattle.server_rules.specs.Said.{Said, Told, Opened, Replied}
use Rattle.server_laws.specs.Moves.{ChannelOpened, Fact, ModesSet, Answered, Repeated, Sent, Subscribed, Token, ValuesRead}

-- a message has data where it has a DataChangeNotification, whose number is 811 (OPC 10000-4, 7.25.2)
abbrev pub has_number : NodeId → Bool
has_number (node.Numeric namespace id) = (namespace == 0) && (id == 811)
has_number (node.Text namespace id) = false
has_number (node.Guid namespace id) = false
has_number (node.Opaque namespace id) = false

abbrev pub data_in : ℕ → NotificationMessage → List ExtensionObject → List Fact
data_in id message [] = []
data_in id message (object ∷ more) = if has_number object.type_id then Sent id message ∷ [] else []

-- the token of a session is a ByteString
abbrev pub token_in : NodeId → List Fact
token_in (node.Numeric namespace id) = []
token_in (node.Text namespace id) = []
token_in (node.Guid namespace id) = []
token_in (node.Opaque namespace None) = []
token_in (node.Opaque namespace (Some token)) = Token token ∷ []

abbrev pub facts_of_session : SessionReply → List Fact
facts_of_session (session_reply.CreateSession r) = token_in r.authentication_token
facts_of_session (session_reply.Read r) = Answered ValuesRead ∷ []
facts_of_session other = []

abbrev pub facts_of_sub : SubReply → List Fact
facts_of_sub (sub_reply.Publish r) = data_in r.subscription_id r.notification_message r.notification_message.notification_data
facts_of_sub (sub_reply.CreateSubscription r) = Subscribed r.subscription_id ∷ []
facts_of_sub (sub_reply.Republish r) = Repeated r.notification_message ∷ []
facts_of_sub (sub_reply.SetMonitoringMode r) = Answered ModesSet ∷ []
facts_of_sub other = []

-- what a reply says
abbrev pub facts_of_reply : Reply → List Fact
facts_of_reply (reply.Session r) = facts_of_session r
facts_of_reply (reply.Subscription r) = facts_of_sub r

abbrev pub facts_told : Told → List Fact
facts_told (Replied request answer) = facts_of_reply answer
facts_told (Opened request response) = Answered (ChannelOpened response.security_token.channel_id) ∷ []
facts_told other = []

abbrev pub facts_said : List Said → List Fact
facts_said [] = []
facts_said (said ∷ more) = facts_told said.told ++ facts_said more

-- what is picked of each of these, in order
abbrev pub picked : {A : Type 0} → (Fact → List A) → List Fact → List A
picked pick [] = []
picked pick (fact ∷ facts) = pick fact ++ picked pick facts

abbrev pub id_in : Fact → List ℕ
id_in (Subscribed id) = id ∷ []
id_in other = []

abbrev pub token_of_fact : Fact → List (List ℕ)
token_of_fact (Token token) = token ∷ []
token_of_fact other = []

-- the ids of subscriptions that were given, and the tokens of sessions
abbrev pub ids_in : List Fact → List ℕ
ids_in facts = picked id_in facts

abbrev pub tokens_in : List Fact → List (List ℕ)
tokens_in facts = picked token_of_fact facts

-- ---- orders

-- numbers that rise, each above the one and none above the other
abbrev pub RiseBetween : ℕ → ℕ → List ℕ → Type 0
RiseBetween low high [] = Unit {0}
RiseBetween low high (number ∷ numbers) = (low < number) × (number ≤ high) × RiseBetween number high numbers

-- all of these, in this order, are among those
abbrev pub IsWithin : {A : Type 0} → List A → List A → Type 0
IsWithin xs [] = xs ≡ []
IsWithin {A} xs (y ∷ ys) = IsWithin xs ys ⊎ ((rest : List A) × (xs ≡ y ∷ rest) × IsWithin rest ys)
