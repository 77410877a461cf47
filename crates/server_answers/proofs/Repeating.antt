-- A message that is said again is one that was kept when it was asked for.
use Rattle.std.proofs.Common.{◌≡◌, ℕ, List, [], ◌∷◌, ◌++◌, Some, ap, subst, inl, inr}
use Rattle.std.specs.Prelude.{Ok}
use Rattle.std.specs.List.{AllByRecursion}
use Rattle.set_model.specs.declared.source.Change.{Change}
use Rattle.ua_chunks.specs.Assembly.{Tokens}
use Rattle.ua_channel.specs.declared.ear.Ear.{Ear}
use Rattle.ua_channel.specs.declared.heard.Heard.{Heard}
use Rattle.ua_channel.specs.declared.heard.Heard.TheVariants as heard_as
use Rattle.ua_channel.specs.declared.wire.Order.{Order}
use Rattle.ua_channel.specs.declared.wire.Order.TheVariants as order
use Rattle.ua_channel.specs.Messages.{hearing_of}
use Rattle.ua_channel.specs.Orders.{puts_of}
use Rattle.ua_channel.specs.Sharing.{own}
use Rattle.ua_channel.specs.State.{WireState}
use Rattle.ua_sub_msgs.specs.declared.notification.NotificationMessage.{NotificationMessage}
use Rattle.ua_sub_msgs.specs.declared.publish.RepublishRequest.{RepublishRequest}
use Rattle.ua_sub_msgs.specs.declared.publish.RepublishResponse.{RepublishResponse}
use Rattle.ua_sub_msgs.specs.declared.reply.SubReply.TheVariants as sub_reply
use Rattle.ua_sub_msgs.specs.declared.request.SubRequest.TheVariants as sub_request
use Rattle.ua_services.specs.declared.reply.Reply.{Reply}
use Rattle.ua_services.specs.declared.reply.Reply.TheVariants as reply
use Rattle.ua_services.specs.declared.request.Request.TheVariants as request
use Rattle.ua_services.specs.Requests.{request_at}
use Rattle.server_rules.specs.declared.config.ServerConfig.{ServerConfig}
use Rattle.server_rules.specs.State.{ServerState, new_server}
use Rattle.server_rules.specs.Said.{Said, Told, orders_of}
use Rattle.server_rules.specs.Step.{Happening, Hears, after}
use Rattle.server_rules.specs.Acts.{history, state_after}
use Rattle.server_laws.specs.Beginning.{KeptUnder}
use Rattle.server_laws.specs.Course.{said_after}
use Rattle.server_laws.specs.Facts.{IsWithin, facts_said, facts_told}
use Rattle.server_laws.specs.Moves.{Repeated}
use Rattle.server_laws.proofs.Within.{none_within}
use Rattle.server_keeps.specs.Again.{IsReadAgain}
use Rattle.server_keeps.specs.Fitting.{FitsChange, FitsConfig, FitsHappening}
use Rattle.link_laws.specs.Taken.{heard_reply}
use Rattle.server_tellings.specs.Again.{asks}
use Rattle.server_tellings.specs.Heard.{IsPutOn}
use Rattle.server_tellings.proofs.Hearing.{IsSaidAgain, SaidIs, life_again, was_said}
use Rattle.server_tellings.proofs.Repeating.{ComesSo, republish_then}
use Rattle.server_tellings.proofs.Sending.{facts_within}
use Rattle.server_answers.specs.Repeats.{WasKeptThen}

-- ---- parts of lists

all_behind : {A : Type 0} (P : A → Type 0) (one other : List A) → AllByRecursion P (one ++ other) → AllByRecursion P other
all_behind P [] other h = h
all_behind P (x ∷ one) other h = all_behind P one other h.1

put_among : (orders : List Order) (wire : WireState) → puts_of orders ≡ wire ∷ [] → IsWithin (order.Put wire ∷ []) orders
put_among [] wire is = absurd cc
put_among (order.Put w ∷ orders) wire is =
    let same : wire ≡ w = cc in
    inr ([], ap (λ (x : WireState). order.Put x ∷ []) same, none_within orders)
put_among (order.Limit l ∷ orders) wire is = inl (put_among orders wire is)
put_among (order.Renew channel token ∷ orders) wire is = inl (put_among orders wire is)

-- ---- what other crates say

abbrev pub PutsReadAgain : Type 0
PutsReadAgain = (config : ServerConfig) (current : List Change) (happenings : List Happening) → FitsConfig config
    → AllByRecursion FitsChange current → AllByRecursion FitsHappening happenings → AllByRecursion IsReadAgain (history happenings (new_server config current))

abbrev pub RepeatedWereKept : Type 0
RepeatedWereKept = (conn number : ℕ) (body : List ℕ) (asked : RepublishRequest) (s : ServerState) (message : NotificationMessage)
    → request_at body ≡ Ok (request.Subscription (sub_request.Republish asked))
    → IsWithin (Repeated message ∷ []) (facts_said (after (asks conn number body) s).said)
    → KeptUnder asked.subscription_id asked.retransmit_sequence_number message s

-- ---- what is said in the step

step_again : SaidIs → PutsReadAgain → (config : ServerConfig) (current : List Change) (happenings later earlier : List Happening) (happening : Happening)
    → FitsConfig config → AllByRecursion FitsChange current → AllByRecursion FitsHappening happenings → happenings ≡ later ++ happening ∷ earlier
    → AllByRecursion IsSaidAgain (after happening (state_after earlier (new_server config current))).said
step_again said read config current happenings later earlier happening fits also too are =
    let s : ServerState = new_server config current in
    let until : AllByRecursion FitsHappening (happening ∷ earlier) =
    all_behind FitsHappening later (happening ∷ earlier) (subst (AllByRecursion FitsHappening) are too) in
    all_behind IsSaidAgain (said_after earlier s) (after happening (state_after earlier s)).said
    (life_again said (happening ∷ earlier) s (read config current (happening ∷ earlier) fits also until))

repeated_within : (conn : ℕ) (wire : WireState) (e : Ear) (tokens : Tokens) (response : RepublishResponse) (all : List Said) → AllByRecursion IsSaidAgain all
    → puts_of (own conn (orders_of all)) ≡ wire ∷ [] → heard_reply (hearing_of e wire tokens).heard ≡ Some (reply.Subscription (sub_reply.Republish response))
    → IsWithin (Repeated response.notification_message ∷ []) (facts_said all)
repeated_within conn wire e tokens response all again puts is =
    let answer : Reply = reply.Subscription (sub_reply.Republish response) in
    let put : IsPutOn conn wire all = put_among (own conn (orders_of all)) wire puts in
    let one = was_said all conn wire e tokens answer again put is in
    subst (λ (told : Told). IsWithin (facts_told told) (facts_said all)) one.told (facts_within one.said all one.among)

pub kept_in_step : SaidIs → PutsReadAgain → ComesSo → RepeatedWereKept → (config : ServerConfig) (current : List Change) (happenings : List Happening) (conn : ℕ)
    (h : Heard) (wire : WireState) (e : Ear) (tokens : Tokens) (response : RepublishResponse) (later earlier : List Happening)
    → FitsConfig config → AllByRecursion FitsChange current → AllByRecursion FitsHappening happenings → happenings ≡ later ++ Hears conn h ∷ earlier
    → puts_of (own conn (orders_of (after (Hears conn h) (state_after earlier (new_server config current))).said)) ≡ wire ∷ []
    → heard_reply (hearing_of e wire tokens).heard ≡ Some (reply.Subscription (sub_reply.Republish response))
    → WasKeptThen h response.notification_message (state_after earlier (new_server config current))
kept_in_step said read comes kept config current happenings conn h wire e tokens response later earlier fits also too are puts is =
    let t : ServerState = state_after earlier (new_server config current) in
    let message : NotificationMessage = response.notification_message in
    let within : IsWithin (Repeated message ∷ []) (facts_said (after (Hears conn h) t).said) =
    repeated_within conn wire e tokens response (after (Hears conn h) t).said
    (step_again said read config current happenings later earlier (Hears conn h) fits also too are) puts is in
    let r = republish_then comes (Hears conn h) t message within in
    let hears : Hears conn h ≡ Hears r.conn (heard_as.Message r.number r.body) = r.is in
    record {
      number = r.number;
      body = r.body;
      asked = r.asked;
      is = cc;
      reads = r.reads;
      kept = kept r.conn r.number r.body r.asked t message r.reads
          (subst (λ (x : Happening). IsWithin (Repeated message ∷ []) (facts_said (after x t).said)) r.is within);
    }
