-- A link that is still beginning answers each message that it takes by one that it puts, or doesn't begin any more.
use Rattle.std.proofs.Common.{◌≡◌, ℕ, ℤ, ◌==◌, List, [], ◌∷◌, ◌++◌, length, map, min, nat_le, Bool, true, false, Option, Some, None, Result, Ok, Err, if◌then◌else◌, refl, sym, ap, ◌∙◌, subst, ◌⊎◌, inl, inr}
use Rattle.ua_base.specs.Status.{bad_message_not_available}
use Rattle.ua_values.specs.Reading.{Fault}
use Rattle.ua_variants.specs.declared.variant.Stamped.{Stamped}
use Rattle.ua_variants.specs.declared.variant.Variant.{Variant}
use Rattle.ua_structures.specs.declared.body.BodyFault.{BodyFault}
use Rattle.ua_structures.specs.declared.header.ResponseHeader.{ResponseHeader}
use Rattle.ua_structures.specs.Body.{body_at}
use Rattle.ua_chunks.specs.declared.greeting.Greeting.{Greeting}
use Rattle.ua_channel.specs.declared.heard.Heard.{Heard}
use Rattle.ua_channel.specs.declared.heard.Heard.TheVariants as heard_of
use Rattle.ua_session_msgs.specs.declared.channel.ChannelSecurityToken.{ChannelSecurityToken}
use Rattle.ua_session_msgs.specs.declared.channel.OpenSecureChannelResponse.{OpenSecureChannelResponse}
use Rattle.ua_session_msgs.specs.declared.reply.SessionReply.TheVariants as session_reply
use Rattle.ua_sub_msgs.specs.declared.notification.MonitoredItemNotification.{MonitoredItemNotification}
use Rattle.ua_sub_msgs.specs.declared.notification.NotificationMessage.{NotificationMessage}
use Rattle.ua_sub_msgs.specs.declared.publish.RepublishRequest.{RepublishRequest}
use Rattle.ua_sub_msgs.specs.declared.request.SubRequest.TheVariants as sub_request
use Rattle.ua_sub_msgs.specs.declared.reply.SubReply.TheVariants as sub_reply
use Rattle.ua_services.specs.declared.reply.Reply.{Reply}
use Rattle.ua_services.specs.declared.reply.Reply.TheVariants as reply
use Rattle.ua_services.specs.declared.request.Request.{Request}
use Rattle.ua_services.specs.declared.request.Request.TheVariants as request
use Rattle.ua_services.specs.Families.{replies, written_request}
use Rattle.link_rules.specs.declared.content.Content.{Content}
use Rattle.link_rules.specs.declared.content.Content.TheVariants as content
use Rattle.link_rules.specs.declared.notice.Notice.TheVariants as notice
use Rattle.link_rules.specs.declared.phase.Phase.{Phase}
use Rattle.link_rules.specs.declared.phase.Phase.TheVariants as phase
use Rattle.link_rules.specs.declared.remembered.Remembered.{Remembered}
use Rattle.link_rules.specs.State.{LinkState, with_phase}
use Rattle.link_rules.specs.Said.{LinkDid, Said, Told, Asks, Limited, Opens, Renewed, and_then, nothing, said_on, says, tells}
use Rattle.link_rules.specs.Closing.{broken}
use Rattle.link_rules.specs.Asking.{asked, asked_opening, is_answer, is_fault, next_request, numbered}
use Rattle.link_rules.specs.Requests.{activation_request, channel_request, probe_request, republish_request, session_request_of, transfer_request}
use Rattle.link_rules.specs.Messages.{acknowledged, all_taken, awaits, content_of, data_taken, kept_alive, newest}
use Rattle.link_rules.specs.Numbers.{is_jump, is_next}
use Rattle.link_rules.specs.Ready as ready_rules
use Rattle.link_rules.specs.Subscribing as sub_rules
use Rattle.link_rules.specs.Starting as start_rules
use Rattle.link_rules.specs.Opening as open_rules
use Rattle.link_rules.specs.Step as step_rules
use Rattle.link_laws.specs.Lockstep.{is_publish, is_put, puts}
use Rattle.link_takings.specs.Exchange.{messages_of}
use Rattle.link_takings.proofs.Late.{IsLate, broken_late, enters_late, is_late, subscribes_late}

-- ---- what is done with a message

-- this is a Republish request of the subscription that is remembered
pub record IsAgain (o : Option Remembered) (told : Told) : Type 0 where
  pub r : Remembered
  pub remembers : o ≡ Some r
  pub number : ℕ
  pub body : RepublishRequest
  pub asks : told ≡ Asks number (request.Subscription (sub_request.Republish body))
  pub subscription : body.subscription_id ≡ r.id

-- where a Republish response is awaited
abbrev pub IsAgainIn : Phase → Option Remembered → Told → Type 0
IsAgainIn (phase.Republishing wanted) o told = IsAgain o told
IsAgainIn other o told = Unit {0}

pub record HasPut (did : LinkDid) : Type 0 where
  pub one : Told
  pub said : messages_of did.said ≡ one ∷ []
  pub unpublished : is_publish one ≡ false
  pub early : is_late did.link.phase ≡ false
  pub renews : did.link.conversation.renewal ≡ None
  pub again : IsAgainIn did.link.phase did.link.remembered one

abbrev pub IsAnswered : LinkDid → Type 0
IsAnswered did = IsLate did.link ⊎ HasPut did

-- a subscription is remembered, where the phase is one of it
abbrev pub Holds : Phase → Option Remembered → Type 0
Holds (phase.Republishing wanted) o = (r : Remembered) × (o ≡ Some r)
Holds other o = Unit {0}

answered_if : (b : Bool) (one other : LinkDid) → IsAnswered one → IsAnswered other → IsAnswered (if b then one else other)
answered_if true one other h rest = h
answered_if false one other h rest = rest

falls : (l : LinkState) → IsAnswered (broken l)
falls l = inl (broken_late l)

put_one : (told : Told) (l : LinkState) → is_put told ≡ true → is_publish told ≡ false → is_late l.phase ≡ false → l.conversation.renewal ≡ None
    → IsAgainIn l.phase l.remembered told → HasPut (numbered told l)
put_one told l is other early renews again = record {
  one = told;
  said = ap (λ b. map (λ (one : Said). one.told) (if b then said_on l told ∷ [] else [])) is;
  unpublished = other;
  early = early;
  renews = renews;
  again = again;
}

asks_one : (r : Request) (l : LinkState) → is_publish (Asks (next_request l) r) ≡ false → is_late l.phase ≡ false → l.conversation.renewal ≡ None
    → IsAgainIn l.phase l.remembered (Asks (next_request l) r) → IsAnswered (asked r l)
unfolding asked
asks_one r l other early renews again =
    answered_if (nat_le (length (written_request r)) l.conversation.limit) (numbered (Asks (next_request l) r) l) (broken l)
    (inr (put_one (Asks (next_request l) r) l refl other early renews again)) (falls l)

opens_one : (l : LinkState) → l.conversation.renewal ≡ None → IsAnswered (open_rules.opens_channel l)
unfolding open_rules.opens_channel asked_opening
opens_one l renews =
    let next : LinkState = with_phase phase.Opening l in
    answered_if (nat_le (length (written_request (channel_request _ l))) (min next.conversation.limit 4096))
    (numbered (Opens (next_request next) (channel_request _ l)) next) (broken next)
    (inr (put_one (Opens (next_request next) (channel_request _ l)) next refl refl refl renews tt)) (falls next)

-- ---- one after another

quiet_then : (did next : LinkDid) → did.said ≡ [] → IsAnswered next
    → IsAnswered (record { link = next.link; said = did.said ++ next.said; notices = did.notices ++ next.notices })
quiet_then did next none h =
    subst (λ (x : List Said). IsAnswered (record { link = next.link; said = x ++ next.said; notices = did.notices ++ next.notices })) (sym none)
    (by_answer h)
  where
    by_answer : IsAnswered next → IsAnswered (record { link = next.link; said = next.said; notices = did.notices ++ next.notices })
    by_answer (inl late) = inl late
    by_answer (inr a) = inr (record {
      one = a.one;
      said = a.said;
      unpublished = a.unpublished;
      early = a.early;
      renews = a.renews;
      again = a.again;
    })

-- what is no message comes before
silent_then : (one : Said) (next : LinkDid) → is_put one.told ≡ false → IsAnswered next
    → IsAnswered (record { link = next.link; said = one ∷ next.said; notices = next.notices })
silent_then one next silent h = by_answer h
  where
    by_answer : IsAnswered next → IsAnswered (record { link = next.link; said = one ∷ next.said; notices = next.notices })
    by_answer (inl late) = inl late
    by_answer (inr a) = inr (record {
      one = a.one;
      said = ap (λ b. map (λ (x : Said). x.told) (if b then one ∷ puts next.said else puts next.said)) silent ∙ a.said;
      unpublished = a.unpublished;
      early = a.early;
      renews = a.renews;
      again = a.again;
    })

-- ---- the channel

creates_one : (l : LinkState) → l.conversation.renewal ≡ None → IsAnswered (open_rules.creates_session l)
unfolding open_rules.creates_session session_request_of
creates_one l renews = asks_one (session_request_of l) (with_phase phase.Creating l) refl refl renews tt

renewed_one : (t : ChannelSecurityToken) (l : LinkState) → IsAnswered (and_then open_rules.creates_session (open_rules.renews t l))
unfolding open_rules.renews
renewed_one t l =
    let next : LinkState = open_rules.with_token t l in
    silent_then (said_on next (Renewed t.channel_id t.token_id)) (open_rules.creates_session next) refl (creates_one next refl)

none_renewed : (r : OpenSecureChannelResponse) (l : LinkState) → l.conversation.renewal ≡ None
    → IsAnswered (if ready_rules.is_answer_to l.conversation.renewal r.response_header then
    open_rules.renews r.security_token (open_rules.heard_once l) else broken l)
none_renewed r l renews =
    subst (λ o. IsAnswered (if ready_rules.is_answer_to o r.response_header then
    open_rules.renews r.security_token (open_rules.heard_once l) else broken l)) (sym renews) (falls l)

channel_by : (p : Phase) (r : OpenSecureChannelResponse) (l : LinkState) → l.conversation.renewal ≡ None → IsAnswered (open_rules.channel_replied_in p r l)
unfolding open_rules.channel_replied_in
channel_by phase.Opening r l renews =
    answered_if (is_answer r.response_header l) (and_then open_rules.creates_session (open_rules.renews r.security_token l)) (broken l)
    (renewed_one r.security_token l) (falls l)
channel_by phase.Idle r l renews = none_renewed r l renews
channel_by other r l renews = none_renewed r l renews

opening_reply : (r : Reply) (l : LinkState) → l.conversation.renewal ≡ None → IsAnswered (open_rules.in_opening r l)
unfolding open_rules.in_opening
opening_reply (reply.Session (session_reply.OpenSecureChannel r)) l renews = channel_by l.phase r l renews
opening_reply other l renews = falls l

read_opening : (result : Result Reply BodyFault) (l : LinkState) → l.conversation.renewal ≡ None → IsAnswered (step_rules.opening_by result l)
read_opening (Ok r) l renews = opening_reply r l renews
read_opening (Err fault) l renews = falls l

acknowledged_one : (g : Greeting) (l : LinkState) → l.conversation.renewal ≡ None → IsAnswered (open_rules.acknowledged_by g l)
unfolding open_rules.acknowledged_by
acknowledged_one g l renews =
    let next : LinkState = open_rules.with_limit (open_rules.limit_named g) l in
    answered_if (open_rules.is_enough g) (and_then open_rules.opens_channel (says (Limited (open_rules.limits_of g)) next)) (broken l)
    (silent_then (said_on next (Limited (open_rules.limits_of g))) (open_rules.opens_channel next) refl (opens_one next renews)) (falls l)

greeting_one : (result : Result Greeting Fault) (l : LinkState) → l.conversation.renewal ≡ None → IsAnswered (open_rules.greeted_by result l)
unfolding open_rules.greeted_by
greeting_one (Ok g) l renews = acknowledged_one g l renews
greeting_one (Err fault) l renews = falls l

greeted_one : (p : Phase) (body : List ℕ) (l : LinkState) → l.conversation.renewal ≡ None → IsAnswered (open_rules.greeted_in p body l)
greeted_one phase.Hello body l renews = greeting_one _ l renews
greeted_one phase.Idle body l renews = falls l
greeted_one other body l renews = falls l

-- ---- the session

activates_one : (l : LinkState) → l.conversation.renewal ≡ None → IsAnswered (start_rules.activates l)
unfolding start_rules.activates activation_request
activates_one l renews = asks_one (activation_request l) (with_phase phase.Activating l) refl refl renews tt

creating_one : (r : Reply) (l : LinkState) → l.conversation.renewal ≡ None → IsAnswered (start_rules.in_creating r l)
unfolding start_rules.in_creating
creating_one (reply.Session (session_reply.CreateSession r)) l renews =
    answered_if (is_answer r.response_header l) (start_rules.activates (record l { session = r.authentication_token })) (broken l)
    (activates_one (record l { session = r.authentication_token }) renews) (falls l)
creating_one other l renews = falls l

probes_one : (l : LinkState) → l.conversation.renewal ≡ None → IsAnswered (start_rules.probes l)
unfolding start_rules.probes probe_request
probes_one l renews = asks_one (probe_request l) (with_phase phase.Probing (start_rules.has_read l)) refl refl renews tt

activating_one : (r : Reply) (l : LinkState) → l.conversation.renewal ≡ None → IsAnswered (start_rules.in_activating r l)
unfolding start_rules.in_activating
activating_one (reply.Session (session_reply.ActivateSession r)) l renews =
    answered_if (is_answer r.response_header l) (start_rules.probes l) (broken l) (probes_one l renews) (falls l)
activating_one other l renews = falls l

begins_by : (r : Option Remembered) (l : LinkState) → l.conversation.renewal ≡ None → IsAnswered (sub_rules.begins_by r l)
unfolding transfer_request
begins_by None l renews = inl (subscribes_late l)
begins_by (Some remembered) l renews = asks_one (transfer_request remembered.id l) (with_phase phase.Transferring l) refl refl renews tt

begins_one : (l : LinkState) → l.conversation.renewal ≡ None → IsAnswered (sub_rules.begins l)
unfolding sub_rules.begins
begins_one l renews = begins_by l.remembered l renews

unsupported_one : (l : LinkState) → IsAnswered (start_rules.unsupported l)
unfolding start_rules.unsupported
unsupported_one l = inl (broken_late (record l { unsupported = true }))

judges_one : (level : ℕ) (support : ℤ) (l : LinkState) → l.conversation.renewal ≡ None → IsAnswered (start_rules.judges level support l)
unfolding start_rules.judges
judges_one level support l renews =
    answered_if (start_rules.is_unused support) (start_rules.unsupported l) (if ready_rules.is_left level l then broken l else sub_rules.begins l)
    (unsupported_one l) (answered_if (ready_rules.is_left level l) (broken l) (sub_rules.begins l) (falls l) (begins_one l renews))

probed_by : (level : Option ℕ) (support : Option ℤ) (l : LinkState) → l.conversation.renewal ≡ None → IsAnswered (start_rules.probed_by level support l)
unfolding start_rules.probed_by
probed_by None support l renews = falls l
probed_by (Some level) None l renews = falls l
probed_by (Some level) (Some support) l renews =
    quiet_then (tells (notice.Level level ∷ []) l) (start_rules.judges level support l) refl (judges_one level support l renews)

probed_one : (values : List (Stamped Variant)) (l : LinkState) → l.conversation.renewal ≡ None → IsAnswered (start_rules.probed values l)
unfolding start_rules.probed
probed_one [] l renews = falls l
probed_one (level ∷ []) l renews = falls l
probed_one (level ∷ support ∷ []) l renews = probed_by _ _ l renews
probed_one (level ∷ support ∷ another ∷ more) l renews = falls l

probing_one : (r : Reply) (l : LinkState) → l.conversation.renewal ≡ None → IsAnswered (start_rules.in_probing r l)
unfolding start_rules.in_probing
probing_one (reply.Session (session_reply.Read r)) l renews =
    answered_if (is_answer r.response_header l) (start_rules.probed r.results l) (broken l) (probed_one r.results l renews) (falls l)
probing_one other l renews = falls l

-- ---- messages that were missed

again_one : (numbers : List ℕ) (remembered : Remembered) (l : LinkState) → l.remembered ≡ Some remembered → l.conversation.renewal ≡ None
    → IsAnswered (sub_rules.asks_again numbers remembered l)
unfolding sub_rules.asks_again republish_request
again_one [] remembered l is renews = inl (enters_late None l)
again_one (number ∷ wanted) remembered l is renews =
    asks_one (republish_request remembered.id number l) (with_phase (phase.Republishing wanted) l) refl refl renews
    (record { r = remembered; remembers = is; number = next_request l; body = _; asks = refl; subscription = refl })

transfers_by : (a : Option (List ℕ)) (r : Option Remembered) (l : LinkState) → l.remembered ≡ r → l.conversation.renewal ≡ None
    → IsAnswered (sub_rules.transfers_by a r l)
transfers_by None r l is renews = inl (subscribes_late l)
transfers_by (Some available) None l is renews = inl (subscribes_late l)
transfers_by (Some available) (Some remembered) l is renews = again_one _ remembered l is renews

transferred_one : (a : Option (List ℕ)) (h : ResponseHeader) (l : LinkState) → l.conversation.renewal ≡ None → IsAnswered (sub_rules.transferred a h l)
unfolding sub_rules.transferred
transferred_one a h l renews =
    answered_if (h.request_handle == l.conversation.last) (sub_rules.transfers_by a l.remembered l) (broken l)
    (transfers_by a l.remembered l refl renews) (falls l)

transferring_one : (r : Reply) (l : LinkState) → l.conversation.renewal ≡ None → IsAnswered (sub_rules.in_transferring r l)
unfolding sub_rules.in_transferring
transferring_one (reply.Session (session_reply.ServiceFault h)) l renews = transferred_one None h l renews
transferring_one (reply.Subscription (sub_reply.TransferSubscriptions r)) l renews = transferred_one _ r.response_header l renews
transferring_one other l renews = falls l

goes_by : (wanted : List ℕ) (o : Option Remembered) (l : LinkState) (r : Remembered) → l.remembered ≡ o → o ≡ Some r → l.conversation.renewal ≡ None
    → IsAnswered (sub_rules.goes_on_by (Some wanted) o l)
goes_by wanted None l r is there renews = absurd cc
goes_by wanted (Some remembered) l r is there renews = again_one wanted remembered l is renews

goes_one : (wanted : List ℕ) (r : Remembered) (l : LinkState) → l.phase ≡ phase.Republishing wanted → l.remembered ≡ Some r
    → l.conversation.renewal ≡ None → IsAnswered (sub_rules.goes_on l)
unfolding sub_rules.goes_on
goes_one wanted r l is there renews =
    subst (λ p. IsAnswered (sub_rules.goes_on_by (sub_rules.wanted_in p) l.remembered l)) (sym is)
    (goes_by wanted l.remembered l r refl there renews)

-- a message that is said again leaves the phase, and the subscription by its id
record IsOnly (wanted : List ℕ) (did : LinkDid) : Type 0 where
  pub said : did.said ≡ []
  pub phase : did.link.phase ≡ phase.Republishing wanted
  pub r : Remembered
  pub there : did.link.remembered ≡ Some r
  pub renews : did.link.conversation.renewal ≡ None

only_then : (wanted : List ℕ) (did : LinkDid) → IsOnly wanted did → IsAnswered (and_then sub_rules.goes_on did)
only_then wanted did h =
    quiet_then did (sub_rules.goes_on did.link) h.said (goes_one wanted h.r did.link h.phase h.there h.renews)

broken_rests : (l : LinkState) → (broken l).link.phase ≡ phase.Idle
unfolding broken
broken_rests l = refl

idle_goes : (l : LinkState) → l.phase ≡ phase.Idle → sub_rules.goes_on l ≡ nothing l
unfolding sub_rules.goes_on
idle_goes l is = ap (λ p. sub_rules.goes_on_by (sub_rules.wanted_in p) l.remembered l) is

broken_then : (l : LinkState) → IsAnswered (and_then sub_rules.goes_on (broken l))
broken_then l =
    inl (ap (λ (d : LinkDid). is_late d.link.phase) (idle_goes (broken l).link (broken_rests l)) ∙ broken_late l)

alive_only : (wanted : List ℕ) (number : ℕ) (remembered r : Remembered) (l : LinkState) → l.phase ≡ phase.Republishing wanted
    → l.remembered ≡ Some r → l.conversation.renewal ≡ None → IsOnly wanted (kept_alive number remembered l)
unfolding kept_alive
alive_only wanted number remembered r l is there renews = by_test (is_jump remembered.next number)
  where
    by_test : (b : Bool) → IsOnly wanted (if b then tells (notice.Jump ∷ []) (awaits number remembered l) else nothing l)
    by_test true = record { said = refl; phase = is; r = record remembered { next = number }; there = refl; renews = renews }
    by_test false = record { said = refl; phase = is; r = r; there = there; renews = renews }

data_only : (wanted : List ℕ) (number : ℕ) (values : List MonitoredItemNotification) (remembered r : Remembered) (l : LinkState)
    → l.phase ≡ phase.Republishing wanted → l.remembered ≡ Some r → l.conversation.renewal ≡ None
    → IsOnly wanted (data_taken number values remembered l)
unfolding data_taken
data_only wanted number values remembered r l is there renews = by_tests (is_next remembered.next number) (is_jump remembered.next number)
  where
    by_tests : (a b : Bool) → IsOnly wanted (if a then tells (all_taken l.monitored values) (newest number remembered l)
        else if b then tells (notice.Jump ∷ all_taken l.monitored values) (newest number remembered l)
        else nothing (acknowledged number l))
    by_tests true b = record { said = refl; phase = is; r = _; there = refl; renews = renews }
    by_tests false true = record { said = refl; phase = is; r = _; there = refl; renews = renews }
    by_tests false false = record { said = refl; phase = is; r = r; there = there; renews = renews }

brings_one : (wanted : List ℕ) (c : Content) (number : ℕ) (remembered r : Remembered) (l : LinkState) → l.phase ≡ phase.Republishing wanted
    → l.remembered ≡ Some r → l.conversation.renewal ≡ None → IsAnswered (and_then sub_rules.goes_on (sub_rules.brings_again c number remembered l))
unfolding sub_rules.brings_again
brings_one wanted content.Alive number remembered r l is there renews = only_then wanted _ (alive_only wanted number remembered r l is there renews)
brings_one wanted content.Ended number remembered r l is there renews =
    only_then wanted (nothing l) (record { said = refl; phase = is; r = r; there = there; renews = renews })
brings_one wanted (content.Values values) number remembered r l is there renews =
    only_then wanted _ (data_only wanted number values remembered r l is there renews)
brings_one wanted content.Unread number remembered r l is there renews = broken_then l

message_one : (wanted : List ℕ) (m : NotificationMessage) (o : Option Remembered) (r : Remembered) (l : LinkState)
    → l.phase ≡ phase.Republishing wanted → l.remembered ≡ Some r → l.conversation.renewal ≡ None → IsAnswered (sub_rules.message_again m o l)
unfolding sub_rules.message_again
message_one wanted m None r l is there renews = falls l
message_one wanted m (Some remembered) r l is there renews =
    brings_one wanted (content_of m.notification_data) m.sequence_number remembered r l is there renews

republishing_one : (wanted : List ℕ) (answer : Reply) (r : Remembered) (l : LinkState) → l.phase ≡ phase.Republishing wanted
    → l.remembered ≡ Some r → l.conversation.renewal ≡ None → IsAnswered (sub_rules.in_republishing answer l)
unfolding sub_rules.in_republishing
republishing_one wanted (reply.Session (session_reply.ServiceFault h)) r l is there renews =
    answered_if (is_fault l.conversation.last bad_message_not_available h) (sub_rules.goes_on l) (broken l)
    (goes_one wanted r l is there renews) (falls l)
republishing_one wanted (reply.Subscription (sub_reply.Republish answer)) r l is there renews =
    answered_if (is_answer answer.response_header l) (sub_rules.message_again answer.notification_message l.remembered l) (broken l)
    (message_one wanted answer.notification_message l.remembered r l is there renews) (falls l)
republishing_one wanted other r l is there renews = falls l

-- ---- whatever is heard

replied_one : (p : Phase) (r : Reply) (l : LinkState) → l.phase ≡ p → is_late p ≡ false → l.conversation.renewal ≡ None → Holds p l.remembered
    → IsAnswered (step_rules.replied_in p r l)
replied_one phase.Idle r l is early renews holds = absurd cc
replied_one (phase.Dialing taken) r l is early renews holds = absurd cc
replied_one phase.Hello r l is early renews holds = falls l
replied_one phase.Opening r l is early renews holds = falls l
replied_one phase.Creating r l is early renews holds = creating_one r l renews
replied_one phase.Activating r l is early renews holds = activating_one r l renews
replied_one phase.Probing r l is early renews holds = probing_one r l renews
replied_one phase.Transferring r l is early renews holds = transferring_one r l renews
replied_one (phase.Republishing wanted) r l is early renews holds = republishing_one wanted r holds.0 l is holds.1 renews
replied_one phase.Subscribing r l is early renews holds = absurd cc
replied_one phase.Adding r l is early renews holds = absurd cc
replied_one (phase.Ready ready) r l is early renews holds = absurd cc

read_one : (result : Result Reply BodyFault) (l : LinkState) → is_late l.phase ≡ false → l.conversation.renewal ≡ None → Holds l.phase l.remembered
    → IsAnswered (step_rules.replied_by result l)
read_one (Ok r) l early renews holds = replied_one l.phase r l refl early renews holds
read_one (Err fault) l early renews holds = falls l

pub hears_one : (h : Heard) (l : LinkState) → is_late l.phase ≡ false → l.conversation.renewal ≡ None → Holds l.phase l.remembered
    → IsAnswered (step_rules.hears h l)
unfolding open_rules.greeted step_rules.opening_replied step_rules.replied
hears_one (heard_of.Greeting body) l early renews holds = greeted_one l.phase body l renews
hears_one (heard_of.Opening channel follows request body) l early renews holds =
    answered_if follows (step_rules.opening_by (body_at replies body) l) (broken l) (read_opening (body_at replies body) l renews) (falls l)
hears_one (heard_of.Message request body) l early renews holds = read_one (body_at replies body) l early renews holds
hears_one heard_of.Close l early renews holds = falls l
hears_one (heard_of.Fault code) l early renews holds = falls l
