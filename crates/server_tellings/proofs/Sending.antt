-- Data that are heard were sent.
use Rattle.std.proofs.Common.{◌≡◌, ◌≢◌, ℕ, ◌+◌, suc, ◌==◌, List, [], ◌∷◌, ◌++◌, Bool, true, false, cond, Some, refl, sym, ap, ◌∙◌, subst, arith, slice_get, inl, inr}
use Rattle.std.specs.List.{AllByRecursion}
use Rattle.std.proofs.lemmas.Bool.Decides.{nat_tests}
use Rattle.ua_values.specs.declared.extension.ExtensionObject.{ExtensionObject}
use Rattle.ua_structures.specs.Body.{object_by}
use Rattle.ua_chunks.specs.Assembly.{Tokens}
use Rattle.ua_channel.specs.declared.ear.Ear.{Ear}
use Rattle.ua_channel.specs.Messages.{hearing_of}
use Rattle.ua_channel.specs.State.{WireState}
use Rattle.ua_sub_msgs.specs.declared.notification.MonitoredItemNotification.{MonitoredItemNotification}
use Rattle.ua_sub_msgs.specs.declared.notification.Notification.{Notification}
use Rattle.ua_sub_msgs.specs.declared.notification.Notification.TheVariants as notification
use Rattle.ua_sub_msgs.specs.declared.notification.NotificationMessage.{NotificationMessage}
use Rattle.ua_sub_msgs.specs.declared.publish.PublishResponse.{PublishResponse}
use Rattle.ua_sub_msgs.specs.declared.reply.SubReply.TheVariants as sub_reply
use Rattle.ua_sub_msgs.specs.Families.{notification_put, notifications}
use Rattle.ua_services.specs.declared.reply.Reply.TheVariants as reply
use Rattle.subscription.specs.Items.{Told as Entry}
use Rattle.subscription.specs.Message.{message_of}
use Rattle.subscription.specs.Sendings.{number_of}
use Rattle.server_rules.specs.Said.{Did, Said}
use Rattle.server_laws.specs.Facts.{IsWithin, data_in, facts_of_sub, facts_said, facts_told, has_number}
use Rattle.server_laws.specs.Lives.{AreNumbered, message_for, messages_for}
use Rattle.server_laws.specs.Messages.{AreMessages}
use Rattle.server_laws.specs.Moves.{Repeated, Sent}
use Rattle.server_keeps.specs.Again.{IsToldAgain, ShowsNotification}
use Rattle.link_rules.specs.declared.content.Content.TheVariants as content
use Rattle.link_rules.specs.Messages.{content_of}
use Rattle.link_rules.specs.State.{LinkState}
use Rattle.link_rules.specs.Step as alone
use Rattle.link_takings.specs.From.{IsPublished, IsRepublished}
use Rattle.server_tellings.specs.Carried.{IsMessage}
use Rattle.server_tellings.specs.Heard.{IsAtPlace, IsPutOn, WasRepeated, WasSent}
use Rattle.server_tellings.proofs.Hearing.{IsSaidAgain, was_said}
use Rattle.server_laws.proofs.Within.{all_within, none_within, not_within, within_join, within_less, within_trans}
use Rattle.server_tellings.proofs.Within.{one_has, picked_within}

-- ---- what is said is among the facts

pub facts_within : (said : Said) (all : List Said) → IsWithin (said ∷ []) all → IsWithin (facts_told said.told) (facts_said all)
facts_within said [] h = absurd (not_within said [] refl h)
facts_within said (one ∷ more) (inl h) =
    within_join [] (facts_told one.told) (facts_told said.told) (facts_said more) (none_within (facts_told one.told)) (facts_within said more h)
facts_within said (one ∷ more) (inr h) =
    let is : said ∷ [] ≡ one ∷ h.0 = h.1 in
    let same : said ≡ one = cc in
    subst (λ (x : Said). IsWithin (facts_told said.told) (facts_told x.told ++ facts_said more)) same
    (within_less (facts_told said.told) (facts_told said.told) (facts_said more) (all_within (facts_told said.told)))

-- ---- a message that brings values has a DataChangeNotification

data_first : (id : ℕ) (message : NotificationMessage) (one : Notification) (object : ExtensionObject) (more : List ExtensionObject)
    (values : List MonitoredItemNotification) → object ≡ object_by notifications notification_put one
    → content_of (object ∷ more) ≡ content.Values values → data_in id message (object ∷ more) ≡ Sent id message ∷ []
unfolding content_of
data_first id message (notification.DataChange change) object more values is brings =
    ap (λ (x : ExtensionObject). cond (has_number x.type_id) (Sent id message ∷ []) []) is
data_first id message (notification.StatusChange status) object more values is brings =
    let ended : content.Ended ≡ content.Values values = sym (ap (λ (x : ExtensionObject). content_of (x ∷ more)) is) ∙ brings in
    absurd cc

pub data_shows : (id : ℕ) (message : NotificationMessage) (objects : List ExtensionObject) (values : List MonitoredItemNotification)
    → AllByRecursion ShowsNotification objects → content_of objects ≡ content.Values values → data_in id message objects ≡ Sent id message ∷ []
unfolding content_of
data_shows id message [] values shows brings = absurd cc
data_shows id message (object ∷ more) values shows brings = data_first id message shows.0.0 object more values shows.0.1 brings

-- so it is of what a Publish response carries
carried_by : (id : ℕ) (message : NotificationMessage) (values : List MonitoredItemNotification) → IsMessage message
    → content_of message.notification_data ≡ content.Values values → data_in id message message.notification_data ≡ Sent id message ∷ []
unfolding content_of
carried_by id message values (inl none) brings =
    let alive : content.Alive ≡ content.Values values = sym (ap content_of none) ∙ brings in
    absurd cc
carried_by id message values (inr (inl h)) brings = by_entries h.entries h.some h.is
  where
    by_entries : (entries : List Entry) → entries ≢ [] → message ≡ message_of h.number h.now entries
        → data_in id message message.notification_data ≡ Sent id message ∷ []
    by_entries [] some is = absurd (some refl)
    by_entries (one ∷ more) some is = ap (λ (m : NotificationMessage). data_in id message m.notification_data) is
carried_by id message values (inr (inr h)) brings =
    let ended : content.Ended ≡ content.Values values = sym h.ends ∙ brings in
    absurd cc

pub carried_sent : (r : PublishResponse) (values : List MonitoredItemNotification) → IsMessage r.notification_message
    → content_of r.notification_message.notification_data ≡ content.Values values
    → facts_of_sub (sub_reply.Publish r) ≡ Sent r.subscription_id r.notification_message ∷ []
carried_sent r values h brings = carried_by r.subscription_id r.notification_message values h brings

-- ---- and its number is that of its place

record IsPlaced (k : ℕ) (message : NotificationMessage) (messages : List NotificationMessage) : Type 0 where
  place : ℕ
  is : slice_get messages place ≡ Some message
  numbered : message.sequence_number ≡ number_of (k + place)

placed : (k : ℕ) (message : NotificationMessage) (messages : List NotificationMessage) → AreNumbered k messages → IsWithin (message ∷ []) messages
    → IsPlaced k message messages
placed k message [] numbers h = absurd (not_within message [] refl h)
placed k message (first ∷ messages) numbers (inl h) =
    let rest = placed (k + 1) message messages numbers.1 h in
    let same : k + 1 + rest.place ≡ k + suc rest.place = omega arith in
    record { place = suc rest.place; is = rest.is; numbered = rest.numbered ∙ ap number_of same }
placed k message (first ∷ messages) numbers (inr h) =
    let is : message ∷ [] ≡ first ∷ h.0 = h.1 in
    let same : first ≡ message = cc in
    let first_number : k ≡ k + 0 = omega arith in
    record {
      place = 0;
      is = ap Some same;
      numbered = ap (λ (m : NotificationMessage). m.sequence_number) (sym same) ∙ numbers.0 ∙ ap number_of first_number;
    }

own_message : (id : ℕ) (message : NotificationMessage) (b : Bool) → (id == id) ≡ b → cond b (message ∷ []) [] ≡ message ∷ []
own_message id message true test = refl
own_message id message false test = absurd (grind (arith, nat_tests))

pub at_place : (id number : ℕ) (message : NotificationMessage) (did : Did) → IsWithin (Sent id message ∷ []) (facts_said did.said)
    → message.sequence_number ≡ number → (messages : List NotificationMessage) → AreMessages id messages did → IsAtPlace number message messages
at_place id number message did sent is messages h =
    let own : cond (id == id) (message ∷ []) [] ++ [] ≡ message ∷ [] = ap (λ l. l ++ []) (own_message id message (id == id) refl) in
    let among : IsWithin (message ∷ []) (messages_for id (facts_said did.said)) =
    subst (λ l. IsWithin l (messages_for id (facts_said did.said))) own
    (picked_within (message_for id) (Sent id message ∷ []) (facts_said did.said) sent) in
    let one = placed 1 message messages h.numbered (within_trans (message ∷ []) (messages_for id (facts_said did.said)) messages among h.told) in
    let same : 1 + one.place ≡ one.place + 1 = omega arith in
    record { place = one.place; is = one.is; numbered = sym is ∙ one.numbered ∙ ap number_of same }

-- ---- what is published

pub published_sent : (did : Did) (conn : ℕ) (w : WireState) (e : Ear) (t : Tokens) (id number : ℕ) (values : List MonitoredItemNotification)
    → AllByRecursion IsSaidAgain did.said → IsPutOn conn w did.said → IsPublished id number values (alone.Hears (hearing_of e w t).heard)
    → WasSent id number values did
published_sent did conn w e t id number values again put h =
    let message : NotificationMessage = h.response.notification_message in
    let one = was_said did.said conn w e t (reply.Subscription (sub_reply.Publish h.response)) again put h.comes in
    let said_so = subst IsToldAgain one.told (one_has IsSaidAgain one.said did.said again one.among) in
    let facts : facts_told one.said.told ≡ Sent id message ∷ [] =
    ap facts_told one.told ∙ data_shows h.response.subscription_id message message.notification_data values said_so.shows h.message.brings
    ∙ ap (λ n. Sent n message ∷ []) h.subscription in
    let sent : IsWithin (Sent id message ∷ []) (facts_said did.said) =
    subst (λ l. IsWithin l (facts_said did.said)) facts (facts_within one.said did.said one.among) in
    record { message = message; sent = sent; has = h.message; placed = at_place id number message did sent h.message.numbered }

-- ---- what is said again

pub republished_sent : (did : Did) (conn : ℕ) (w : WireState) (e : Ear) (t : Tokens) (number : ℕ) (values : List MonitoredItemNotification) (l : LinkState)
    → AllByRecursion IsSaidAgain did.said → IsPutOn conn w did.said → IsRepublished number values (alone.Hears (hearing_of e w t).heard) l
    → WasRepeated number values did
republished_sent did conn w e t number values l again put h =
    let message : NotificationMessage = h.response.notification_message in
    let one = was_said did.said conn w e t (reply.Subscription (sub_reply.Republish h.response)) again put h.comes in
    let facts : facts_told one.said.told ≡ Repeated message ∷ [] = ap facts_told one.told in
    record {
      message = message;
      repeated = subst (λ l. IsWithin l (facts_said did.said)) facts (facts_within one.said did.said one.among);
      has = h.message;
    }
