-- The rules by which a link falls, asks and takes messages, and those of the phase Ready, leave a link that fits.
use Rattle.std.proofs.Common.{◌≡◌, ℕ, ◌+◌, ◌≤◌, ◌==◌, ◌&&◌, List, [], ◌∷◌, ◌++◌, length, min, Bool, true, false, nat_le, Option, Some, None, IfSome, if◌then◌else◌, refl, sym, subst, arith}
use Rattle.std.specs.List.{AllByRecursion}
use Rattle.ua_base.specs.declared.modes.Mode.{Mode}
use Rattle.ua_base.specs.Number.{after_message}
use Rattle.ua_base.specs.Status.{bad_no_subscription, bad_too_many_publish_requests}
use Rattle.ua_values.specs.Laws.{KeepsNode}
use Rattle.ua_structures.specs.declared.header.ResponseHeader.{ResponseHeader}
use Rattle.ua_session_msgs.specs.declared.attribute.ReadResponse.{ReadResponse}
use Rattle.ua_session_msgs.specs.declared.reply.SessionReply.TheVariants as session_reply
use Rattle.ua_sub_msgs.specs.declared.notification.MonitoredItemNotification.{MonitoredItemNotification}
use Rattle.ua_sub_msgs.specs.declared.notification.NotificationMessage.{NotificationMessage}
use Rattle.ua_sub_msgs.specs.declared.publish.PublishResponse.{PublishResponse}
use Rattle.ua_sub_msgs.specs.declared.reply.SubReply.TheVariants as sub_reply
use Rattle.ua_sub_msgs.specs.Structures.{a_notification_message, a_publish_response}
use Rattle.ua_services.specs.declared.reply.Reply.{Reply}
use Rattle.ua_services.specs.declared.reply.Reply.TheVariants as reply
use Rattle.ua_services.specs.declared.request.Request.{Request}
use Rattle.ua_services.specs.Families.{reply_put, request_put, written_request}
use Rattle.link_rules.specs.declared.content.Content.{Content}
use Rattle.link_rules.specs.declared.content.Content.TheVariants as content
use Rattle.link_rules.specs.declared.conversation.Conversation.{Conversation}
use Rattle.link_rules.specs.declared.notice.Notice.{Notice}
use Rattle.link_rules.specs.declared.notice.Notice.TheVariants as notice
use Rattle.link_rules.specs.declared.phase.Phase.{Phase}
use Rattle.link_rules.specs.declared.phase.Phase.TheVariants as phase
use Rattle.link_rules.specs.declared.phase.Publishes.{Publishes}
use Rattle.link_rules.specs.declared.phase.ReadyState.{ReadyState}
use Rattle.link_rules.specs.declared.phase.Setting.{Setting}
use Rattle.link_rules.specs.declared.remembered.Monitored.{Monitored}
use Rattle.link_rules.specs.declared.remembered.Remembered.{Remembered}
use Rattle.link_rules.specs.State.{LinkState, forgotten, is_ready, ready_in, with_conversation, with_phase, with_ready, with_remembered}
use Rattle.link_rules.specs.Said.{LinkDid, Asks, Opens, and_then, nothing, tells}
use Rattle.link_rules.specs.Requests.{mode_request, publish_request, subscription_request}
use Rattle.link_rules.specs.Closing.{broken, dropped, left_in}
use Rattle.link_rules.specs.Asking.{asked, asked_opening, counted, is_good, is_reply_to, next_request, numbered}
use Rattle.link_rules.specs.Messages.{acknowledged, all_taken, awaits, content_of, data_taken, kept_alive, newest}
use Rattle.link_rules.specs.Numbers.{is_jump, is_next}
use Rattle.link_rules.specs.Publishing.{enters_ready, fills, has_room, mode_due, new_ready, published, publishes, publishes_in, sets, sets_if, sets_in, sets_mode, subscribes, tells_sent, with_publish, with_setting}
use Rattle.link_rules.specs.Ready as ready_rules
use Rattle.link_keeps.specs.Fitting.{Fits, FitsConversation, FitsLink, FitsMonitored, FitsPhase, FitsRemembered, IsShort, IsUInt32, KeepsSaid}
use Rattle.link_keeps.proofs.Requests as requests

-- ---- what changes of a link

pub phase_fits : (p : Phase) (l : LinkState) → FitsPhase p → FitsLink l → FitsLink (with_phase p l)
phase_fits p l known fits = record {
  config = fits.config;
  phase = known;
  url = fits.url;
  session = fits.session;
  conversation = fits.conversation;
  remembered = fits.remembered;
  monitored = fits.monitored;
  monitored_count = fits.monitored_count;
  acks = fits.acks;
}

pub conversation_fits : (c : Conversation) (l : LinkState) → FitsConversation c → FitsLink l → FitsLink (with_conversation c l)
conversation_fits c l known fits = record {
  config = fits.config;
  phase = fits.phase;
  url = fits.url;
  session = fits.session;
  conversation = known;
  remembered = fits.remembered;
  monitored = fits.monitored;
  monitored_count = fits.monitored_count;
  acks = fits.acks;
}

pub session_fits : (l : LinkState) (session : _) → KeepsNode session → FitsLink l → FitsLink (record l { session = session })
session_fits l session known fits = record {
  config = fits.config;
  phase = fits.phase;
  url = fits.url;
  session = known;
  conversation = fits.conversation;
  remembered = fits.remembered;
  monitored = fits.monitored;
  monitored_count = fits.monitored_count;
  acks = fits.acks;
}

remembered_fits : (r : Remembered) (l : LinkState) → FitsRemembered r → FitsLink l → FitsLink (with_remembered r l)
remembered_fits r l known fits = record {
  config = fits.config;
  phase = fits.phase;
  url = fits.url;
  session = fits.session;
  conversation = fits.conversation;
  remembered = known;
  monitored = fits.monitored;
  monitored_count = fits.monitored_count;
  acks = fits.acks;
}

pub items_fit : (items : List Monitored) (l : LinkState) → AllByRecursion FitsMonitored items → length items ≤ l.config.items
    → FitsLink l → FitsLink (record l { monitored = items })
items_fit items l known count fits = record {
  config = fits.config;
  phase = fits.phase;
  url = fits.url;
  session = fits.session;
  conversation = fits.conversation;
  remembered = fits.remembered;
  monitored = known;
  monitored_count = count;
  acks = fits.acks;
}

acks_fit : (acks : List ℕ) (l : LinkState) → AllByRecursion IsUInt32 acks → FitsLink l → FitsLink (record l { acks = acks })
acks_fit acks l known fits = record {
  config = fits.config;
  phase = fits.phase;
  url = fits.url;
  session = fits.session;
  conversation = fits.conversation;
  remembered = fits.remembered;
  monitored = fits.monitored;
  monitored_count = fits.monitored_count;
  acks = known;
}

forgotten_fits : (l : LinkState) → FitsLink l → FitsLink (forgotten l)
forgotten_fits l fits = record {
  config = fits.config;
  phase = fits.phase;
  url = fits.url;
  session = fits.session;
  conversation = fits.conversation;
  remembered = tt;
  monitored = tt;
  monitored_count = omega arith;
  acks = tt;
}

-- ---- what a rule does

pub fits_nothing : (l : LinkState) → FitsLink l → Fits (nothing l)
fits_nothing l fits = record { link = fits; said = tt }

pub fits_tells : (notices : List Notice) (l : LinkState) → FitsLink l → Fits (tells notices l)
fits_tells notices l fits = record { link = fits; said = tt }

pub fits_then : (did : LinkDid) (rule : LinkState → LinkDid) → Fits did → (FitsLink did.link → Fits (rule did.link))
    → Fits (and_then rule did)
fits_then did rule first second = record {
  link = (second first.link).link;
  said = requests.all_append KeepsSaid did.said (rule did.link).said first.said (second first.link).said;
}

pub fits_if : (b : Bool) (one other : LinkDid) → Fits one → Fits other → Fits (if b then one else other)
fits_if true one other first second = first
fits_if false one other first second = second

-- ---- a link that falls

fallen_by : (p : Phase) (l : LinkState) (closes : Bool) → FitsLink l
    → FitsLink (record (left_in p l) { phase = phase.Idle; since = l.age; wait = 1000; closes = closes })
fallen_by phase.Adding l closes fits = record {
  config = fits.config;
  phase = tt;
  url = fits.url;
  session = fits.session;
  conversation = fits.conversation;
  remembered = tt;
  monitored = tt;
  monitored_count = omega arith;
  acks = tt;
}
fallen_by other l closes fits = record {
  config = fits.config;
  phase = tt;
  url = fits.url;
  session = fits.session;
  conversation = fits.conversation;
  remembered = fits.remembered;
  monitored = fits.monitored;
  monitored_count = fits.monitored_count;
  acks = fits.acks;
}

dropped_by : (p : Phase) (l : LinkState) → FitsLink l
    → FitsLink (record (left_in p l) { phase = phase.Idle; since = l.age; wait = 1000 })
dropped_by phase.Adding l fits = record {
  config = fits.config;
  phase = tt;
  url = fits.url;
  session = fits.session;
  conversation = fits.conversation;
  remembered = tt;
  monitored = tt;
  monitored_count = omega arith;
  acks = tt;
}
dropped_by other l fits = record {
  config = fits.config;
  phase = tt;
  url = fits.url;
  session = fits.session;
  conversation = fits.conversation;
  remembered = fits.remembered;
  monitored = fits.monitored;
  monitored_count = fits.monitored_count;
  acks = fits.acks;
}

pub broken_fits : (l : LinkState) → FitsLink l → Fits (broken l)
unfolding broken
broken_fits l fits = record { link = fallen_by l.phase l _ fits; said = tt }

pub dropped_fits : (l : LinkState) → FitsLink l → Fits (dropped l)
unfolding dropped
dropped_fits l fits = record { link = dropped_by l.phase l fits; said = tt }

-- ---- what it asks

counted_fits : (l : LinkState) → FitsLink l → FitsLink (counted l)
counted_fits l fits =
    conversation_fits (record l.conversation { last = next_request l }) l (record {
      channel = fits.conversation.channel;
      token = fits.conversation.token;
      last = requests.after_fits l.conversation.last fits.conversation.last;
    }) fits

pub asked_fits : (r : Request) (l : LinkState) → FitsLink l → (IsShort r → (request_put r).keeps) → Fits (asked r l)
unfolding asked
asked_fits r l fits keeps =
    fits_if (nat_le (length (written_request r)) l.conversation.limit) (numbered (Asks (next_request l) r) l) (broken l)
    (record {
      link = counted_fits l fits;
      said = (
        record {
          channel = fits.conversation.channel;
          token = fits.conversation.token;
          told = (requests.after_fits l.conversation.last fits.conversation.last, keeps);
        },
        tt,
      );
    }) (broken_fits l fits)

pub opening_fits : (r : Request) (l : LinkState) → FitsLink l → (request_put r).keeps → Fits (asked_opening r l)
unfolding asked_opening
opening_fits r l fits keeps =
    fits_if (nat_le (length (written_request r)) (min l.conversation.limit 4096)) (numbered (Opens (next_request l) r) l) (broken l)
    (record {
      link = counted_fits l fits;
      said = (
        record {
          channel = fits.conversation.channel;
          token = fits.conversation.token;
          told = (requests.after_fits l.conversation.last fits.conversation.last, keeps);
        },
        tt,
      );
    }) (broken_fits l fits)

-- ---- what it does as soon as it can

publish_short : (id : ℕ) (l : LinkState) → IsUInt32 id → FitsLink l → IsShort (publish_request id l) → (request_put (publish_request id l)).keeps
unfolding publish_request
publish_short id l known fits short = requests.publish_keeps id l known fits short

published_fits : (ready : ReadyState) (remembered : Remembered) (l : LinkState) → FitsRemembered remembered → FitsLink l
    → Fits (published ready remembered l)
unfolding published
published_fits ready remembered l known fits =
    asked_fits (publish_request remembered.id l) (with_publish ready l)
    (record {
      config = fits.config;
      phase = tt;
      url = fits.url;
      session = fits.session;
      conversation = fits.conversation;
      remembered = fits.remembered;
      monitored = fits.monitored;
      monitored_count = fits.monitored_count;
      acks = tt;
    }) (publish_short remembered.id l known.id fits)

publishes_by : (o : Option ReadyState) (r : Option Remembered) (l : LinkState) → IfSome r FitsRemembered → FitsLink l
    → Fits (publishes_in o r l)
publishes_by None r l known fits = fits_nothing l fits
publishes_by (Some ready) None l known fits = fits_nothing l fits
publishes_by (Some ready) (Some remembered) l known fits =
    fits_if (has_room ready.publishes) (published ready remembered l) (nothing l)
    (published_fits ready remembered l known fits) (fits_nothing l fits)

publishes_fits : (l : LinkState) → FitsLink l → Fits (publishes l)
unfolding publishes
publishes_fits l fits = publishes_by (ready_in l.phase) l.remembered l fits.remembered fits

fills_fits : (l : LinkState) → FitsLink l → Fits (fills l)
unfolding fills
fills_fits l fits = fits_then (publishes l) publishes (publishes_fits l fits) (publishes_fits (publishes l).link)

sent_fits : (mode : Mode) (l : LinkState) → FitsLink l → Fits (tells_sent mode l)
unfolding tells_sent
sent_fits mode l fits =
    fits_if (is_ready l) (tells (notice.Sent mode ∷ []) l) (nothing l) (fits_tells (notice.Sent mode ∷ []) l fits) (fits_nothing l fits)

mode_short : (id : ℕ) (mode : Mode) (l : LinkState) → IsUInt32 id → FitsLink l
    → IsShort (mode_request id mode l) → (request_put (mode_request id mode l)).keeps
mode_short id mode l known fits short = requests.mode_keeps id mode l known fits

pub ready_fits : (ready : ReadyState) (l : LinkState) → FitsLink l → FitsLink (with_ready ready l)
ready_fits ready l fits = record {
  config = fits.config;
  phase = tt;
  url = fits.url;
  session = fits.session;
  conversation = fits.conversation;
  remembered = fits.remembered;
  monitored = fits.monitored;
  monitored_count = fits.monitored_count;
  acks = fits.acks;
}

sets_fits : (mode : Mode) (ready : ReadyState) (remembered : Remembered) (l : LinkState) → FitsRemembered remembered
    → FitsLink l → Fits (sets mode ready remembered l)
unfolding sets
sets_fits mode ready remembered l known fits =
    fits_then (asked (mode_request remembered.id mode l) (with_setting mode ready l)) (tells_sent mode)
    (asked_fits (mode_request remembered.id mode l) (with_setting mode ready l) (ready_fits _ l fits)
    (mode_short remembered.id mode l known.id fits)) (sent_fits mode _)

sets_by : (o : Option Mode) (ready : ReadyState) (r : Option Remembered) (l : LinkState) → IfSome r FitsRemembered
    → FitsLink l → Fits (sets_if o ready r l)
sets_by None ready r l known fits = fits_nothing l fits
sets_by (Some mode) ready None l known fits = fits_nothing l fits
sets_by (Some mode) ready (Some remembered) l known fits = sets_fits mode ready remembered l known fits

sets_within : (o : Option ReadyState) (l : LinkState) → FitsLink l → Fits (sets_in o l)
sets_within None l fits = fits_nothing l fits
sets_within (Some ready) l fits = sets_by (mode_due ready) ready l.remembered l fits.remembered fits

pub mode_fits : (l : LinkState) → FitsLink l → Fits (sets_mode l)
unfolding sets_mode
mode_fits l fits = sets_within (ready_in l.phase) l fits

pub enters_fits : (confirmed : Option Mode) (l : LinkState) → FitsLink l → Fits (enters_ready confirmed l)
unfolding enters_ready
enters_fits confirmed l fits =
    fits_then (tells (notice.Ready ∷ []) (with_phase (phase.Ready (new_ready confirmed)) l)) fills
    (fits_tells (notice.Ready ∷ []) (with_phase (phase.Ready (new_ready confirmed)) l) (phase_fits (phase.Ready (new_ready confirmed)) l tt fits))
    (fills_fits (with_phase (phase.Ready (new_ready confirmed)) l))

pub subscribes_fits : (l : LinkState) → FitsLink l → Fits (subscribes l)
unfolding subscribes
subscribes_fits l fits =
    asked_fits (subscription_request l) (with_phase phase.Subscribing (forgotten l))
    (phase_fits phase.Subscribing (forgotten l) tt (forgotten_fits l fits)) (λ short. requests.subscription_keeps l fits)

-- ---- messages

awaits_fits : (next : ℕ) (remembered : Remembered) (l : LinkState) → IsUInt32 next → FitsRemembered remembered → FitsLink l
    → FitsLink (awaits next remembered l)
awaits_fits next remembered l number known fits =
    remembered_fits (record remembered { next = next }) l (record { id = known.id; next = number }) fits

acknowledged_fits : (number : ℕ) (l : LinkState) → IsUInt32 number → FitsLink l → FitsLink (acknowledged number l)
acknowledged_fits number l known fits =
    acks_fit (l.acks ++ number ∷ []) l (requests.all_append IsUInt32 l.acks (number ∷ []) fits.acks (known, tt)) fits

newest_fits : (number : ℕ) (remembered : Remembered) (l : LinkState) → IsUInt32 number → FitsRemembered remembered
    → FitsLink l → FitsLink (newest number remembered l)
newest_fits number remembered l known from fits =
    awaits_fits (after_message number) remembered (acknowledged number l) (requests.after_fits number known) from
    (acknowledged_fits number l known fits)

pub alive_fits : (number : ℕ) (remembered : Remembered) (l : LinkState) → IsUInt32 number → FitsRemembered remembered
    → FitsLink l → Fits (kept_alive number remembered l)
unfolding kept_alive
alive_fits number remembered l known from fits =
    fits_if (is_jump remembered.next number) (tells (notice.Jump ∷ []) (awaits number remembered l)) (nothing l)
    (fits_tells (notice.Jump ∷ []) (awaits number remembered l) (awaits_fits number remembered l known from fits)) (fits_nothing l fits)

pub data_fits : (number : ℕ) (values : List MonitoredItemNotification) (remembered : Remembered) (l : LinkState)
    → IsUInt32 number → FitsRemembered remembered → FitsLink l → Fits (data_taken number values remembered l)
unfolding data_taken
data_fits number values remembered l known from fits =
    let new : FitsLink (newest number remembered l) = newest_fits number remembered l known from fits in
    fits_if (is_next remembered.next number) (tells (all_taken l.monitored values) (newest number remembered l))
    (if is_jump remembered.next number then tells (notice.Jump ∷ all_taken l.monitored values) (newest number remembered l)
    else nothing (acknowledged number l))
    (fits_tells (all_taken l.monitored values) (newest number remembered l) new)
    (fits_if (is_jump remembered.next number)
    (tells (notice.Jump ∷ all_taken l.monitored values) (newest number remembered l)) (nothing (acknowledged number l))
    (fits_tells (notice.Jump ∷ all_taken l.monitored values) (newest number remembered l) new)
    (fits_nothing (acknowledged number l) (acknowledged_fits number l known fits)))

pub once_fits : (since : ℕ) (l : LinkState) → FitsLink l → FitsLink (record l { since = since })
once_fits since l fits = record {
  config = fits.config;
  phase = fits.phase;
  url = fits.url;
  session = fits.session;
  conversation = fits.conversation;
  remembered = fits.remembered;
  monitored = fits.monitored;
  monitored_count = fits.monitored_count;
  acks = fits.acks;
}

-- ---- in Ready

restarts_fits : (l : LinkState) → FitsLink l → Fits (ready_rules.restarts l)
unfolding ready_rules.restarts
restarts_fits l fits = fits_then (tells (notice.Lost ∷ []) l) subscribes (fits_tells (notice.Lost ∷ []) l fits) (subscribes_fits l)

brings_fits : (c : Content) (number : ℕ) (remembered : Remembered) (l : LinkState) → IsUInt32 number
    → FitsRemembered remembered → FitsLink l → Fits (ready_rules.brings c number remembered l)
unfolding ready_rules.brings
brings_fits content.Alive number remembered l known from fits =
    fits_then (kept_alive number remembered l) fills (alive_fits number remembered l known from fits) (fills_fits _)
brings_fits content.Ended number remembered l known from fits = restarts_fits l fits
brings_fits (content.Values values) number remembered l known from fits =
    fits_then (data_taken number values remembered l) fills (data_fits number values remembered l known from fits) (fills_fits _)
brings_fits content.Unread number remembered l known from fits = broken_fits l fits

publish_by : (left : Option Publishes) (r : Option Remembered) (p : PublishResponse) (ready : ReadyState) (l : LinkState)
    → IsUInt32 p.notification_message.sequence_number → IfSome r FitsRemembered → FitsLink l
    → Fits (ready_rules.publish_replied_by left r p ready l)
unfolding ready_rules.publish_replied_by
publish_by None r p ready l known from fits = broken_fits l fits
publish_by (Some left) None p ready l known from fits = broken_fits l fits
publish_by (Some left) (Some remembered) p ready l known from fits =
    fits_if (is_good p.response_header.service_result && (p.subscription_id == remembered.id))
    (ready_rules.message_brings p.notification_message remembered (ready_rules.heard_of_it left ready l)) (broken l)
    (brings_fits (content_of p.notification_message.notification_data) p.notification_message.sequence_number remembered
    (ready_rules.heard_of_it left ready l) known from (once_fits l.age (with_ready (record ready { publishes = left }) l) (ready_fits (record ready { publishes = left }) l fits))) (broken_fits l fits)

refused_by : (left : Option Publishes) (code : ℕ) (ready : ReadyState) (l : LinkState) → FitsLink l
    → Fits (ready_rules.publish_refused_by left code ready l)
refused_by None code ready l fits = broken_fits l fits
refused_by (Some left) code ready l fits =
    fits_if (code == bad_too_many_publish_requests) (nothing (with_ready (record ready { publishes = left }) l))
    (if code == bad_no_subscription then ready_rules.restarts l else broken l)
    (fits_nothing (with_ready (record ready { publishes = left }) l) (ready_fits (record ready { publishes = left }) l fits))
    (fits_if (code == bad_no_subscription) (ready_rules.restarts l) (broken l) (restarts_fits l fits) (broken_fits l fits))

low_fits : (level : ℕ) (l : LinkState) → FitsLink l → Fits (ready_rules.leaves_low level l)
unfolding ready_rules.leaves_low
low_fits level l fits = fits_if (ready_rules.is_left level l) (broken l) (nothing l) (broken_fits l fits) (fits_nothing l fits)

-- what is remembered of a connection beside its ids
pub beside_fits : (c : Conversation) (l : LinkState) → c.channel ≡ l.conversation.channel → c.token ≡ l.conversation.token
    → c.last ≡ l.conversation.last → FitsLink l → FitsLink (with_conversation c l)
beside_fits c l channel token last fits =
    conversation_fits c l (record {
      channel = subst IsUInt32 (sym channel) fits.conversation.channel;
      token = subst IsUInt32 (sym token) fits.conversation.token;
      last = subst IsUInt32 (sym last) fits.conversation.last;
    }) fits

level_fits : (level : Option ℕ) (l : LinkState) → FitsLink l → Fits (ready_rules.level_told level l)
unfolding ready_rules.level_told
level_fits None l fits = broken_fits l fits
level_fits (Some level) l fits =
    fits_then (tells (notice.Level level ∷ []) (ready_rules.no_reading l)) (ready_rules.leaves_low level)
    (fits_tells (notice.Level level ∷ []) (ready_rules.no_reading l)
    (beside_fits (record l.conversation { reading = None }) l refl refl refl fits)) (low_fits level (ready_rules.no_reading l))

level_replied_fits : (r : ReadResponse) (l : LinkState) → FitsLink l → Fits (ready_rules.level_replied r l)
unfolding ready_rules.level_replied
level_replied_fits r l fits =
    fits_if (ready_rules.is_answer_to l.conversation.reading r.response_header)
    (ready_rules.level_told (ready_rules.one_level r.results) l) (broken l) (level_fits (ready_rules.one_level r.results) l fits) (broken_fits l fits)

confirms_fits : (setting : Setting) (ready : ReadyState) (l : LinkState) → FitsLink l → Fits (ready_rules.confirms setting ready l)
unfolding ready_rules.confirms
confirms_fits setting ready l fits =
    let now : LinkState = with_ready (record ready { setting = None; confirmed = Some setting.mode }) l in
    fits_then (tells (notice.Confirmed setting.mode ∷ []) now) sets_mode
    (fits_tells (notice.Confirmed setting.mode ∷ []) now (ready_fits (record ready { setting = None; confirmed = Some setting.mode }) l fits))
    (mode_fits now)

mode_by : (setting : Option Setting) (h : ResponseHeader) (ready : ReadyState) (l : LinkState) → FitsLink l
    → Fits (ready_rules.mode_replied_by setting h ready l)
mode_by None h ready l fits = broken_fits l fits
mode_by (Some setting) h ready l fits =
    fits_if (is_reply_to setting.asked.handle h) (ready_rules.confirms setting ready l) (broken l)
    (confirms_fits setting ready l fits) (broken_fits l fits)

pub message_number : (m : NotificationMessage) → a_notification_message.keeps m → IsUInt32 m.sequence_number
unfolding a_notification_message
message_number m kept = kept.0

publish_number : (p : PublishResponse) → a_publish_response.keeps p → IsUInt32 p.notification_message.sequence_number
unfolding a_publish_response
publish_number p kept = message_number p.notification_message kept.1.1.1.1.0

pub ready_rule_fits : (r : Reply) (ready : ReadyState) (l : LinkState) → (reply_put r).keeps → FitsLink l
    → Fits (ready_rules.in_ready r ready l)
unfolding ready_rules.in_ready ready_rules.publish_refused ready_rules.publish_replied ready_rules.mode_replied
ready_rule_fits (reply.Session (session_reply.ServiceFault h)) ready l kept fits = refused_by _ h.service_result ready l fits
ready_rule_fits (reply.Session (session_reply.Read r)) ready l kept fits = level_replied_fits r l fits
ready_rule_fits (reply.Subscription (sub_reply.Publish r)) ready l kept fits =
    publish_by _ l.remembered r ready l (publish_number r kept) fits.remembered fits
ready_rule_fits (reply.Subscription (sub_reply.SetMonitoringMode r)) ready l kept fits = mode_by ready.setting r.response_header ready l fits
ready_rule_fits other ready l kept fits = broken_fits l fits
