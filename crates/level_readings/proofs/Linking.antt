-- What each rule of a link tells and asks: a level only of a Read response that comes, and a Read only of ServiceLevel first.
use Rattle.std.proofs.Common.{◌≡◌, ℕ, zero, suc, ℤ, ◌==◌, List, [], ◌∷◌, length, min, Bool, true, false, nat_le, Option, Some, None, Result, Ok, Err, if◌then◌else◌, refl, sym, subst, pos}
use Rattle.std.specs.List.{AllByRecursion, find}
use Rattle.ua_base.specs.declared.modes.Mode.{Mode}
use Rattle.ua_base.specs.Status.{bad_message_not_available, bad_no_subscription, bad_too_many_publish_requests}
use Rattle.ua_values.specs.Reading.{Fault}
use Rattle.ua_variants.specs.declared.variant.Stamped.{Stamped}
use Rattle.ua_variants.specs.declared.variant.Variant.{Variant}
use Rattle.ua_chunks.specs.declared.greeting.Greeting.{Greeting}
use Rattle.ua_channel.specs.declared.heard.Heard.{Heard}
use Rattle.ua_channel.specs.declared.heard.Heard.TheVariants as heard_as
use Rattle.ua_channel.specs.State.{is_deaf}
use Rattle.ua_structures.specs.declared.body.BodyFault.{BodyFault}
use Rattle.ua_structures.specs.declared.header.ResponseHeader.{ResponseHeader}
use Rattle.ua_structures.specs.Body.{body_at}
use Rattle.ua_session_msgs.specs.declared.attribute.ReadResponse.{ReadResponse}
use Rattle.ua_session_msgs.specs.declared.channel.ChannelSecurityToken.{ChannelSecurityToken}
use Rattle.ua_session_msgs.specs.declared.channel.OpenSecureChannelResponse.{OpenSecureChannelResponse}
use Rattle.ua_session_msgs.specs.declared.reply.SessionReply.TheVariants as session_reply
use Rattle.ua_sub_msgs.specs.declared.notification.MonitoredItemNotification.{MonitoredItemNotification}
use Rattle.ua_sub_msgs.specs.declared.notification.NotificationMessage.{NotificationMessage}
use Rattle.ua_sub_msgs.specs.declared.publish.PublishResponse.{PublishResponse}
use Rattle.ua_sub_msgs.specs.declared.reply.SubReply.TheVariants as sub_reply
use Rattle.ua_services.specs.declared.reply.Reply.{Reply}
use Rattle.ua_services.specs.declared.reply.Reply.TheVariants as reply
use Rattle.ua_services.specs.declared.request.Request.{Request}
use Rattle.ua_services.specs.Families.{replies, written_request}
use Rattle.link_rules.specs.declared.content.Content.{Content}
use Rattle.link_rules.specs.declared.content.Content.TheVariants as content
use Rattle.link_rules.specs.declared.notice.Notice.{Notice}
use Rattle.link_rules.specs.declared.notice.Notice.TheVariants as notice
use Rattle.link_rules.specs.declared.phase.Phase.{Phase}
use Rattle.link_rules.specs.declared.phase.Phase.TheVariants as phase
use Rattle.link_rules.specs.declared.phase.Publishes.{Publishes}
use Rattle.link_rules.specs.declared.phase.ReadyState.{ReadyState}
use Rattle.link_rules.specs.declared.phase.Setting.{Setting}
use Rattle.link_rules.specs.declared.remembered.Monitored.{Monitored}
use Rattle.link_rules.specs.declared.remembered.Remembered.{Remembered}
use Rattle.link_rules.specs.State.{LinkState, is_ready, ready_in, with_phase, with_ready}
use Rattle.link_rules.specs.Said.{LinkDid, Said, Asks, Greeted, Limited, Opens, and_then, nothing, says, tells}
use Rattle.link_rules.specs.Closing.{broken, dropped, loss_of}
use Rattle.link_rules.specs.Asking.{asked, asked_opening, is_answer, is_fault, is_reply_to, next_request, numbered}
use Rattle.link_rules.specs.Requests.{activation_request, channel_request, hello, items_request, level_request, mode_request, probe_request, publish_request, republish_request, session_request_of, subscription_request, transfer_request}
use Rattle.link_rules.specs.Messages.{acknowledged, all_taken, awaits, content_of, data_taken, has_handle, kept_alive, newest, taken_as, taken_of}
use Rattle.link_rules.specs.Numbers.{is_jump, is_next}
use Rattle.link_rules.specs.Publishing.{enters_ready, fills, has_room, mode_due, new_ready, published, publishes, publishes_in, sets, sets_if, sets_in, sets_mode, subscribes, tells_sent, with_publish, with_setting}
use Rattle.link_rules.specs.Ready as ready_rules
use Rattle.link_rules.specs.Subscribing as sub_rules
use Rattle.link_rules.specs.Starting as start_rules
use Rattle.link_rules.specs.Opening as open_rules
use Rattle.link_rules.specs.Time as time_rules
use Rattle.link_rules.specs.Step as step_rules
use Rattle.link_rules.specs.Step.{Happening}
use Rattle.link_laws.specs.Taken.{heard_reply, reply_by, reply_of}
use Rattle.level_readings.specs.Levels.{AsksForLevel, IsRead, IsReadOf, TellLevel}
use Rattle.level_readings.proofs.Lists.{all_join}

-- the one value that is a level
one_is_told : (values : List (Stamped Variant)) (level : ℕ) → ready_rules.one_level values ≡ Some level → TellLevel level values
one_is_told [] level is = absurd cc
one_is_told (value ∷ []) level is = (value, [], refl, is)
one_is_told (value ∷ another ∷ more) level is = absurd cc

module _ (h : Happening) where
  -- what is told was read, and what is asked is for the level
  record Fine (did : LinkDid) : Type 0 where
    pub told : AllByRecursion (IsRead h) did.notices
    pub said : AllByRecursion (λ (said : Said). AsksForLevel said.told) did.said

  -- ---- rules put together

  quiet : (l : LinkState) → Fine (nothing l)
  quiet l = record { told = tt; said = tt }

  tells_fine : (told : List Notice) (l : LinkState) → AllByRecursion (IsRead h) told → Fine (tells told l)
  tells_fine told l all = record { told = all; said = tt }

  then_fine : (rule : LinkState → LinkDid) (did : LinkDid) → Fine did → Fine (rule did.link) → Fine (and_then rule did)
  then_fine rule did one other = record {
    told = all_join (IsRead h) did.notices (rule did.link).notices one.told other.told;
    said = all_join (λ (said : Said). AsksForLevel said.told) did.said (rule did.link).said one.said other.said;
  }

  either : (b : Bool) (one other : LinkDid) → Fine one → Fine other → Fine (if b then one else other)
  either true one other first second = first
  either false one other first second = second

  loss_fine : (p : Phase) → AllByRecursion (IsRead h) (loss_of p)
  loss_fine (phase.Ready ready) = (tt, tt)
  loss_fine phase.Idle = tt
  loss_fine other = tt

  falls : (l : LinkState) → Fine (broken l)
  unfolding broken
  falls l = record { told = loss_fine l.phase; said = tt }

  drops : (l : LinkState) → Fine (dropped l)
  unfolding dropped
  drops l = record { told = loss_fine l.phase; said = tt }

  asked_fine : (request : Request) (l : LinkState) → ((number : ℕ) → AsksForLevel (Asks number request)) → Fine (asked request l)
  unfolding asked
  asked_fine request l asks =
      either (nat_le (length (written_request request)) l.conversation.limit) (numbered (Asks (next_request l) request) l) (broken l)
      (record { told = tt; said = (asks (next_request l), tt) }) (falls l)

  opening_fine : (request : Request) (l : LinkState) → Fine (asked_opening request l)
  unfolding asked_opening
  opening_fine request l =
      either (nat_le (length (written_request request)) (min l.conversation.limit 4096)) (numbered (Opens (next_request l) request) l)
      (broken l) (record { told = tt; said = (tt, tt) }) (falls l)

  -- ---- as soon as it can

  published_fine : (ready : ReadyState) (remembered : Remembered) (l : LinkState) → Fine (published ready remembered l)
  unfolding published publish_request
  published_fine ready remembered l = asked_fine _ (with_publish ready l) (λ number. tt)

  publishes_by : (o : Option ReadyState) (r : Option Remembered) (l : LinkState) → Fine (publishes_in o r l)
  publishes_by (Some ready) (Some remembered) l =
      either (has_room ready.publishes) (published ready remembered l) (nothing l) (published_fine ready remembered l) (quiet l)
  publishes_by (Some ready) None l = quiet l
  publishes_by None r l = quiet l

  publishes_fine : (l : LinkState) → Fine (publishes l)
  unfolding publishes
  publishes_fine l = publishes_by (ready_in l.phase) l.remembered l

  fills_fine : (l : LinkState) → Fine (fills l)
  unfolding fills
  fills_fine l = then_fine publishes (publishes l) (publishes_fine l) (publishes_fine (publishes l).link)

  sent_fine : (mode : Mode) (l : LinkState) → Fine (tells_sent mode l)
  unfolding tells_sent
  sent_fine mode l = either (is_ready l) (tells (notice.Sent mode ∷ []) l) (nothing l) (tells_fine (notice.Sent mode ∷ []) l (tt, tt)) (quiet l)

  mode_asked : (id : ℕ) (mode : Mode) (l next : LinkState) → Fine (asked (mode_request id mode l) next)
  unfolding mode_request
  mode_asked id mode l next = asked_fine _ next (λ number. tt)

  sets_fine : (mode : Mode) (ready : ReadyState) (remembered : Remembered) (l : LinkState) → Fine (sets mode ready remembered l)
  unfolding sets
  sets_fine mode ready remembered l =
      then_fine (tells_sent mode) (asked (mode_request remembered.id mode l) (with_setting mode ready l))
      (mode_asked remembered.id mode l (with_setting mode ready l)) (sent_fine mode _)

  sets_by : (o : Option Mode) (ready : ReadyState) (r : Option Remembered) (l : LinkState) → Fine (sets_if o ready r l)
  sets_by (Some mode) ready (Some remembered) l = sets_fine mode ready remembered l
  sets_by (Some mode) ready None l = quiet l
  sets_by None ready r l = quiet l

  mode_by : (o : Option ReadyState) (l : LinkState) → Fine (sets_in o l)
  mode_by (Some ready) l = sets_by (mode_due ready) ready l.remembered l
  mode_by None l = quiet l

  mode_fine : (l : LinkState) → Fine (sets_mode l)
  unfolding sets_mode
  mode_fine l = mode_by (ready_in l.phase) l

  enters_fine : (confirmed : Option Mode) (l : LinkState) → Fine (enters_ready confirmed l)
  unfolding enters_ready
  enters_fine confirmed l =
      let next : LinkState = with_phase (phase.Ready (new_ready confirmed)) l in
      then_fine fills (tells (notice.Ready ∷ []) next) (tells_fine (notice.Ready ∷ []) next (tt, tt)) (fills_fine next)

  subscribes_fine : (l : LinkState) → Fine (subscribes l)
  unfolding subscribes subscription_request
  subscribes_fine l = asked_fine _ _ (λ number. tt)

  -- ---- messages

  taken_by : (o : Option Monitored) (value : Stamped Variant) → AllByRecursion (IsRead h) (taken_as o value)
  taken_by (Some monitored) value = (tt, tt)
  taken_by None value = tt

  taken_fine : (items : List Monitored) (values : List MonitoredItemNotification) → AllByRecursion (IsRead h) (all_taken items values)
  taken_fine items [] = tt
  taken_fine items (one ∷ values) =
      all_join (IsRead h) (taken_of items one) (all_taken items values)
      (taken_by (find (has_handle one.client_handle) items) one.value) (taken_fine items values)

  alive_fine : (number : ℕ) (remembered : Remembered) (l : LinkState) → Fine (kept_alive number remembered l)
  unfolding kept_alive
  alive_fine number remembered l =
      either (is_jump remembered.next number) (tells (notice.Jump ∷ []) (awaits number remembered l)) (nothing l)
      (tells_fine (notice.Jump ∷ []) (awaits number remembered l) (tt, tt)) (quiet l)

  data_fine : (number : ℕ) (values : List MonitoredItemNotification) (remembered : Remembered) (l : LinkState)
      → Fine (data_taken number values remembered l)
  unfolding data_taken
  data_fine number values remembered l =
      let next : LinkState = newest number remembered l in
      either (is_next remembered.next number) (tells (all_taken l.monitored values) next) _
      (tells_fine (all_taken l.monitored values) next (taken_fine l.monitored values))
      (either (is_jump remembered.next number) (tells (notice.Jump ∷ all_taken l.monitored values) next) (nothing (acknowledged number l))
      (tells_fine (notice.Jump ∷ all_taken l.monitored values) next (tt, taken_fine l.monitored values)) (quiet (acknowledged number l)))

  -- ---- in Ready

  restarts_fine : (l : LinkState) → Fine (ready_rules.restarts l)
  unfolding ready_rules.restarts
  restarts_fine l = then_fine subscribes (tells (notice.Lost ∷ []) l) (tells_fine (notice.Lost ∷ []) l (tt, tt)) (subscribes_fine l)

  brings_fine : (c : Content) (number : ℕ) (remembered : Remembered) (l : LinkState) → Fine (ready_rules.brings c number remembered l)
  unfolding ready_rules.brings
  brings_fine content.Alive number remembered l =
      then_fine fills (kept_alive number remembered l) (alive_fine number remembered l) (fills_fine (kept_alive number remembered l).link)
  brings_fine content.Ended number remembered l = restarts_fine l
  brings_fine (content.Values values) number remembered l =
      then_fine fills (data_taken number values remembered l) (data_fine number values remembered l) (fills_fine (data_taken number values remembered l).link)
  brings_fine content.Unread number remembered l = falls l

  publish_by : (left : Option Publishes) (r : Option Remembered) (p : PublishResponse) (ready : ReadyState) (l : LinkState)
      → Fine (ready_rules.publish_replied_by left r p ready l)
  unfolding ready_rules.publish_replied_by
  publish_by None r p ready l = falls l
  publish_by (Some left) None p ready l = falls l
  publish_by (Some left) (Some remembered) p ready l =
      let m : NotificationMessage = p.notification_message in
      either _ (ready_rules.message_brings m remembered (ready_rules.heard_of_it left ready l)) (broken l)
      (brings_fine (content_of m.notification_data) m.sequence_number remembered (ready_rules.heard_of_it left ready l)) (falls l)

  refused_by : (left : Option Publishes) (code : ℕ) (ready : ReadyState) (l : LinkState) → Fine (ready_rules.publish_refused_by left code ready l)
  refused_by None code ready l = falls l
  refused_by (Some left) code ready l =
      either (code == bad_too_many_publish_requests) (nothing (with_ready (record ready { publishes = left }) l)) _ (quiet _)
      (either (code == bad_no_subscription) (ready_rules.restarts l) (broken l) (restarts_fine l) (falls l))

  low_fine : (level : ℕ) (l : LinkState) → Fine (ready_rules.leaves_low level l)
  unfolding ready_rules.leaves_low
  low_fine level l = either (ready_rules.is_left level l) (broken l) (nothing l) (falls l) (quiet l)

  level_fine : (o : Option ℕ) (l : LinkState) → ((level : ℕ) → o ≡ Some level → IsReadOf level (reply_of h)) → Fine (ready_rules.level_told o l)
  unfolding ready_rules.level_told
  level_fine None l reads = falls l
  level_fine (Some level) l reads =
      then_fine (ready_rules.leaves_low level) (tells (notice.Level level ∷ []) (ready_rules.no_reading l))
      (tells_fine (notice.Level level ∷ []) (ready_rules.no_reading l) (reads level refl, tt)) (low_fine level (ready_rules.no_reading l))

  -- what is told of this response was read
  read_of : (r : ReadResponse) (level : ℕ) → reply_of h ≡ Some (reply.Session (session_reply.Read r)) → TellLevel level r.results
      → IsReadOf level (reply_of h)
  read_of r level came tell = subst (IsReadOf level) (sym came) tell

  read_fine : (r : ReadResponse) (l : LinkState) → reply_of h ≡ Some (reply.Session (session_reply.Read r)) → Fine (ready_rules.level_replied r l)
  unfolding ready_rules.level_replied
  read_fine r l came =
      either (ready_rules.is_answer_to l.conversation.reading r.response_header) (ready_rules.level_told (ready_rules.one_level r.results) l) (broken l)
      (level_fine (ready_rules.one_level r.results) l (λ level is. read_of r level came (one_is_told r.results level is))) (falls l)

  confirms_fine : (setting : Setting) (ready : ReadyState) (l : LinkState) → Fine (ready_rules.confirms setting ready l)
  unfolding ready_rules.confirms
  confirms_fine setting ready l =
      let next : LinkState = with_ready (record ready { setting = None; confirmed = Some setting.mode }) l in
      then_fine sets_mode (tells (notice.Confirmed setting.mode ∷ []) next) (tells_fine (notice.Confirmed setting.mode ∷ []) next (tt, tt)) (mode_fine next)

  mode_replied_by : (setting : Option Setting) (header : ResponseHeader) (ready : ReadyState) (l : LinkState)
      → Fine (ready_rules.mode_replied_by setting header ready l)
  mode_replied_by None header ready l = falls l
  mode_replied_by (Some setting) header ready l =
      either (is_reply_to setting.asked.handle header) (ready_rules.confirms setting ready l) (broken l) (confirms_fine setting ready l) (falls l)

  ready_fine : (r : Reply) (ready : ReadyState) (l : LinkState) → reply_of h ≡ Some r → Fine (ready_rules.in_ready r ready l)
  unfolding ready_rules.in_ready ready_rules.publish_refused ready_rules.publish_replied ready_rules.mode_replied
  ready_fine (reply.Session (session_reply.ServiceFault header)) ready l came = refused_by _ header.service_result ready l
  ready_fine (reply.Session (session_reply.Read r)) ready l came = read_fine r l came
  ready_fine (reply.Subscription (sub_reply.Publish r)) ready l came = publish_by _ l.remembered r ready l
  ready_fine (reply.Subscription (sub_reply.SetMonitoringMode r)) ready l came = mode_replied_by ready.setting r.response_header ready l
  ready_fine other ready l came = falls l

  -- ---- on the way to Ready

  again_asked : (id number : ℕ) (l next : LinkState) → Fine (asked (republish_request id number l) next)
  unfolding republish_request
  again_asked id number l next = asked_fine _ next (λ n. tt)

  again_fine : (numbers : List ℕ) (remembered : Remembered) (l : LinkState) → Fine (sub_rules.asks_again numbers remembered l)
  unfolding sub_rules.asks_again
  again_fine [] remembered l = enters_fine None l
  again_fine (number ∷ wanted) remembered l = again_asked remembered.id number l (with_phase (phase.Republishing wanted) l)

  transfer_asked : (id : ℕ) (l next : LinkState) → Fine (asked (transfer_request id l) next)
  unfolding transfer_request
  transfer_asked id l next = asked_fine _ next (λ n. tt)

  begins_by : (r : Option Remembered) (l : LinkState) → Fine (sub_rules.begins_by r l)
  begins_by None l = subscribes_fine l
  begins_by (Some remembered) l = transfer_asked remembered.id l (with_phase phase.Transferring l)

  begins_fine : (l : LinkState) → Fine (sub_rules.begins l)
  unfolding sub_rules.begins
  begins_fine l = begins_by l.remembered l

  transfers_by : (a : Option (List ℕ)) (r : Option Remembered) (l : LinkState) → Fine (sub_rules.transfers_by a r l)
  transfers_by None r l = subscribes_fine l
  transfers_by (Some available) None l = subscribes_fine l
  transfers_by (Some available) (Some remembered) l = again_fine _ remembered l

  transferred_fine : (a : Option (List ℕ)) (header : ResponseHeader) (l : LinkState) → Fine (sub_rules.transferred a header l)
  unfolding sub_rules.transferred
  transferred_fine a header l =
      either (header.request_handle == l.conversation.last) (sub_rules.transfers_by a l.remembered l) (broken l)
      (transfers_by a l.remembered l) (falls l)

  transferring_fine : (r : Reply) (l : LinkState) → Fine (sub_rules.in_transferring r l)
  unfolding sub_rules.in_transferring
  transferring_fine (reply.Session (session_reply.ServiceFault header)) l = transferred_fine None header l
  transferring_fine (reply.Subscription (sub_reply.TransferSubscriptions r)) l = transferred_fine _ r.response_header l
  transferring_fine other l = falls l

  goes_by : (o : Option (List ℕ)) (r : Option Remembered) (l : LinkState) → Fine (sub_rules.goes_on_by o r l)
  goes_by None r l = quiet l
  goes_by (Some wanted) None l = quiet l
  goes_by (Some wanted) (Some remembered) l = again_fine wanted remembered l

  goes_fine : (l : LinkState) → Fine (sub_rules.goes_on l)
  unfolding sub_rules.goes_on
  goes_fine l = goes_by (sub_rules.wanted_in l.phase) l.remembered l

  brings_again : (c : Content) (number : ℕ) (remembered : Remembered) (l : LinkState) → Fine (sub_rules.brings_again c number remembered l)
  unfolding sub_rules.brings_again
  brings_again content.Alive number remembered l = alive_fine number remembered l
  brings_again content.Ended number remembered l = quiet l
  brings_again (content.Values values) number remembered l = data_fine number values remembered l
  brings_again content.Unread number remembered l = falls l

  message_again : (m : NotificationMessage) (r : Option Remembered) (l : LinkState) → Fine (sub_rules.message_again m r l)
  unfolding sub_rules.message_again
  message_again m None l = falls l
  message_again m (Some remembered) l =
      let did : LinkDid = sub_rules.brings_again (content_of m.notification_data) m.sequence_number remembered l in
      then_fine sub_rules.goes_on did (brings_again (content_of m.notification_data) m.sequence_number remembered l) (goes_fine did.link)

  republishing_fine : (r : Reply) (l : LinkState) → Fine (sub_rules.in_republishing r l)
  unfolding sub_rules.in_republishing
  republishing_fine (reply.Session (session_reply.ServiceFault header)) l =
      either (is_fault l.conversation.last bad_message_not_available header) (sub_rules.goes_on l) (broken l) (goes_fine l) (falls l)
  republishing_fine (reply.Subscription (sub_reply.Republish r)) l =
      either (is_answer r.response_header l) (sub_rules.message_again r.notification_message l.remembered l) (broken l)
      (message_again r.notification_message l.remembered l) (falls l)
  republishing_fine other l = falls l

  streams_fine : (count : ℕ) → AllByRecursion (IsRead h) (sub_rules.streams count)
  streams_fine zero = tt
  streams_fine (suc count) =
      all_join (IsRead h) (sub_rules.streams count) (notice.Stream (suc count) ∷ []) (streams_fine count) (tt, tt)

  adds_fine : (id : ℕ) (l : LinkState) → Fine (sub_rules.adds_items id l)
  unfolding sub_rules.adds_items items_request
  adds_fine id l = asked_fine _ (with_phase phase.Adding l) (λ number. tt)

  subscribed_fine : (id : ℕ) (l : LinkState) → Fine (sub_rules.subscribed id l)
  unfolding sub_rules.subscribed
  subscribed_fine id l =
      let next : LinkState = sub_rules.made id l in
      then_fine (sub_rules.adds_items id) (tells (sub_rules.streams l.config.items) next)
      (tells_fine (sub_rules.streams l.config.items) next (streams_fine l.config.items)) (adds_fine id next)

  subscribing_fine : (r : Reply) (l : LinkState) → Fine (sub_rules.in_subscribing r l)
  unfolding sub_rules.in_subscribing
  subscribing_fine (reply.Subscription (sub_reply.CreateSubscription r)) l =
      either (is_answer r.response_header l) (sub_rules.subscribed r.subscription_id l) (broken l) (subscribed_fine r.subscription_id l) (falls l)
  subscribing_fine other l = falls l

  added_fine : (monitored : List Monitored) (l : LinkState) → Fine (sub_rules.added monitored l)
  unfolding sub_rules.added
  added_fine [] l = falls l
  added_fine (first ∷ more) l = enters_fine (Some l.config.rest) (record l { monitored = first ∷ more })

  adding_fine : (r : Reply) (l : LinkState) → Fine (sub_rules.in_adding r l)
  unfolding sub_rules.in_adding
  adding_fine (reply.Subscription (sub_reply.CreateMonitoredItems r)) l =
      let items : List Monitored = sub_rules.monitored_of l.config.items r.results in
      either (is_answer r.response_header l) (sub_rules.added items l) (broken l) (added_fine items l) (falls l)
  adding_fine other l = falls l

  -- ---- the session and the redundancy

  activates_fine : (l : LinkState) → Fine (start_rules.activates l)
  unfolding start_rules.activates activation_request
  activates_fine l = asked_fine _ (with_phase phase.Activating l) (λ number. tt)

  creating_fine : (r : Reply) (l : LinkState) → Fine (start_rules.in_creating r l)
  unfolding start_rules.in_creating
  creating_fine (reply.Session (session_reply.CreateSession r)) l =
      let next : LinkState = record l { session = r.authentication_token } in
      either (is_answer r.response_header l) (start_rules.activates next) (broken l) (activates_fine next) (falls l)
  creating_fine other l = falls l

  probes_fine : (l : LinkState) → Fine (start_rules.probes l)
  unfolding start_rules.probes probe_request
  probes_fine l = asked_fine _ (with_phase phase.Probing (start_rules.has_read l)) (λ number. (_, refl))

  activating_fine : (r : Reply) (l : LinkState) → Fine (start_rules.in_activating r l)
  unfolding start_rules.in_activating
  activating_fine (reply.Session (session_reply.ActivateSession r)) l =
      either (is_answer r.response_header l) (start_rules.probes l) (broken l) (probes_fine l) (falls l)
  activating_fine other l = falls l

  unsupported_fine : (l : LinkState) → Fine (start_rules.unsupported l)
  unfolding start_rules.unsupported
  unsupported_fine l =
      let next : LinkState = record l { unsupported = true } in
      then_fine broken (tells (notice.Unsupported ∷ []) next) (tells_fine (notice.Unsupported ∷ []) next (tt, tt)) (falls next)

  judges_fine : (level : ℕ) (support : ℤ) (l : LinkState) → Fine (start_rules.judges level support l)
  unfolding start_rules.judges
  judges_fine level support l =
      either (start_rules.is_unused support) (start_rules.unsupported l) _ (unsupported_fine l)
      (either (ready_rules.is_left level l) (broken l) (sub_rules.begins l) (falls l) (begins_fine l))

  probed_by : (o : Option ℕ) (support : Option ℤ) (l : LinkState) → ((level : ℕ) → o ≡ Some level → IsReadOf level (reply_of h))
      → Fine (start_rules.probed_by o support l)
  unfolding start_rules.probed_by
  probed_by None support l reads = falls l
  probed_by (Some level) None l reads = falls l
  probed_by (Some level) (Some support) l reads =
      then_fine (start_rules.judges level support) (tells (notice.Level level ∷ []) l)
      (tells_fine (notice.Level level ∷ []) l (reads level refl, tt)) (judges_fine level support l)

  -- two values, the first of which is told
  probed_fine : (values : List (Stamped Variant)) (l : LinkState) → ((level : ℕ) → TellLevel level values → IsReadOf level (reply_of h))
      → Fine (start_rules.probed values l)
  unfolding start_rules.probed
  probed_fine [] l reads = falls l
  probed_fine (level ∷ []) l reads = falls l
  probed_fine (level ∷ support ∷ []) l reads = probed_by _ _ l (λ n is. reads n (level, support ∷ [], refl, is))
  probed_fine (level ∷ support ∷ another ∷ more) l reads = falls l

  probing_fine : (r : Reply) (l : LinkState) → reply_of h ≡ Some r → Fine (start_rules.in_probing r l)
  unfolding start_rules.in_probing
  probing_fine (reply.Session (session_reply.Read r)) l came =
      either (is_answer r.response_header l) (start_rules.probed r.results l) (broken l)
      (probed_fine r.results l (λ level. read_of r level came)) (falls l)
  probing_fine other l came = falls l

  -- ---- replies

  replied_by : (p : Phase) (r : Reply) (l : LinkState) → reply_of h ≡ Some r → Fine (step_rules.replied_in p r l)
  replied_by phase.Idle r l came = falls l
  replied_by (phase.Dialing taken) r l came = falls l
  replied_by phase.Hello r l came = falls l
  replied_by phase.Opening r l came = falls l
  replied_by phase.Creating r l came = creating_fine r l
  replied_by phase.Activating r l came = activating_fine r l
  replied_by phase.Probing r l came = probing_fine r l came
  replied_by phase.Transferring r l came = transferring_fine r l
  replied_by (phase.Republishing wanted) r l came = republishing_fine r l
  replied_by phase.Subscribing r l came = subscribing_fine r l
  replied_by phase.Adding r l came = adding_fine r l
  replied_by (phase.Ready ready) r l came = ready_fine r ready l came

  read_reply : (result : Result Reply BodyFault) (l : LinkState) → reply_of h ≡ reply_by result → Fine (step_rules.replied_by result l)
  read_reply (Ok r) l came = replied_by l.phase r l came
  read_reply (Err fault) l came = falls l

  -- ---- the channel

  creates_fine : (l : LinkState) → Fine (open_rules.creates_session l)
  unfolding open_rules.creates_session session_request_of
  creates_fine l = asked_fine _ (with_phase phase.Creating l) (λ number. tt)

  renews_fine : (t : ChannelSecurityToken) (l : LinkState) → Fine (open_rules.renews t l)
  unfolding open_rules.renews
  renews_fine t l = record { told = tt; said = (tt, tt) }

  renewed_fine : (r : OpenSecureChannelResponse) (l : LinkState)
      → Fine (if ready_rules.is_answer_to l.conversation.renewal r.response_header then
      open_rules.renews r.security_token (open_rules.heard_once l) else broken l)
  renewed_fine r l =
      either (ready_rules.is_answer_to l.conversation.renewal r.response_header)
      (open_rules.renews r.security_token (open_rules.heard_once l)) (broken l)
      (renews_fine r.security_token (open_rules.heard_once l)) (falls l)

  channel_by : (p : Phase) (r : OpenSecureChannelResponse) (l : LinkState) → Fine (open_rules.channel_replied_in p r l)
  unfolding open_rules.channel_replied_in
  channel_by phase.Opening r l =
      let did : LinkDid = open_rules.renews r.security_token l in
      either (is_answer r.response_header l) (and_then open_rules.creates_session did) (broken l)
      (then_fine open_rules.creates_session did (renews_fine r.security_token l) (creates_fine did.link)) (falls l)
  channel_by phase.Idle r l = renewed_fine r l
  channel_by other r l = renewed_fine r l

  opening_reply : (r : Reply) (l : LinkState) → Fine (open_rules.in_opening r l)
  unfolding open_rules.in_opening
  opening_reply (reply.Session (session_reply.OpenSecureChannel r)) l = channel_by l.phase r l
  opening_reply other l = falls l

  read_opening : (result : Result Reply BodyFault) (l : LinkState) → Fine (step_rules.opening_by result l)
  read_opening (Ok r) l = opening_reply r l
  read_opening (Err fault) l = falls l

  opens_fine : (l : LinkState) → Fine (open_rules.opens_channel l)
  unfolding open_rules.opens_channel
  opens_fine l = opening_fine (channel_request (pos 0) l) (with_phase phase.Opening l)

  acknowledged_fine : (g : Greeting) (l : LinkState) → Fine (open_rules.acknowledged_by g l)
  unfolding open_rules.acknowledged_by
  acknowledged_fine g l =
      let next : LinkState = open_rules.with_limit (open_rules.limit_named g) l in
      let did : LinkDid = says (Limited (open_rules.limits_of g)) next in
      either (open_rules.is_enough g) (and_then open_rules.opens_channel did) (broken l)
      (then_fine open_rules.opens_channel did (record { told = tt; said = (tt, tt) }) (opens_fine next)) (falls l)

  greeting_fine : (result : Result Greeting Fault) (l : LinkState) → Fine (open_rules.greeted_by result l)
  unfolding open_rules.greeted_by
  greeting_fine (Ok g) l = acknowledged_fine g l
  greeting_fine (Err fault) l = falls l

  greeted_fine : (p : Phase) (body : List ℕ) (l : LinkState) → Fine (open_rules.greeted_in p body l)
  greeted_fine phase.Hello body l = greeting_fine _ l
  greeted_fine phase.Idle body l = falls l
  greeted_fine other body l = falls l

  -- ---- what is heard

  hears_fine : (one : Heard) (l : LinkState) → reply_of h ≡ heard_reply one → Fine (step_rules.hears one l)
  unfolding open_rules.greeted step_rules.opening_replied step_rules.replied
  hears_fine (heard_as.Greeting body) l came = greeted_fine l.phase body l
  hears_fine (heard_as.Opening channel follows request body) l came =
      either follows (step_rules.opening_by (body_at replies body) l) (broken l) (read_opening (body_at replies body) l) (falls l)
  hears_fine (heard_as.Message request body) l came = read_reply (body_at replies body) l came
  hears_fine heard_as.Close l came = falls l
  hears_fine (heard_as.Fault code) l came = falls l

  heard_fine : (one : Heard) (l : LinkState) → reply_of h ≡ heard_reply one → Fine (step_rules.heard one l)
  unfolding step_rules.heard
  heard_fine one l came =
      either (is_deaf (step_rules.ear_of l)) (nothing l) (step_rules.hears one l) (quiet l) (hears_fine one l came)

  -- ---- other events

  greets_fine : (url : Option (List ℕ)) (l : LinkState) → Fine (open_rules.greets url l)
  unfolding open_rules.greets
  greets_fine url l =
      either (open_rules.is_short url) (says (Greeted hello url) l) (broken l) (record { told = tt; said = (tt, tt) }) (falls l)

  opened_by : (p : Phase) (url : Option (List ℕ)) (l : LinkState) → Fine (open_rules.opened_in p url l)
  opened_by phase.Idle url l = quiet (record l { closes = true })
  opened_by (phase.Dialing taken) url l = greets_fine url (open_rules.connected url l)
  opened_by other url l = falls l

  opened_fine : (url : Option (List ℕ)) (l : LinkState) → Fine (open_rules.opened url l)
  unfolding open_rules.opened
  opened_fine url l = opened_by l.phase url l

  refused_in : (p : Phase) (l : LinkState) → Fine (open_rules.refused_in p l)
  refused_in (phase.Dialing taken) l = drops l
  refused_in other l = quiet l

  refused_fine : (l : LinkState) → Fine (open_rules.refused l)
  unfolding open_rules.refused
  refused_fine l = refused_in l.phase l

  closed_in : (p : Phase) (l : LinkState) → Fine (open_rules.closed_in p l)
  closed_in phase.Idle l = quiet l
  closed_in (phase.Dialing taken) l = quiet l
  closed_in other l = drops l

  closed_fine : (l : LinkState) → Fine (open_rules.closed l)
  unfolding open_rules.closed
  closed_fine l =
      either l.closes (nothing (record l { closes = false })) (open_rules.closed_in l.phase l) (quiet (record l { closes = false })) (closed_in l.phase l)

  level_asked : (l next : LinkState) → Fine (asked (level_request l) next)
  unfolding level_request
  level_asked l next = asked_fine _ next (λ number. (_, refl))

  level_read : (l : LinkState) → Fine (time_rules.reads_level l)
  unfolding time_rules.reads_level
  level_read l =
      either (time_rules.is_level_due l.conversation.reading l) (asked (level_request l) (time_rules.with_reading l)) (nothing l)
      (level_asked l (time_rules.with_reading l)) (quiet l)

  token_renewed : (l : LinkState) → Fine (time_rules.renews_token l)
  unfolding time_rules.renews_token
  token_renewed l =
      either (is_ready l) _ (nothing l)
      (either (time_rules.is_renewal_due l.conversation.renewal l) (asked_opening (channel_request (pos 1) l) (time_rules.with_renewal l)) (nothing l)
      (opening_fine (channel_request (pos 1) l) (time_rules.with_renewal l)) (quiet l)) (quiet l)

  keeps_up : (l : LinkState) → Fine (time_rules.keeps_up l)
  unfolding time_rules.keeps_up
  keeps_up l =
      either (is_ready l) (and_then time_rules.renews_token (time_rules.reads_level l)) (nothing l)
      (then_fine time_rules.renews_token (time_rules.reads_level l) (level_read l) (token_renewed (time_rules.reads_level l).link)) (quiet l)

  ticked_fine : (ms : ℕ) (l : LinkState) → Fine (time_rules.ticked ms l)
  unfolding time_rules.ticked
  ticked_fine ms l =
      let next : LinkState = time_rules.aged ms l in
      either (time_rules.is_overdue next) (broken next) (time_rules.keeps_up next) (falls next) (keeps_up next)

  wanted_by : (o : Option ReadyState) (mode : Mode) (l : LinkState) → Fine (step_rules.wants_in o mode l)
  wanted_by None mode l = quiet l
  wanted_by (Some ready) mode l = mode_fine (with_ready (record ready { wanted = Some mode }) l)

  wants_fine : (mode : Mode) (l : LinkState) → Fine (step_rules.wants mode l)
  unfolding step_rules.wants
  wants_fine mode l = wanted_by (ready_in l.phase) mode l

-- ---- all that may happen

step_fine : (h : Happening) (l : LinkState) → Fine h (step_rules.after h l)
step_fine (step_rules.Opens url) l = opened_fine (step_rules.Opens url) url l
step_fine step_rules.Refuses l = refused_fine step_rules.Refuses l
step_fine step_rules.Closes l = closed_fine step_rules.Closes l
step_fine (step_rules.Hears one) l = heard_fine (step_rules.Hears one) one l refl
step_fine (step_rules.Ticks ms) l = ticked_fine (step_rules.Ticks ms) ms l
step_fine (step_rules.Wants mode) l = wants_fine (step_rules.Wants mode) mode l
step_fine step_rules.Dials l = quiet step_rules.Dials (open_rules.dials l)
step_fine step_rules.Takes l = quiet step_rules.Takes (step_rules.wish_taken l)

pub levels_were_read : (h : Happening) (l : LinkState) → AllByRecursion (IsRead h) (step_rules.after h l).notices
levels_were_read h l = (step_fine h l).told

pub reads_ask_for_levels : (h : Happening) (l : LinkState) → AllByRecursion (λ (said : Said). AsksForLevel said.told) (step_rules.after h l).said
reads_ask_for_levels h l = (step_fine h l).said
