-- Each rule leaves a link that fits, and lets it say what keeps the limits.
use Rattle.std.proofs.Common.{◌≡◌, ℕ, ℤ, ◌+◌, ◌≤◌, ◌==◌, List, [], ◌∷◌, ◌++◌, filter, length, Bool, true, false, nat_le, Option, Some, None, Result, Ok, Err, IfOk, IfSome, if◌then◌else◌, cond, refl, ap, arith, pos}
use Rattle.std.specs.List.{AllByRecursion}
use Rattle.std.proofs.lemmas.Bool.Decides.{nat_tests}
use Rattle.std.proofs.lemmas.List.{length-append}
use Rattle.ua_base.specs.declared.modes.Mode.{Mode}
use Rattle.ua_base.specs.Status.{bad_message_not_available}
use Rattle.ua_values.specs.Laws.{KeepsNode, KeepsText}
use Rattle.ua_values.specs.Reading.{Fault}
use Rattle.ua_variants.specs.declared.variant.Stamped.{Stamped}
use Rattle.ua_variants.specs.declared.variant.Variant.{Variant}
use Rattle.ua_chunks.specs.declared.greeting.Greeting.{Greeting}
use Rattle.ua_channel.specs.declared.heard.Heard.{Heard}
use Rattle.ua_channel.specs.declared.heard.Heard.TheVariants as said
use Rattle.ua_channel.specs.State.{is_deaf}
use Rattle.ua_structures.specs.declared.body.BodyFault.{BodyFault}
use Rattle.ua_structures.specs.declared.header.ResponseHeader.{ResponseHeader}
use Rattle.ua_structures.specs.Body.{body_at}
use Rattle.ua_session_msgs.specs.declared.channel.ChannelSecurityToken.{ChannelSecurityToken}
use Rattle.ua_session_msgs.specs.declared.channel.OpenSecureChannelResponse.{OpenSecureChannelResponse}
use Rattle.ua_session_msgs.specs.declared.reply.SessionReply.TheVariants as session_reply
use Rattle.ua_session_msgs.specs.Structures.{a_channel_security_token, a_create_session_response, an_open_secure_channel_response}
use Rattle.ua_sub_msgs.specs.declared.item.MonitoredItemCreateResult.{MonitoredItemCreateResult}
use Rattle.ua_sub_msgs.specs.declared.notification.NotificationMessage.{NotificationMessage}
use Rattle.ua_sub_msgs.specs.declared.subscription.TransferResult.{TransferResult}
use Rattle.ua_sub_msgs.specs.declared.subscription.TransferSubscriptionsResponse.{TransferSubscriptionsResponse}
use Rattle.ua_sub_msgs.specs.declared.reply.SubReply.TheVariants as sub_reply
use Rattle.ua_sub_msgs.specs.Structures.{a_create_monitored_items_response, a_create_subscription_response, a_monitored_item_create_result, a_republish_response, a_transfer_result, a_transfer_subscriptions_response}
use Rattle.ua_services.specs.declared.reply.Reply.{Reply}
use Rattle.ua_services.specs.declared.reply.Reply.TheVariants as reply
use Rattle.ua_services.specs.Families.{replies, reply_put}
use Rattle.link_rules.specs.declared.config.LinkConfig.{LinkConfig}
use Rattle.link_rules.specs.declared.content.Content.{Content}
use Rattle.link_rules.specs.declared.content.Content.TheVariants as content
use Rattle.link_rules.specs.declared.notice.Notice.TheVariants as notice
use Rattle.link_rules.specs.declared.phase.Phase.{Phase}
use Rattle.link_rules.specs.declared.phase.Phase.TheVariants as phase
use Rattle.link_rules.specs.declared.phase.ReadyState.{ReadyState}
use Rattle.link_rules.specs.declared.remembered.Monitored.{Monitored}
use Rattle.link_rules.specs.declared.remembered.Remembered.{Remembered}
use Rattle.link_rules.specs.State.{LinkState, is_ready, new_link, ready_in, with_phase, with_ready}
use Rattle.link_rules.specs.Said.{LinkDid, Greeted, Limited, Opens, and_then, nothing, says, tells}
use Rattle.link_rules.specs.Requests.{channel_request, hello, level_request}
use Rattle.link_rules.specs.Closing.{broken}
use Rattle.link_rules.specs.Asking.{asked, asked_opening, is_answer, is_fault, is_good}
use Rattle.link_rules.specs.Messages.{content_of}
use Rattle.link_rules.specs.Numbers.{is_new, wanted_of}
use Rattle.link_rules.specs.Ready as ready_rules
use Rattle.link_rules.specs.Subscribing as sub_rules
use Rattle.link_rules.specs.Starting as start_rules
use Rattle.link_rules.specs.Opening as open_rules
use Rattle.link_rules.specs.Time as time_rules
use Rattle.link_rules.specs.Step as step_rules
use Rattle.link_keeps.specs.Fitting.{Fits, FitsConfig, FitsHappening, FitsHeard, FitsLink, FitsMonitored, FitsPhase, FitsRemembered, IsUInt32, KeepsSaid}
use Rattle.link_keeps.proofs.Requests as requests
use Rattle.link_keeps.proofs.Readying.{phase_fits, conversation_fits, session_fits, items_fit, fits_nothing, fits_tells, fits_then, fits_if, broken_fits, dropped_fits, asked_fits, opening_fits, ready_fits, mode_fits, enters_fits, subscribes_fits, alive_fits, data_fits, once_fits, beside_fits, message_number, ready_rule_fits}

-- ---- on the way to Ready

again_fits : (numbers : List ℕ) (remembered : Remembered) (l : LinkState) → AllByRecursion IsUInt32 numbers
    → FitsRemembered remembered → FitsLink l → Fits (sub_rules.asks_again numbers remembered l)
unfolding sub_rules.asks_again
again_fits [] remembered l known from fits = enters_fits None l fits
again_fits (number ∷ wanted) remembered l known from fits =
    asked_fits _ (with_phase (phase.Republishing wanted) l) (phase_fits (phase.Republishing wanted) l known.1 fits)
    (λ short. requests.republish_keeps remembered.id number l from.id known.0 fits)

begins_by : (r : Option Remembered) (l : LinkState) → IfSome r FitsRemembered → FitsLink l → Fits (sub_rules.begins_by r l)
begins_by None l known fits = subscribes_fits l fits
begins_by (Some remembered) l known fits =
    asked_fits _ (with_phase phase.Transferring l) (phase_fits phase.Transferring l tt fits)
    (λ short. requests.transfer_keeps remembered.id l known.id fits)

begins_fits : (l : LinkState) → FitsLink l → Fits (sub_rules.begins l)
unfolding sub_rules.begins
begins_fits l fits = begins_by l.remembered l fits.remembered fits

kept_test : (b : Bool) (x : ℕ) (xs : List ℕ) → IsUInt32 x → AllByRecursion IsUInt32 xs → AllByRecursion IsUInt32 (cond b (x ∷ xs) xs)
kept_test true x xs one all = (one, all)
kept_test false x xs one all = all

all_kept : (test : ℕ → Bool) (numbers : List ℕ) → AllByRecursion IsUInt32 numbers → AllByRecursion IsUInt32 (filter test numbers)
all_kept test [] all = tt
all_kept test (x ∷ numbers) all = kept_test (test x) x (filter test numbers) all.0 (all_kept test numbers all.1)

transfers_by : (a : Option (List ℕ)) (r : Option Remembered) (l : LinkState) → IfSome a (AllByRecursion IsUInt32)
    → IfSome r FitsRemembered → FitsLink l → Fits (sub_rules.transfers_by a r l)
transfers_by None r l known from fits = subscribes_fits l fits
transfers_by (Some available) None l known from fits = subscribes_fits l fits
transfers_by (Some available) (Some remembered) l known from fits =
    again_fits (wanted_of remembered.next available) remembered l (all_kept (is_new remembered.next) available known) from fits

transferred_fits : (a : Option (List ℕ)) (h : ResponseHeader) (l : LinkState) → IfSome a (AllByRecursion IsUInt32)
    → FitsLink l → Fits (sub_rules.transferred a h l)
unfolding sub_rules.transferred
transferred_fits a h l known fits =
    fits_if (h.request_handle == l.conversation.last) (sub_rules.transfers_by a l.remembered l) (broken l)
    (transfers_by a l.remembered l known fits.remembered fits) (broken_fits l fits)

some_test : (b : Bool) (numbers : List ℕ) → AllByRecursion IsUInt32 numbers
    → IfSome (if◌then◌else◌ {A = Option (List ℕ)} b (Some numbers) None) (AllByRecursion IsUInt32)
some_test true numbers all = all
some_test false numbers all = tt

result_numbers : (result : TransferResult) → a_transfer_result.keeps result → AllByRecursion IsUInt32 result.available_sequence_numbers
unfolding a_transfer_result
result_numbers result kept = kept.1.1

available_in : (results : List TransferResult) → AllByRecursion a_transfer_result.keeps results
    → IfSome (sub_rules.available_in results) (AllByRecursion IsUInt32)
available_in [] all = tt
available_in (result ∷ []) all =
    some_test (is_good result.status_code) result.available_sequence_numbers (result_numbers result all.0)
available_in (result ∷ another ∷ more) all = tt

if_good : (b : Bool) (o : Option (List ℕ)) → IfSome o (AllByRecursion IsUInt32)
    → IfSome (if◌then◌else◌ {A = Option (List ℕ)} b o None) (AllByRecursion IsUInt32)
if_good true o known = known
if_good false o known = tt

available_of : (r : TransferSubscriptionsResponse) → a_transfer_subscriptions_response.keeps r
    → IfSome (sub_rules.available_of r) (AllByRecursion IsUInt32)
unfolding a_transfer_subscriptions_response
available_of r kept = if_good (is_good r.response_header.service_result) (sub_rules.available_in r.results) (available_in r.results kept.1.0.1)

transferring_fits : (r : Reply) (l : LinkState) → (reply_put r).keeps → FitsLink l → Fits (sub_rules.in_transferring r l)
unfolding sub_rules.in_transferring
transferring_fits (reply.Session (session_reply.ServiceFault h)) l kept fits = transferred_fits None h l tt fits
transferring_fits (reply.Subscription (sub_reply.TransferSubscriptions r)) l kept fits =
    transferred_fits (sub_rules.available_of r) r.response_header l (available_of r kept) fits
transferring_fits other l kept fits = broken_fits l fits

wanted_in : (p : Phase) → FitsPhase p → IfSome (sub_rules.wanted_in p) (AllByRecursion IsUInt32)
wanted_in (phase.Republishing wanted) known = known
wanted_in other known = tt

goes_by : (o : Option (List ℕ)) (r : Option Remembered) (l : LinkState) → IfSome o (AllByRecursion IsUInt32)
    → IfSome r FitsRemembered → FitsLink l → Fits (sub_rules.goes_on_by o r l)
goes_by None r l known from fits = fits_nothing l fits
goes_by (Some wanted) None l known from fits = fits_nothing l fits
goes_by (Some wanted) (Some remembered) l known from fits = again_fits wanted remembered l known from fits

goes_fits : (l : LinkState) → FitsLink l → Fits (sub_rules.goes_on l)
unfolding sub_rules.goes_on
goes_fits l fits = goes_by (sub_rules.wanted_in l.phase) l.remembered l (wanted_in l.phase fits.phase) fits.remembered fits

brings_again : (c : Content) (number : ℕ) (remembered : Remembered) (l : LinkState) → IsUInt32 number
    → FitsRemembered remembered → FitsLink l → Fits (sub_rules.brings_again c number remembered l)
unfolding sub_rules.brings_again
brings_again content.Alive number remembered l known from fits = alive_fits number remembered l known from fits
brings_again content.Ended number remembered l known from fits = fits_nothing l fits
brings_again (content.Values values) number remembered l known from fits = data_fits number values remembered l known from fits
brings_again content.Unread number remembered l known from fits = broken_fits l fits

message_again : (m : NotificationMessage) (r : Option Remembered) (l : LinkState) → IsUInt32 m.sequence_number
    → IfSome r FitsRemembered → FitsLink l → Fits (sub_rules.message_again m r l)
unfolding sub_rules.message_again
message_again m None l known from fits = broken_fits l fits
message_again m (Some remembered) l known from fits =
    let did : LinkDid = sub_rules.brings_again (content_of m.notification_data) m.sequence_number remembered l in
    fits_then did sub_rules.goes_on (brings_again (content_of m.notification_data) m.sequence_number remembered l known from fits)
    (goes_fits did.link)

republish_number : (r : _) → a_republish_response.keeps r → IsUInt32 r.notification_message.sequence_number
unfolding a_republish_response
republish_number r kept = message_number r.notification_message kept.1

republishing_fits : (r : Reply) (l : LinkState) → (reply_put r).keeps → FitsLink l → Fits (sub_rules.in_republishing r l)
unfolding sub_rules.in_republishing
republishing_fits (reply.Session (session_reply.ServiceFault h)) l kept fits =
    fits_if (is_fault l.conversation.last bad_message_not_available h) (sub_rules.goes_on l) (broken l) (goes_fits l fits) (broken_fits l fits)
republishing_fits (reply.Subscription (sub_reply.Republish r)) l kept fits =
    fits_if (is_answer r.response_header l) (sub_rules.message_again r.notification_message l.remembered l) (broken l)
    (message_again r.notification_message l.remembered l (republish_number r kept) fits.remembered fits) (broken_fits l fits)
republishing_fits other l kept fits = broken_fits l fits

adds_fits : (id : ℕ) (l : LinkState) → IsUInt32 id → FitsLink l → Fits (sub_rules.adds_items id l)
unfolding sub_rules.adds_items
adds_fits id l known fits =
    asked_fits _ (with_phase phase.Adding l) (phase_fits phase.Adding l tt fits) (λ short. requests.items_request_keeps id l known fits)

made_fits : (id : ℕ) (l : LinkState) → IsUInt32 id → FitsLink l → FitsLink (sub_rules.made id l)
made_fits id l known fits = record {
  config = fits.config;
  phase = fits.phase;
  url = fits.url;
  session = fits.session;
  conversation = fits.conversation;
  remembered = record { id = known; next = omega arith };
  monitored = tt;
  monitored_count = omega arith;
  acks = tt;
}

subscribed_fits : (id : ℕ) (l : LinkState) → IsUInt32 id → FitsLink l → Fits (sub_rules.subscribed id l)
unfolding sub_rules.subscribed
subscribed_fits id l known fits =
    fits_then (tells (sub_rules.streams l.config.items) (sub_rules.made id l)) (sub_rules.adds_items id)
    (fits_tells (sub_rules.streams l.config.items) (sub_rules.made id l) (made_fits id l known fits))
    (adds_fits id (sub_rules.made id l) known)

subscription_id : (r : _) → a_create_subscription_response.keeps r → IsUInt32 r.subscription_id
unfolding a_create_subscription_response
subscription_id r kept = kept.1.0

subscribing_fits : (r : Reply) (l : LinkState) → (reply_put r).keeps → FitsLink l → Fits (sub_rules.in_subscribing r l)
unfolding sub_rules.in_subscribing
subscribing_fits (reply.Subscription (sub_reply.CreateSubscription r)) l kept fits =
    fits_if (is_answer r.response_header l) (sub_rules.subscribed r.subscription_id l) (broken l)
    (subscribed_fits r.subscription_id l (subscription_id r kept) fits) (broken_fits l fits)
subscribing_fits other l kept fits = broken_fits l fits

result_id : (result : MonitoredItemCreateResult) → a_monitored_item_create_result.keeps result → IsUInt32 result.monitored_item_id
unfolding a_monitored_item_create_result
result_id result kept = kept.1.0

-- items of a subscription, up to one
record AreItems (monitored : List Monitored) (most : ℕ) : Type 0 where
  known : AllByRecursion FitsMonitored monitored
  count : length monitored ≤ most

item_test : (b : Bool) (item id most : ℕ) (monitored : List Monitored) → IsUInt32 id → AreItems monitored most
    → AreItems (if b then monitored ++ record { item = item; id = id } ∷ [] else monitored) (most + 1)
item_test true item id most monitored known items =
    let one : Monitored = record { item = item; id = id } in
    let count : length (monitored ++ one ∷ []) ≡ length monitored + 1 = length-append monitored (one ∷ []) in
    let less : length monitored ≤ most = items.count in record {
      known = requests.all_append FitsMonitored monitored (one ∷ []) items.known (known, tt);
      count = omega arith;
    }
item_test false item id most monitored known items = let less : length monitored ≤ most = items.count in record { known = items.known; count = omega arith }

up_to : (monitored : List Monitored) (few most : ℕ) → few ≤ most → AreItems monitored few → AreItems monitored most
up_to monitored few most less items = let count : length monitored ≤ few = items.count in record { known = items.known; count = omega arith }

items_test : (items item most : ℕ) (rest monitored : List Monitored) (b : Bool) → nat_le item items ≡ b → most + 1 ≡ item
    → most ≤ items → AreItems monitored most → (item ≤ items → AreItems rest items)
    → AreItems (if b then rest else monitored) items
items_test items item most rest monitored true e is less have next = next (grind (arith, nat_tests))
items_test items item most rest monitored false e is less have next = up_to monitored most items less have

all_items : (items item most : ℕ) (results : List MonitoredItemCreateResult) (monitored : List Monitored)
    → AllByRecursion a_monitored_item_create_result.keeps results → most + 1 ≡ item → most ≤ items
    → AreItems monitored most → AreItems (sub_rules.monitored_after items item results monitored) items
all_items items item most [] monitored all is less have = up_to monitored most items less have
all_items items item most (result ∷ results) monitored all is less have =
    items_test items item most _ monitored (nat_le item items) refl is less have
    (λ within. all_items items (item + 1) (most + 1) results (sub_rules.with_item item result monitored) all.1
    (ap (λ n. n + 1) is) (omega arith) (item_test (is_good result.status_code) item result.monitored_item_id most monitored (result_id result all.0) have))

added_fits : (items : List Monitored) (l : LinkState) → AreItems items l.config.items → FitsLink l → Fits (sub_rules.added items l)
unfolding sub_rules.added
added_fits [] l have fits = broken_fits l fits
added_fits (first ∷ more) l have fits =
    enters_fits (Some l.config.rest) (record l { monitored = first ∷ more }) (items_fit (first ∷ more) l have.known have.count fits)

results_keep : (r : _) → a_create_monitored_items_response.keeps r → AllByRecursion a_monitored_item_create_result.keeps r.results
unfolding a_create_monitored_items_response
results_keep r kept = kept.1.0.1

adding_fits : (r : Reply) (l : LinkState) → (reply_put r).keeps → FitsLink l → Fits (sub_rules.in_adding r l)
unfolding sub_rules.in_adding
adding_fits (reply.Subscription (sub_reply.CreateMonitoredItems r)) l kept fits =
    fits_if (is_answer r.response_header l) (sub_rules.added (sub_rules.monitored_of l.config.items r.results) l) (broken l)
    (added_fits (sub_rules.monitored_of l.config.items r.results) l
    (all_items l.config.items 1 0 r.results [] (results_keep r kept) refl (omega arith) (record { known = tt; count = omega arith })) fits)
    (broken_fits l fits)
adding_fits other l kept fits = broken_fits l fits

-- ---- sessions

activates_fits : (l : LinkState) → FitsLink l → Fits (start_rules.activates l)
unfolding start_rules.activates
activates_fits l fits =
    asked_fits _ (with_phase phase.Activating l) (phase_fits phase.Activating l tt fits) (λ short. requests.activation_keeps l fits)

session_token : (r : _) → a_create_session_response.keeps r → KeepsNode r.authentication_token
unfolding a_create_session_response
session_token r kept = kept.1.1.0

creating_fits : (r : Reply) (l : LinkState) → (reply_put r).keeps → FitsLink l → Fits (start_rules.in_creating r l)
unfolding start_rules.in_creating
creating_fits (reply.Session (session_reply.CreateSession r)) l kept fits =
    let now : LinkState = record l { session = r.authentication_token } in
    fits_if (is_answer r.response_header l) (start_rules.activates now) (broken l)
    (activates_fits now (session_fits l r.authentication_token (session_token r kept) fits)) (broken_fits l fits)
creating_fits other l kept fits = broken_fits l fits

probes_fits : (l : LinkState) → FitsLink l → Fits (start_rules.probes l)
unfolding start_rules.probes
probes_fits l fits =
    asked_fits _ (with_phase phase.Probing (start_rules.has_read l))
    (phase_fits phase.Probing (start_rules.has_read l) tt
    (beside_fits (record l.conversation { read_at = l.age }) l refl refl refl fits)) (λ short. requests.probe_keeps l fits)

activating_fits : (r : Reply) (l : LinkState) → FitsLink l → Fits (start_rules.in_activating r l)
unfolding start_rules.in_activating
activating_fits (reply.Session (session_reply.ActivateSession r)) l fits =
    fits_if (is_answer r.response_header l) (start_rules.probes l) (broken l) (probes_fits l fits) (broken_fits l fits)
activating_fits other l fits = broken_fits l fits

flag_fits : (l : LinkState) → FitsLink l → FitsLink (record l { unsupported = true })
flag_fits l fits = record {
  config = fits.config;
  phase = fits.phase;
  url = fits.url;
  session = fits.session;
  conversation = fits.conversation;
  remembered = fits.remembered;
  monitored = fits.monitored;
  monitored_count = fits.monitored_count;
  acks = fits.acks;
}

unsupported_fits : (l : LinkState) → FitsLink l → Fits (start_rules.unsupported l)
unfolding start_rules.unsupported
unsupported_fits l fits =
    let now : LinkState = record l { unsupported = true } in
    fits_then (tells (notice.Unsupported ∷ []) now) broken (fits_tells (notice.Unsupported ∷ []) now (flag_fits l fits)) (broken_fits now)

judges_fits : (level : ℕ) (support : ℤ) (l : LinkState) → FitsLink l → Fits (start_rules.judges level support l)
unfolding start_rules.judges
judges_fits level support l fits =
    fits_if (start_rules.is_unused support) (start_rules.unsupported l)
    (if ready_rules.is_left level l then broken l else sub_rules.begins l) (unsupported_fits l fits)
    (fits_if (ready_rules.is_left level l) (broken l) (sub_rules.begins l) (broken_fits l fits) (begins_fits l fits))

probed_by : (level : Option ℕ) (support : Option ℤ) (l : LinkState) → FitsLink l → Fits (start_rules.probed_by level support l)
unfolding start_rules.probed_by
probed_by None support l fits = broken_fits l fits
probed_by (Some level) None l fits = broken_fits l fits
probed_by (Some level) (Some support) l fits =
    fits_then (tells (notice.Level level ∷ []) l) (start_rules.judges level support) (fits_tells (notice.Level level ∷ []) l fits)
    (judges_fits level support l)

probed_fits : (values : List (Stamped Variant)) (l : LinkState) → FitsLink l → Fits (start_rules.probed values l)
unfolding start_rules.probed
probed_fits [] l fits = broken_fits l fits
probed_fits (level ∷ []) l fits = broken_fits l fits
probed_fits (level ∷ support ∷ []) l fits = probed_by _ _ l fits
probed_fits (level ∷ support ∷ another ∷ more) l fits = broken_fits l fits

probing_fits : (r : Reply) (l : LinkState) → FitsLink l → Fits (start_rules.in_probing r l)
unfolding start_rules.in_probing
probing_fits (reply.Session (session_reply.Read r)) l fits =
    fits_if (is_answer r.response_header l) (start_rules.probed r.results l) (broken l) (probed_fits r.results l fits) (broken_fits l fits)
probing_fits other l fits = broken_fits l fits

-- ---- replies

replied_by : (p : Phase) (r : Reply) (l : LinkState) → (reply_put r).keeps → FitsLink l → Fits (step_rules.replied_in p r l)
replied_by phase.Idle r l kept fits = broken_fits l fits
replied_by (phase.Dialing taken) r l kept fits = broken_fits l fits
replied_by phase.Hello r l kept fits = broken_fits l fits
replied_by phase.Opening r l kept fits = broken_fits l fits
replied_by phase.Creating r l kept fits = creating_fits r l kept fits
replied_by phase.Activating r l kept fits = activating_fits r l fits
replied_by phase.Probing r l kept fits = probing_fits r l fits
replied_by phase.Transferring r l kept fits = transferring_fits r l kept fits
replied_by (phase.Republishing wanted) r l kept fits = republishing_fits r l kept fits
replied_by phase.Subscribing r l kept fits = subscribing_fits r l kept fits
replied_by phase.Adding r l kept fits = adding_fits r l kept fits
replied_by (phase.Ready ready) r l kept fits = ready_rule_fits r ready l kept fits

abbrev Kept : Result Reply BodyFault → Type 0
Kept result = IfOk result (λ r. (reply_put r).keeps)

read_reply : (result : Result Reply BodyFault) (l : LinkState) → Kept result → FitsLink l → Fits (step_rules.replied_by result l)
read_reply (Ok r) l kept fits = replied_by l.phase r l kept fits
read_reply (Err fault) l kept fits = broken_fits l fits

-- ---- the channel

creates_fits : (l : LinkState) → FitsLink l → Fits (open_rules.creates_session l)
unfolding open_rules.creates_session
creates_fits l fits =
    asked_fits _ (with_phase phase.Creating l) (phase_fits phase.Creating l tt fits) (λ short. requests.session_keeps l fits)

renews_fits : (t : ChannelSecurityToken) (l : LinkState) → a_channel_security_token.keeps t → FitsLink l → Fits (open_rules.renews t l)
unfolding open_rules.renews a_channel_security_token
renews_fits t l kept fits = record {
  link = conversation_fits (record l.conversation {
    channel = t.channel_id;
    token = t.token_id;
    opened = l.age;
    lifetime = t.revised_lifetime;
    renewal = None;
  }) l (record { channel = kept.0; token = kept.1.0; last = fits.conversation.last }) fits;
  said = (record { channel = kept.0; token = kept.1.0; told = (kept.0, kept.1.0) }, tt);
}

channel_renewed : (r : OpenSecureChannelResponse) (l : LinkState) → a_channel_security_token.keeps r.security_token → FitsLink l
    → Fits (if ready_rules.is_answer_to l.conversation.renewal r.response_header then
    open_rules.renews r.security_token (open_rules.heard_once l) else broken l)
channel_renewed r l kept fits =
    fits_if (ready_rules.is_answer_to l.conversation.renewal r.response_header)
    (open_rules.renews r.security_token (open_rules.heard_once l)) (broken l)
    (renews_fits r.security_token (open_rules.heard_once l) kept (once_fits _ l fits)) (broken_fits l fits)

channel_by : (p : Phase) (r : OpenSecureChannelResponse) (l : LinkState) → a_channel_security_token.keeps r.security_token
    → FitsLink l → Fits (open_rules.channel_replied_in p r l)
unfolding open_rules.channel_replied_in
channel_by phase.Opening r l kept fits =
    fits_if (is_answer r.response_header l) (and_then open_rules.creates_session (open_rules.renews r.security_token l)) (broken l)
    (fits_then (open_rules.renews r.security_token l) open_rules.creates_session (renews_fits r.security_token l kept fits) (creates_fits _))
    (broken_fits l fits)
channel_by phase.Idle r l kept fits = channel_renewed r l kept fits
channel_by other r l kept fits = channel_renewed r l kept fits

channel_token : (r : OpenSecureChannelResponse) → an_open_secure_channel_response.keeps r → a_channel_security_token.keeps r.security_token
unfolding an_open_secure_channel_response
channel_token r kept = kept.1.1.0

opening_reply : (r : Reply) (l : LinkState) → (reply_put r).keeps → FitsLink l → Fits (open_rules.in_opening r l)
unfolding open_rules.in_opening
opening_reply (reply.Session (session_reply.OpenSecureChannel r)) l kept fits = channel_by l.phase r l (channel_token r kept) fits
opening_reply other l kept fits = broken_fits l fits

read_opening : (result : Result Reply BodyFault) (l : LinkState) → Kept result → FitsLink l → Fits (step_rules.opening_by result l)
read_opening (Ok r) l kept fits = opening_reply r l kept fits
read_opening (Err fault) l kept fits = broken_fits l fits

opens_fits : (l : LinkState) → FitsLink l → Fits (open_rules.opens_channel l)
unfolding open_rules.opens_channel
opens_fits l fits =
    opening_fits (channel_request (pos 0) l) (with_phase phase.Opening l) (phase_fits phase.Opening l tt fits)
    (requests.channel_keeps 0 l (omega arith) fits)

acknowledged_by : (g : Greeting) (l : LinkState) → FitsLink l → Fits (open_rules.acknowledged_by g l)
unfolding open_rules.acknowledged_by
acknowledged_by g l fits =
    let now : LinkState = open_rules.with_limit (open_rules.limit_named g) l in
    let known : FitsLink now = beside_fits (record l.conversation { limit = open_rules.limit_named g }) l refl refl refl fits in
    fits_if (open_rules.is_enough g) (and_then open_rules.opens_channel (says (Limited (open_rules.limits_of g)) now)) (broken l)
    (fits_then (says (Limited (open_rules.limits_of g)) now) open_rules.opens_channel
    (record {
      link = known;
      said = (record { channel = fits.conversation.channel; token = fits.conversation.token; told = tt }, tt);
    }) (opens_fits now)) (broken_fits l fits)

greeting_fits : (result : Result Greeting Fault) (l : LinkState) → FitsLink l → Fits (open_rules.greeted_by result l)
unfolding open_rules.greeted_by
greeting_fits (Ok g) l fits = acknowledged_by g l fits
greeting_fits (Err fault) l fits = broken_fits l fits

greeted_by : (p : Phase) (body : List ℕ) (l : LinkState) → FitsLink l → Fits (open_rules.greeted_in p body l)
greeted_by phase.Hello body l fits = greeting_fits _ l fits
greeted_by phase.Idle body l fits = broken_fits l fits
greeted_by other body l fits = broken_fits l fits

-- ---- what is heard

hears_fits : (h : Heard) (l : LinkState) → FitsHeard h → FitsLink l → Fits (step_rules.hears h l)
unfolding open_rules.greeted step_rules.opening_replied step_rules.replied
hears_fits (said.Greeting body) l kept fits = greeted_by l.phase body l fits
hears_fits (said.Opening channel follows request body) l kept fits =
    fits_if follows (step_rules.opening_by (body_at replies body) l) (broken l) (read_opening (body_at replies body) l kept fits) (broken_fits l fits)
hears_fits (said.Message request body) l kept fits = read_reply (body_at replies body) l kept fits
hears_fits said.Close l kept fits = broken_fits l fits
hears_fits (said.Fault code) l kept fits = broken_fits l fits

pub heard_fits : (h : Heard) (l : LinkState) → FitsHeard h → FitsLink l → Fits (step_rules.heard h l)
unfolding step_rules.heard
heard_fits h l kept fits =
    fits_if (is_deaf (step_rules.ear_of l)) (nothing l) (step_rules.hears h l) (fits_nothing l fits) (hears_fits h l kept fits)

-- ---- other events

connected_fits : (url : Option (List ℕ)) (l : LinkState) → KeepsText url → FitsLink l → FitsLink (open_rules.connected url l)
connected_fits url l known fits = record {
  config = fits.config;
  phase = tt;
  url = known;
  session = (omega arith, omega arith);
  conversation = record { channel = omega arith; token = omega arith; last = omega arith };
  remembered = fits.remembered;
  monitored = fits.monitored;
  monitored_count = fits.monitored_count;
  acks = fits.acks;
}

greets_fits : (url : Option (List ℕ)) (l : LinkState) → KeepsText url → FitsLink l → Fits (open_rules.greets url l)
unfolding open_rules.greets
greets_fits url l known fits =
    fits_if (open_rules.is_short url) (says (Greeted hello url) l) (broken l)
    (record {
      link = fits;
      said = (
        record {
          channel = fits.conversation.channel;
          token = fits.conversation.token;
          told = ((omega arith, omega arith, omega arith, omega arith, omega arith), known);
        },
        tt,
      );
    }) (broken_fits l fits)

closes_fits : (closes : Bool) (l : LinkState) → FitsLink l → FitsLink (record l { closes = closes })
closes_fits closes l fits = record {
  config = fits.config;
  phase = fits.phase;
  url = fits.url;
  session = fits.session;
  conversation = fits.conversation;
  remembered = fits.remembered;
  monitored = fits.monitored;
  monitored_count = fits.monitored_count;
  acks = fits.acks;
}

opened_by : (p : Phase) (url : Option (List ℕ)) (l : LinkState) → KeepsText url → FitsLink l → Fits (open_rules.opened_in p url l)
opened_by phase.Idle url l known fits = fits_nothing (record l { closes = true }) (closes_fits true l fits)
opened_by (phase.Dialing taken) url l known fits = greets_fits url (open_rules.connected url l) known (connected_fits url l known fits)
opened_by other url l known fits = broken_fits l fits

pub opened_fits : (url : Option (List ℕ)) (l : LinkState) → KeepsText url → FitsLink l → Fits (open_rules.opened url l)
unfolding open_rules.opened
opened_fits url l known fits = opened_by l.phase url l known fits

refused_in : (p : Phase) (l : LinkState) → FitsLink l → Fits (open_rules.refused_in p l)
refused_in (phase.Dialing taken) l fits = dropped_fits l fits
refused_in other l fits = fits_nothing l fits

pub refused_fits : (l : LinkState) → FitsLink l → Fits (open_rules.refused l)
unfolding open_rules.refused
refused_fits l fits = refused_in l.phase l fits

closed_in : (p : Phase) (l : LinkState) → FitsLink l → Fits (open_rules.closed_in p l)
closed_in phase.Idle l fits = fits_nothing l fits
closed_in (phase.Dialing taken) l fits = fits_nothing l fits
closed_in other l fits = dropped_fits l fits

pub closed_fits : (l : LinkState) → FitsLink l → Fits (open_rules.closed l)
unfolding open_rules.closed
closed_fits l fits =
    fits_if l.closes (nothing (record l { closes = false })) (open_rules.closed_in l.phase l)
    (fits_nothing (record l { closes = false }) (closes_fits false l fits)) (closed_in l.phase l fits)

level_read : (l : LinkState) → FitsLink l → Fits (time_rules.reads_level l)
unfolding time_rules.reads_level
level_read l fits =
    fits_if (time_rules.is_level_due l.conversation.reading l) (asked (level_request l) (time_rules.with_reading l)) (nothing l)
    (asked_fits (level_request l) (time_rules.with_reading l) (beside_fits _ l refl refl refl fits) (λ short. requests.level_keeps l fits))
    (fits_nothing l fits)

token_renewed : (l : LinkState) → FitsLink l → Fits (time_rules.renews_token l)
unfolding time_rules.renews_token
token_renewed l fits =
    fits_if (is_ready l)
    (if time_rules.is_renewal_due l.conversation.renewal l then asked_opening (channel_request (pos 1) l) (time_rules.with_renewal l) else nothing l)
    (nothing l)
    (fits_if (time_rules.is_renewal_due l.conversation.renewal l) (asked_opening (channel_request (pos 1) l) (time_rules.with_renewal l)) (nothing l)
    (opening_fits (channel_request (pos 1) l) (time_rules.with_renewal l) (beside_fits _ l refl refl refl fits)
    (requests.channel_keeps 1 l (omega arith) fits)) (fits_nothing l fits)) (fits_nothing l fits)

keeps_up : (l : LinkState) → FitsLink l → Fits (time_rules.keeps_up l)
unfolding time_rules.keeps_up
keeps_up l fits =
    fits_if (is_ready l) (and_then time_rules.renews_token (time_rules.reads_level l)) (nothing l)
    (fits_then (time_rules.reads_level l) time_rules.renews_token (level_read l fits) (token_renewed (time_rules.reads_level l).link))
    (fits_nothing l fits)

aged_fits : (ms : ℕ) (l : LinkState) → FitsLink l → FitsLink (time_rules.aged ms l)
aged_fits ms l fits = record {
  config = fits.config;
  phase = fits.phase;
  url = fits.url;
  session = fits.session;
  conversation = fits.conversation;
  remembered = fits.remembered;
  monitored = fits.monitored;
  monitored_count = fits.monitored_count;
  acks = fits.acks;
}

pub ticked_fits : (ms : ℕ) (l : LinkState) → FitsLink l → Fits (time_rules.ticked ms l)
unfolding time_rules.ticked
ticked_fits ms l fits =
    fits_if (time_rules.is_overdue (time_rules.aged ms l)) (broken (time_rules.aged ms l)) (time_rules.keeps_up (time_rules.aged ms l))
    (broken_fits (time_rules.aged ms l) (aged_fits ms l fits)) (keeps_up (time_rules.aged ms l) (aged_fits ms l fits))

wanted_by : (o : Option ReadyState) (mode : Mode) (l : LinkState) → FitsLink l → Fits (step_rules.wants_in o mode l)
wanted_by None mode l fits = fits_nothing l fits
wanted_by (Some ready) mode l fits =
    mode_fits (with_ready (record ready { wanted = Some mode }) l) (ready_fits (record ready { wanted = Some mode }) l fits)

pub wants_fits : (mode : Mode) (l : LinkState) → FitsLink l → Fits (step_rules.wants mode l)
unfolding step_rules.wants
wants_fits mode l fits = wanted_by (ready_in l.phase) mode l fits

link_if : (b : Bool) (one other : LinkState) → FitsLink one → FitsLink other → FitsLink (if b then one else other)
link_if true one other first second = first
link_if false one other first second = second

pub dials_fits : (l : LinkState) → FitsLink l → FitsLink (open_rules.dials l)
dials_fits l fits =
    link_if (open_rules.may_dial l) (with_phase (phase.Dialing false) l) l (phase_fits (phase.Dialing false) l tt fits) fits

taken_in : (p : Phase) → FitsPhase p → FitsPhase (step_rules.taken_in p)
taken_in (phase.Dialing taken) known = tt
taken_in other known = known

wish_fits : (l : LinkState) → FitsLink l → FitsLink (step_rules.wish_taken l)
wish_fits l fits =
    link_if l.closes (record l { closes = false }) (record l { phase = step_rules.taken_in l.phase }) (closes_fits false l fits) (record {
      config = fits.config;
      phase = taken_in l.phase fits.phase;
      url = fits.url;
      session = fits.session;
      conversation = fits.conversation;
      remembered = fits.remembered;
      monitored = fits.monitored;
      monitored_count = fits.monitored_count;
      acks = fits.acks;
    })

-- ---- all that may happen

after_fits : (h : step_rules.Happening) (l : LinkState) → FitsHappening h → FitsLink l → Fits (step_rules.after h l)
after_fits (step_rules.Opens url) l kept fits = opened_fits url l kept fits
after_fits step_rules.Refuses l kept fits = refused_fits l fits
after_fits step_rules.Closes l kept fits = closed_fits l fits
after_fits (step_rules.Hears h) l kept fits = heard_fits h l kept fits
after_fits (step_rules.Ticks ms) l kept fits = ticked_fits ms l fits
after_fits (step_rules.Wants mode) l kept fits = wants_fits mode l fits
after_fits step_rules.Dials l kept fits = fits_nothing (open_rules.dials l) (dials_fits l fits)
after_fits step_rules.Takes l kept fits = fits_nothing (step_rules.wish_taken l) (wish_fits l fits)

all_fit : (happenings : List step_rules.Happening) (l : LinkState) → AllByRecursion FitsHappening happenings → FitsLink l
    → Fits (step_rules.after_all happenings l)
all_fit [] l kept fits = fits_nothing l fits
all_fit (h ∷ happenings) l kept fits =
    fits_then (step_rules.after h l) (step_rules.after_all happenings) (after_fits h l kept.0 fits)
    (all_fit happenings (step_rules.after h l).link kept.1)

pub new_fits : (config : LinkConfig) → FitsConfig config → FitsLink (new_link config)
new_fits config known = record {
  config = known;
  phase = tt;
  url = tt;
  session = (omega arith, omega arith);
  conversation = record { channel = omega arith; token = omega arith; last = omega arith };
  remembered = tt;
  monitored = tt;
  monitored_count = omega arith;
  acks = tt;
}

pub life_fits : (config : LinkConfig) (happenings : List step_rules.Happening) → FitsConfig config
    → AllByRecursion FitsHappening happenings → Fits (step_rules.after_all happenings (new_link config))
life_fits config happenings known kept = all_fit happenings (new_link config) kept (new_fits config known)

pub life_link : (config : LinkConfig) (happenings : List step_rules.Happening) → FitsConfig config
    → AllByRecursion FitsHappening happenings → FitsLink (step_rules.after_all happenings (new_link config)).link
life_link config happenings known kept = (life_fits config happenings known kept).link

pub life_said : (config : LinkConfig) (happenings : List step_rules.Happening) → FitsConfig config
    → AllByRecursion FitsHappening happenings → AllByRecursion KeepsSaid (step_rules.after_all happenings (new_link config)).said
life_said config happenings known kept = (life_fits config happenings known kept).said
