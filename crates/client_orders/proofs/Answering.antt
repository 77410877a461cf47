-- The same of what a link does on its way to Ready, and of all that may happen to it.
use Rattle.std.proofs.Common.{◌≡◌, ℕ, ℤ, ◌+◌, ◌%◌, ◌^◌, ◌-◌, ◌≤◌, ◌==◌, ◌&&◌, ◌||◌, List, [], ◌∷◌, ◌++◌, length, not, Bool, true, false, nat_le, Option, Some, None, Result, Ok, Err, IfOk, if◌then◌else◌, refl, arith, pos}
use Rattle.std.proofs.lemmas.Bool.Decides.{nat_tests}
use Rattle.std.proofs.lemmas.List.{length-append}
use Rattle.byteorder.specs.Endian.{little_bytes}
use Rattle.ua_base.specs.declared.modes.Mode.{Mode}
use Rattle.ua_base.specs.Status.{bad_message_not_available}
use Rattle.ua_values.specs.Laws.{KeepsNode}
use Rattle.ua_values.specs.Reading.{Fault}
use Rattle.ua_values.specs.Written.{written_text}
use Rattle.ua_variants.specs.declared.variant.Stamped.{Stamped}
use Rattle.ua_variants.specs.declared.variant.Variant.{Variant}
use Rattle.ua_chunks.specs.declared.greeting.Greeting.{Greeting}
use Rattle.ua_chunks.specs.Bodies.{written_greeting, written_hello}
use Rattle.ua_channel.specs.declared.heard.Heard.{Heard}
use Rattle.ua_channel.specs.declared.heard.Heard.TheVariants as said
use Rattle.ua_channel.specs.State.{is_deaf}
use Rattle.ua_structures.specs.declared.body.BodyFault.{BodyFault}
use Rattle.ua_structures.specs.declared.header.ResponseHeader.{ResponseHeader}
use Rattle.ua_structures.specs.Body.{body_at}
use Rattle.ua_session_msgs.specs.declared.channel.ChannelSecurityToken.{ChannelSecurityToken}
use Rattle.ua_session_msgs.specs.declared.channel.OpenSecureChannelResponse.{OpenSecureChannelResponse}
use Rattle.ua_session_msgs.specs.declared.reply.SessionReply.TheVariants as session_reply
use Rattle.ua_session_msgs.specs.Structures.{a_create_session_response}
use Rattle.ua_sub_msgs.specs.declared.notification.NotificationMessage.{NotificationMessage}
use Rattle.ua_sub_msgs.specs.declared.reply.SubReply.TheVariants as sub_reply
use Rattle.ua_services.specs.declared.reply.Reply.{Reply}
use Rattle.ua_services.specs.declared.reply.Reply.TheVariants as reply
use Rattle.ua_services.specs.Families.{replies, reply_put}
use Rattle.link_rules.specs.declared.content.Content.{Content}
use Rattle.link_rules.specs.declared.content.Content.TheVariants as content
use Rattle.link_rules.specs.declared.notice.Notice.TheVariants as notice
use Rattle.link_rules.specs.declared.notice.Wish.TheVariants as wish
use Rattle.link_rules.specs.declared.phase.Phase.{Phase}
use Rattle.link_rules.specs.declared.phase.Phase.TheVariants as phase
use Rattle.link_rules.specs.declared.phase.ReadyState.{ReadyState}
use Rattle.link_rules.specs.declared.remembered.Monitored.{Monitored}
use Rattle.link_rules.specs.declared.remembered.Remembered.{Remembered}
use Rattle.link_rules.specs.State.{LinkState, is_idle_phase, is_ready, ready_in, with_phase, with_ready}
use Rattle.link_rules.specs.Said.{LinkDid, Greeted, Limited, and_then, nothing, says, tells}
use Rattle.link_rules.specs.Requests.{activation_request, channel_request, hello, items_request, level_request, probe_request, republish_request, session_request_of, transfer_request}
use Rattle.link_rules.specs.Closing.{broken, stands_in}
use Rattle.link_rules.specs.Asking.{asked, asked_opening, is_answer, is_fault}
use Rattle.link_rules.specs.Messages.{content_of}
use Rattle.link_rules.specs.Numbers.{wanted_of}
use Rattle.link_rules.specs.Ready as ready_rules
use Rattle.link_rules.specs.Subscribing as sub_rules
use Rattle.link_rules.specs.Starting as start_rules
use Rattle.link_rules.specs.Opening as open_rules
use Rattle.link_rules.specs.Time as time_rules
use Rattle.link_rules.specs.Step as step_rules
use Rattle.link_keeps.specs.Fitting.{FitsHappening, FitsHeard}
use Rattle.client_orders.specs.Holding.{IsQuiet}
use Rattle.client_orders.proofs.Lengths.{little_long}
use Rattle.client_orders.proofs.Saying.{Does, FitsHeader, Stands, and_first, alive_does, asked_does, broken_does, data_does, does_if, does_nothing, does_tells, does_then, dropped_does, enters_does, mode_does, opening_does, phase_stands, ready_rule_does, ready_stands, subscribes_does}

-- ---- a HEL

greeting_long : (g : Greeting) → length (written_greeting g) ≡ 20
greeting_long g =
    let one : List ℕ = little_bytes 4 g.version in
    let two : List ℕ = little_bytes 4 g.receive in
    let three : List ℕ = little_bytes 4 g.send in
    let four : List ℕ = little_bytes 4 g.max_message in
    let five : List ℕ = little_bytes 4 g.max_chunks in
    let a : length one ≡ 4 = little_long 4 g.version in
    let b : length two ≡ 4 = little_long 4 g.receive in
    let c : length three ≡ 4 = little_long 4 g.send in
    let d : length four ≡ 4 = little_long 4 g.max_message in
    let e : length five ≡ 4 = little_long 4 g.max_chunks in
    let ab : length (one ++ two) ≡ length one + length two = length-append one two in
    let abc : length (one ++ two ++ three) ≡ length (one ++ two) + length three = length-append (one ++ two) three in
    let abcd : length (one ++ two ++ three ++ four) ≡ length (one ++ two ++ three) + length four = length-append (one ++ two ++ three) four in
    let all : length (one ++ two ++ three ++ four ++ five) ≡ length (one ++ two ++ three ++ four) + length five =
    length-append (one ++ two ++ three ++ four) five in
    omega arith

text_long : (url : Option (List ℕ)) → open_rules.is_short url ≡ true → length (written_text url) ≤ 4095
text_long None e = let long : length (little_bytes 4 (2 ^ 32 - 1)) ≡ 4 = little_long 4 (2 ^ 32 - 1) in omega arith
text_long (Some run) e =
    let less : length run ≤ 4091 = grind (arith, nat_tests) in
    let front : length (little_bytes 4 (length run % 2 ^ 32)) ≡ 4 = little_long 4 (length run % 2 ^ 32) in
    let all : length (written_text (Some run)) ≡ length (little_bytes 4 (length run % 2 ^ 32)) + length run =
    length-append (little_bytes 4 (length run % 2 ^ 32)) run in
    omega arith

hello_short : (g : Greeting) (url : Option (List ℕ)) → open_rules.is_short url ≡ true → length (written_hello (g, url)) ≤ 65528
hello_short g url e =
    let all : length (written_hello (g, url)) ≡ length (written_greeting g) + length (written_text url) =
    length-append (written_greeting g) (written_text url) in
    let first : length (written_greeting g) ≡ 20 = greeting_long g in
    let more : length (written_text url) ≤ 4095 = text_long url e in
    omega arith

-- ---- phases

apart_not : false ≡ true → ⊥
apart_not e = cc

or_true : (b : Bool) → (b || true) ≡ true
or_true true = refl
or_true false = refl

idle_closes : (p : Phase) (closes : Bool) → is_idle_phase p ≡ true → (stands_in p || closes) ≡ true → closes ≡ true
idle_closes phase.Idle closes idle e = e
idle_closes other closes idle e = absurd cc

session_token : (r : _) → a_create_session_response.keeps r → KeepsNode r.authentication_token
unfolding a_create_session_response
session_token r kept = kept.1.1.0

-- a link that wishes to dial begins anew where it is dialled, and has no connection to close
pub wish_begins : (p : Phase) (closes : Bool) → (if closes then wish.Close else step_rules.wish_in p) ≡ wish.Dial
    → (open_rules.is_apart p ≡ true) × (closes ≡ false)
wish_begins p true e = absurd cc
wish_begins (phase.Dialing false) false e = (refl, refl)
wish_begins (phase.Dialing true) false e = absurd cc
wish_begins phase.Idle false e = (refl, refl)
wish_begins other false e = absurd cc

abbrev Kept : Result Reply BodyFault → Type 0
Kept result = IfOk result (λ r. (reply_put r).keeps)

module _ (H K : Type 0) where
  -- ---- on the way to Ready

  again_does : (n : ℕ) (numbers : List ℕ) (remembered : Remembered) (l : LinkState) → Stands H K n l
      → Does H K n (sub_rules.asks_again numbers remembered l)
  unfolding sub_rules.asks_again republish_request
  again_does n [] remembered l on = enters_does H K n None l on
  again_does n (number ∷ wanted) remembered l on =
      asked_does H K n (republish_request remembered.id number l) (with_phase (phase.Republishing wanted) l)
      (phase_stands H K n (phase.Republishing wanted) l refl on) refl (λ k. tt)

  begins_by : (n : ℕ) (r : Option Remembered) (l : LinkState) → Stands H K n l → Does H K n (sub_rules.begins_by r l)
  unfolding transfer_request
  begins_by n None l on = subscribes_does H K n l on
  begins_by n (Some remembered) l on =
      asked_does H K n (transfer_request remembered.id l) (with_phase phase.Transferring l)
      (phase_stands H K n phase.Transferring l refl on) refl (λ k. tt)

  begins_does : (n : ℕ) (l : LinkState) → Stands H K n l → Does H K n (sub_rules.begins l)
  unfolding sub_rules.begins
  begins_does n l on = begins_by n l.remembered l on

  transfers_by : (n : ℕ) (a : Option (List ℕ)) (r : Option Remembered) (l : LinkState) → Stands H K n l
      → Does H K n (sub_rules.transfers_by a r l)
  transfers_by n None r l on = subscribes_does H K n l on
  transfers_by n (Some available) None l on = subscribes_does H K n l on
  transfers_by n (Some available) (Some remembered) l on = again_does n (wanted_of remembered.next available) remembered l on

  transferred_does : (n : ℕ) (a : Option (List ℕ)) (h : ResponseHeader) (l : LinkState) → Stands H K n l
      → Does H K n (sub_rules.transferred a h l)
  unfolding sub_rules.transferred
  transferred_does n a h l on =
      does_if H K n (h.request_handle == l.conversation.last) (sub_rules.transfers_by a l.remembered l) (broken l)
      (transfers_by n a l.remembered l on) (broken_does H K n l on)

  transferring_does : (n : ℕ) (r : Reply) (l : LinkState) → Stands H K n l → Does H K n (sub_rules.in_transferring r l)
  unfolding sub_rules.in_transferring
  transferring_does n (reply.Session (session_reply.ServiceFault h)) l on = transferred_does n None h l on
  transferring_does n (reply.Subscription (sub_reply.TransferSubscriptions r)) l on =
      transferred_does n (sub_rules.available_of r) r.response_header l on
  transferring_does n other l on = broken_does H K n l on

  goes_by : (n : ℕ) (o : Option (List ℕ)) (r : Option Remembered) (l : LinkState) → Stands H K n l
      → Does H K n (sub_rules.goes_on_by o r l)
  goes_by n None r l on = does_nothing H K n l on
  goes_by n (Some wanted) None l on = does_nothing H K n l on
  goes_by n (Some wanted) (Some remembered) l on = again_does n wanted remembered l on

  goes_does : (n : ℕ) (l : LinkState) → Stands H K n l → Does H K n (sub_rules.goes_on l)
  unfolding sub_rules.goes_on
  goes_does n l on = goes_by n (sub_rules.wanted_in l.phase) l.remembered l on

  brings_again : (n : ℕ) (c : Content) (number : ℕ) (remembered : Remembered) (l : LinkState) → Stands H K n l
      → Does H K n (sub_rules.brings_again c number remembered l)
  unfolding sub_rules.brings_again
  brings_again n content.Alive number remembered l on = alive_does H K n number remembered l on
  brings_again n content.Ended number remembered l on = does_nothing H K n l on
  brings_again n (content.Values values) number remembered l on = data_does H K n number values remembered l on
  brings_again n content.Unread number remembered l on = broken_does H K n l on

  message_again : (n : ℕ) (m : NotificationMessage) (r : Option Remembered) (l : LinkState) → Stands H K n l
      → Does H K n (sub_rules.message_again m r l)
  unfolding sub_rules.message_again
  message_again n m None l on = broken_does H K n l on
  message_again n m (Some remembered) l on =
      let did : LinkDid = sub_rules.brings_again (content_of m.notification_data) m.sequence_number remembered l in
      does_then H K n did sub_rules.goes_on (brings_again n (content_of m.notification_data) m.sequence_number remembered l on)
      (goes_does _ did.link)

  republishing_does : (n : ℕ) (r : Reply) (l : LinkState) → Stands H K n l → Does H K n (sub_rules.in_republishing r l)
  unfolding sub_rules.in_republishing
  republishing_does n (reply.Session (session_reply.ServiceFault h)) l on =
      does_if H K n (is_fault l.conversation.last bad_message_not_available h) (sub_rules.goes_on l) (broken l) (goes_does n l on)
      (broken_does H K n l on)
  republishing_does n (reply.Subscription (sub_reply.Republish r)) l on =
      does_if H K n (is_answer r.response_header l) (sub_rules.message_again r.notification_message l.remembered l) (broken l)
      (message_again n r.notification_message l.remembered l on) (broken_does H K n l on)
  republishing_does n other l on = broken_does H K n l on

  adds_does : (n id : ℕ) (l : LinkState) → Stands H K n l → Does H K n (sub_rules.adds_items id l)
  unfolding sub_rules.adds_items items_request
  adds_does n id l on =
      asked_does H K n (items_request id l) (with_phase phase.Adding l) (phase_stands H K n phase.Adding l refl on) refl (λ k. tt)

  subscribed_does : (n id : ℕ) (l : LinkState) → Stands H K n l → Does H K n (sub_rules.subscribed id l)
  unfolding sub_rules.subscribed
  subscribed_does n id l on =
      let now : LinkState = sub_rules.made id l in
      does_then H K n (tells (sub_rules.streams l.config.items) now) (sub_rules.adds_items id)
      (does_tells H K n (sub_rules.streams l.config.items) now (record { limit = on.limit; holds = on.holds; header = on.header }))
      (adds_does n id now)

  subscribing_does : (n : ℕ) (r : Reply) (l : LinkState) → Stands H K n l → Does H K n (sub_rules.in_subscribing r l)
  unfolding sub_rules.in_subscribing
  subscribing_does n (reply.Subscription (sub_reply.CreateSubscription r)) l on =
      does_if H K n (is_answer r.response_header l) (sub_rules.subscribed r.subscription_id l) (broken l)
      (subscribed_does n r.subscription_id l on) (broken_does H K n l on)
  subscribing_does n other l on = broken_does H K n l on

  added_does : (n : ℕ) (items : List Monitored) (l : LinkState) → Stands H K n l → Does H K n (sub_rules.added items l)
  unfolding sub_rules.added
  added_does n [] l on = broken_does H K n l on
  added_does n (first ∷ more) l on =
      enters_does H K n (Some l.config.rest) (record l { monitored = first ∷ more })
      (record { limit = on.limit; holds = on.holds; header = on.header })

  adding_does : (n : ℕ) (r : Reply) (l : LinkState) → Stands H K n l → Does H K n (sub_rules.in_adding r l)
  unfolding sub_rules.in_adding
  adding_does n (reply.Subscription (sub_reply.CreateMonitoredItems r)) l on =
      does_if H K n (is_answer r.response_header l) (sub_rules.added (sub_rules.monitored_of l.config.items r.results) l) (broken l)
      (added_does n (sub_rules.monitored_of l.config.items r.results) l on) (broken_does H K n l on)
  adding_does n other l on = broken_does H K n l on

  -- ---- sessions

  activates_does : (n : ℕ) (l : LinkState) → Stands H K n l → Does H K n (start_rules.activates l)
  unfolding start_rules.activates activation_request
  activates_does n l on =
      asked_does H K n (activation_request l) (with_phase phase.Activating l) (phase_stands H K n phase.Activating l refl on) refl (λ k. tt)

  creating_does : (n : ℕ) (r : Reply) (l : LinkState) → (K → (reply_put r).keeps) → Stands H K n l
      → Does H K n (start_rules.in_creating r l)
  unfolding start_rules.in_creating
  creating_does n (reply.Session (session_reply.CreateSession r)) l kept on =
      let now : LinkState = record l { session = r.authentication_token } in
      does_if H K n (is_answer r.response_header l) (start_rules.activates now) (broken l)
      (activates_does n now (record {
        limit = on.limit;
        holds = on.holds;
        header = λ k. let h : FitsHeader l = on.header k in (session_token r (kept k), h.1, h.2);
      })) (broken_does H K n l on)
  creating_does n other l kept on = broken_does H K n l on

  probes_does : (n : ℕ) (l : LinkState) → Stands H K n l → Does H K n (start_rules.probes l)
  unfolding start_rules.probes probe_request
  probes_does n l on =
      asked_does H K n (probe_request l) (with_phase phase.Probing (start_rules.has_read l))
      (record { limit = on.limit; holds = λ h. refl; header = on.header }) refl (λ k. tt)

  activating_does : (n : ℕ) (r : Reply) (l : LinkState) → Stands H K n l → Does H K n (start_rules.in_activating r l)
  unfolding start_rules.in_activating
  activating_does n (reply.Session (session_reply.ActivateSession r)) l on =
      does_if H K n (is_answer r.response_header l) (start_rules.probes l) (broken l) (probes_does n l on) (broken_does H K n l on)
  activating_does n other l on = broken_does H K n l on

  unsupported_does : (n : ℕ) (l : LinkState) → Stands H K n l → Does H K n (start_rules.unsupported l)
  unfolding start_rules.unsupported
  unsupported_does n l on =
      let now : LinkState = record l { unsupported = true } in
      let stands : Stands H K n now = record { limit = on.limit; holds = on.holds; header = on.header } in
      does_then H K n (tells (notice.Unsupported ∷ []) now) broken (does_tells H K n (notice.Unsupported ∷ []) now stands)
      (broken_does H K n now)

  judges_does : (n level : ℕ) (support : ℤ) (l : LinkState) → Stands H K n l → Does H K n (start_rules.judges level support l)
  unfolding start_rules.judges
  judges_does n level support l on =
      does_if H K n (start_rules.is_unused support) (start_rules.unsupported l)
      (if ready_rules.is_left level l then broken l else sub_rules.begins l) (unsupported_does n l on)
      (does_if H K n (ready_rules.is_left level l) (broken l) (sub_rules.begins l) (broken_does H K n l on) (begins_does n l on))

  probed_by : (n : ℕ) (level : Option ℕ) (support : Option ℤ) (l : LinkState) → Stands H K n l
      → Does H K n (start_rules.probed_by level support l)
  unfolding start_rules.probed_by
  probed_by n None support l on = broken_does H K n l on
  probed_by n (Some level) None l on = broken_does H K n l on
  probed_by n (Some level) (Some support) l on =
      does_then H K n (tells (notice.Level level ∷ []) l) (start_rules.judges level support)
      (does_tells H K n (notice.Level level ∷ []) l on) (judges_does n level support l)

  probed_does : (n : ℕ) (values : List (Stamped Variant)) (l : LinkState) → Stands H K n l → Does H K n (start_rules.probed values l)
  unfolding start_rules.probed
  probed_does n [] l on = broken_does H K n l on
  probed_does n (level ∷ []) l on = broken_does H K n l on
  probed_does n (level ∷ support ∷ []) l on = probed_by n _ _ l on
  probed_does n (level ∷ support ∷ another ∷ more) l on = broken_does H K n l on

  probing_does : (n : ℕ) (r : Reply) (l : LinkState) → Stands H K n l → Does H K n (start_rules.in_probing r l)
  unfolding start_rules.in_probing
  probing_does n (reply.Session (session_reply.Read r)) l on =
      does_if H K n (is_answer r.response_header l) (start_rules.probed r.results l) (broken l) (probed_does n r.results l on)
      (broken_does H K n l on)
  probing_does n other l on = broken_does H K n l on

  -- ---- replies

  replied_by : (n : ℕ) (p : Phase) (r : Reply) (l : LinkState) → (K → (reply_put r).keeps) → Stands H K n l
      → Does H K n (step_rules.replied_in p r l)
  replied_by n phase.Idle r l kept on = broken_does H K n l on
  replied_by n (phase.Dialing taken) r l kept on = broken_does H K n l on
  replied_by n phase.Hello r l kept on = broken_does H K n l on
  replied_by n phase.Opening r l kept on = broken_does H K n l on
  replied_by n phase.Creating r l kept on = creating_does n r l kept on
  replied_by n phase.Activating r l kept on = activating_does n r l on
  replied_by n phase.Probing r l kept on = probing_does n r l on
  replied_by n phase.Transferring r l kept on = transferring_does n r l on
  replied_by n (phase.Republishing wanted) r l kept on = republishing_does n r l on
  replied_by n phase.Subscribing r l kept on = subscribing_does n r l on
  replied_by n phase.Adding r l kept on = adding_does n r l on
  replied_by n (phase.Ready ready) r l kept on = ready_rule_does H K n r ready l on

  read_reply : (n : ℕ) (result : Result Reply BodyFault) (l : LinkState) → (K → Kept result) → Stands H K n l
      → Does H K n (step_rules.replied_by result l)
  read_reply n (Ok r) l kept on = replied_by n l.phase r l kept on
  read_reply n (Err fault) l kept on = broken_does H K n l on

  -- ---- the channel

  creates_does : (n : ℕ) (l : LinkState) → Stands H K n l → Does H K n (open_rules.creates_session l)
  unfolding open_rules.creates_session session_request_of
  creates_does n l on =
      asked_does H K n (session_request_of l) (with_phase phase.Creating l) (phase_stands H K n phase.Creating l refl on) refl (λ k. tt)

  renews_does : (n : ℕ) (t : ChannelSecurityToken) (l : LinkState) → Stands H K n l → Does H K n (open_rules.renews t l)
  unfolding open_rules.renews
  renews_does n t l on = record { short = λ k. (tt, tt); after = record { limit = on.limit; holds = on.holds; header = on.header } }

  channel_renewed : (n : ℕ) (r : OpenSecureChannelResponse) (l : LinkState) → Stands H K n l
      → Does H K n (if ready_rules.is_answer_to l.conversation.renewal r.response_header then
      open_rules.renews r.security_token (open_rules.heard_once l) else broken l)
  channel_renewed n r l on =
      does_if H K n (ready_rules.is_answer_to l.conversation.renewal r.response_header)
      (open_rules.renews r.security_token (open_rules.heard_once l)) (broken l)
      (renews_does n r.security_token (open_rules.heard_once l)
      (record { limit = on.limit; holds = on.holds; header = on.header })) (broken_does H K n l on)

  channel_by : (n : ℕ) (p : Phase) (r : OpenSecureChannelResponse) (l : LinkState) → Stands H K n l
      → Does H K n (open_rules.channel_replied_in p r l)
  unfolding open_rules.channel_replied_in
  channel_by n phase.Opening r l on =
      does_if H K n (is_answer r.response_header l) (and_then open_rules.creates_session (open_rules.renews r.security_token l)) (broken l)
      (does_then H K n (open_rules.renews r.security_token l) open_rules.creates_session (renews_does n r.security_token l on)
      (creates_does _ _)) (broken_does H K n l on)
  channel_by n phase.Idle r l on = channel_renewed n r l on
  channel_by n other r l on = channel_renewed n r l on

  opening_reply : (n : ℕ) (r : Reply) (l : LinkState) → Stands H K n l → Does H K n (open_rules.in_opening r l)
  unfolding open_rules.in_opening
  opening_reply n (reply.Session (session_reply.OpenSecureChannel r)) l on = channel_by n l.phase r l on
  opening_reply n other l on = broken_does H K n l on

  read_opening : (n : ℕ) (result : Result Reply BodyFault) (l : LinkState) → Stands H K n l → Does H K n (step_rules.opening_by result l)
  read_opening n (Ok r) l on = opening_reply n r l on
  read_opening n (Err fault) l on = broken_does H K n l on

  opens_does : (n : ℕ) (l : LinkState) → Stands H K n l → Does H K n (open_rules.opens_channel l)
  unfolding open_rules.opens_channel channel_request
  opens_does n l on =
      opening_does H K n (channel_request (pos 0) l) (with_phase phase.Opening l) (phase_stands H K n phase.Opening l refl on) tt

  acknowledged_test : (n : ℕ) (g : Greeting) (l : LinkState) (b : Bool) → open_rules.is_enough g ≡ b → Stands H K n l
      → Does H K n (if b then and_then open_rules.opens_channel
      (says (Limited (open_rules.limits_of g)) (open_rules.with_limit (open_rules.limit_named g) l)) else broken l)
  acknowledged_test n g l true e on =
      let enough : nat_le 8192 g.receive ≡ true = and_first (nat_le 8192 g.receive) (nat_le 8192 g.send) e in
      let size : 8192 ≤ g.receive = grind (arith, nat_tests) in
      let now : LinkState = open_rules.with_limit (open_rules.limit_named g) l in
      does_then H K n (says (Limited (open_rules.limits_of g)) now) open_rules.opens_channel
      (record { short = λ k. (size, tt); after = record { limit = λ k. omega arith; holds = on.holds; header = on.header } })
      (opens_does _ now)
  acknowledged_test n g l false e on = broken_does H K n l on

  acknowledged_by : (n : ℕ) (g : Greeting) (l : LinkState) → Stands H K n l → Does H K n (open_rules.acknowledged_by g l)
  unfolding open_rules.acknowledged_by
  acknowledged_by n g l on = acknowledged_test n g l _ refl on

  greeting_does : (n : ℕ) (result : Result Greeting Fault) (l : LinkState) → Stands H K n l → Does H K n (open_rules.greeted_by result l)
  unfolding open_rules.greeted_by
  greeting_does n (Ok g) l on = acknowledged_by n g l on
  greeting_does n (Err fault) l on = broken_does H K n l on

  greeted_by : (n : ℕ) (p : Phase) (body : List ℕ) (l : LinkState) → Stands H K n l → Does H K n (open_rules.greeted_in p body l)
  greeted_by n phase.Hello body l on = greeting_does n _ l on
  greeted_by n phase.Idle body l on = broken_does H K n l on
  greeted_by n other body l on = broken_does H K n l on

  -- ---- what is heard

  hears_does : (n : ℕ) (h : Heard) (l : LinkState) → (K → FitsHeard h) → Stands H K n l → Does H K n (step_rules.hears h l)
  unfolding open_rules.greeted step_rules.opening_replied step_rules.replied
  hears_does n (said.Greeting body) l kept on = greeted_by n l.phase body l on
  hears_does n (said.Opening channel follows request body) l kept on =
      does_if H K n follows (step_rules.opening_by (body_at replies body) l) (broken l) (read_opening n (body_at replies body) l on)
      (broken_does H K n l on)
  hears_does n (said.Message request body) l kept on = read_reply n (body_at replies body) l kept on
  hears_does n said.Close l kept on = broken_does H K n l on
  hears_does n (said.Fault code) l kept on = broken_does H K n l on

  pub heard_does : (n : ℕ) (h : Heard) (l : LinkState) → (K → FitsHeard h) → Stands H K n l → Does H K n (step_rules.heard h l)
  unfolding step_rules.heard
  heard_does n h l kept on =
      does_if H K n (is_deaf (step_rules.ear_of l)) (nothing l) (step_rules.hears h l) (does_nothing H K n l on)
      (hears_does n h l kept on)

  -- ---- other events

  greets_test : (n : ℕ) (url : Option (List ℕ)) (l : LinkState) (b : Bool) → open_rules.is_short url ≡ b → Stands H K n l
      → Does H K n (if b then says (Greeted hello url) l else broken l)
  greets_test n url l true e on = record { short = λ k. (hello_short hello url e, tt); after = on }
  greets_test n url l false e on = broken_does H K n l on

  greets_does : (n : ℕ) (url : Option (List ℕ)) (l : LinkState) → Stands H K n l → Does H K n (open_rules.greets url l)
  unfolding open_rules.greets
  greets_does n url l on = greets_test n url l _ refl on

  connected_stands : (n : ℕ) (url : Option (List ℕ)) (l : LinkState) → Stands ⊥ K n l → Stands H K n (open_rules.connected url l)
  connected_stands n url l on = record {
    limit = λ k. omega arith;
    holds = λ h. refl;
    header = λ k. let h : FitsHeader l = on.header k in ((omega arith, omega arith), omega arith, h.2);
  }

  -- a connection that is opened anew stands, whatever stood before
  opened_by : (n : ℕ) (p : Phase) (url : Option (List ℕ)) (l : LinkState) → (H → open_rules.is_apart p ≡ true)
      → Stands ⊥ K n l → Does H K n (open_rules.opened_in p url l)
  opened_by n phase.Idle url l anew on =
      does_nothing H K n (record l { closes = true })
      (record { limit = on.limit; holds = λ h. or_true (stands_in l.phase); header = on.header })
  opened_by n (phase.Dialing taken) url l anew on =
      greets_does n url (open_rules.connected url l) (connected_stands n url l on)
  opened_by n other url l anew on =
      broken_does H K n l (record { limit = on.limit; holds = λ h. absurd (apart_not (anew h)); header = on.header })

  pub opened_does : (n : ℕ) (url : Option (List ℕ)) (l : LinkState) → (H → open_rules.begins_anew l ≡ true)
      → Stands ⊥ K n l → Does H K n (open_rules.opened url l)
  unfolding open_rules.opened
  opened_does n url l anew on = opened_by n l.phase url l anew on

  refused_in : (n : ℕ) (p : Phase) (l : LinkState) → (H → ⊥) → Stands H K n l → Does H K n (open_rules.refused_in p l)
  refused_in n (phase.Dialing taken) l none on = dropped_does H K n l none on
  refused_in n other l none on = does_nothing H K n l on

  pub refused_does : (n : ℕ) (l : LinkState) → (H → ⊥) → Stands H K n l → Does H K n (open_rules.refused l)
  unfolding open_rules.refused
  refused_does n l none on = refused_in n l.phase l none on

  closed_in : (n : ℕ) (p : Phase) (l : LinkState) → (H → ⊥) → Stands H K n l → Does H K n (open_rules.closed_in p l)
  closed_in n phase.Idle l none on = does_nothing H K n l on
  closed_in n (phase.Dialing taken) l none on = does_nothing H K n l on
  closed_in n other l none on = dropped_does H K n l none on

  pub closed_does : (n : ℕ) (l : LinkState) → (H → ⊥) → Stands H K n l → Does H K n (open_rules.closed l)
  unfolding open_rules.closed
  closed_does n l none on =
      does_if H K n l.closes (nothing (record l { closes = false })) (open_rules.closed_in l.phase l)
      (does_nothing H K n (record l { closes = false })
      (record { limit = on.limit; holds = λ h. absurd (none h); header = on.header })) (closed_in n l.phase l none on)

  level_read : (n : ℕ) (l : LinkState) → Stands H K n l → Does H K n (time_rules.reads_level l)
  unfolding time_rules.reads_level level_request
  level_read n l on =
      does_if H K n (time_rules.is_level_due l.conversation.reading l) (asked (level_request l) (time_rules.with_reading l)) (nothing l)
      (asked_does H K n (level_request l) (time_rules.with_reading l)
      (record { limit = on.limit; holds = on.holds; header = on.header }) refl (λ k. tt)) (does_nothing H K n l on)

  token_renewed : (n : ℕ) (l : LinkState) → Stands H K n l → Does H K n (time_rules.renews_token l)
  unfolding time_rules.renews_token channel_request
  token_renewed n l on =
      does_if H K n (is_ready l)
      (if time_rules.is_renewal_due l.conversation.renewal l then asked_opening (channel_request (pos 1) l) (time_rules.with_renewal l) else nothing l)
      (nothing l)
      (does_if H K n (time_rules.is_renewal_due l.conversation.renewal l)
      (asked_opening (channel_request (pos 1) l) (time_rules.with_renewal l)) (nothing l)
      (opening_does H K n (channel_request (pos 1) l) (time_rules.with_renewal l)
      (record { limit = on.limit; holds = on.holds; header = on.header }) tt) (does_nothing H K n l on)) (does_nothing H K n l on)

  keeps_up : (n : ℕ) (l : LinkState) → Stands H K n l → Does H K n (time_rules.keeps_up l)
  unfolding time_rules.keeps_up
  keeps_up n l on =
      does_if H K n (is_ready l) (and_then time_rules.renews_token (time_rules.reads_level l)) (nothing l)
      (does_then H K n (time_rules.reads_level l) time_rules.renews_token (level_read n l on)
      (token_renewed _ (time_rules.reads_level l).link)) (does_nothing H K n l on)

  pub ticked_does : (n ms : ℕ) (l : LinkState) → Stands H K n l → Does H K n (time_rules.ticked ms l)
  unfolding time_rules.ticked
  ticked_does n ms l on =
      let now : LinkState = time_rules.aged ms l in
      let stands : Stands H K n now = record { limit = on.limit; holds = on.holds; header = on.header } in
      does_if H K n (time_rules.is_overdue now) (broken now) (time_rules.keeps_up now) (broken_does H K n now stands)
      (keeps_up n now stands)

  wanted_by : (n : ℕ) (o : Option ReadyState) (mode : Mode) (l : LinkState) → Stands H K n l → Does H K n (step_rules.wants_in o mode l)
  wanted_by n None mode l on = does_nothing H K n l on
  wanted_by n (Some ready) mode l on =
      mode_does H K n (with_ready (record ready { wanted = Some mode }) l) (ready_stands H K n (record ready { wanted = Some mode }) l on)

  pub wants_does : (n : ℕ) (mode : Mode) (l : LinkState) → Stands H K n l → Does H K n (step_rules.wants mode l)
  unfolding step_rules.wants
  wants_does n mode l on = wanted_by n (ready_in l.phase) mode l on

  dials_test : (n : ℕ) (l : LinkState) (b : Bool) → open_rules.may_dial l ≡ b → Stands H K n l
      → Stands H K n (if b then with_phase (phase.Dialing false) l else l)
  dials_test n l true e on = record {
    limit = on.limit;
    holds = λ h. idle_closes l.phase l.closes
        (and_first (is_idle_phase l.phase) (l.wait == 0) (and_first (is_idle_phase l.phase && (l.wait == 0)) (not l.unsupported) e)) (on.holds h);
    header = on.header;
  }
  dials_test n l false e on = on

  pub dials_stands : (n : ℕ) (l : LinkState) → Stands H K n l → Stands H K n (open_rules.dials l)
  dials_stands n l on = dials_test n l _ refl on

  taken_stands : (n : ℕ) (b : Bool) (l : LinkState) → (H → ⊥) → Stands H K n l
      → Stands H K n (if b then record l { closes = false } else record l { phase = step_rules.taken_in l.phase })
  taken_stands n true l none on = record { limit = on.limit; holds = λ h. absurd (none h); header = on.header }
  taken_stands n false l none on = record { limit = on.limit; holds = λ h. absurd (none h); header = on.header }

  -- ---- all that may happen

  pub after_does : (n : ℕ) (h : step_rules.Happening) (l : LinkState) → (K → FitsHappening h) → (H → IsQuiet h) → Stands H K n l
      → Does H K n (step_rules.after h l)
  after_does n (step_rules.Opens url) l kept quiet on =
      opened_does n url l (λ h. absurd (quiet h)) (record { limit = on.limit; holds = λ h. absurd h; header = on.header })
  after_does n step_rules.Refuses l kept quiet on = refused_does n l quiet on
  after_does n step_rules.Closes l kept quiet on = closed_does n l quiet on
  after_does n (step_rules.Hears h) l kept quiet on = heard_does n h l kept on
  after_does n (step_rules.Ticks ms) l kept quiet on = ticked_does n ms l on
  after_does n (step_rules.Wants mode) l kept quiet on = wants_does n mode l on
  after_does n step_rules.Dials l kept quiet on = does_nothing H K n (open_rules.dials l) (dials_stands n l on)
  after_does n step_rules.Takes l kept quiet on = does_nothing H K n (step_rules.wish_taken l) (taken_stands n l.closes l quiet on)
