-- What a link says is no longer than it knows to be taken, and each of its rules leaves a connection that stands.
use Rattle.std.proofs.Common.{◌≡◌, ℕ, ℤ, suc, ◌+◌, ◌-◌, ◌*◌, ◌≤◌, ◌<◌, ◌^◌, ◌||◌, ◌&&◌, ◌==◌, ◌+ℤ◌, pos, negsuc, ltb, List, [], ◌∷◌, ◌++◌, length, min, Bool, true, false, nat_le, Option, Some, None, if◌then◌else◌, cond, refl, ap, subst, arith, FitsSigned}
use Rattle.std.specs.Int.{int_min, w64}
use Rattle.std.proofs.lemmas.Bool.Decides.{nat_tests}
use Rattle.ua_base.specs.declared.modes.Mode.{Mode}
use Rattle.ua_base.specs.Status.{bad_no_subscription, bad_too_many_publish_requests}
use Rattle.ua_values.specs.Laws.{KeepsNode}
use Rattle.ua_chunks.specs.Bodies.{written_hello}
use Rattle.ua_chunks.specs.Sending.{limit_of, new_sending}
use Rattle.ua_structures.specs.declared.header.ResponseHeader.{ResponseHeader}
use Rattle.ua_structures.specs.Structures.{a_request_header}
use Rattle.ua_structures.proofs.Headers.{request_header_keeps}
use Rattle.ua_session_msgs.specs.declared.attribute.ReadResponse.{ReadResponse}
use Rattle.ua_session_msgs.specs.declared.request.SessionRequest.TheVariants as session_request
use Rattle.ua_session_msgs.specs.declared.reply.SessionReply.TheVariants as session_reply
use Rattle.ua_sub_msgs.specs.declared.notification.MonitoredItemNotification.{MonitoredItemNotification}
use Rattle.ua_sub_msgs.specs.declared.publish.PublishResponse.{PublishResponse}
use Rattle.ua_sub_msgs.specs.declared.request.SubRequest.TheVariants as sub_request
use Rattle.ua_sub_msgs.specs.declared.reply.SubReply.TheVariants as sub_reply
use Rattle.ua_services.specs.declared.reply.Reply.{Reply}
use Rattle.ua_services.specs.declared.reply.Reply.TheVariants as reply
use Rattle.ua_services.specs.declared.request.Request.{Request}
use Rattle.ua_services.specs.declared.request.Request.TheVariants as request
use Rattle.ua_services.specs.Families.{request_put, written_request}
use Rattle.ua_services.specs.Requests.{is_service}
use Rattle.link_rules.specs.declared.content.Content.{Content}
use Rattle.link_rules.specs.declared.content.Content.TheVariants as content
use Rattle.link_rules.specs.declared.notice.Notice.{Notice}
use Rattle.link_rules.specs.declared.notice.Notice.TheVariants as notice
use Rattle.link_rules.specs.declared.phase.Phase.{Phase}
use Rattle.link_rules.specs.declared.phase.Phase.TheVariants as phase
use Rattle.link_rules.specs.declared.phase.Publishes.{Publishes}
use Rattle.link_rules.specs.declared.phase.ReadyState.{ReadyState}
use Rattle.link_rules.specs.declared.phase.Setting.{Setting}
use Rattle.link_rules.specs.declared.remembered.Remembered.{Remembered}
use Rattle.link_rules.specs.State.{LinkState, forgotten, is_ready, link_time, ready_in, with_phase, with_ready}
use Rattle.link_rules.specs.Said.{LinkDid, Said, Told, Greeted, Opens, Asks, Limited, Renewed, and_then, nothing, tells}
use Rattle.link_rules.specs.Closing.{broken, dropped, left_in, stands_in}
use Rattle.link_rules.specs.Asking.{asked, asked_opening, counted, header, is_good, is_reply_to, next_request, numbered}
use Rattle.link_rules.specs.Requests.{mode_request, publish_request, subscription_request}
use Rattle.link_rules.specs.Messages.{acknowledged, all_taken, awaits, content_of, data_taken, kept_alive, newest}
use Rattle.link_rules.specs.Numbers.{is_jump, is_next}
use Rattle.link_rules.specs.Publishing.{enters_ready, fills, has_room, mode_due, new_ready, published, publishes, publishes_in, sets, sets_if, sets_in, sets_mode, subscribes, tells_sent, with_publish, with_setting}
use Rattle.link_rules.specs.Ready as ready_rules
use Rattle.link_keeps.specs.Fitting.{IsUInt32}
use Rattle.link_keeps.proofs.Requests.{after_fits}
use Rattle.client_orders.specs.Holding.{HoldsConnection}

-- ---- what is said

-- the request of an OPN
abbrev pub IsOpening : Request → Type 0
IsOpening (request.Session (session_request.OpenSecureChannel r)) = Unit {0}
IsOpening other = ⊥

-- the header of a Publish keeps the limits, however many acknowledgements stand behind it
abbrev pub IsHeaded : Request → Type 0
IsHeaded (request.Subscription (sub_request.Publish r)) = a_request_header.keeps r.request_header
IsHeaded other = Unit {0}

-- what the header of a request is made of
abbrev pub FitsHeader : LinkState → Type 0
FitsHeader l = KeepsNode l.session × IsUInt32 l.conversation.last × FitsSigned w64 l.config.start

capped_fits : (n : ℕ) (b : Bool) → ltb (2 ^ 63 - 1) n ≡ b → FitsSigned w64 (cond b (pos (2 ^ 63 - 1)) (pos n))
capped_fits n true e = record { sfits = omega arith }
capped_fits n false e = record { sfits = grind (arith, nat_tests) }

before_fits : (k n : ℕ) (b : Bool) → ltb n (suc k) ≡ b → k < 2 ^ 63
    → FitsSigned w64 (int_min (cond b (negsuc (suc k - suc n)) (pos (n - suc k))) (pos (2 ^ 63 - 1)))
before_fits k n true e less = record { sfits = omega arith }
before_fits k n false e less = capped_fits (n - suc k) _ refl

time_by : (start : ℤ) (n : ℕ) → FitsSigned w64 start → FitsSigned w64 (int_min (start +ℤ pos n) (pos (2 ^ 63 - 1)))
time_by (pos k) n fits = capped_fits (k + n) _ refl
time_by (negsuc k) n fits = before_fits k n _ refl fits.sfits

header_keeps : (l : LinkState) → FitsHeader l → a_request_header.keeps (header l)
header_keeps l fits =
    request_header_keeps l.session (link_time l) (next_request l) fits.0 (time_by l.config.start (l.age * 10000) fits.2)
    (after_fits l.conversation.last fits.1)

-- ---- tests

or_swap : (a b : Bool) → (a || b) ≡ true → (b || a) ≡ true
or_swap true true e = refl
or_swap true false e = refl
or_swap false true e = refl
or_swap false false e = e

pub and_first : (a b : Bool) → (a && b) ≡ true → a ≡ true
and_first true b e = refl
and_first false b e = e

pub and_second : (a b : Bool) → (a && b) ≡ true → b ≡ true
and_second true b e = e
and_second false b e = absurd cc

abbrev pub limit_told : ℕ → Told → ℕ
limit_told n (Limited limits) = limit_of (new_sending 0 0 limits.size limits.max_message limits.max_chunks)
limit_told n other = n

abbrev pub limit_after : ℕ → List Said → ℕ
limit_after n [] = n
limit_after n (one ∷ said) = limit_after (limit_told n one.told) said

limit_append : (n : ℕ) (first more : List Said) → limit_after (limit_after n first) more ≡ limit_after n (first ++ more)
limit_append n [] more = refl
limit_append n (one ∷ first) more = limit_append (limit_told n one.told) first more

abbrev pub ShortTold : ℕ → Told → Type 0
ShortTold n (Greeted greeting url) = length (written_hello (greeting, url)) ≤ 65528
ShortTold n (Opens number r) = (length (written_request r) ≤ n) × (length (written_request r) ≤ 4096) × IsOpening r
ShortTold n (Asks number r) = (length (written_request r) ≤ n) × (is_service (request_put r).kind ≡ true) × IsHeaded r
ShortTold n (Limited limits) = 8192 ≤ limits.size
ShortTold n (Renewed channel token) = Unit {0}

abbrev pub AreShort : ℕ → List Said → Type 0
AreShort n [] = Unit {0}
AreShort n (one ∷ said) = ShortTold n one.told × AreShort (limit_told n one.told) said

short_append : (n : ℕ) (first more : List Said) → AreShort n first → AreShort (limit_after n first) more
    → AreShort n (first ++ more)
short_append n [] more a b = b
short_append n (one ∷ first) more a b = (a.0, short_append (limit_told n one.told) first more a.1 b)

module _ (H K : Type 0) where
  -- ---- a link, and what a rule of it does

  pub record Stands (n : ℕ) (l : LinkState) : Type 0 where
    pub limit : K → l.conversation.limit ≤ n
    pub holds : H → HoldsConnection l
    pub header : K → FitsHeader l

  pub record Does (n : ℕ) (did : LinkDid) : Type 0 where
    pub short : K → AreShort n did.said
    pub after : Stands (limit_after n did.said) did.link

  pub does_nothing : (n : ℕ) (l : LinkState) → Stands n l → Does n (nothing l)
  does_nothing n l on = record { short = λ k. tt; after = on }

  pub does_tells : (n : ℕ) (notices : List Notice) (l : LinkState) → Stands n l → Does n (tells notices l)
  does_tells n notices l on = record { short = λ k. tt; after = on }

  pub does_then : (n : ℕ) (did : LinkDid) (rule : LinkState → LinkDid) → Does n did
      → (Stands (limit_after n did.said) did.link → Does (limit_after n did.said) (rule did.link)) → Does n (and_then rule did)
  does_then n did rule first second =
      let more : Does (limit_after n did.said) (rule did.link) = second first.after in record {
        short = λ k. short_append n did.said (rule did.link).said (first.short k) (more.short k);
        after = subst (λ m. Stands m (rule did.link).link) (limit_append n did.said (rule did.link).said) more.after;
      }

  pub does_if : (n : ℕ) (b : Bool) (one other : LinkDid) → Does n one → Does n other → Does n (if b then one else other)
  does_if n true one other first second = first
  does_if n false one other first second = second

  -- ---- what changes of a link

  pub phase_stands : (n : ℕ) (p : Phase) (l : LinkState) → stands_in p ≡ true → Stands n l → Stands n (with_phase p l)
  phase_stands n p l e on =
      record { limit = on.limit; holds = λ h. ap (λ (b : Bool). b || l.closes) e; header = on.header }

  pub ready_stands : (n : ℕ) (ready : ReadyState) (l : LinkState) → Stands n l → Stands n (with_ready ready l)
  ready_stands n ready l on = record { limit = on.limit; holds = λ h. refl; header = on.header }

  -- ---- a link that falls

  broken_by : (n : ℕ) (p : Phase) (l : LinkState) (closes : Bool) → (H → closes ≡ true) → Stands n l
      → Stands n (record (left_in p l) { phase = phase.Idle; since = l.age; wait = 1000; closes = closes })
  broken_by n phase.Adding l closes e on = record { limit = on.limit; holds = e; header = on.header }
  broken_by n other l closes e on = record { limit = on.limit; holds = e; header = on.header }

  pub broken_does : (n : ℕ) (l : LinkState) → Stands n l → Does n (broken l)
  unfolding broken
  broken_does n l on = record {
    short = λ k. tt;
    after = broken_by n l.phase l (l.closes || stands_in l.phase) (λ h. or_swap (stands_in l.phase) l.closes (on.holds h)) on;
  }

  dropped_by : (n : ℕ) (p : Phase) (l : LinkState) → (H → ⊥) → Stands n l
      → Stands n (record (left_in p l) { phase = phase.Idle; since = l.age; wait = 1000 })
  dropped_by n phase.Adding l none on = record { limit = on.limit; holds = λ h. absurd (none h); header = on.header }
  dropped_by n other l none on = record { limit = on.limit; holds = λ h. absurd (none h); header = on.header }

  pub dropped_does : (n : ℕ) (l : LinkState) → (H → ⊥) → Stands n l → Does n (dropped l)
  unfolding dropped
  dropped_does n l none on = record { short = λ k. tt; after = dropped_by n l.phase l none on }

  -- ---- what it asks

  counted_stands : (n : ℕ) (l : LinkState) → Stands n l → Stands n (counted l)
  counted_stands n l on = record {
    limit = on.limit;
    holds = on.holds;
    header = λ k. let h : FitsHeader l = on.header k in (h.0, after_fits l.conversation.last h.1, h.2);
  }

  asked_test : (n : ℕ) (r : Request) (l : LinkState) (b : Bool) → nat_le (length (written_request r)) l.conversation.limit ≡ b
      → Stands n l → is_service (request_put r).kind ≡ true → (K → IsHeaded r)
      → Does n (if b then numbered (Asks (next_request l) r) l else broken l)
  asked_test n r l true e on service headed =
      let less : length (written_request r) ≤ l.conversation.limit = grind (arith, nat_tests) in record {
        short = λ k. let known : l.conversation.limit ≤ n = on.limit k in ((omega arith, service, headed k), tt);
        after = counted_stands n l on;
      }
  asked_test n r l false e on service headed = broken_does n l on

  pub asked_does : (n : ℕ) (r : Request) (l : LinkState) → Stands n l → is_service (request_put r).kind ≡ true → (K → IsHeaded r)
      → Does n (asked r l)
  unfolding asked
  asked_does n r l on service headed = asked_test n r l _ refl on service headed

  opening_test : (n : ℕ) (r : Request) (l : LinkState) (b : Bool)
      → nat_le (length (written_request r)) (min l.conversation.limit 4096) ≡ b → Stands n l → IsOpening r
      → Does n (if b then numbered (Opens (next_request l) r) l else broken l)
  opening_test n r l true e on opening =
      let less : length (written_request r) ≤ min l.conversation.limit 4096 = grind (arith, nat_tests) in record {
        short = λ k. let known : l.conversation.limit ≤ n = on.limit k in ((omega arith, omega arith, opening), tt);
        after = counted_stands n l on;
      }
  opening_test n r l false e on opening = broken_does n l on

  pub opening_does : (n : ℕ) (r : Request) (l : LinkState) → Stands n l → IsOpening r → Does n (asked_opening r l)
  unfolding asked_opening
  opening_does n r l on opening = opening_test n r l _ refl on opening

  -- ---- what it does as soon as it can

  published_does : (n : ℕ) (ready : ReadyState) (remembered : Remembered) (l : LinkState) → Stands n l
      → Does n (published ready remembered l)
  unfolding published publish_request
  published_does n ready remembered l on =
      asked_does n (publish_request remembered.id l) (with_publish ready l)
      (record { limit = on.limit; holds = λ h. refl; header = on.header }) refl (λ k. header_keeps l (on.header k))

  publishes_by : (n : ℕ) (o : Option ReadyState) (r : Option Remembered) (l : LinkState) → Stands n l → Does n (publishes_in o r l)
  publishes_by n None r l on = does_nothing n l on
  publishes_by n (Some ready) None l on = does_nothing n l on
  publishes_by n (Some ready) (Some remembered) l on =
      does_if n (has_room ready.publishes) (published ready remembered l) (nothing l) (published_does n ready remembered l on)
      (does_nothing n l on)

  publishes_does : (n : ℕ) (l : LinkState) → Stands n l → Does n (publishes l)
  unfolding publishes
  publishes_does n l on = publishes_by n (ready_in l.phase) l.remembered l on

  fills_does : (n : ℕ) (l : LinkState) → Stands n l → Does n (fills l)
  unfolding fills
  fills_does n l on = does_then n (publishes l) publishes (publishes_does n l on) (publishes_does _ (publishes l).link)

  sent_does : (n : ℕ) (mode : Mode) (l : LinkState) → Stands n l → Does n (tells_sent mode l)
  unfolding tells_sent
  sent_does n mode l on =
      does_if n (is_ready l) (tells (notice.Sent mode ∷ []) l) (nothing l) (does_tells n (notice.Sent mode ∷ []) l on) (does_nothing n l on)

  sets_does : (n : ℕ) (mode : Mode) (ready : ReadyState) (remembered : Remembered) (l : LinkState) → Stands n l
      → Does n (sets mode ready remembered l)
  unfolding sets mode_request
  sets_does n mode ready remembered l on =
      does_then n (asked (mode_request remembered.id mode l) (with_setting mode ready l)) (tells_sent mode)
      (asked_does n (mode_request remembered.id mode l) (with_setting mode ready l) (ready_stands n _ l on) refl (λ k. tt))
      (sent_does _ mode _)

  sets_by : (n : ℕ) (o : Option Mode) (ready : ReadyState) (r : Option Remembered) (l : LinkState) → Stands n l
      → Does n (sets_if o ready r l)
  sets_by n None ready r l on = does_nothing n l on
  sets_by n (Some mode) ready None l on = does_nothing n l on
  sets_by n (Some mode) ready (Some remembered) l on = sets_does n mode ready remembered l on

  sets_within : (n : ℕ) (o : Option ReadyState) (l : LinkState) → Stands n l → Does n (sets_in o l)
  sets_within n None l on = does_nothing n l on
  sets_within n (Some ready) l on = sets_by n (mode_due ready) ready l.remembered l on

  pub mode_does : (n : ℕ) (l : LinkState) → Stands n l → Does n (sets_mode l)
  unfolding sets_mode
  mode_does n l on = sets_within n (ready_in l.phase) l on

  pub enters_does : (n : ℕ) (confirmed : Option Mode) (l : LinkState) → Stands n l → Does n (enters_ready confirmed l)
  unfolding enters_ready
  enters_does n confirmed l on =
      let now : LinkState = with_phase (phase.Ready (new_ready confirmed)) l in
      let stands : Stands n now = phase_stands n (phase.Ready (new_ready confirmed)) l refl on in
      does_then n (tells (notice.Ready ∷ []) now) fills (does_tells n (notice.Ready ∷ []) now stands) (fills_does n now)

  pub subscribes_does : (n : ℕ) (l : LinkState) → Stands n l → Does n (subscribes l)
  unfolding subscribes subscription_request
  subscribes_does n l on =
      asked_does n (subscription_request l) (with_phase phase.Subscribing (forgotten l))
      (record { limit = on.limit; holds = λ h. refl; header = on.header }) refl (λ k. tt)

  -- ---- messages

  awaits_stands : (n next : ℕ) (remembered : Remembered) (l : LinkState) → Stands n l → Stands n (awaits next remembered l)
  awaits_stands n next remembered l on = record { limit = on.limit; holds = on.holds; header = on.header }

  acknowledged_stands : (n number : ℕ) (l : LinkState) → Stands n l → Stands n (acknowledged number l)
  acknowledged_stands n number l on = record { limit = on.limit; holds = on.holds; header = on.header }

  newest_stands : (n number : ℕ) (remembered : Remembered) (l : LinkState) → Stands n l → Stands n (newest number remembered l)
  newest_stands n number remembered l on = record { limit = on.limit; holds = on.holds; header = on.header }

  pub alive_does : (n number : ℕ) (remembered : Remembered) (l : LinkState) → Stands n l → Does n (kept_alive number remembered l)
  unfolding kept_alive
  alive_does n number remembered l on =
      does_if n (is_jump remembered.next number) (tells (notice.Jump ∷ []) (awaits number remembered l)) (nothing l)
      (does_tells n (notice.Jump ∷ []) (awaits number remembered l) (awaits_stands n number remembered l on)) (does_nothing n l on)

  pub data_does : (n number : ℕ) (values : List MonitoredItemNotification) (remembered : Remembered) (l : LinkState)
      → Stands n l → Does n (data_taken number values remembered l)
  unfolding data_taken
  data_does n number values remembered l on =
      let new : Stands n (newest number remembered l) = newest_stands n number remembered l on in
      does_if n (is_next remembered.next number) (tells (all_taken l.monitored values) (newest number remembered l))
      (if is_jump remembered.next number then tells (notice.Jump ∷ all_taken l.monitored values) (newest number remembered l)
      else nothing (acknowledged number l))
      (does_tells n (all_taken l.monitored values) (newest number remembered l) new)
      (does_if n (is_jump remembered.next number)
      (tells (notice.Jump ∷ all_taken l.monitored values) (newest number remembered l)) (nothing (acknowledged number l))
      (does_tells n (notice.Jump ∷ all_taken l.monitored values) (newest number remembered l) new)
      (does_nothing n (acknowledged number l) (acknowledged_stands n number l on)))

  -- ---- in Ready

  restarts_does : (n : ℕ) (l : LinkState) → Stands n l → Does n (ready_rules.restarts l)
  unfolding ready_rules.restarts
  restarts_does n l on =
      does_then n (tells (notice.Lost ∷ []) l) subscribes (does_tells n (notice.Lost ∷ []) l on) (subscribes_does n l)

  brings_does : (n : ℕ) (c : Content) (number : ℕ) (remembered : Remembered) (l : LinkState) → Stands n l
      → Does n (ready_rules.brings c number remembered l)
  unfolding ready_rules.brings
  brings_does n content.Alive number remembered l on =
      does_then n (kept_alive number remembered l) fills (alive_does n number remembered l on) (fills_does _ _)
  brings_does n content.Ended number remembered l on = restarts_does n l on
  brings_does n (content.Values values) number remembered l on =
      does_then n (data_taken number values remembered l) fills (data_does n number values remembered l on) (fills_does _ _)
  brings_does n content.Unread number remembered l on = broken_does n l on

  publish_by : (n : ℕ) (left : Option Publishes) (r : Option Remembered) (p : PublishResponse) (ready : ReadyState) (l : LinkState)
      → Stands n l → Does n (ready_rules.publish_replied_by left r p ready l)
  unfolding ready_rules.publish_replied_by
  publish_by n None r p ready l on = broken_does n l on
  publish_by n (Some left) None p ready l on = broken_does n l on
  publish_by n (Some left) (Some remembered) p ready l on =
      does_if n (is_good p.response_header.service_result && (p.subscription_id == remembered.id))
      (ready_rules.message_brings p.notification_message remembered (ready_rules.heard_of_it left ready l)) (broken l)
      (brings_does n (content_of p.notification_message.notification_data) p.notification_message.sequence_number remembered
      (ready_rules.heard_of_it left ready l) (record { limit = on.limit; holds = λ h. refl; header = on.header })) (broken_does n l on)

  refused_by : (n : ℕ) (left : Option Publishes) (code : ℕ) (ready : ReadyState) (l : LinkState) → Stands n l
      → Does n (ready_rules.publish_refused_by left code ready l)
  refused_by n None code ready l on = broken_does n l on
  refused_by n (Some left) code ready l on =
      does_if n (code == bad_too_many_publish_requests) (nothing (with_ready (record ready { publishes = left }) l))
      (if code == bad_no_subscription then ready_rules.restarts l else broken l)
      (does_nothing n (with_ready (record ready { publishes = left }) l) (ready_stands n (record ready { publishes = left }) l on))
      (does_if n (code == bad_no_subscription) (ready_rules.restarts l) (broken l) (restarts_does n l on) (broken_does n l on))

  low_does : (n level : ℕ) (l : LinkState) → Stands n l → Does n (ready_rules.leaves_low level l)
  unfolding ready_rules.leaves_low
  low_does n level l on = does_if n (ready_rules.is_left level l) (broken l) (nothing l) (broken_does n l on) (does_nothing n l on)

  level_does : (n : ℕ) (level : Option ℕ) (l : LinkState) → Stands n l → Does n (ready_rules.level_told level l)
  unfolding ready_rules.level_told
  level_does n None l on = broken_does n l on
  level_does n (Some level) l on =
      let now : LinkState = ready_rules.no_reading l in
      let stands : Stands n now = record { limit = on.limit; holds = on.holds; header = on.header } in
      does_then n (tells (notice.Level level ∷ []) now) (ready_rules.leaves_low level)
      (does_tells n (notice.Level level ∷ []) now stands) (low_does n level now)

  level_replied_does : (n : ℕ) (r : ReadResponse) (l : LinkState) → Stands n l → Does n (ready_rules.level_replied r l)
  unfolding ready_rules.level_replied
  level_replied_does n r l on =
      does_if n (ready_rules.is_answer_to l.conversation.reading r.response_header)
      (ready_rules.level_told (ready_rules.one_level r.results) l) (broken l) (level_does n (ready_rules.one_level r.results) l on) (broken_does n l on)

  confirms_does : (n : ℕ) (setting : Setting) (ready : ReadyState) (l : LinkState) → Stands n l
      → Does n (ready_rules.confirms setting ready l)
  unfolding ready_rules.confirms
  confirms_does n setting ready l on =
      let now : LinkState = with_ready (record ready { setting = None; confirmed = Some setting.mode }) l in
      does_then n (tells (notice.Confirmed setting.mode ∷ []) now) sets_mode
      (does_tells n (notice.Confirmed setting.mode ∷ []) now (ready_stands n (record ready { setting = None; confirmed = Some setting.mode }) l on))
      (mode_does n now)

  mode_by : (n : ℕ) (setting : Option Setting) (h : ResponseHeader) (ready : ReadyState) (l : LinkState) → Stands n l
      → Does n (ready_rules.mode_replied_by setting h ready l)
  mode_by n None h ready l on = broken_does n l on
  mode_by n (Some setting) h ready l on =
      does_if n (is_reply_to setting.asked.handle h) (ready_rules.confirms setting ready l) (broken l)
      (confirms_does n setting ready l on) (broken_does n l on)

  pub ready_rule_does : (n : ℕ) (r : Reply) (ready : ReadyState) (l : LinkState) → Stands n l → Does n (ready_rules.in_ready r ready l)
  unfolding ready_rules.in_ready ready_rules.publish_refused ready_rules.publish_replied ready_rules.mode_replied
  ready_rule_does n (reply.Session (session_reply.ServiceFault h)) ready l on = refused_by n _ h.service_result ready l on
  ready_rule_does n (reply.Session (session_reply.Read r)) ready l on = level_replied_does n r l on
  ready_rule_does n (reply.Subscription (sub_reply.Publish r)) ready l on = publish_by n _ l.remembered r ready l on
  ready_rule_does n (reply.Subscription (sub_reply.SetMonitoringMode r)) ready l on = mode_by n ready.setting r.response_header ready l on
  ready_rule_does n other ready l on = broken_does n l on
