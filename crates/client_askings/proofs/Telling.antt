-- What is heard of a message that a client puts is the request that it asks for.
use Rattle.std.proofs.Common.{◌≡◌, ℕ, ◌<◌, ◌≤◌, ◌==◌, List, [], ◌∷◌, ◌++◌, length, map, not, nat_le, Bool, true, false, Result, Ok, Err, if◌then◌else◌, refl, sym, ap, subst, arith}
use Rattle.std.specs.List.{AllByRecursion}
use Rattle.std.proofs.lemmas.Bool.Decides.{nat_tests}
use Rattle.ua_chunks.specs.Assembly.{Tokens, used}
use Rattle.ua_channel.specs.declared.ear.Ear.{Ear}
use Rattle.ua_channel.specs.declared.heard.Heard.{Heard}
use Rattle.ua_channel.specs.declared.heard.Heard.TheVariants as heard
use Rattle.ua_channel.specs.Hearing.{takes}
use Rattle.ua_channel.specs.Messages.{Judged, hearing_of, judged_by, judges, message_of_channel, takes_token_of}
use Rattle.ua_channel.specs.Orders.{put_by, puts_of}
use Rattle.ua_channel.specs.State.{WireState}
use Rattle.ua_structures.specs.declared.body.BodyFault.{BodyFault}
use Rattle.ua_structures.specs.declared.front.BodyType.{BodyType}
use Rattle.ua_structures.specs.declared.header.RequestHeader.{RequestHeader}
use Rattle.ua_structures.specs.Body.{AreLawful, body_at, body_type_at, service}
use Rattle.ua_structures.specs.Header.{header_at}
use Rattle.ua_sub_msgs.specs.declared.publish.PublishRequest.{PublishRequest}
use Rattle.ua_sub_msgs.specs.declared.request.SubRequest.TheVariants as sub_request
use Rattle.ua_services.specs.declared.request.Request.{Request}
use Rattle.ua_services.specs.declared.request.Request.TheVariants as request
use Rattle.ua_services.specs.declared.request.RequestFault.TheVariants as faults
use Rattle.ua_services.specs.Families.{request_put, requests, written_request}
use Rattle.ua_services.specs.Requests.{asked_behind, asked_by, asked_of, names_service, request_at}
use Rattle.link_rules.specs.Said.{Said, Told, Greeted, Opens, Asks, Limited, Renewed, orders_of, told_order, wire}
use Rattle.link_keeps.specs.Fitting.{IsShort, KeepsSaid, KeepsTold}
use Rattle.link_laws.specs.Lockstep.{is_put, puts}
use Rattle.link_takings.specs.Exchange.{messages_of}
use Rattle.set_talks.specs.Heard.{AreHeardOf, IsHeardOf}
use Rattle.client_askings.specs.Reading.{AreReadAs, ReadsAs}

-- ---- what a body asks for is what it is read as

read_by : (handle : ℕ) (x : Result Request BodyFault) (r : Request) → asked_by handle x ≡ Ok r → x ≡ Ok r
read_by handle (Ok one) r e = cc
read_by handle (Err fault) r e = absurd cc

read_if : (handle : ℕ) (b : Bool) (x : Result Request BodyFault) (r : Request)
    → (if b then asked_by handle x else Err (faults.Service handle)) ≡ Ok r → x ≡ Ok r
read_if handle true x r e = read_by handle x r e
read_if handle false x r e = absurd cc

read_of : (handle : ℕ) (bytes : List ℕ) (t : Result BodyType BodyFault) (r : Request) → asked_of handle bytes t ≡ Ok r
    → body_at requests bytes ≡ Ok r
read_of handle bytes (Ok t) r e = read_if handle (names_service (service requests t.id)) (body_at requests bytes) r e
read_of handle bytes (Err fault) r e = absurd cc

read_behind : (bytes : List ℕ) (x : Result RequestHeader BodyFault) (r : Request) → asked_behind bytes x ≡ Ok r
    → body_at requests bytes ≡ Ok r
read_behind bytes (Ok header) r e = read_of header.request_handle bytes (body_type_at bytes) r e
read_behind bytes (Err fault) r e = absurd cc

is_read : (bytes : List ℕ) (r : Request) → request_at bytes ≡ Ok r → body_at requests bytes ≡ Ok r
is_read bytes r e = read_behind bytes (header_at bytes) r e

-- ---- a request

-- a Publish with too many acknowledgements is read as no request
abbrev pub LongUnread : Type 0
LongUnread = (p : PublishRequest) (r : Request) → 65536 < length p.subscription_acknowledgements
    → body_at requests (written_request (request.Subscription (sub_request.Publish p))) ≡ Ok r → ⊥

ok_same : (a b : Request) (x : Result Request BodyFault) → x ≡ Ok a → x ≡ Ok b → a ≡ b
ok_same a b x first second = cc

module _ (lawful : AreLawful requests request_put) (unread : LongUnread) where
  kept_same : (one r : Request) → (request_put one).keeps → body_at requests (written_request one) ≡ Ok r → one ≡ r
  kept_same one r kept e = ok_same one r (body_at requests (written_request one)) (lawful.again one kept) e

  publish_same : (p : PublishRequest) (r : Request) (b : Bool) → nat_le (length p.subscription_acknowledgements) 65536 ≡ b
      → (length p.subscription_acknowledgements ≤ 65536 → (request_put (request.Subscription (sub_request.Publish p))).keeps)
      → body_at requests (written_request (request.Subscription (sub_request.Publish p))) ≡ Ok r
      → request.Subscription (sub_request.Publish p) ≡ r
  publish_same p r true test kept e = kept_same (request.Subscription (sub_request.Publish p)) r (kept (grind (arith, nat_tests))) e
  publish_same p r false test kept e = absurd (unread p r (grind (arith, nat_tests)) e)

  request_same : (one r : Request) → (IsShort one → (request_put one).keeps) → body_at requests (written_request one) ≡ Ok r → one ≡ r
  request_same (request.Subscription (sub_request.Publish p)) r kept e = publish_same p r _ refl kept e
  request_same (request.Session one) r kept e = kept_same (request.Session one) r (kept tt) e
  request_same one r kept e = kept_same one r (kept tt) e

  asked_reads : (number other : ℕ) (one : Request) → (IsShort one → (request_put one).keeps)
      → ReadsAs (Asks number one) (heard.Message other (written_request one))
  asked_reads number other one kept =
      λ r e. (number, ap (λ (x : Request). Asks number x) (request_same one r kept (is_read (written_request one) r e)))

  -- ---- what is heard of a message

  judged_if : (told : Told) (b : Bool) (one other : Judged) → ReadsAs told one.heard → ReadsAs told other.heard
      → ReadsAs told (if b then one else other).heard
  judged_if told true one other first second = first
  judged_if told false one other first second = second

  comes_as : (told : Told) (e : Ear) (w : WireState) (t : Tokens) → ReadsAs told (judged_by w.kind w t).heard → ReadsAs told (hearing_of e w t).heard
  unfolding hearing_of
  comes_as told e w t each =
      judged_if told (takes e w.kind) (judged_by w.kind w t) (judges (heard.Fault _) t) each tt

  channel_as : (told : Told) (h : Heard) (w : WireState) (t : Tokens) → ReadsAs told h → ReadsAs told (message_of_channel h w t).heard
  channel_as told h w t reads =
      judged_if told (not (w.channel == t.channel)) (judges (heard.Fault _) t)
      (if not (takes_token_of w.token t) then judges (heard.Fault _) t else judges h (used w.token t)) tt
      (judged_if told (not (takes_token_of w.token t)) (judges (heard.Fault _) t) (judges h (used w.token t))
      tt reads)

  -- ---- one after another

  heard_as : (told : Told) (h : Heard) (w : WireState) → ((e : Ear) (t : Tokens) → ReadsAs told (hearing_of e w t).heard) → IsHeardOf h w → ReadsAs told h
  heard_as told h w each is = subst (ReadsAs told) (sym is.2) (each is.0 is.1)

  told_read : (h : Heard) (more : List Heard) (channel token : ℕ) (told : Told) (said : List Said) → KeepsTold told
      → ((hs : List Heard) → AreHeardOf hs (puts_of (orders_of said)) → AreReadAs hs (messages_of said))
      → AreHeardOf (h ∷ more) (put_by (told_order channel token told) ++ puts_of (orders_of said))
      → AreReadAs (h ∷ more) (map (λ (one : Said). one.told) (if is_put told then record { channel = channel; token = token; told = told } ∷ puts said else puts said))
  told_read h more channel token (Greeted greeting url) said kept rest is =
      (heard_as (Greeted greeting url) h _ (λ e t. comes_as (Greeted greeting url) e _ t tt) is.0, rest more is.1)
  told_read h more channel token (Opens number r) said kept rest is =
      (heard_as (Opens number r) h _ (λ e t. comes_as (Opens number r) e _ t tt) is.0, rest more is.1)
  told_read h more channel token (Asks number r) said kept rest is = (
    heard_as (Asks number r) h (wire channel token number (written_request r))
        (λ e t. comes_as (Asks number r) e (wire channel token number (written_request r)) t
        (channel_as (Asks number r) (heard.Message number (written_request r)) (wire channel token number (written_request r)) t (asked_reads number number r kept.1)))
        is.0,
    rest more is.1,
  )
  told_read h more channel token (Limited limits) said kept rest is = rest (h ∷ more) is
  told_read h more channel token (Renewed new other) said kept rest is = rest (h ∷ more) is

  pub are_read : (said : List Said) (hs : List Heard) → AllByRecursion KeepsSaid said → AreHeardOf hs (puts_of (orders_of said)) → AreReadAs hs (messages_of said)
  are_read said [] kept is = tt
  are_read [] (h ∷ more) kept is = absurd is
  are_read (one ∷ said) (h ∷ more) kept is =
      told_read h more one.channel one.token one.told said kept.0.told (λ others are. are_read said others kept.1 are) is
