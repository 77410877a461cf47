-- What a client puts fits where a server hears it.
use Rattle.std.proofs.Common.{◌≡◌, ℕ, ◌<◌, ◌≤◌, ◌==◌, List, [], ◌∷◌, length, not, nat_le, Bool, true, false, if◌then◌else◌, refl, sym, subst, arith}
use Rattle.std.specs.Prelude.{IfOk}
use Rattle.std.specs.List.{AllByRecursion}
use Rattle.std.proofs.lemmas.Bool.Decides.{nat_tests}
use Rattle.ua_base.specs.Status.{bad_secure_channel_token_unknown, bad_tcp_message_type_invalid, bad_tcp_secure_channel_unknown}
use Rattle.ua_chunks.specs.Assembly.{Tokens, used}
use Rattle.ua_channel.specs.declared.heard.Heard.{Heard}
use Rattle.ua_channel.specs.declared.heard.Heard.TheVariants as heard
use Rattle.ua_channel.specs.declared.wire.Order.{Order}
use Rattle.ua_channel.specs.Hearing.{takes}
use Rattle.ua_channel.specs.Messages.{Judged, hearing_of, judged_by, judges, message_of_channel, takes_token_of}
use Rattle.ua_channel.specs.State.{WireState}
use Rattle.ua_structures.specs.Structures.{a_request_header}
use Rattle.ua_structures.proofs.BodyLaws.{bodies_lawful}
use Rattle.ua_session_msgs.specs.declared.request.SessionRequest.TheVariants as session_request
use Rattle.ua_session_msgs.specs.Families as session
use Rattle.ua_session_msgs.proofs.Spelled as session_spelled
use Rattle.ua_sub_msgs.specs.declared.publish.PublishRequest.{PublishRequest}
use Rattle.ua_sub_msgs.specs.declared.request.SubRequest.TheVariants as sub_request
use Rattle.ua_services.specs.declared.request.Request.{Request}
use Rattle.ua_services.specs.declared.request.Request.TheVariants as request
use Rattle.ua_services.specs.Families.{request_put, requests, written_request}
use Rattle.ua_services.specs.Requests.{is_service, request_at}
use Rattle.ua_services.proofs.Asked.{service_asked}
use Rattle.ua_services.proofs.Spelled as spelled
use Rattle.server_keeps.specs.Fitting.{FitsHeard, FitsRequest, IsUInt32}
use Rattle.link_rules.specs.Said.{Told, Greeted, Opens, Asks, Limited, Renewed, told_order, wire}
use Rattle.link_keeps.specs.Fitting.{IsShort, KeepsTold}
use Rattle.client_orders.specs.Coming.{ComesFit, PutFits, PutsFit}
use Rattle.client_orders.proofs.Saying.{IsHeaded, IsOpening, ShortTold}
use Rattle.client_orders.proofs.Ordering.{IsPut}
use Rattle.client_orders.proofs.Long.{long_fits}

-- ---- what is heard of a message

judged_if : (b : Bool) (one other : Judged) → FitsHeard one.heard → FitsHeard other.heard → FitsHeard (if b then one else other).heard
judged_if true one other first second = first
judged_if false one other first second = second

comes_fit : (w : WireState) → ((t : Tokens) → FitsHeard (judged_by w.kind w t).heard) → ComesFit w
unfolding hearing_of
comes_fit w each e t =
    judged_if (takes e w.kind) (judged_by w.kind w t) (judges (heard.Fault bad_tcp_message_type_invalid) t) (each t) (omega arith)

channel_fits : (h : Heard) (w : WireState) (t : Tokens) → FitsHeard h → FitsHeard (message_of_channel h w t).heard
channel_fits h w t fits =
    judged_if (not (w.channel == t.channel)) (judges (heard.Fault bad_tcp_secure_channel_unknown) t)
    (if not (takes_token_of w.token t) then judges (heard.Fault bad_secure_channel_token_unknown) t else judges h (used w.token t))
    (omega arith)
    (judged_if (not (takes_token_of w.token t)) (judges (heard.Fault bad_secure_channel_token_unknown) t) (judges h (used w.token t))
    (omega arith) fits)

-- ---- a request

kept_fits : (r : Request) → is_service (request_put r).kind ≡ true → (request_put r).keeps → FitsRequest (request_at (written_request r))
kept_fits r service kept =
    subst FitsRequest
    (sym (service_asked (written_request r) r service ((bodies_lawful requests request_put spelled.request_spelled).again r kept))) kept

publish_test : (p : PublishRequest) (b : Bool) → nat_le (length p.subscription_acknowledgements) 65536 ≡ b
    → (length p.subscription_acknowledgements ≤ 65536 → (request_put (request.Subscription (sub_request.Publish p))).keeps)
    → a_request_header.keeps p.request_header → FitsRequest (request_at (written_request (request.Subscription (sub_request.Publish p))))
publish_test p true e kept header = kept_fits (request.Subscription (sub_request.Publish p)) refl (kept (grind (arith, nat_tests)))
publish_test p false e kept header =
    let long : 65536 < length p.subscription_acknowledgements = grind (arith, nat_tests) in long_fits p header long

-- a Publish with too many acknowledgements too
request_fits : (r : Request) → is_service (request_put r).kind ≡ true → IsHeaded r → (IsShort r → (request_put r).keeps)
    → FitsRequest (request_at (written_request r))
request_fits (request.Subscription (sub_request.Publish p)) service headed kept = publish_test p _ refl kept headed
request_fits (request.Session r) service headed kept = kept_fits (request.Session r) service (kept tt)
request_fits other service headed kept = kept_fits other service (kept tt)

opening_fits : (channel number : ℕ) (r : Request) → IsUInt32 number → IsOpening r → (request_put r).keeps
    → FitsHeard (heard.Opening channel true number (written_request r))
opening_fits channel number (request.Session (session_request.OpenSecureChannel r)) n is kept = (
  n,
  subst (λ read. IfOk read (λ asked. (session.request_put asked).keeps))
      (sym ((bodies_lawful session.session_requests session.request_put session_spelled.request_spelled).again
      (session_request.OpenSecureChannel r) kept)) kept,
)
opening_fits channel number other n is kept = absurd is

-- ---- all that is put

told_fits : (n channel token : ℕ) (told : Told) → KeepsTold told → ShortTold n told → PutFits (told_order channel token told)
told_fits n channel token (Greeted greeting url) kept short = comes_fit _ (λ t. tt)
told_fits n channel token (Opens number r) kept short = comes_fit _ (λ t. opening_fits channel number r kept.0 short.2 kept.1)
told_fits n channel token (Asks number r) kept short =
    comes_fit _
    (λ t. channel_fits (heard.Message number (written_request r)) (wire channel token number (written_request r)) t (kept.0, request_fits r short.1 short.2 kept.1))
told_fits n channel token (Limited limits) kept short = tt
told_fits n channel token (Renewed new other) kept short = tt

put_fits : (o : Order) → IsPut o → PutFits o
put_fits o put =
    subst PutFits (sym put.is) (told_fits put.limit put.one.channel put.one.token put.one.told put.keeps.told put.short)

pub all_fit : (orders : List (ℕ × Order)) → AllByRecursion (λ (o : ℕ × Order). IsPut o.1) orders → PutsFit orders
all_fit [] all = tt
all_fit (o ∷ orders) all = (put_fits o.1 all.0, all_fit orders all.1)
