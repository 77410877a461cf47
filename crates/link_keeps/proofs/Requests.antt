-- The requests of a link that fits keep the limits.
use Rattle.std.proofs.Common.{◌≡◌, ℕ, ℤ, zero, suc, ◌+◌, ◌-◌, ◌*◌, ◌<◌, ◌≤◌, ◌^◌, List, [], ◌∷◌, ◌++◌, map, length, min, Bool, true, false, Option, Some, None, codes, refl, sym, ap, subst, cond, arith, FitsSigned, pos, negsuc, ltb, ◌+ℤ◌, ◌==◌, if◌then◌else◌, ◌∙◌}
use Rattle.std.specs.List.{AllByRecursion}
use Rattle.std.specs.Int.{int_min, w32, w64}
use Rattle.std.proofs.lemmas.Bool.Decides.{nat_tests}
use Rattle.std.proofs.lemmas.List.{length-append, length-map}
use Rattle.ua_structures.proofs.Headers.{request_header_keeps}
use Rattle.ua_base.specs.Modes.{mode_number}
use Rattle.ua_base.specs.Number.{after_message}
use Rattle.ua_base.specs.declared.modes.Mode.{Mode}
use Rattle.ua_base.specs.declared.modes.Mode.TheVariants.{Disabled, Sampling, Reporting}
use Rattle.ua_values.specs.declared.node.NodeId.{NodeId}
use Rattle.ua_values.specs.Laws.{KeepsNode, KeepsText, KeepsArray}
use Rattle.ua_structures.specs.Structures.{a_request_header, a_read_value_id, an_unused_of_request, request_header}
use Rattle.ua_structures.specs.declared.shared.ReadValueId.{ReadValueId}
use Rattle.ua_session_msgs.specs.Structures.{a_create_session_request, a_read_request, a_signature_data, an_activate_session_request, an_anonymous_identity_token, an_application_description, an_open_secure_channel_request}
use Rattle.ua_sub_msgs.specs.Structures.{a_create_monitored_items_request, a_create_subscription_request, a_monitored_item_create_request, a_monitoring_parameters, a_publish_request, a_republish_request, a_set_monitoring_mode_request, a_subscription_acknowledgement, a_transfer_subscriptions_request}
use Rattle.ua_services.specs.Families.{request_put}
use Rattle.link_rules.specs.declared.config.LinkConfig.{LinkConfig}
use Rattle.link_rules.specs.declared.remembered.Monitored.{Monitored}
use Rattle.link_rules.specs.State.{LinkState, link_time, null_node}
use Rattle.link_rules.specs.Asking.{header, next_request, null_header}
use Rattle.link_rules.specs.Requests.{acknowledgement, activation_request, anonymous, channel_request, client_description, item_request, item_requests, items_request, level_request, mode_request, no_signature, probe_request, publish_request, republish_request, session_request_of, subscription_request, transfer_request, value_id}
use Rattle.link_keeps.specs.Fitting.{FitsConfig, FitsLink, FitsMonitored, IsUInt32}

-- ---- numbers

after_test : (n : ℕ) (b : Bool) → (n == 2 ^ 32 - 1) ≡ b → n < 2 ^ 32 → (if b then 1 else n + 1) < 2 ^ 32
after_test n true e fits = omega arith
after_test n false e fits = grind (arith, nat_tests)

pub after_fits : (n : ℕ) → IsUInt32 n → IsUInt32 (after_message n)
after_fits n fits = after_test n _ refl fits

small_fits : (n : ℕ) → n < 2 ^ 31 → FitsSigned w32 (pos n)
small_fits n less = record { sfits = less }

-- ---- time

capped_fits : (n : ℕ) (b : Bool) → ltb (2 ^ 63 - 1) n ≡ b → FitsSigned w64 (cond b (pos (2 ^ 63 - 1)) (pos n))
capped_fits n true e = record { sfits = omega arith }
capped_fits n false e = record { sfits = grind (arith, nat_tests) }

before_fits : (k n : ℕ) (b : Bool) → ltb n (suc k) ≡ b → k < 2 ^ 63
    → FitsSigned w64 (int_min (cond b (negsuc (suc k - suc n)) (pos (n - suc k))) (pos (2 ^ 63 - 1)))
before_fits k n true e less = record { sfits = omega arith }
before_fits k n false e less = capped_fits (n - suc k) _ refl

time_by : (start : ℤ) (n : ℕ) → FitsSigned w64 start → FitsSigned w64 (int_min (start +ℤ pos n) (pos (2 ^ 63 - 1)))
time_by (pos k) n fits = capped_fits (k + n) _ refl
time_by (negsuc k) n fits = before_fits k n _ refl fits.sfits

time_fits : (l : LinkState) → FitsLink l → FitsSigned w64 (link_time l)
time_fits l fits = time_by l.config.start (l.age * 10000) fits.config.start

-- ---- headers

header_keeps : (l : LinkState) → FitsLink l → a_request_header.keeps (header l)
header_keeps l fits =
    request_header_keeps l.session (link_time l) (next_request l) fits.session (time_fits l fits)
    (after_fits l.conversation.last fits.conversation.last)

null_header_keeps : (l : LinkState) → FitsLink l → a_request_header.keeps (null_header l)
null_header_keeps l fits =
    request_header_keeps null_node (link_time l) (next_request l) (omega arith, omega arith) (time_fits l fits)
    (after_fits l.conversation.last fits.conversation.last)

-- ---- requests of connections and sessions

pub channel_keeps : (which : ℕ) (l : LinkState) → which < 2 ^ 31 → FitsLink l → (request_put (channel_request (pos which) l)).keeps
unfolding channel_request an_open_secure_channel_request
channel_keeps which l less fits =
    (null_header_keeps l fits, (omega arith, (small_fits which less, (small_fits 1 (omega arith), (tt, omega arith)))))

description_keeps : an_application_description.keeps client_description
unfolding an_application_description
description_keeps = (omega arith, (tt, ((tt, tt), (small_fits 1 (omega arith), (tt, (tt, (omega arith, tt)))))))

pub session_keeps : (l : LinkState) → FitsLink l → (request_put (session_request_of l)).keeps
unfolding session_request_of a_create_session_request
session_keeps l fits =
    (null_header_keeps l fits, (description_keeps, (tt, (fits.url, (tt, (tt, (tt, (omega arith, omega arith))))))))

signature_keeps : a_signature_data.keeps no_signature
unfolding a_signature_data
signature_keeps = (tt, tt)

pub activation_keeps : (l : LinkState) → FitsLink l → (request_put (activation_request l)).keeps
unfolding activation_request an_activate_session_request an_anonymous_identity_token
activation_keeps l fits = (
  header_keeps l fits,
  (
    signature_keeps,
    (
      (omega arith, tt),
      (
        (omega arith, tt),
        (((omega arith, omega arith), omega arith), signature_keeps),
      ),
    ),
  ),
)

value_keeps : (namespace id : ℕ) → namespace < 2 ^ 16 → id < 2 ^ 32 → a_read_value_id.keeps (value_id namespace id)
unfolding a_read_value_id
value_keeps namespace id from to = ((from, to), (omega arith, (tt, (omega arith, tt))))

pub probe_keeps : (l : LinkState) → FitsLink l → (request_put (probe_request l)).keeps
unfolding probe_request a_read_request
probe_keeps l fits = (
  header_keeps l fits,
  (
    omega arith,
    (
      small_fits 0 (omega arith),
      (omega arith, (value_keeps 0 2267 (omega arith) (omega arith), (value_keeps 0 3709 (omega arith) (omega arith), tt))),
    ),
  ),
)

pub level_keeps : (l : LinkState) → FitsLink l → (request_put (level_request l)).keeps
unfolding level_request a_read_request
level_keeps l fits =
    (header_keeps l fits, (omega arith, (small_fits 0 (omega arith), (omega arith, (value_keeps 0 2267 (omega arith) (omega arith), tt)))))

-- ---- requests of subscriptions

pub subscription_keeps : (l : LinkState) → FitsLink l → (request_put (subscription_request l)).keeps
unfolding subscription_request a_create_subscription_request
subscription_keeps l fits = (header_keeps l fits, (omega arith, (omega arith, (omega arith, (omega arith, (tt, omega arith))))))

pub transfer_keeps : (id : ℕ) (l : LinkState) → IsUInt32 id → FitsLink l → (request_put (transfer_request id l)).keeps
unfolding transfer_request a_transfer_subscriptions_request
transfer_keeps id l known fits = (header_keeps l fits, ((omega arith, (known, tt)), tt))

pub republish_keeps : (id number : ℕ) (l : LinkState) → IsUInt32 id → IsUInt32 number → FitsLink l
    → (request_put (republish_request id number l)).keeps
unfolding republish_request a_republish_request
republish_keeps id number l known wanted fits = (header_keeps l fits, (known, wanted))

acks_keep : (id : ℕ) (acks : List ℕ) → IsUInt32 id → AllByRecursion IsUInt32 acks
    → AllByRecursion a_subscription_acknowledgement.keeps (map (acknowledgement id) acks)
unfolding a_subscription_acknowledgement
acks_keep id [] known all = tt
acks_keep id (number ∷ acks) known all = ((known, all.0), acks_keep id acks known all.1)

pub publish_keeps : (id : ℕ) (l : LinkState) → IsUInt32 id → FitsLink l → length (map (acknowledgement id) l.acks) ≤ 65536
    → (request_put (publish_request id l)).keeps
unfolding publish_request a_publish_request
publish_keeps id l known fits short = (header_keeps l fits, (short, acks_keep id l.acks known fits.acks))

-- ---- requests of items

mode_fits : (mode : Mode) → FitsSigned w32 (pos (mode_number mode))
mode_fits Disabled = small_fits 0 (omega arith)
mode_fits Sampling = small_fits 1 (omega arith)
mode_fits Reporting = small_fits 2 (omega arith)

parameters_keep : (config : LinkConfig) (item : ℕ) → FitsConfig config → item < 2 ^ 8
    → a_monitoring_parameters.keeps (item_request config item).requested_parameters
unfolding item_request a_monitoring_parameters
parameters_keep config item fits less = (omega arith, (omega arith, (((omega arith, omega arith), tt), (fits.queue, tt))))

item_keeps : (config : LinkConfig) (item : ℕ) → FitsConfig config → item < 2 ^ 8
    → a_monitored_item_create_request.keeps (item_request config item)
unfolding item_request a_monitored_item_create_request
item_keeps config item fits less =
    (value_keeps 2 item (omega arith) (omega arith), (mode_fits config.rest, parameters_keep config item fits less))

pub all_append : {A : Type 0} (P : A → Type 0) (first more : List A) → AllByRecursion P first → AllByRecursion P more
    → AllByRecursion P (first ++ more)
all_append P [] more first second = second
all_append P (one ∷ first) more all second = (all.0, all_append P first more all.1 second)

items_keep : (config : LinkConfig) (count : ℕ) → FitsConfig config → count < 2 ^ 8
    → AllByRecursion a_monitored_item_create_request.keeps (item_requests config count)
items_keep config zero fits less = tt
items_keep config (suc count) fits less =
    all_append a_monitored_item_create_request.keeps (item_requests config count) (item_request config (suc count) ∷ [])
    (items_keep config count fits (omega arith)) (item_keeps config (suc count) fits less, tt)

items_count : (config : LinkConfig) (count : ℕ) → length (item_requests config count) ≡ count
items_count config zero = refl
items_count config (suc count) =
    let rest : length (item_requests config count) ≡ count = items_count config count in
    length-append (item_requests config count) (item_request config (suc count) ∷ []) ∙ omega arith

pub items_request_keeps : (id : ℕ) (l : LinkState) → IsUInt32 id → FitsLink l → (request_put (items_request id l)).keeps
unfolding items_request a_create_monitored_items_request
items_request_keeps id l known fits =
    let count : length (item_requests l.config l.config.items) ≡ l.config.items = items_count l.config l.config.items in
    let few : l.config.items < 2 ^ 8 = fits.config.items in
    (header_keeps l fits, (known, (small_fits 0 (omega arith), (omega arith, items_keep l.config l.config.items fits.config few))))

ids_keep : (monitored : List Monitored) → AllByRecursion FitsMonitored monitored
    → AllByRecursion (λ n. n < 2 ^ 32) (map (λ (one : Monitored). one.id) monitored)
ids_keep [] all = tt
ids_keep (one ∷ monitored) all = (all.0, ids_keep monitored all.1)

pub mode_keeps : (id : ℕ) (mode : Mode) (l : LinkState) → IsUInt32 id → FitsLink l → (request_put (mode_request id mode l)).keeps
unfolding mode_request a_set_monitoring_mode_request
mode_keeps id mode l known fits =
    let count : length (map (λ (one : Monitored). one.id) l.monitored) ≡ length l.monitored = length-map l.monitored (λ (one : Monitored). one.id) in
    let most : length l.monitored ≤ l.config.items = fits.monitored_count in
    let few : l.config.items < 2 ^ 8 = fits.config.items in
    (header_keeps l fits, (known, (mode_fits mode, (omega arith, ids_keep l.monitored fits.monitored))))
