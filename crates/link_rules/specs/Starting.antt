-- How a session begins, and what is asked of the server's redundancy before it is used (OPC 10000-4, 5.6.2, 5.6.3 and
-- 6.6.2.4).
use Rattle.std.specs.Prelude.{ℕ, ℤ, pos, ◌||◌, List, [], ◌∷◌, Bool, true, Option, Some, None, if◌then◌else◌}
use Rattle.std.specs.Ordering.{int_eq}
use Rattle.ua_variants.specs.declared.variant.Scalar.TheVariants as scalar
use Rattle.ua_variants.specs.declared.variant.Variant.{Variant, out-Variant}
use Rattle.ua_variants.specs.declared.variant.Variant.TheOpen.{Variant-F}
use Rattle.ua_variants.specs.declared.variant.Stamped.{Stamped}
use Rattle.ua_session_msgs.specs.declared.reply.SessionReply.TheVariants as session_reply
use Rattle.ua_services.specs.declared.reply.Reply.{Reply}
use Rattle.ua_services.specs.declared.reply.Reply.TheVariants as reply
use Rattle.link_rules.specs.declared.notice.Notice.TheVariants as notice
use Rattle.link_rules.specs.declared.phase.Phase.TheVariants as phase
use Rattle.link_rules.specs.State.{LinkState, with_conversation, with_phase}
use Rattle.link_rules.specs.Said.{LinkDid, and_then, tells}
use Rattle.link_rules.specs.Closing.{broken}
use Rattle.link_rules.specs.Asking.{asked, is_answer}
use Rattle.link_rules.specs.Requests.{activation_request, probe_request}
use Rattle.link_rules.specs.Ready.{is_good_status, is_left, level_of}
use Rattle.link_rules.specs.Subscribing.{begins}

-- ---- the session

unfoldable pub activates : LinkState → LinkDid
activates l = asked (activation_request l) (with_phase phase.Activating l)

unfoldable pub in_creating : Reply → LinkState → LinkDid
in_creating (reply.Session (session_reply.CreateSession r)) l =
    if is_answer r.response_header l then activates (record l { session = r.authentication_token }) else broken l
in_creating other l = broken l

abbrev pub has_read : LinkState → LinkState
has_read l = with_conversation (record l.conversation { read_at = l.age }) l

unfoldable pub probes : LinkState → LinkDid
probes l = asked (probe_request l) (with_phase phase.Probing (has_read l))

unfoldable pub in_activating : Reply → LinkState → LinkDid
in_activating (reply.Session (session_reply.ActivateSession r)) l =
    if is_answer r.response_header l then probes l else broken l
in_activating other l = broken l

-- ---- the redundancy

abbrev pub int_of : Variant-F Variant → Option ℤ
int_of (Variant-F.Scalar (scalar.Int32 number)) = Some number
int_of other = None

abbrev pub int_in : Option Variant → Option ℤ
int_in None = None
int_in (Some value) = int_of (out-Variant value)

-- a RedundancySupport
abbrev pub support_of : Stamped Variant → Option ℤ
support_of value = if is_good_status value.status then int_in value.value else None

-- Transparent and HotAndMirrored (OPC 10000-5, 12.5): a client has nothing to choose there
abbrev pub is_unused : ℤ → Bool
is_unused support = int_eq support (pos 4) || int_eq support (pos 5)

unfoldable pub unsupported : LinkState → LinkDid
unsupported l = and_then broken (tells (notice.Unsupported ∷ []) (record l { unsupported = true }))

unfoldable pub judges : ℕ → ℤ → LinkState → LinkDid
judges level support l =
    if is_unused support then unsupported l
    else if is_left level l then broken l
    else begins l

unfoldable pub probed_by : Option ℕ → Option ℤ → LinkState → LinkDid
probed_by (Some level) (Some support) l = and_then (judges level support) (tells (notice.Level level ∷ []) l)
probed_by (Some level) None l = broken l
probed_by None support l = broken l

-- both values, in the order of the request
unfoldable pub probed : List (Stamped Variant) → LinkState → LinkDid
probed [] l = broken l
probed (level ∷ []) l = broken l
probed (level ∷ support ∷ []) l = probed_by (level_of level) (support_of support) l
probed (level ∷ support ∷ another ∷ more) l = broken l

unfoldable pub in_probing : Reply → LinkState → LinkDid
in_probing (reply.Session (session_reply.Read r)) l =
    if is_answer r.response_header l then probed r.results l else broken l
in_probing other l = broken l
