-- What time brings: waits end, a silent server is left, levels are read and tokens renewed (OPC 10000-4, 5.5.2 and
-- 6.6.2.4.2). Each limit is one in full: what it says comes when so many milliseconds have passed.
use Rattle.std.specs.Prelude.{ℕ, ◌+◌, ◌-◌, ◌*◌, ◌^◌, ◌||◌, nat_le, min, pos, Bool, false, Option, Some, None, if◌then◌else◌}
use Rattle.link_rules.specs.declared.conversation.Asked.{Asked}
use Rattle.link_rules.specs.declared.phase.Phase.{Phase}
use Rattle.link_rules.specs.declared.phase.Phase.TheVariants as phase
use Rattle.link_rules.specs.declared.phase.ReadyState.{ReadyState}
use Rattle.link_rules.specs.declared.phase.Setting.{Setting}
use Rattle.link_rules.specs.State.{LinkState, have_passed, is_ready, with_conversation}
use Rattle.link_rules.specs.Said.{LinkDid, and_then, nothing}
use Rattle.link_rules.specs.Closing.{broken}
use Rattle.link_rules.specs.Asking.{asked, asked_opening}
use Rattle.link_rules.specs.Requests.{channel_request, level_request}
use Rattle.link_rules.specs.Publishing.{next_asked}

-- the last age stays
abbrev pub aged : ℕ → LinkState → LinkState
aged ms l = record l { age = min (l.age + ms) (2 ^ 64 - 1); wait = l.wait - ms }

-- ---- a server that doesn't answer

abbrev pub is_unanswered : Option Asked → LinkState → Bool
is_unanswered None l = false
is_unanswered (Some asked) l = have_passed 5000 asked.at l

abbrev pub asked_for : Option Setting → Option Asked
asked_for None = None
asked_for (Some setting) = Some setting.asked

abbrev pub is_silent : ReadyState → LinkState → Bool
is_silent ready l =
    have_passed 3000 l.since l || is_unanswered l.conversation.reading l || is_unanswered l.conversation.renewal l
    || is_unanswered (asked_for ready.setting) l

abbrev pub is_overdue_in : Phase → LinkState → Bool
is_overdue_in phase.Idle l = false
is_overdue_in (phase.Ready ready) l = is_silent ready l
is_overdue_in other l = have_passed 5000 l.since l

abbrev pub is_overdue : LinkState → Bool
is_overdue l = is_overdue_in l.phase l

-- ---- what is asked again and again

abbrev pub is_level_due : Option Asked → LinkState → Bool
is_level_due (Some asked) l = false
is_level_due None l = have_passed 1000 l.conversation.read_at l

abbrev pub with_reading : LinkState → LinkState
with_reading l = with_conversation (record l.conversation { reading = Some (next_asked l); read_at = l.age }) l

-- a Read of the ServiceLevel
unfoldable pub reads_level : LinkState → LinkDid
reads_level l =
    if is_level_due l.conversation.reading l then asked (level_request l) (with_reading l) else nothing l

-- three quarters of the token's lifetime have passed
abbrev pub is_token_old : LinkState → Bool
is_token_old l = nat_le (3 * l.conversation.lifetime) (4 * (l.age - l.conversation.opened))

abbrev pub is_renewal_due : Option Asked → LinkState → Bool
is_renewal_due (Some asked) l = false
is_renewal_due None l = is_token_old l

abbrev pub with_renewal : LinkState → LinkState
with_renewal l = with_conversation (record l.conversation { renewal = Some (next_asked l) }) l

-- OpenSecureChannel: another token, where the link wasn't closed before
unfoldable pub renews_token : LinkState → LinkDid
renews_token l =
    if is_ready l
    then (if is_renewal_due l.conversation.renewal l
    then asked_opening (channel_request (pos 1) l) (with_renewal l)
    else nothing l)
    else nothing l

unfoldable pub keeps_up : LinkState → LinkDid
keeps_up l = if is_ready l then and_then renews_token (reads_level l) else nothing l

-- so many milliseconds went by
unfoldable pub ticked : ℕ → LinkState → LinkDid
ticked ms l = if is_overdue (aged ms l) then broken (aged ms l) else keeps_up (aged ms l)
