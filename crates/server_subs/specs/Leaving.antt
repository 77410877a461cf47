-- How a subscription leaves a session, in the steps of the code.
use Rattle.std.specs.Prelude.{ℕ, length, nat_lt, List, Option, Some, None, position, if◌then◌else◌}
use Rattle.subscription.specs.State.{SubState}
use Rattle.server_rules.specs.declared.waiting.Waiting.{Waiting}
use Rattle.server_rules.specs.State.{NoticeState, ServerState}
use Rattle.server_rules.specs.Said.{Did, nothing}
use Rattle.server_rules.specs.Moves.{has_notice, is_told, left, notice_of, noticed, notices_of, oldest_waiting}
use Rattle.server_rules.specs.Publishing.{has_more}

-- the place of the notice that leaves for a further one of its session
abbrev pub place_to_leave : ℕ → List NoticeState → Option ℕ
place_to_leave session notices =
    if nat_lt (length (notices_of session notices)) 64 then None else position (is_told session) notices

-- what the session that owned a subscription is to be told of it
abbrev pub notice_for : Option ℕ → ℕ → Option SubState → Option NoticeState
notice_for None code sub = None
notice_for (Some session) code None = None
notice_for (Some session) code (Some sub) = Some (notice_of session code sub)

abbrev pub noticed_if : Option NoticeState → ServerState → ServerState
noticed_if None s = s
noticed_if (Some notice) s = noticed notice s

-- it is told, and what it waits for is answered
abbrev pub told_by : Option ℕ → Option NoticeState → ServerState → Did
told_by None notice s = nothing s
told_by (Some session) notice s = left session (noticed_if notice s)

-- the queued Publish that a session's oldest notice answers
abbrev pub next_served : ℕ → ServerState → Option Waiting
next_served session s = if has_notice session s then oldest_waiting session s else None

-- the queued Publish with which a subscription sends again
abbrev pub next_sending : ℕ → ℕ → ServerState → Option Waiting
next_sending id session s = if has_more id s then oldest_waiting session s else None
