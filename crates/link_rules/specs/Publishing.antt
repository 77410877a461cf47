-- What a link does as soon as it can: it keeps two Publish requests at the server, gives the items their mode, and makes
-- a subscription where it has none (OPC 10000-4, 5.12.4, 5.13.2 and 5.13.5).
use Rattle.std.specs.Prelude.{ℕ, ◌==◌, [], ◌∷◌, Bool, true, false, Option, Some, None, if◌then◌else◌}
use Rattle.ua_base.specs.declared.modes.Mode.{Mode}
use Rattle.ua_base.specs.Modes.{mode_number}
use Rattle.link_rules.specs.declared.notice.Notice.TheVariants as notice
use Rattle.link_rules.specs.declared.phase.Phase.TheVariants as phase
use Rattle.link_rules.specs.declared.phase.Publishes.{Publishes}
use Rattle.link_rules.specs.declared.phase.Publishes.TheVariants.{Zero, One, Two}
use Rattle.link_rules.specs.declared.phase.ReadyState.{ReadyState}
use Rattle.link_rules.specs.declared.phase.Setting.{Setting}
use Rattle.link_rules.specs.declared.conversation.Asked.{Asked}
use Rattle.link_rules.specs.declared.remembered.Remembered.{Remembered}
use Rattle.link_rules.specs.State.{LinkState, forgotten, is_ready, ready_in, with_phase, with_ready}
use Rattle.link_rules.specs.Said.{LinkDid, and_then, nothing, tells}
use Rattle.link_rules.specs.Asking.{asked, next_request}
use Rattle.link_rules.specs.Requests.{mode_request, publish_request, subscription_request}

-- the next request, as one that isn't answered
abbrev pub next_asked : LinkState → Asked
next_asked l = record { handle = next_request l; at = l.age }

-- ---- Publish requests

abbrev pub has_room : Publishes → Bool
has_room Zero = true
has_room (One first) = true
has_room (Two first second) = false

abbrev pub one_more : ℕ → Publishes → Publishes
one_more handle Zero = One handle
one_more handle (One first) = Two first handle
one_more handle (Two first second) = Two first second

-- the acknowledgements that were due go with it
abbrev pub with_publish : ReadyState → LinkState → LinkState
with_publish ready l =
    record (with_ready (record ready { publishes = one_more (next_request l) ready.publishes }) l) { acks = [] }

unfoldable pub published : ReadyState → Remembered → LinkState → LinkDid
published ready remembered l = asked (publish_request remembered.id l) (with_publish ready l)

abbrev pub publishes_in : Option ReadyState → Option Remembered → LinkState → LinkDid
publishes_in (Some ready) (Some remembered) l =
    if has_room ready.publishes then published ready remembered l else nothing l
publishes_in (Some ready) None l = nothing l
publishes_in None remembered l = nothing l

-- one Publish request, where fewer than two aren't answered
unfoldable pub publishes : LinkState → LinkDid
publishes l = publishes_in (ready_in l.phase) l.remembered l

-- as many as make two
unfoldable pub fills : LinkState → LinkDid
fills l = and_then publishes (publishes l)

-- ---- the mode of the items

abbrev pub is_mode : Mode → Option Mode → Bool
is_mode mode None = false
is_mode mode (Some other) = mode_number mode == mode_number other

abbrev pub unless_confirmed : Option Mode → Option Mode → Option Mode
unless_confirmed None confirmed = None
unless_confirmed (Some mode) confirmed = if is_mode mode confirmed then None else Some mode

-- the mode to be asked for: that which is wanted, where it isn't confirmed and no request for one is unanswered
abbrev pub mode_due_by : Option Setting → ReadyState → Option Mode
mode_due_by (Some setting) ready = None
mode_due_by None ready = unless_confirmed ready.wanted ready.confirmed

abbrev pub mode_due : ReadyState → Option Mode
mode_due ready = mode_due_by ready.setting ready

abbrev pub with_setting : Mode → ReadyState → LinkState → LinkState
with_setting mode ready l =
    with_ready (record ready { setting = Some (record { asked = next_asked l; mode = mode }) }) l

-- it was sent, and the link is as ready as before
unfoldable pub tells_sent : Mode → LinkState → LinkDid
tells_sent mode l = if is_ready l then tells (notice.Sent mode ∷ []) l else nothing l

unfoldable pub sets : Mode → ReadyState → Remembered → LinkState → LinkDid
sets mode ready remembered l =
    and_then (tells_sent mode) (asked (mode_request remembered.id mode l) (with_setting mode ready l))

abbrev pub sets_if : Option Mode → ReadyState → Option Remembered → LinkState → LinkDid
sets_if (Some mode) ready (Some remembered) l = sets mode ready remembered l
sets_if (Some mode) ready None l = nothing l
sets_if None ready remembered l = nothing l

abbrev pub sets_in : Option ReadyState → LinkState → LinkDid
sets_in (Some ready) l = sets_if (mode_due ready) ready l.remembered l
sets_in None l = nothing l

-- SetMonitoringMode, where another mode is wanted
unfoldable pub sets_mode : LinkState → LinkDid
sets_mode l = sets_in (ready_in l.phase) l

-- ---- phases that begin

abbrev pub new_ready : Option Mode → ReadyState
new_ready confirmed = record { publishes = Zero; setting = None; confirmed = confirmed; wanted = None }

-- the subscription will send: its items have this mode, if it is known, and no mode is wanted yet
unfoldable pub enters_ready : Option Mode → LinkState → LinkDid
enters_ready confirmed l =
    and_then fills (tells (notice.Ready ∷ []) (with_phase (phase.Ready (new_ready confirmed)) l))

-- CreateSubscription, in place of any former one
unfoldable pub subscribes : LinkState → LinkDid
subscribes l = asked (subscription_request l) (with_phase phase.Subscribing (forgotten l))
