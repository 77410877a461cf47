-- What the acts of a client of a warm set tell of one item of one server: whether it reports, and whether what comes of it
-- goes on from what came before (OPC 10000-4, 5.12.4 and 6.6.2.4.5.3).
use Rattle.std.specs.Prelude.{◌≡◌, ℕ, ◌==◌, ◌&&◌, Bool, true, false, List, [], ◌∷◌, Option, Some, None, if◌then◌else◌}
use Rattle.ua_base.specs.declared.modes.Mode.{Mode}
use Rattle.ua_base.specs.declared.modes.Mode.TheVariants.{Disabled, Sampling, Reporting}
use Rattle.delivery_log.specs.declared.rule.Joint.{Joint}
use Rattle.delivery_log.specs.declared.rule.Joint.TheVariants.{Joined, Open, Held}
use Rattle.link_rules.specs.declared.notice.Notice.{Notice}
use Rattle.link_rules.specs.declared.notice.Notice.TheVariants as notice
use Rattle.client_rules.specs.Acts.{ClientAct, Happened, Tells, Says, Switches}

pub record Window : Type 0 where
  -- its values began to come, with a subscription
  pub begun : Bool
  -- since then it was confirmed that it reports, and it wasn't asked to be off after that
  pub reports : Bool
  -- since then values came, the last one with a source time, and no message was missing after it
  pub goes_on : Bool

abbrev pub no_window : Window
no_window = record { begun = false; reports = false; goes_on = false }

abbrev pub new_window : Window
new_window = record { begun = true; reports = false; goes_on = false }

abbrev pub has_time : {A : Type 0} → Option A → Bool
has_time None = false
has_time (Some time) = true

abbrev pub asked_by : Mode → Window → Window
asked_by Disabled w = record w { reports = false; goes_on = false }
asked_by Sampling w = w
asked_by Reporting w = w

abbrev pub confirmed_by : Mode → Window → Window
confirmed_by Disabled w = w
confirmed_by Sampling w = w
confirmed_by Reporting w = record w { reports = true }

-- by what the item's server tells
abbrev pub window_by : ℕ → Notice → Window → Window
window_by item notice.Ready w = w
window_by item notice.Lost w = w
window_by item notice.Unsupported w = w
window_by item (notice.Level level) w = w
window_by item (notice.Stream i) w = if i == item then new_window else w
window_by item notice.Jump w = record w { goes_on = false }
window_by item (notice.Taken i value) w =
    if i == item then record w { goes_on = w.reports && has_time value.source_timestamp } else w
window_by item (notice.Sent mode) w = asked_by mode w
window_by item (notice.Confirmed mode) w = confirmed_by mode w

abbrev pub windowed : ℕ → ℕ → ClientAct → Window → Window
windowed server item (Happened happening) w = w
windowed server item (Tells s n) w = if s == server then window_by item n w else w
windowed server item (Says s said) w = w
windowed server item (Switches from to) w = w

unfoldable pub window_after : ℕ → ℕ → List ClientAct → Window → Window
window_after server item [] w = w
window_after server item (act ∷ acts) w = window_after server item acts (windowed server item act w)

-- an item that doesn't report is held; one that does is joined exactly where its values go on
abbrev pub IsShownBy : Window → Joint → Type 0
IsShownBy w Held = (w.reports ≡ false) × (w.goes_on ≡ false)
IsShownBy w Joined = (w.reports ≡ true) × (w.goes_on ≡ true)
IsShownBy w (Open cause) = (w.reports ≡ true) × (w.goes_on ≡ false)
