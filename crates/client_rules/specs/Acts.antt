-- What happens to a client and what it does, in order, and which of it the log sees.
use Rattle.std.specs.Prelude.{ℕ, ◌&&◌, nat_le, Option, Some, None, if◌then◌else◌}
use Rattle.ua_base.specs.declared.modes.Mode.{Mode}
use Rattle.ua_base.specs.declared.modes.Mode.TheVariants.{Disabled, Reporting}
use Rattle.ua_base.specs.declared.modes.SetMode.{SetMode}
use Rattle.ua_base.specs.declared.modes.SetMode.TheVariants.{Direct, Hot, Warm, Cold}
use Rattle.ua_channel.specs.declared.heard.Heard.{Heard}
use Rattle.set_model.specs.declared.line.GapCause.TheVariants as cause
use Rattle.set_model.specs.declared.line.LogLine.TheVariants as line
use Rattle.delivery_log.specs.declared.rule.Joint.{Joint}
use Rattle.delivery_log.specs.declared.rule.Joint.TheVariants.{Open, Held}
use Rattle.delivery_log.specs.declared.rule.Turn.TheVariants.{Become, Loosen, Confirm}
use Rattle.delivery_log.specs.History.{Act, Enter, Set, TurnAll, Note, acted}
use Rattle.delivery_log.specs.State.{LogState}
use Rattle.link_rules.specs.declared.notice.Notice.{Notice}
use Rattle.link_rules.specs.declared.notice.Notice.TheVariants as notice
use Rattle.link_rules.specs.Said.{Said}
use Rattle.client_rules.specs.Arrival.{arrived_of}

-- a connection to a server was opened, or refused; something was heard on it; it was closed; milliseconds passed
pub data Happening : Type 0 where
  Opens : ℕ → Happening
  Refuses : ℕ → Happening
  Hears : ℕ → Heard → Happening
  Closes : ℕ → Happening
  Ticks : ℕ → Happening

-- it happened; the link of a server told something, or said something to its server; the active server became another
-- one, 0 standing for none
pub data ClientAct : Type 0 where
  Happened : Happening → ClientAct
  Tells : (server : ℕ) → Notice → ClientAct
  Says : (server : ℕ) → Said → ClientAct
  Switches : (from to : ℕ) → ClientAct

-- ---- what the log sees

-- a stream that begins: an item of a hot backup may have been sampled since long, one of a warm backup is off, and before
-- one of a cold server nobody was connected to it
abbrev pub beginning : SetMode → Joint
beginning Hot = Open cause.Late
beginning Warm = Held
beginning Cold = Open cause.Cold
beginning Direct = Open cause.Late

-- in warm an item is held from the moment at which it is asked to be off
abbrev pub on_sent : SetMode → Mode → ℕ → Option Act
on_sent Warm Disabled server = Some (TurnAll server (Become Held))
on_sent set mode server = None

-- until it is confirmed that it reports again
abbrev pub on_confirmed : SetMode → Mode → ℕ → Option Act
on_confirmed Warm Reporting server = Some (TurnAll server Confirm)
on_confirmed set mode server = None

-- nothing is known of an item that the client doesn't have
abbrev pub of_item : ℕ → ℕ → Act → Option Act
of_item items item act = if nat_le 1 item && nat_le item items then Some act else None

abbrev pub seen_of_notice : SetMode → ℕ → ℕ → Notice → Option Act
seen_of_notice set items server notice.Ready = Some (Note (line.Ready server))
seen_of_notice set items server notice.Lost = Some (Note (line.Lost server))
seen_of_notice set items server notice.Unsupported = Some (Note (line.Unsupported server))
seen_of_notice set items server (notice.Level level) = None
seen_of_notice set items server (notice.Stream item) = of_item items item (Set server item (beginning set))
seen_of_notice set items server notice.Jump = Some (TurnAll server (Loosen cause.Lost))
seen_of_notice set items server (notice.Taken item value) = of_item items item (Enter server item (arrived_of value))
seen_of_notice set items server (notice.Sent mode) = on_sent set mode server
seen_of_notice set items server (notice.Confirmed mode) = on_confirmed set mode server

-- of an act of a client of a set that is used so, with so many items
abbrev pub seen_of_act : SetMode → ℕ → ClientAct → Option Act
seen_of_act set items (Happened happening) = None
seen_of_act set items (Tells server n) = seen_of_notice set items server n
seen_of_act set items (Says server said) = None
seen_of_act set items (Switches from to) = Some (Note (line.Switch from to))

abbrev pub acted_if : Option Act → LogState → LogState
acted_if None log = log
acted_if (Some act) log = acted act log
