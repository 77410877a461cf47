-- The numbers of a mode and of a choice of timestamps on the wire.
use Rattle.std.specs.Prelude.{◌==◌, ℕ, Option, Some, None, if◌then◌else◌}
use Rattle.ua_base.specs.declared.modes.Mode.{Mode}
use Rattle.ua_base.specs.declared.modes.Mode.TheVariants.{Disabled, Sampling, Reporting}
use Rattle.ua_base.specs.declared.modes.Timestamps.{Timestamps}
use Rattle.ua_base.specs.declared.modes.Timestamps.TheVariants.{Source, Server, Both, Neither}

-- MonitoringMode (OPC 10000-4, 5.12.1.3)
abbrev pub mode_number : Mode → ℕ
mode_number Disabled = 0
mode_number Sampling = 1
mode_number Reporting = 2

-- the mode of a number, if it is one's
abbrev pub mode_of : ℕ → Option Mode
mode_of number =
    if number == 0 then Some Disabled
    else if number == 1 then Some Sampling
    else if number == 2 then Some Reporting
    else None

-- TimestampsToReturn (OPC 10000-4, 7.35)
abbrev pub timestamps_number : Timestamps → ℕ
timestamps_number Source = 0
timestamps_number Server = 1
timestamps_number Both = 2
timestamps_number Neither = 3

-- the choice of a number, if it is one's
abbrev pub timestamps_of : ℕ → Option Timestamps
timestamps_of number =
    if number == 0 then Some Source
    else if number == 1 then Some Server
    else if number == 2 then Some Both
    else if number == 3 then Some Neither
    else None
