-- The numbers of a DataChangeTrigger on the wire (OPC 10000-4, 7.22.2).
use Rattle.std.specs.Prelude.{ℤ, pos, Option, Some, None, if◌then◌else◌}
use Rattle.std.specs.Ordering.{int_eq}
use Rattle.server_rules.specs.declared.trigger.DataChangeTrigger.{DataChangeTrigger}
use Rattle.server_rules.specs.declared.trigger.DataChangeTrigger.TheVariants.{Status, StatusValue, StatusValueTimestamp}

abbrev pub trigger_of : ℤ → Option DataChangeTrigger
trigger_of number =
    if int_eq number (pos 0) then Some Status
    else if int_eq number (pos 1) then Some StatusValue
    else if int_eq number (pos 2) then Some StatusValueTimestamp
    else None
