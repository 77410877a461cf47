-- What was appended while a message was read, beside whether it read.
use Rattle.std.specs.Prelude.{List, ◌++◌, Bool, true, false, Option, Some, None}
use Rattle.ua_sub_msgs.specs.declared.notification.MonitoredItemNotification.{MonitoredItemNotification}

-- these values, where it read
abbrev pub shown : Bool → List MonitoredItemNotification → Option (List MonitoredItemNotification)
shown true values = Some values
shown false values = None

-- values and those that came after them, where these read
abbrev pub appended : List MonitoredItemNotification → Option (List MonitoredItemNotification) → Option (List MonitoredItemNotification)
appended values (Some more) = Some (values ++ more)
appended values None = None
