-- What is read of objects, one after the other.
use Rattle.std.proofs.Common.{◌≡◌, List, [], ◌∷◌, ◌++◌, Option, Some, None, refl, ap, sym}
use Rattle.std.specs.Option.{unwrap_or}
use Rattle.ua_values.specs.declared.extension.ExtensionObject.{ExtensionObject}
use Rattle.ua_sub_msgs.specs.declared.notification.MonitoredItemNotification.{MonitoredItemNotification}
use Rattle.link_rules.specs.Messages.{if_read, values_after, values_in}
use Rattle.link_publishing.specs.Reading.{appended}

on_by : (values after : List MonitoredItemNotification) (read : Option (List MonitoredItemNotification)) (rest : List ExtensionObject)
    → Some after ≡ appended values read → if_read read (λ more. values_after (values ++ more) rest) ≡ values_after after rest
on_by values after (Some more) rest is =
    ap (λ (read : Option (List MonitoredItemNotification)). values_after (unwrap_or read []) rest) (sym is)
on_by values after None rest is = search is

-- one that reads
pub reads_on : (values after : List MonitoredItemNotification) (object : ExtensionObject) (rest : List ExtensionObject)
    → Some after ≡ appended values (values_in object) → values_after values (object ∷ rest) ≡ values_after after rest
reads_on values after object rest is = on_by values after (values_in object) rest is

end_by : (values : List MonitoredItemNotification) (read : Option (List MonitoredItemNotification)) (rest : List ExtensionObject)
    → None ≡ appended values read → None ≡ if_read read (λ more. values_after (values ++ more) rest)
end_by values (Some more) rest is = search is
end_by values None rest is = refl

-- one that doesn't
pub reads_not : (values : List MonitoredItemNotification) (object : ExtensionObject) (rest : List ExtensionObject)
    → None ≡ appended values (values_in object) → None ≡ values_after values (object ∷ rest)
reads_not values object rest is = end_by values (values_in object) rest is
