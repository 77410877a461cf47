use Rattle.ua_structures.proofs.BodyLaws.{contents_lawful}
use Rattle.ua_sub_msgs.specs.Families.{notifications, notification_put}
use Rattle.ua_sub_msgs.proofs.Spelled.{notification_spelled}
use Rattle.ua_sub_msgs.proofs.laws.notifications_are_held.Goals as goal

pub returns : goal.returns
returns c = contents_lawful notifications notification_put notification_spelled
