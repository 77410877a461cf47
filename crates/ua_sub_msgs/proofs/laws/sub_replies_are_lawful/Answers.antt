use Rattle.ua_structures.proofs.BodyLaws.{bodies_lawful}
use Rattle.ua_sub_msgs.specs.Families.{sub_replies, reply_put}
use Rattle.ua_sub_msgs.proofs.Spelled.{reply_spelled}
use Rattle.ua_sub_msgs.proofs.laws.sub_replies_are_lawful.Goals as goal

pub returns : goal.returns
returns c = bodies_lawful sub_replies reply_put reply_spelled
