use Rattle.ua_structures.proofs.BodyLaws.{bodies_lawful}
use Rattle.ua_session_msgs.specs.Families.{session_replies, reply_put}
use Rattle.ua_session_msgs.proofs.Spelled.{reply_spelled}
use Rattle.ua_session_msgs.proofs.laws.session_replies_are_lawful.Goals as goal

pub returns : goal.returns
returns c = bodies_lawful session_replies reply_put reply_spelled
