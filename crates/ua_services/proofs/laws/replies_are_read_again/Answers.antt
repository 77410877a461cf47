use Rattle.ua_structures.proofs.BodyLaws.{bodies_lawful}
use Rattle.ua_services.specs.Families.{replies, reply_put}
use Rattle.ua_services.proofs.Spelled.{reply_spelled}
use Rattle.ua_services.proofs.laws.replies_are_read_again.Goals as goal

pub returns-clause-lawful : goal.returns-clause-lawful
returns-clause-lawful c = bodies_lawful replies reply_put reply_spelled

pub returns-clause-again : goal.returns-clause-again
returns-clause-again c reply kept = (bodies_lawful replies reply_put reply_spelled).again reply kept
