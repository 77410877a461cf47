use Rattle.ua_structures.proofs.BodyLaws.{bodies_lawful}
use Rattle.ua_sub_msgs.specs.Families.{sub_requests, request_put}
use Rattle.ua_sub_msgs.proofs.Spelled.{request_spelled}
use Rattle.ua_sub_msgs.proofs.laws.sub_requests_are_lawful.Goals as goal

pub returns : goal.returns
returns c = bodies_lawful sub_requests request_put request_spelled
