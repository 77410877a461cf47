use Rattle.ua_structures.proofs.BodyLaws.{bodies_lawful}
use Rattle.ua_session_msgs.specs.Families.{session_requests, request_put}
use Rattle.ua_session_msgs.proofs.Spelled.{request_spelled}
use Rattle.ua_session_msgs.proofs.laws.session_requests_are_lawful.Goals as goal

pub returns : goal.returns
returns c = bodies_lawful session_requests request_put request_spelled
