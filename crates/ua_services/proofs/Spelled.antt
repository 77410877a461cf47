-- What is written of each value that keeps the rules is a spelling of it.
use Rattle.std.specs.Prelude.{refl}
use Rattle.ua_structures.proofs.BodyLaws.{Spells}
use Rattle.ua_session_msgs.proofs.Spelled as session_spelled
use Rattle.ua_sub_msgs.proofs.Spelled as sub_spelled
use Rattle.ua_services.specs.declared.request.Request.TheVariants as request
use Rattle.ua_services.specs.declared.reply.Reply.TheVariants as reply
use Rattle.ua_services.specs.Families.{requests, request_put, replies, reply_put}

pub request_spelled : Spells requests request_put
request_spelled (request.Session r) kept = (r, refl, session_spelled.request_spelled r kept)
request_spelled (request.Subscription r) kept = (r, refl, sub_spelled.request_spelled r kept)

pub reply_spelled : Spells replies reply_put
reply_spelled (reply.Session r) kept = (r, refl, session_spelled.reply_spelled r kept)
reply_spelled (reply.Subscription r) kept = (r, refl, sub_spelled.reply_spelled r kept)
