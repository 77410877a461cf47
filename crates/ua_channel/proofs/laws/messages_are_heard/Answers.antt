use Rattle.ua_channel.proofs.Coming.{all_heard}
use Rattle.ua_channel.proofs.laws.messages_are_heard.Goals as goal

pub returns : goal.returns
returns g c = λ conn sent n deafens arrive. all_heard (g.C.Core.ears conn) (g.C.Core.answer conn) sent n deafens arrive
