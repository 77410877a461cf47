use Rattle.ua_channel.proofs.Beginning.{front_heard}
use Rattle.ua_channel.proofs.laws.fronts_are_heard.Goals as goal

pub returns : goal.returns
returns g c = λ conn front more sent n deafens arrive e. front_heard (g.C.Core.ears conn) (g.C.Core.answer conn) front more sent n deafens arrive e
