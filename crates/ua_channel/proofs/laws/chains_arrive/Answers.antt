use Rattle.ua_channel.proofs.Chaining.{chains_arrive}
use Rattle.ua_channel.proofs.laws.chains_arrive.Goals as goal

pub returns : goal.returns
returns g c = λ conn first next sent n deafens chain awaits. chains_arrive (g.C.Core.ears conn) (g.C.Core.answer conn) first next sent n deafens chain awaits
