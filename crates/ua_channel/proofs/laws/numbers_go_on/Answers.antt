use Rattle.ua_channel.proofs.Showing.{next_number}
use Rattle.ua_channel.proofs.laws.numbers_go_on.Goals as goal

pub returns : goal.returns
returns g c = λ conn m n deafens follows. next_number (g.C.Core.ears conn) (g.C.Core.answer conn) m n deafens follows
