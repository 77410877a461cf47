use Rattle.ua_channel.proofs.Showing.{shows_next, shows_ordered, shows_settled, shows_taken}
use Rattle.ua_channel.proofs.laws.messages_show_bytes.Goals as goal

pub returns-clause-next : goal.returns-clause-next
returns-clause-next g c = λ conn first m n k deafens ready lawful s. shows_next (g.C.Core.ears conn) (g.C.Core.answer conn) first m n k deafens ready lawful s

pub returns-clause-ordered : goal.returns-clause-ordered
returns-clause-ordered g c = λ first orders n k lawful s. shows_ordered (g.C.Core.ears 0) (g.C.Core.answer 0) first orders n k lawful s

pub returns-clause-taken : goal.returns-clause-taken
returns-clause-taken g c = λ first n k s. shows_taken (g.C.Core.ears 0) (g.C.Core.answer 0) first n k s

pub returns-clause-shut : goal.returns-clause-shut
returns-clause-shut g c = λ conn first n k s. shows_settled (g.C.Core.ears conn) (g.C.Core.answer conn) first n k s
