use Rattle.ua_client.proofs.Taking.{events_cut, taken_cut}
use Rattle.ua_client.proofs.laws.pieces_are_one.Goals as goal

pub returns-clause-bytes : goal.returns-clause-bytes
returns-clause-bytes c = λ server first second s. taken_cut server first second s

pub returns-clause-events : goal.returns-clause-events
returns-clause-events c = λ server first second s still. events_cut server first second s still
