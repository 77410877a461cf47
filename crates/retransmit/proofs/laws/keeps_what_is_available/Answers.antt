use Rattle.retransmit.proofs.Newest.{are_newest}
use Rattle.retransmit.proofs.Available.{given_available, one_kept, recent_available}
use Rattle.retransmit.proofs.laws.keeps_what_is_available.Goals as goal

pub returns-clause-given : goal.returns-clause-given
returns-clause-given g c = given_available

pub returns-clause-newest : goal.returns-clause-newest
returns-clause-newest g c = λ history. are_newest history

pub returns-clause-recent : goal.returns-clause-recent
returns-clause-recent g c = recent_available

pub returns-clause-single : goal.returns-clause-single
returns-clause-single g c = one_kept
