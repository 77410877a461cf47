use Rattle.fanout.proofs.Ids.{keeps}
use Rattle.fanout.proofs.laws.limits_are_kept.Goals as goal

pub returns-clause-most : goal.returns-clause-most
returns-clause-most c = λ history can. (keeps history can).most

pub returns-clause-ids : goal.returns-clause-ids
returns-clause-ids c = λ history can. (keeps history can).ids

pub returns-clause-rising : goal.returns-clause-rising
returns-clause-rising c = λ history can. (keeps history can).rising
