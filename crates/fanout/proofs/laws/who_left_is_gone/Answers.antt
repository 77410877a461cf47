use Rattle.fanout.proofs.Ids.{detached_gone, given_once, gone_stays, keeps, stopped_gone}
use Rattle.fanout.specs.History.{state_after}
use Rattle.fanout.proofs.laws.who_left_is_gone.Goals as goal

pub returns-clause-detached : goal.returns-clause-detached
returns-clause-detached c = λ id earlier can. detached_gone id 0 (state_after earlier).attached (state_after earlier).last (keeps earlier can).rising

pub returns-clause-stopped : goal.returns-clause-stopped
returns-clause-stopped c = λ line outcomes earlier can. stopped_gone line 0 (state_after earlier).attached outcomes (state_after earlier).last can.0 (keeps earlier can.1).rising

pub returns-clause-stays : goal.returns-clause-stays
returns-clause-stays c = gone_stays

pub returns-clause-once : goal.returns-clause-once
returns-clause-once c = given_once
