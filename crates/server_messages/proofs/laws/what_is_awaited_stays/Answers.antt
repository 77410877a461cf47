use Rattle.server_rules.specs.Step.{Feeds, Levels, Ticks}
use Rattle.server_messages.proofs.Events.{closed_other, happened_awaits, opened_awaits, opened_other}
use Rattle.server_messages.proofs.Taking.{bytes_other, emptied_other}
use Rattle.server_messages.proofs.laws.what_is_awaited_stays.Goals as goal

pub returns-clause-new : goal.returns-clause-new
returns-clause-new c = opened_awaits

pub returns-clause-opened : goal.returns-clause-opened
returns-clause-opened c = opened_other

pub returns-clause-closed : goal.returns-clause-closed
returns-clause-closed c = closed_other

pub returns-clause-heard : goal.returns-clause-heard
returns-clause-heard c = bytes_other

pub returns-clause-fed : goal.returns-clause-fed
returns-clause-fed c = λ conn next change r x. happened_awaits (Feeds change) conn next r x

pub returns-clause-ticked : goal.returns-clause-ticked
returns-clause-ticked c = λ conn next ms r x. happened_awaits (Ticks ms) conn next r x

pub returns-clause-leveled : goal.returns-clause-leveled
returns-clause-leveled c = λ conn next level r x. happened_awaits (Levels level) conn next r x

pub returns-clause-taken : goal.returns-clause-taken
returns-clause-taken c = emptied_other
