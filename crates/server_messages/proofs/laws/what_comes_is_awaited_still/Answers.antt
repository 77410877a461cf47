use Rattle.server_rules.specs.Step.{Feeds, Levels, Ticks}
use Rattle.server_messages.proofs.Awaiting.{bytes_stays, closed_stays, emptied_stays, happened_stays, opened_stays}
use Rattle.server_messages.proofs.Deafness.{stays_deaf}
use Rattle.server_messages.proofs.laws.what_comes_is_awaited_still.Goals as goal

pub returns-clause-deaf : goal.returns-clause-deaf
returns-clause-deaf c = stays_deaf

pub returns-clause-opened : goal.returns-clause-opened
returns-clause-opened c = opened_stays

pub returns-clause-closed : goal.returns-clause-closed
returns-clause-closed c = closed_stays

pub returns-clause-heard : goal.returns-clause-heard
returns-clause-heard c = bytes_stays

pub returns-clause-fed : goal.returns-clause-fed
returns-clause-fed c = λ conn next change r x. happened_stays (Feeds change) conn next r tt x

pub returns-clause-ticked : goal.returns-clause-ticked
returns-clause-ticked c = λ conn next ms r x. happened_stays (Ticks ms) conn next r tt x

pub returns-clause-leveled : goal.returns-clause-leveled
returns-clause-leveled c = λ conn next level r x. happened_stays (Levels level) conn next r tt x

pub returns-clause-taken : goal.returns-clause-taken
returns-clause-taken c = emptied_stays
