-- each report by computing the definitions
use Rattle.std.proofs.Common.{refl}
use Rattle.std.specs.Fmt.{digits}
use Rattle.uaset.proofs.worked.worked_scenarios_have_their_reports.Goals as goal

pub returns-clause-first : goal.returns-clause-first
unfolding digits
returns-clause-first c = refl

pub returns-clause-none : goal.returns-clause-none
unfolding digits
returns-clause-none c = refl

pub returns-clause-overflow : goal.returns-clause-overflow
unfolding digits
returns-clause-overflow c = refl

pub returns-clause-fitting : goal.returns-clause-fitting
unfolding digits
returns-clause-fitting c = refl

pub returns-clause-after_a_take : goal.returns-clause-after_a_take
unfolding digits
returns-clause-after_a_take c = refl

pub returns-clause-two_servers : goal.returns-clause-two_servers
unfolding digits
returns-clause-two_servers c = refl

pub returns-clause-restart : goal.returns-clause-restart
unfolding digits
returns-clause-restart c = refl

pub returns-clause-nothing_missed : goal.returns-clause-nothing_missed
unfolding digits
returns-clause-nothing_missed c = refl

pub returns-clause-picoseconds : goal.returns-clause-picoseconds
unfolding digits
returns-clause-picoseconds c = refl

pub returns-clause-newest_discarded : goal.returns-clause-newest_discarded
unfolding digits
returns-clause-newest_discarded c = refl

pub returns-clause-refused : goal.returns-clause-refused
returns-clause-refused c = refl
