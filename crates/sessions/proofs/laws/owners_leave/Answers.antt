use Rattle.sessions.proofs.Owners.{owns, leaves}
use Rattle.sessions.proofs.laws.owners_leave.Goals as goal

pub returns-clause-owns : goal.returns-clause-owns
returns-clause-owns c = owns

pub returns-clause-leaves : goal.returns-clause-leaves
returns-clause-leaves c = leaves
