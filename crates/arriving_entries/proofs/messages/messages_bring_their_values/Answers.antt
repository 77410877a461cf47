use Rattle.arriving_entries.proofs.Bringing.{brings, holds_so, is_alive}
use Rattle.arriving_entries.proofs.messages.messages_bring_their_values.Goals as goal

pub returns-clause-values : goal.returns-clause-values
returns-clause-values c = brings c.notifications_are_held.ensures

pub returns-clause-holds : goal.returns-clause-holds
returns-clause-holds c = holds_so c.notifications_are_held.ensures

pub returns-clause-alive : goal.returns-clause-alive
returns-clause-alive c = is_alive
