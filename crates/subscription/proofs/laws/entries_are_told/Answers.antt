use Rattle.subscription.proofs.Seeing.{entries_are_told, entry_is_told}
use Rattle.subscription.proofs.laws.entries_are_told.Goals as goal

pub returns-clause-told : goal.returns-clause-told
returns-clause-told c = entries_are_told

pub returns-clause-whole : goal.returns-clause-whole
returns-clause-whole c = entry_is_told
