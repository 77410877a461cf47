use Rattle.arriving_entries.proofs.Linking.{all_so, fed_so, linked_so}
use Rattle.arriving_entries.proofs.entries.linked_entries_arrive_linked.Goals as goal

pub returns-clause-fed : goal.returns-clause-fed
returns-clause-fed c = fed_so

pub returns-clause-linked : goal.returns-clause-linked
returns-clause-linked c = linked_so

pub returns-clause-all : goal.returns-clause-all
returns-clause-all c = all_so
