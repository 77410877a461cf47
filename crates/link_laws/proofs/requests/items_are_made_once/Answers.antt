use Rattle.link_laws.proofs.Making as making
use Rattle.link_laws.proofs.Plain as plain
use Rattle.link_laws.proofs.requests.items_are_made_once.Goals as goal

pub returns-clause-once : goal.returns-clause-once
returns-clause-once c = making.items_are_made_once

pub returns-clause-config : goal.returns-clause-config
returns-clause-config c = plain.config_stays
