use Rattle.server_makings.proofs.Having.{are_since, are_within}
use Rattle.server_makings.proofs.lives.lives_have_what_was_made.Goals as goal

pub returns-clause-within : goal.returns-clause-within
returns-clause-within c = are_within

pub returns-clause-since : goal.returns-clause-since
returns-clause-since c = are_since
