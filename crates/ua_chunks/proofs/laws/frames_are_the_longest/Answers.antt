use Rattle.ua_chunks.proofs.Written.{is_framed, only}
use Rattle.ua_chunks.proofs.laws.frames_are_the_longest.Goals as goal

pub returns-clause-framed : goal.returns-clause-framed
returns-clause-framed c = is_framed

pub returns-clause-only : goal.returns-clause-only
returns-clause-only c = only
