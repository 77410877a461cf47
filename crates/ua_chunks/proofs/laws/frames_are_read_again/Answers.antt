use Rattle.ua_chunks.proofs.Streaming.{brings}
use Rattle.ua_chunks.proofs.Written.{frames_again}
use Rattle.ua_chunks.proofs.laws.frames_are_read_again.Goals as goal

pub returns-clause-framed : goal.returns-clause-framed
returns-clause-framed c = frames_again

pub returns-clause-fed : goal.returns-clause-fed
returns-clause-fed c = brings
