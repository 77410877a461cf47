use Rattle.ua_chunks.proofs.Streaming.{stays}
use Rattle.ua_chunks.proofs.Putting.{ended}
use Rattle.ua_chunks.proofs.laws.faults_stay.Goals as goal

pub returns-clause-framer : goal.returns-clause-framer
returns-clause-framer c = stays

pub returns-clause-assembler : goal.returns-clause-assembler
returns-clause-assembler c = ended
