use Rattle.ua_chunks.proofs.Leading.{front_assembled, front_sound}
use Rattle.ua_chunks.proofs.Putting.{messages_append}
use Rattle.ua_chunks.proofs.laws.fronts_are_sound.Goals as goal

pub returns-clause-framer : goal.returns-clause-framer
returns-clause-framer c = front_sound

pub returns-clause-assembler : goal.returns-clause-assembler
returns-clause-assembler c = front_assembled

pub returns-clause-messages : goal.returns-clause-messages
returns-clause-messages c = messages_append
