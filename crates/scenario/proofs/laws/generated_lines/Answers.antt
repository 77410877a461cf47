use Rattle.scenario.proofs.SoundLemmas.{generated_long, generated_read, generated_stand}
use Rattle.scenario.proofs.laws.generated_lines.Goals as goal

pub returns : goal.returns
returns c = record { count = generated_long; stand = generated_stand; read = generated_read }
