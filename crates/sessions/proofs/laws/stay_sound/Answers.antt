use Rattle.sessions.proofs.Steps.{sound_step, sound_always}
use Rattle.sessions.proofs.laws.stay_sound.Goals as goal

pub returns-clause-step : goal.returns-clause-step
returns-clause-step c = sound_step

pub returns-clause-always : goal.returns-clause-always
returns-clause-always c = sound_always
