use Rattle.set_hearings.proofs.Attending.{lives_attend}
use Rattle.set_hearings.proofs.laws.lives_hear_what_they_await.Goals as goal

pub returns : goal.returns
returns c = λ mode servers items queue oldest lines place within. lives_attend mode servers items queue oldest lines place within
