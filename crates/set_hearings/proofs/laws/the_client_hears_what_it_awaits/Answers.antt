use Rattle.set_hearings.proofs.Dialling.{client_awaits}
use Rattle.set_hearings.proofs.laws.the_client_hears_what_it_awaits.Goals as goal

pub returns : goal.returns
returns c = λ mode servers items queue oldest lines server least most. client_awaits mode servers items queue oldest lines server least most
