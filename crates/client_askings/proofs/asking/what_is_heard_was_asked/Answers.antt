use Rattle.client_askings.proofs.Long.{not_read}
use Rattle.client_askings.proofs.Telling.{are_read}
use Rattle.client_askings.proofs.asking.what_is_heard_was_asked.Goals as goal

pub returns : goal.returns
returns c = λ said heard. are_read c.requests_are_read_again.ensures.lawful not_read said heard
