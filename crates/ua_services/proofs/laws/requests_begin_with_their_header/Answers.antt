use Rattle.ua_services.proofs.Asked.{header_is_read}
use Rattle.ua_services.proofs.laws.requests_begin_with_their_header.Goals as goal

pub returns : goal.returns
returns c bytes request is = header_is_read bytes request is
