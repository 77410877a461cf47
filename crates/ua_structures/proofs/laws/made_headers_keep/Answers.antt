use Rattle.ua_structures.proofs.Headers.{request_header_keeps, response_header_keeps}
use Rattle.ua_structures.proofs.laws.made_headers_keep.Goals as goal

pub returns-clause-request : goal.returns-clause-request
returns-clause-request c = request_header_keeps

pub returns-clause-response : goal.returns-clause-response
returns-clause-response c = response_header_keeps
