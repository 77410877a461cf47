use Rattle.ua_structures.specs.Structures.{a_request_header}
use Rattle.ua_structures.proofs.Forms.{form_lawful}
use Rattle.ua_structures.proofs.laws.request_headers_are_lawful.Goals as goal

pub returns : goal.returns
returns c = form_lawful a_request_header
