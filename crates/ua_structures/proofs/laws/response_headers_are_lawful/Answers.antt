use Rattle.ua_structures.specs.Structures.{a_response_header}
use Rattle.ua_structures.proofs.Forms.{form_lawful}
use Rattle.ua_structures.proofs.laws.response_headers_are_lawful.Goals as goal

pub returns : goal.returns
returns c = form_lawful a_response_header
