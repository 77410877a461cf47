use Rattle.ua_structures.specs.Structures.{a_read_value_id}
use Rattle.ua_structures.proofs.Forms.{form_lawful}
use Rattle.ua_structures.proofs.laws.read_value_ids_are_lawful.Goals as goal

pub returns : goal.returns
returns c = form_lawful a_read_value_id
