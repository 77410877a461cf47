-- Each form is lawful.
use Rattle.ua_values.specs.Laws.{IsLawful}
use Rattle.ua_values.proofs.WrittenLemmas.{lawful_by}
use Rattle.ua_structures.specs.Form.{Form}

pub form_lawful : {A : Type 0} (form : Form A) → IsLawful form.keeps form.spells form.at form.written
form_lawful form = lawful_by form.keeps form.spells form.cut form.at form.written form.reads form.spelled
