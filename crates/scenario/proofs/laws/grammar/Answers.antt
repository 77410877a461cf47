use Rattle.scenario.proofs.GrammarLemmas.{form_of-form_text, form_text-form_of}
use Rattle.scenario.proofs.laws.grammar.Goals as goal

pub returns-clause-read_is_spelled : goal.returns-clause-read_is_spelled
returns-clause-read_is_spelled c = form_text-form_of

pub returns-clause-spelled_is_read : goal.returns-clause-spelled_is_read
returns-clause-spelled_is_read c = form_of-form_text
