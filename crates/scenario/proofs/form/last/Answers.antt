use Rattle.std.proofs.Common.{sym, ◌∙◌, ap}
use Rattle.std.specs.Option.{option_copied}
use Rattle.scenario.specs.Words.{words_left}
use Rattle.scenario.specs.Grammar.{none_left}
use Rattle.scenario.proofs.WordLemmas.{words_some}
use Rattle.scenario.proofs.form.last.Goals as goal

pub returns-in-Some : goal.returns-in-Some
returns-in-Some c = sym (ap (λ rest. none_left (words_left (option_copied rest))) c.in-Some.is ∙ words_some c.in-Some.field-0.now)
