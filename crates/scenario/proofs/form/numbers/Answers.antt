use Rattle.std.proofs.Common.{sym, ◌∙◌, ap}
use Rattle.std.specs.Option.{option_copied}
use Rattle.scenario.specs.Words.{capped, words_left}
use Rattle.scenario.specs.Grammar.{numbers_at, some_numbers}
use Rattle.scenario.proofs.WordLemmas.{numbers_some}
use Rattle.scenario.proofs.form.numbers.Goals as goal

pub returns-in-Some : goal.returns-in-Some
returns-in-Some c =
    c.some_numbers.ensures ∙ ap (λ rest. some_numbers capped (words_left (option_copied rest))) c.in-Some.is
    ∙ sym (ap (λ rest. numbers_at capped (words_left (option_copied rest))) c.in-Some.is ∙ numbers_some c.in-Some.field-0.now)
