use Rattle.std.proofs.Common.{sym, ◌∙◌, ap}
use Rattle.std.specs.Option.{option_copied}
use Rattle.scenario.specs.Words.{capped, words_left}
use Rattle.scenario.specs.Grammar.{numbers_after, two_numbers}
use Rattle.scenario.proofs.WordLemmas.{two_some}
use Rattle.scenario.proofs.form.numbers_after.Goals as goal

pub returns-in-Some : goal.returns-in-Some
returns-in-Some c =
    c.two_numbers.ensures ∙ ap (λ rest. two_numbers capped c.args.first (words_left (option_copied rest))) c.in-Some.is
    ∙ sym (ap (λ rest. numbers_after capped c.args.first (words_left (option_copied rest))) c.in-Some.is ∙ two_some c.args.first c.in-Some.field-0.now)
