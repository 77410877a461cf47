use Rattle.std.proofs.Common.{sym, ◌∙◌, ap}
use Rattle.std.specs.Option.{option_copied}
use Rattle.scenario.specs.Words.{words_left}
use Rattle.scenario.specs.Grammar.{newest_at, rule_at}
use Rattle.scenario.proofs.WordLemmas.{rule_some}
use Rattle.scenario.proofs.form.rule.Goals as goal

pub returns-in-Some : goal.returns-in-Some
returns-in-Some c =
    c.newest.ensures ∙ ap (λ rest. newest_at (words_left (option_copied rest))) c.in-Some.is
    ∙ sym (ap (λ rest. rule_at (words_left (option_copied rest))) c.in-Some.is ∙ rule_some c.in-Some.field-0.now)
