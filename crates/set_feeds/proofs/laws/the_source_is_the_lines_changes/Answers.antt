use Rattle.std.proofs.Common.{◌∙◌}
use Rattle.scenario.specs.Past.{changes_in}
use Rattle.set_feeds.proofs.Sourcing.{lines_come_to, whole_source}
use Rattle.set_feeds.proofs.laws.the_source_is_the_lines_changes.Goals as goal

pub returns-clause-sourced : goal.returns-clause-sourced
returns-clause-sourced c = λ mode servers items queue oldest lines. lines_come_to mode servers items queue oldest lines

pub returns-clause-whole : goal.returns-clause-whole
returns-clause-whole c = λ mode servers items queue oldest lines is few.
    lines_come_to mode servers items queue oldest lines
    ∙ whole_source c.changes_are_the_source.ensures oldest (changes_in lines) is few
