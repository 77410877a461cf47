use Rattle.std.proofs.Common.{◌≤◌, List, [], length, sym, subst, arith}
use Rattle.set_model.specs.declared.source.Change.{Change}
use Rattle.set_model.specs.Source.{IsSource}
use Rattle.scenario.specs.Past.{changes_in}
use Rattle.client_messages.specs.Messages as learning
use Rattle.set_histories.specs.Below.{client_config, beginning, noted_client, noted_life, noting}
use Rattle.set_histories.specs.Recording.{recorded_client, recorded_life, recording}
use Rattle.set_fitting.proofs.Counting.{few_lives}
use Rattle.set_fitting.proofs.Sourcing.{sourced_is, sourced_short}
use Rattle.set_fitting.proofs.Ticking.{few_ticks}
use Rattle.set_fitting.proofs.laws.lives_and_ticks_are_counted.Goals as goal

pub returns-clause-lives : goal.returns-clause-lives
returns-clause-lives c = λ mode servers items queue oldest lines place within.
    few_lives (noting recording) (noted_life (recorded_life (beginning mode servers items))) items servers place within lines
    (noted_client (recorded_client (learning.new_talk (client_config mode servers items queue oldest))))

pub returns-clause-ticks : goal.returns-clause-ticks
returns-clause-ticks c = λ mode servers items queue oldest lines. few_ticks mode servers items queue oldest lines

pub returns-clause-source : goal.returns-clause-source
returns-clause-source c = λ mode servers items queue oldest lines.
    subst (λ (source : List Change). length source ≤ 200000) (sym (c.the_source_is_the_lines_changes.ensures.sourced mode servers items queue oldest lines))
    (sourced_short (changes_in lines) [] (omega arith))

pub returns-clause-is_source : goal.returns-clause-is_source
returns-clause-is_source c = λ mode servers items queue oldest lines.
    subst (λ (source : List Change). IsSource source) (sym (c.the_source_is_the_lines_changes.ensures.sourced mode servers items queue oldest lines))
    (sourced_is c.history_is_well_fed.ensures.source (changes_in lines))
