use Rattle.std.proofs.Common.{[], refl}
use Rattle.ua_base.specs.declared.modes.Mode.TheVariants.{Disabled}
use Rattle.link_rules.specs.State.{new_link}
use Rattle.client_dials.specs.Spoken.{spoken_in}
use Rattle.client_links.specs.Links.{passed_by}
use Rattle.server_tellings.proofs.Hearing.{life_again}
use Rattle.set_talks.specs.Meetings.{connections_of, start_of}
use Rattle.set_askings.proofs.Living.{all_once}
use Rattle.set_askings.proofs.Sharing.{each_spoken, good_spoken}
use Rattle.set_askings.proofs.Speaking.{each_on}
use Rattle.set_askings.proofs.once.items_are_asked_for_once.Goals as goal

pub returns : goal.returns
returns c = λ config happenings lives id never shared kept orderly.
    let all = spoken_in (passed_by happenings (new_link config)) [] in
    all_once c.what_is_heard_was_asked.ensures
    (λ life is. life_again c.lives_are_steps.ensures.said life.happenings (start_of life)
    (c.what_is_put_is_read_again.ensures life.config life.current life.happenings is.config is.current is.happenings))
    (λ life. c.subscription_ids_are_given_once.ensures life.config life.current life.happenings) config id lives
    (each_spoken config all (connections_of lives) shared
    (good_spoken config all kept (c.items_are_asked_for_where_made.ensures config happenings)
    (each_on happenings (new_link config) (c.modes_are_wanted.ensures Disabled happenings (new_link config) refl never))))
    orderly
