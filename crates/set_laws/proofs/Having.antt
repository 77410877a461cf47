-- The levels that the client of a set reads are those of the servers.
use Rattle.std.proofs.Common.{ℕ, ◌+◌, ◌≤◌, Bool, List, [], sym, subst}
use Rattle.std.specs.List.{AllByRecursion}
use Rattle.ua_base.specs.declared.modes.SetMode.{SetMode}
use Rattle.scenario.specs.declared.line.Line.{Line}
use Rattle.link_rules.specs.declared.config.LinkConfig.{LinkConfig}
use Rattle.link_rules.specs.declared.notice.Notice.{Notice}
use Rattle.link_rules.specs.State.{new_link}
use Rattle.link_rules.specs.Step as alone
use Rattle.client_laws.specs.Life.{acts_of}
use Rattle.client_rules.specs.State.{link_config}
use Rattle.client_links.specs.Awaited.{AllAwaited}
use Rattle.client_links.specs.Links.{passed_by, told_of}
use Rattle.client_dials.specs.Spoken.{spoken_in}
use Rattle.set_histories.specs.Below.{client_config}
use Rattle.set_histories.specs.Histories.{lives_after, recorded_after}
use Rattle.set_talks.specs.Meetings.{AllShared, Life}
use Rattle.set_meetings.specs.Noted.{lives_noted}
use Rattle.set_askings.specs.Once.{AllKept, IsOrderly}
use Rattle.set_levels.specs.Had.{HadLevel}
use Rattle.set_laws.specs.Limits.{AreWithin}
use Rattle.set_laws.proofs.Meeting.{IsMet, LinkLaws, SetLaws, met}

-- of links, whatever happens to them
abbrev pub HadLevels : Type 0
HadLevels = (config : LinkConfig) (happenings : List alone.Happening) (lives : List Life)
    → AllAwaited happenings (new_link config)
    → AllShared (spoken_in (passed_by happenings (new_link config)) []) lives
    → AllKept (spoken_in (passed_by happenings (new_link config)) [])
    → AllByRecursion IsOrderly lives → AllByRecursion (HadLevel lives) (alone.after_all happenings (new_link config)).notices

pub place_had : (mode : SetMode) (servers items queue : ℕ) (oldest : Bool) (lines : List Line) → AreWithin servers items queue lines
    → LinkLaws → HadLevels → SetLaws mode servers items queue oldest lines → (place : ℕ) → place + 1 ≤ servers
    → AllByRecursion (HadLevel (lives_noted mode servers items (place + 1) (lives_after mode servers items queue oldest lines place)))
    (told_of (place + 1) (acts_of (client_config mode servers items queue oldest) (recorded_after mode servers items queue oldest lines).client.node.moments))
place_had mode servers items queue oldest lines within laws had set place least =
    let x : IsMet mode servers items queue oldest lines place = met mode servers items queue oldest lines within laws set place least in
    let noted : List Life = lives_noted mode servers items (place + 1) (lives_after mode servers items queue oldest lines place) in
    subst (λ (l : List Notice). AllByRecursion (HadLevel noted) l) (sym x.one.told)
    (had (link_config (client_config mode servers items queue oldest)) x.one.happenings noted x.awaited x.shared x.kept x.orderly)
