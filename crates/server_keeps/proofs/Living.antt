-- Of a whole life.
use Rattle.std.proofs.Common.{ℕ, ◌^◌, ◌<◌, List, [], ◌∷◌, reverse, arith}
use Rattle.std.specs.List.{AllByRecursion}
use Rattle.set_model.specs.declared.source.Change.{Change}
use Rattle.ua_channel.specs.declared.heard.Heard.{Heard}
use Rattle.ua_channel.specs.State.{is_deaf}
use Rattle.server_rules.specs.declared.config.ServerConfig.{ServerConfig}
use Rattle.server_rules.specs.State.{ServerState, new_server}
use Rattle.server_rules.specs.Said.{nothing}
use Rattle.server_rules.specs.Connecting.{hears}
use Rattle.server_rules.specs.Moves.{fed_with}
use Rattle.server_rules.specs.Step.{Happening, Opens, Hears, Closes, Feeds, Ticks, Levels, after, ears, fed, heard, leveled}
use Rattle.server_rules.specs.Acts.{Put, acts, first_act, history, state_after}
use Rattle.server_keeps.specs.Fitting.{FitsChange, FitsConfig, FitsHappening, FitsHeard, FitsServer, KeepsAct, KeepsDid, KeepsSaid}
use Rattle.server_keeps.proofs.Answering.{quiet}
use Rattle.server_keeps.proofs.Connecting.{closed_keeps, hears_keeps, opened_conn_keeps}
use Rattle.server_keeps.proofs.Lists.{all_join, all_map, all_reverse, choice}
use Rattle.server_keeps.proofs.Moving.{fed_with_fits}
use Rattle.server_keeps.proofs.Ticking.{ticked_keeps}

heard_keeps : (number : ℕ) (one : Heard) (s : ServerState) → FitsServer s → FitsHeard one → KeepsDid (heard number one s)
unfolding heard
heard_keeps number one s h asks =
    choice KeepsDid (is_deaf (ears number s)) (nothing s) (hears number one s) (quiet s h) (hears_keeps number one s h asks)

fed_keeps : (change : Change) (s : ServerState) → FitsServer s → FitsChange change → KeepsDid (fed change s)
unfolding fed
fed_keeps change s h fits = quiet (fed_with change s) (fed_with_fits change s fits h)

leveled_keeps : (level : ℕ) (s : ServerState) → FitsServer s → level < 2 ^ 8 → KeepsDid (leveled level s)
unfolding leveled
leveled_keeps level s h fits = quiet (record s { level = level }) (record {
  config = h.config;
  level = fits;
  current = h.current;
  sessions = h.sessions;
  notices = h.notices;
  subs = h.subs;
  apart = h.apart;
  channels = h.channels;
  conns = h.conns;
})

pub after_keeps : (happening : Happening) (s : ServerState) → FitsServer s → FitsHappening happening → KeepsDid (after happening s)
after_keeps (Opens number) s h fits = opened_conn_keeps number s h
after_keeps (Hears number one) s h fits = heard_keeps number one s h fits
after_keeps (Closes number) s h fits = closed_keeps number s h
after_keeps (Feeds change) s h fits = fed_keeps change s h fits
after_keeps (Ticks ms) s h fits = ticked_keeps ms s h
after_keeps (Levels level) s h fits = leveled_keeps level s h fits

pub first_fits : (config : ServerConfig) (current : List Change) → FitsConfig config → AllByRecursion FitsChange current
    → FitsServer (new_server config current)
first_fits config current fits h = record {
  config = fits;
  level = omega arith;
  current = h;
  sessions = tt;
  notices = tt;
  subs = tt;
  apart = tt;
  channels = omega arith;
  conns = tt;
}

pub state_fits : (happenings : List Happening) (s : ServerState) → FitsServer s → AllByRecursion FitsHappening happenings
    → FitsServer (state_after happenings s)
unfolding state_after
state_fits [] s h fits = h
state_fits (happening ∷ earlier) s h fits =
    let kept = after_keeps happening (state_after earlier s) (state_fits earlier s h fits.1) fits.0 in kept.state

first_act_keeps : (happening : Happening) → KeepsAct (first_act happening)
first_act_keeps (Opens number) = tt
first_act_keeps (Hears number one) = tt
first_act_keeps (Closes number) = tt
first_act_keeps (Feeds change) = tt
first_act_keeps (Ticks ms) = tt
first_act_keeps (Levels level) = tt

acts_keep : (happening : Happening) (s : ServerState) → FitsServer s → FitsHappening happening → AllByRecursion KeepsAct (acts happening s)
acts_keep happening s h fits =
    let kept = after_keeps happening s h fits in
    (first_act_keeps happening, all_map KeepsSaid KeepsAct Put (λ said is. is) (after happening s).said kept.said)

history_keeps : (happenings : List Happening) (s : ServerState) → FitsServer s → AllByRecursion FitsHappening happenings
    → AllByRecursion KeepsAct (history happenings s)
unfolding history
history_keeps [] s h fits = tt
history_keeps (happening ∷ earlier) s h fits =
    all_join KeepsAct (reverse (acts happening (state_after earlier s))) (history earlier s)
    (all_reverse KeepsAct (acts happening (state_after earlier s)) (acts_keep happening (state_after earlier s) (state_fits earlier s h fits.1) fits.0))
    (history_keeps earlier s h fits.1)

pub life_fits : (config : ServerConfig) (current : List Change) (happenings : List Happening) → FitsConfig config → AllByRecursion FitsChange current
    → AllByRecursion FitsHappening happenings → FitsServer (state_after happenings (new_server config current))
life_fits config current happenings c h fits = state_fits happenings (new_server config current) (first_fits config current c h) fits

pub life_keeps : (config : ServerConfig) (current : List Change) (happenings : List Happening) → FitsConfig config → AllByRecursion FitsChange current
    → AllByRecursion FitsHappening happenings → AllByRecursion KeepsAct (history happenings (new_server config current))
life_keeps config current happenings c h fits = history_keeps happenings (new_server config current) (first_fits config current c h) fits
