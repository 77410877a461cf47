-- A life as a history of acts: what came, and what the server said then.
use Rattle.std.specs.Prelude.{ℕ, List, [], ◌∷◌, ◌++◌, map, reverse}
use Rattle.set_model.specs.declared.source.Change.{Change}
use Rattle.ua_channel.specs.declared.heard.Heard.{Heard}
use Rattle.server_rules.specs.State.{ServerState}
use Rattle.server_rules.specs.Said.{Said}
use Rattle.server_rules.specs.Step.{Happening, Opens, Hears, Closes, Feeds, Ticks, Levels, after}

pub data ServerAct : Type 0 where
  Began : ℕ → ServerAct
  Ended : ℕ → ServerAct
  Took : ℕ → Heard → ServerAct
  Put : Said → ServerAct
  Fed : Change → ServerAct
  Ticked : ServerAct
  Leveled : ServerAct

abbrev pub first_act : Happening → ServerAct
first_act (Opens number) = Began number
first_act (Hears number h) = Took number h
first_act (Closes number) = Ended number
first_act (Feeds change) = Fed change
first_act (Ticks ms) = Ticked
first_act (Levels level) = Leveled

-- what happens, and all that is said then, in order
abbrev pub acts : Happening → ServerState → List ServerAct
acts happening s = first_act happening ∷ map Put (after happening s).said

-- ---- lives, by what happened in them, newest first

unfoldable pub state_after : List Happening → ServerState → ServerState
state_after [] s = s
state_after (happening ∷ earlier) s = (after happening (state_after earlier s)).state

-- newest first too
unfoldable pub history : List Happening → ServerState → List ServerAct
history [] s = []
history (happening ∷ earlier) s = reverse (acts happening (state_after earlier s)) ++ history earlier s
