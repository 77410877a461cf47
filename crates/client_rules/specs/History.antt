-- A client's log is what its acts come to.
use Rattle.std.specs.Prelude.{◌≡◌, ℕ, List, [], ◌∷◌, Option, Some, None}
use Rattle.ua_base.specs.declared.modes.SetMode.{SetMode}
use Rattle.delivery_log.specs.History.{Act, log_of}
use Rattle.client_rules.specs.State.{ClientState, servers_of}
use Rattle.client_rules.specs.Acts.{ClientAct, seen_of_act}

abbrev pub seen_before : Option Act → List Act → List Act
seen_before None earlier = earlier
seen_before (Some act) earlier = act ∷ earlier

-- what the log sees of acts, newest first, after an earlier history
unfoldable pub history_after : SetMode → ℕ → List ClientAct → List Act → List Act
history_after set items [] earlier = earlier
history_after set items (act ∷ acts) earlier =
    history_after set items acts (seen_before (seen_of_act set items act) earlier)

abbrev pub history_of : ClientState → List ClientAct → List Act
history_of c acts = history_after c.config.mode c.config.items acts []

-- the log of a client that did these acts
abbrev pub IsLogOf : List ClientAct → ClientState → Type 0
IsLogOf acts c = c.log ≡ log_of (servers_of c.config) c.config.items (history_of c acts)
