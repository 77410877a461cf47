-- The switches in a client's log.
use Rattle.std.specs.Prelude.{List, [], ◌∷◌, ◌++◌, Bool, true, false, filter}
use Rattle.set_model.specs.declared.line.LogLine.{LogLine}
use Rattle.set_model.specs.declared.line.LogLine.TheVariants as line
use Rattle.client_rules.specs.Acts.{ClientAct, Happened, Tells, Says, Switches}

abbrev pub is_switch : LogLine → Bool
is_switch (line.Switch from to) = true
is_switch other = false

abbrev pub switch_lines : List LogLine → List LogLine
switch_lines lines = filter is_switch lines

abbrev pub switch_in : ClientAct → List LogLine
switch_in (Switches from to) = line.Switch from to ∷ []
switch_in other = []

-- those of these acts, in their order
abbrev pub switches_of : List ClientAct → List LogLine
switches_of [] = []
switches_of (act ∷ acts) = switch_in act ++ switches_of acts
