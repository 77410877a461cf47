-- What the lines before say: the set, its servers' lives, the source and the listeners. Lines stand oldest first.
use Rattle.std.specs.Prelude.{◌==◌, ℕ, ◌+◌, List, [], ◌∷◌, ◌++◌, Bool, true, false, not, Option, Some, length}
use Rattle.std.specs.Prelude.{reverse, find, filter}
use Rattle.std.specs.List.{flat_map, list_any}
use Rattle.ua_base.specs.declared.modes.SetMode.{SetMode}
use Rattle.ua_base.specs.declared.modes.SetMode.TheVariants.{Direct}
use Rattle.set_model.specs.declared.source.Change.{Change}
use Rattle.scenario.specs.declared.line.Line.{Line}
use Rattle.scenario.specs.declared.line.Line.TheVariants as line

abbrev pub is_direct : SetMode → Bool
is_direct Direct = true
is_direct _ = false

-- a first line says direct mode
abbrev pub sets_direct : Line → Bool
sets_direct (line.Set mode servers) = is_direct mode
sets_direct _ = false

abbrev pub is_direct_in : List Line → Bool
is_direct_in [] = false
is_direct_in (first ∷ rest) = sets_direct first

-- how many servers a first line says
abbrev pub servers_of : Line → ℕ
servers_of (line.Set mode servers) = servers
servers_of _ = 0

-- how many items a second line says
abbrev pub items_of : Line → ℕ
items_of (line.Items items queue oldest) = items
items_of _ = 0

abbrev pub servers_in : List Line → ℕ
servers_in [] = 0
servers_in (first ∷ rest) = servers_of first

abbrev pub items_in : List Line → ℕ
items_in [] = 0
items_in (first ∷ []) = 0
items_in (first ∷ (second ∷ rest)) = items_of second

abbrev pub change_of : Line → List Change
change_of (line.Change change) = change ∷ []
change_of _ = []

-- the source: all changes
abbrev pub changes_in : List Line → List Change
changes_in lines = flat_map change_of lines

abbrev pub starts : ℕ → Line → Bool
starts server (line.Start other) = other == server
starts server _ = false

-- the line stops or starts the server
abbrev pub turns : ℕ → Line → Bool
turns server (line.Stop other) = other == server
turns server (line.Start other) = other == server
turns server _ = false

-- a server runs until a line stops it
abbrev pub runs_after : Option Line → Bool
runs_after (Some (line.Stop server)) = false
runs_after _ = true

-- the server's last stop or start, if it has one, is no stop
abbrev pub is_running : ℕ → List Line → Bool
is_running server lines = runs_after (find (λ l. turns server l) (reverse lines))

-- how often the server was started
abbrev pub boot_of : ℕ → List Line → ℕ
boot_of server lines = 1 + length (filter (λ l. starts server l) lines)

abbrev pub ends : Line → Bool
ends line.End = true
ends _ = false

abbrev pub has_ended : List Line → Bool
has_ended lines = list_any ends lines

abbrev pub listens : Line → Bool
listens (line.Listen item) = true
listens _ = false

-- how many listen lines there are; the n-th one's listener has the id n
abbrev pub listens_in : List Line → ℕ
listens_in lines = length (filter listens lines)

-- the ids that listen after a line, where `ids` listened before it and `next` is the next listen's
abbrev pub ids_after : ℕ → List ℕ → Line → List ℕ
ids_after next ids (line.Listen item) = ids ++ next ∷ []
ids_after next ids (line.Unlisten id) = filter (λ other. not (other == id)) ids
ids_after next ids _ = ids

-- the same, of lines that stand newest first
abbrev pub attached_before : List Line → List ℕ
attached_before [] = []
attached_before (newest ∷ older) = ids_after (listens_in (reverse older) + 1) (attached_before older) newest

-- the ids of the listens that are without their unlisten
abbrev pub attached_in : List Line → List ℕ
attached_in lines = attached_before (reverse lines)
