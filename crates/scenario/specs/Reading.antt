-- What a reader recalls of the lines before, so that no line needs to be looked at again.
use Rattle.std.specs.Prelude.{◌≡◌, ℕ, ◌+◌, ◌-◌, ◌<◌, ◌≤◌, List, [], ◌∷◌, ◌++◌, true, false, Result, Ok, Err, length}
use Rattle.std.specs.Prelude.{slice_index_or, slice_set, replicate}
use Rattle.set_model.specs.Source.{End, IsEndOf}
use Rattle.scenario.specs.declared.line.Line.{Line}
use Rattle.scenario.specs.declared.line.Line.TheVariants as line
use Rattle.scenario.specs.declared.fault.FaultKind.{FaultKind}
use Rattle.scenario.specs.declared.fault.ReadError.{ReadError}
use Rattle.scenario.specs.declared.fault.ReadError.TheVariants as errors
use Rattle.scenario.specs.declared.tally.Life.{Life}
use Rattle.scenario.specs.declared.tally.Tally.{Tally}
use Rattle.scenario.specs.declared.table.Argument.{Argument}
use Rattle.scenario.specs.declared.table.Argument.TheVariants as argument
use Rattle.scenario.specs.declared.table.Arguments.{Arguments}
use Rattle.scenario.specs.declared.table.Arguments.TheVariants as arguments
use Rattle.scenario.specs.declared.table.Need.{Need}
use Rattle.scenario.specs.declared.table.Need.TheVariants as need
use Rattle.scenario.specs.Faults.{is_within}
use Rattle.scenario.specs.Past.{is_direct, is_direct_in, servers_in, items_in, changes_in, is_running, boot_of}
use Rattle.scenario.specs.Past.{has_ended, listens_in, attached_in}

-- the number fits the type that the line has for it
abbrev pub IsSmall : Argument → ℕ → Type 0
IsSmall argument.Server number = number ≤ 255
IsSmall argument.Item number = number ≤ 255
IsSmall (argument.From low high) number = number ≤ high

abbrev pub AreSmall : Arguments → ℕ → ℕ → Type 0
AreSmall arguments.Nothing first second = Unit {0}
AreSmall (arguments.One a) first second = IsSmall a first
AreSmall (arguments.Two a b) first second = IsSmall a first × IsSmall b second

-- where a line needs a server that runs or doesn't, the number is that of one
abbrev pub NamesServer : List Line → Need → ℕ → Type 0
NamesServer before need.Running server = is_within 1 (servers_in before) server ≡ true
NamesServer before need.Stopped server = is_within 1 (servers_in before) server ≡ true
NamesServer before _ number = Unit {0}

-- a server before any line speaks of it
abbrev pub fresh : Life
fresh = record { running = true; boot = 1 }

abbrev pub life_of : ℕ → List Line → Life
life_of server lines = record { running = is_running server lines; boot = boot_of server lines }

abbrev pub life_in : Tally → ℕ → Life
life_in tally server = slice_index_or tally.lives (server - 1) fresh

abbrev pub with_life : Tally → ℕ → Life → Tally
with_life tally server life = record tally { lives = slice_set tally.lives (server - 1) life }

abbrev pub blank_tally : Tally
blank_tally = record {
  direct = false;
  servers = 0;
  items = 0;
  changes = 0;
  lives = replicate 8 fresh;
  listens = 0;
  ended = false;
}

-- what is recalled after one line more
abbrev pub tally_after : Tally → Line → Tally
tally_after tally (line.Set mode servers) = record tally { direct = is_direct mode; servers = servers }
tally_after tally (line.Items items queue oldest) = record tally { items = items }
tally_after tally (line.Change change) = record tally { changes = tally.changes + 1 }
tally_after tally (line.Stop server) =
    with_life tally server (record { running = false; boot = (life_in tally server).boot })
tally_after tally (line.Start server) =
    with_life tally server (record { running = true; boot = (life_in tally server).boot + 1 })
tally_after tally (line.Listen item) = record tally { listens = tally.listens + 1 }
tally_after tally line.End = record tally { ended = true }
tally_after tally _ = tally

-- what is recalled has room for the line
abbrev pub HasRoom : Tally → Line → Type 0
HasRoom tally (line.Stop server) = (1 ≤ server) × (server ≤ 8)
HasRoom tally (line.Start server) = (1 ≤ server) × (server ≤ 8) × ((life_in tally server).boot < 65535)
HasRoom tally (line.Change change) = tally.changes < 200000
HasRoom tally (line.Listen item) = tally.listens < 255
HasRoom tally _ = Unit {0}

-- the end of the source has room for the line
abbrev pub EndHasRoom : End → Line → Type 0
EndHasRoom end (line.Change change) = end.count < 200000
EndHasRoom end _ = Unit {0}

-- what is recalled is what the lines say
pub record Recalls (lines : List Line) (end : End) (tally : Tally) (attached : List ℕ) : Type 0 where
  pub source_is : IsEndOf end (changes_in lines)
  pub direct_is : tally.direct ≡ is_direct_in lines
  pub servers_are : tally.servers ≡ servers_in lines
  pub few_servers : tally.servers ≤ 8
  pub items_are : tally.items ≡ items_in lines
  pub few_items : tally.items ≤ 64
  pub changes_are : tally.changes ≡ length (changes_in lines)
  pub lives_are : (server : ℕ) → server < 8 → slice_index_or tally.lives server fresh ≡ life_of (server + 1) lines
  pub listens_are : tally.listens ≡ listens_in lines
  pub ended_is : tally.ended ≡ has_ended lines
  pub attached_are : attached ≡ attached_in lines

-- a line that may follow these
abbrev pub MayFollow : List Line → Line → Type 0
MayFollow lines (line.Set mode servers) = (length lines ≡ 0) × (servers ≤ 8)
MayFollow lines (line.Items items queue oldest) = (length lines ≡ 1) × (items ≤ 64)
MayFollow lines (line.Change change) = length (changes_in lines) < 200000
MayFollow lines (line.Stop server) = (1 ≤ server) × (server ≤ servers_in lines)
MayFollow lines (line.Start server) = (1 ≤ server) × (server ≤ servers_in lines) × (boot_of server lines < 65535)
MayFollow lines (line.Listen item) = listens_in lines < 255
MayFollow lines _ = Unit {0}

-- what a step answers and leaves, where the line's verdict is known; after want of memory nothing changed
abbrev pub Steps : Result Line FaultKind → List Line → Result Line ReadError → List Line → Type 0
Steps said old (Ok l) new = (said ≡ Ok l) × (new ≡ old ++ l ∷ [])
Steps said old (Err (errors.Fault fault)) new =
    (said ≡ Err fault.kind) × (fault.line ≡ length old + 1) × (new ≡ old)
Steps said old (Err errors.OutOfMemory) new = new ≡ old
