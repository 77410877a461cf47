-- The table of the lines that are a word and up to two numbers: beside `set`, `items` and `change` all lines are such.
use Rattle.std.specs.Prelude.{ℕ, List, [], ◌∷◌, Bool, true, false, Option, codes, find, ◌&&◌}
use Rattle.std.specs.Str.{bytes_eq}
use Rattle.scenario.specs.declared.table.Name.{Name}
use Rattle.scenario.specs.declared.table.Name.TheVariants as name
use Rattle.scenario.specs.declared.table.Numbers.{Numbers}
use Rattle.scenario.specs.declared.table.Numbers.TheVariants as numbers
use Rattle.scenario.specs.declared.table.Argument.{Argument}
use Rattle.scenario.specs.declared.table.Argument.TheVariants.{Server, Item, From}
use Rattle.scenario.specs.declared.table.Arguments.{Arguments}
use Rattle.scenario.specs.declared.table.Arguments.TheVariants.{Nothing, One, Two}
use Rattle.scenario.specs.declared.table.Modes.{Modes}
use Rattle.scenario.specs.declared.table.Modes.TheVariants.{All, Direct, OverBytes}
use Rattle.scenario.specs.declared.table.Group.{Group}
use Rattle.scenario.specs.declared.table.Group.TheVariants.{Common, Links, Servers, Listeners}
use Rattle.scenario.specs.declared.table.Need.{Need}
use Rattle.scenario.specs.declared.table.Need.TheVariants as need
use Rattle.scenario.specs.declared.table.Row.{Row}
use Rattle.scenario.specs.declared.line.Line.{Line}
use Rattle.scenario.specs.declared.line.Line.TheVariants as line
use Rattle.scenario.specs.declared.shape.Shape.{Shape}
use Rattle.scenario.specs.declared.shape.Shape.TheVariants as shape

abbrev pub row_with : Group → Modes → Arguments → Need → Row
row_with group modes arguments need = record { group = group; modes = modes; arguments = arguments; need = need }

-- the word of a line
abbrev pub word_of : Name → List ℕ
word_of name.Feed = codes "feed"
word_of name.Take = codes "take"
word_of name.Tick = codes "tick"
word_of name.Pass = codes "pass"
word_of name.Piece = codes "piece"
word_of name.Level = codes "level"
word_of name.Stop = codes "stop"
word_of name.Start = codes "start"
word_of name.Cut = codes "cut"
word_of name.Half = codes "half"
word_of name.Hold = codes "hold"
word_of name.Free = codes "free"
word_of name.Listen = codes "listen"
word_of name.Unlisten = codes "unlisten"
word_of name.End = codes "end"

-- the group of lines that it is of, the modes that it is of, its numbers, and what it needs of the lines before
abbrev pub row_of : Name → Row
row_of name.Feed = row_with Common All (Two Server (From 1 200000)) need.Running
row_of name.Take = row_with Common Direct (Two Server (From 1 1000)) need.Running
row_of name.Tick = row_with Common OverBytes (One (From 1 3600000)) need.Nothing
row_of name.Pass = row_with Common OverBytes (One (From 1 1000)) need.Nothing
row_of name.Piece = row_with Common OverBytes (One (From 1 1048576)) need.Nothing
row_of name.Level = row_with Servers OverBytes (Two Server (From 0 255)) need.Running
row_of name.Stop = row_with Servers All (One Server) need.Running
row_of name.Start = row_with Servers All (One Server) need.Stopped
row_of name.Cut = row_with Links OverBytes (One Server) need.Nothing
row_of name.Half = row_with Links OverBytes (One Server) need.Nothing
row_of name.Hold = row_with Servers OverBytes (One Server) need.Nothing
row_of name.Free = row_with Servers OverBytes (One Server) need.Nothing
row_of name.Listen = row_with Listeners All (One Item) need.Listener
row_of name.Unlisten = row_with Listeners All (One (From 1 255)) need.Attached
row_of name.End = row_with Common All Nothing need.Nothing

abbrev pub names : List Name
names =
    name.Feed ∷ name.Take ∷ name.Tick ∷ name.Pass ∷ name.Piece ∷ name.Level ∷ name.Stop ∷ name.Start ∷ name.Cut
    ∷ name.Half ∷ name.Hold ∷ name.Free ∷ name.Listen ∷ name.Unlisten ∷ name.End ∷ []

-- the name whose word it is
abbrev pub name_of : List ℕ → Option Name
name_of word = find (λ other. bytes_eq (word_of other) word) names

-- the first and the second of some numbers, or 0
abbrev pub first_of : Numbers → ℕ
first_of numbers.Nothing = 0
first_of (numbers.One first) = first
first_of (numbers.Two first second) = first

abbrev pub second_of : Numbers → ℕ
second_of (numbers.Two first second) = second
second_of _ = 0

-- the line of a name and its numbers; a number that it doesn't have counts for nothing
abbrev pub line_with : Name → ℕ → ℕ → Line
line_with name.Feed server count = line.Feed server count
line_with name.Take server count = line.Take server count
line_with name.Tick ms _ = line.Tick ms
line_with name.Pass rounds _ = line.Pass rounds
line_with name.Piece bytes _ = line.Piece bytes
line_with name.Level server level = line.Level server level
line_with name.Stop server _ = line.Stop server
line_with name.Start server _ = line.Start server
line_with name.Cut server _ = line.Cut server
line_with name.Half server _ = line.Half server
line_with name.Hold server _ = line.Hold server
line_with name.Free server _ = line.Free server
line_with name.Listen item _ = line.Listen item
line_with name.Unlisten id _ = line.Unlisten id
line_with name.End _ _ = line.End

-- the name and the numbers of a line; three lines are of a kind of their own
abbrev pub shape_of : Line → Shape
shape_of (line.Set mode servers) = shape.Set mode servers
shape_of (line.Items items queue oldest) = shape.Items items queue oldest
shape_of (line.Change change) = shape.Change change
shape_of (line.Feed server count) = shape.Plain name.Feed (numbers.Two server count)
shape_of (line.Take server count) = shape.Plain name.Take (numbers.Two server count)
shape_of (line.Tick ms) = shape.Plain name.Tick (numbers.One ms)
shape_of (line.Pass rounds) = shape.Plain name.Pass (numbers.One rounds)
shape_of (line.Piece bytes) = shape.Plain name.Piece (numbers.One bytes)
shape_of (line.Level server level) = shape.Plain name.Level (numbers.Two server level)
shape_of (line.Stop server) = shape.Plain name.Stop (numbers.One server)
shape_of (line.Start server) = shape.Plain name.Start (numbers.One server)
shape_of (line.Cut server) = shape.Plain name.Cut (numbers.One server)
shape_of (line.Half server) = shape.Plain name.Half (numbers.One server)
shape_of (line.Hold server) = shape.Plain name.Hold (numbers.One server)
shape_of (line.Free server) = shape.Plain name.Free (numbers.One server)
shape_of (line.Listen item) = shape.Plain name.Listen (numbers.One item)
shape_of (line.Unlisten id) = shape.Plain name.Unlisten (numbers.One id)
shape_of line.End = shape.Plain name.End numbers.Nothing

-- as many numbers as the line has
abbrev pub counts : Arguments → Numbers → Bool
counts Nothing numbers.Nothing = true
counts (One a) (numbers.One first) = true
counts (Two a b) (numbers.Two first second) = true
counts _ _ = false

-- each number passes the test of its argument
abbrev pub all_pass : (Argument → ℕ → Bool) → Arguments → Numbers → Bool
all_pass test (One a) (numbers.One first) = test a first
all_pass test (Two a b) (numbers.Two first second) = test a first && test b second
all_pass test _ _ = true
