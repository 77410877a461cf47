-- What the lines of a scenario are, said of the lines alone.
use Rattle.std.specs.Prelude.{◌≡◌, Some, None, ℕ, ◌<◌, ◌≤◌, ◌^◌, pos, List, [], ◌∷◌, ◌++◌, Bool, true, false}
use Rattle.std.specs.Prelude.{length}
use Rattle.ua_base.specs.declared.modes.SetMode.{SetMode}
use Rattle.set_model.specs.declared.source.Change.{Change}
use Rattle.set_model.specs.Source.{Follows, IsSource, last_of}
use Rattle.scenario.specs.declared.line.Line.{Line}
use Rattle.scenario.specs.declared.line.Line.TheVariants as line
use Rattle.scenario.specs.declared.rules.Rules.{Rules}
use Rattle.scenario.specs.declared.shape.Shape.{Shape}
use Rattle.scenario.specs.declared.shape.Shape.TheVariants as shape
use Rattle.scenario.specs.declared.table.Argument.{Argument}
use Rattle.scenario.specs.declared.table.Argument.TheVariants as argument
use Rattle.scenario.specs.declared.table.Arguments.{Arguments}
use Rattle.scenario.specs.declared.table.Arguments.TheVariants as arguments
use Rattle.scenario.specs.declared.table.Need.{Need}
use Rattle.scenario.specs.declared.table.Need.TheVariants as need
use Rattle.scenario.specs.declared.table.Numbers.{Numbers}
use Rattle.scenario.specs.declared.table.Numbers.TheVariants as numbers
use Rattle.scenario.specs.declared.table.Row.{Row}
use Rattle.scenario.specs.Table.{shape_of, row_of, first_of}
use Rattle.scenario.specs.Rules.{allows, allows_rule, allows_set}
use Rattle.scenario.specs.Texts.{line_text}
use Rattle.scenario.specs.Past.{is_direct_in, servers_in, items_in, changes_in, is_running, boot_of, ends, has_ended}
use Rattle.scenario.specs.Past.{listens_in, attached_in}
use Rattle.scenario.specs.Faults.{fault_of, fits_mode, fits_value, is_attached}

abbrev pub IsFrom : ℕ → ℕ → ℕ → Type 0
IsFrom low high number = (low ≤ number) × (number ≤ high)

-- a number of a line, in a set with so many servers and items
abbrev pub Suits : ℕ → ℕ → Argument → ℕ → Type 0
Suits servers items argument.Server number = IsFrom 1 servers number
Suits servers items argument.Item number = IsFrom 1 items number
Suits servers items (argument.From low high) number = IsFrom low high number

-- the numbers of a line: as many as it has, each as it must be
abbrev pub AllSuit : ℕ → ℕ → Arguments → Numbers → Type 0
AllSuit servers items arguments.Nothing numbers.Nothing = Unit {0}
AllSuit servers items (arguments.One a) (numbers.One first) = Suits servers items a first
AllSuit servers items (arguments.Two a b) (numbers.Two first second) =
    Suits servers items a first × Suits servers items b second
AllSuit servers items _ _ = ⊥

abbrev pub ShapeFits : ℕ → ℕ → Shape → Type 0
ShapeFits servers items (shape.Set mode count) = ⊥
ShapeFits servers items (shape.Items count queue oldest) = ⊥
ShapeFits servers items (shape.Change change) = IsFrom 1 items change.item
ShapeFits servers items (shape.Plain name said) = AllSuit servers items (row_of name).arguments said

-- a line between the second and the last, of a set with so many servers and items
abbrev pub Fits : ℕ → ℕ → Line → Type 0
Fits servers items l = (ends l ≡ false) × ShapeFits servers items (shape_of l)

abbrev pub AllFit : ℕ → ℕ → List Line → Type 0
AllFit servers items [] = Unit {0}
AllFit servers items (l ∷ ls) = Fits servers items l × AllFit servers items ls

-- the set, the items, lines that fit them, and `end`; all changes together are a source; no server's boot number passes
-- its type
pub record IsScenario (rules : Rules) (lines : List Line) : Type 0 where
  pub mode : SetMode
  pub servers : ℕ
  pub items : ℕ
  pub queue : ℕ
  pub oldest : Bool
  pub body : List Line
  pub lines_are : lines ≡ line.Set mode servers ∷ (line.Items items queue oldest ∷ (body ++ line.End ∷ []))
  pub set_allowed : allows_set rules.sets mode servers ≡ true
  pub rule_allowed : allows_rule rules.allowed oldest ≡ true
  pub servers_fit : IsFrom 1 8 servers
  pub items_fit : IsFrom 1 64 items
  pub queue_fits : IsFrom 2 1000 queue
  pub body_fits : AllFit servers items body
  pub source : IsSource (changes_in lines)
  pub few_changes : length (changes_in lines) ≤ 200000
  pub changes_allowed : length (changes_in lines) ≤ rules.changes
  pub few_lines : length lines ≤ rules.lines
  pub few_listens : listens_in lines ≤ rules.pool
  pub few_boots : (server : ℕ) → boot_of server lines ≤ 65535

-- nothing is wrong with any of these lines after those before it
abbrev pub AllAllowed : Rules → List Line → List Line → Type 0
AllAllowed rules before [] = Unit {0}
AllAllowed rules before (l ∷ ls) = (fault_of rules before (line_text l) ≡ None) × AllAllowed rules (before ++ l ∷ []) ls

-- after the first two lines, and before `end`
abbrev pub IsBetween : List Line → Type 0
IsBetween before = (2 ≤ length before) × (has_ended before ≡ false)

-- a change of one of so many items
pub record IsChange (items : ℕ) (change : Change) : Type 0 where
  pub time : ℕ
  pub item_fits : IsFrom 1 items change.item
  pub time_is : change.time ≡ pos time
  pub time_fits : IsFrom 1 (10 ^ 18) time
  pub pico_fits : change.pico ≤ 9999
  pub value_fits : fits_value change.value ≡ true

-- the source has room for the change, which follows the item's last one
pub record MayCome (rules : Rules) (changes : List Change) (change : Change) : Type 0 where
  pub room : length changes < 200000
  pub allowed : length changes < rules.changes
  pub follows : (last : Change) → last_of change.item changes ≡ Some last → Follows last change

-- a listener is left: in the pool, of the ids, and of those that may listen at a time
pub record HasListener (rules : Rules) (before : List Line) : Type 0 where
  pub in_pool : listens_in before < rules.pool
  pub has_id : listens_in before < 255
  pub few : length (attached_in before) < 16

-- what a line needs of the lines before, where its first number is this
abbrev pub Meets : Rules → List Line → Need → ℕ → Type 0
Meets rules before need.Nothing number = Unit {0}
Meets rules before need.Running server = is_running server before ≡ true
Meets rules before need.Stopped server = (is_running server before ≡ false) × (boot_of server before < 65535)
Meets rules before need.Listener item = HasListener rules before
Meets rules before need.Attached id = is_attached before id ≡ true

-- a line with this row of the table may stand after these, with these numbers
pub record RowStands (rules : Rules) (before : List Line) (row : Row) (said : Numbers) : Type 0 where
  pub between : IsBetween before
  pub allowed : allows rules.allowed row.group ≡ true
  pub of_mode : fits_mode row.modes (is_direct_in before) ≡ true
  pub suit : AllSuit (servers_in before) (items_in before) row.arguments said
  pub needs : Meets rules before row.need (first_of said)

abbrev pub ShapeStands : Rules → List Line → Shape → Type 0
ShapeStands rules before (shape.Set mode servers) =
    (length before ≡ 0) × (allows_set rules.sets mode servers ≡ true) × IsFrom 1 8 servers
ShapeStands rules before (shape.Items items queue oldest) =
    (length before ≡ 1) × (allows_rule rules.allowed oldest ≡ true) × IsFrom 1 64 items × IsFrom 2 1000 queue
ShapeStands rules before (shape.Change change) =
    IsBetween before × IsChange (items_in before) change × MayCome rules (changes_in before) change
ShapeStands rules before (shape.Plain name said) = RowStands rules before (row_of name) said

-- a line that may stand after these
abbrev pub Stands : Rules → List Line → Line → Type 0
Stands rules before l = ShapeStands rules before (shape_of l)

-- each of these lines may stand after those before it
abbrev pub AllStand : Rules → List Line → List Line → Type 0
AllStand rules before [] = Unit {0}
AllStand rules before (l ∷ ls) = Stands rules before l × AllStand rules (before ++ l ∷ []) ls
