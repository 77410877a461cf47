-- What is wrong with a line after the lines before it: the first kind that fits.
use Rattle.std.specs.Prelude.{◌==◌, ℕ, ◌^◌, ℤ, pos, negsuc, List, [], ◌∷◌, Bool, true, false, not, ◌&&◌, ◌||◌, Option}
use Rattle.std.specs.Prelude.{Some, None, Result, Ok, Err, codes, length, if◌then◌else◌, nat_le, nat_lt}
use Rattle.std.specs.Str.{bytes_eq}
use Rattle.std.specs.List.{list_any}
use Rattle.set_model.specs.declared.source.Change.{Change}
use Rattle.set_model.specs.declared.source.SourceFault.{SourceFault}
use Rattle.set_model.specs.declared.source.SourceFault.TheVariants as source
use Rattle.set_model.specs.Source.{refusal}
use Rattle.scenario.specs.declared.form.Form.{Form}
use Rattle.scenario.specs.declared.form.Form.TheVariants as form
use Rattle.scenario.specs.declared.line.Line.{Line}
use Rattle.scenario.specs.declared.line.Line.TheVariants as line
use Rattle.scenario.specs.declared.fault.FaultKind.{FaultKind}
use Rattle.scenario.specs.declared.fault.FaultKind.TheVariants as kind
use Rattle.scenario.specs.declared.rules.Rules.{Rules}
use Rattle.scenario.specs.declared.table.Argument.{Argument}
use Rattle.scenario.specs.declared.table.Argument.TheVariants as argument
use Rattle.scenario.specs.declared.table.Modes.{Modes}
use Rattle.scenario.specs.declared.table.Modes.TheVariants as modes
use Rattle.scenario.specs.declared.table.Need.{Need}
use Rattle.scenario.specs.declared.table.Need.TheVariants as need
use Rattle.scenario.specs.declared.table.Numbers.{Numbers}
use Rattle.scenario.specs.declared.table.Row.{Row}
use Rattle.scenario.specs.Words.{words_of}
use Rattle.scenario.specs.Grammar.{form_of}
use Rattle.scenario.specs.Table.{row_of, first_of, second_of, line_with, counts, all_pass}
use Rattle.scenario.specs.Rules.{allows, allows_rule, allows_set}
use Rattle.scenario.specs.Past.{is_direct_in, servers_in, items_in, changes_in, is_running, boot_of, has_ended}
use Rattle.scenario.specs.Past.{listens_in, attached_in}

abbrev pub first_is : List (List ℕ) → List ℕ → Bool
first_is [] name = false
first_is (word ∷ words) name = bytes_eq word name

-- MissingSet: the first line's first word is not `set`, or the second's not `items`
abbrev pub misses_set : ℕ → List (List ℕ) → Bool
misses_set before words =
    if before == 0 then not (first_is words (codes "set"))
    else if before == 1 then not (first_is words (codes "items"))
    else false

-- after the first two lines, and not after `end`
abbrev pub is_between : List Line → Bool
is_between before = nat_le 2 (length before) && not (has_ended before)

-- a line of these modes may stand in a set that is direct or isn't
abbrev pub fits_mode : Modes → Bool → Bool
fits_mode modes.All direct = true
fits_mode modes.Direct direct = direct
fits_mode modes.OverBytes direct = not direct

-- a line of this row may stand in the set, and has as many numbers
abbrev pub is_plain : Rules → List Line → Row → Numbers → Bool
is_plain rules before row said =
    allows rules.allowed row.group && fits_mode row.modes (is_direct_in before) && counts row.arguments said

-- BadLine, for a line with a form: `set` stands first alone, `items` second alone, and nothing after `end`; and the
-- line isn't one of the command's, or of the set's mode, or has not its numbers
abbrev pub is_in_place : Rules → List Line → Form → Bool
is_in_place rules before (form.Set mode servers) = (length before == 0) && allows_set rules.sets mode servers
is_in_place rules before (form.Items items queue oldest) = (length before == 1) && allows_rule rules.allowed oldest
is_in_place rules before (form.Change item time pico value) = is_between before
is_in_place rules before (form.Plain name said) = is_between before && is_plain rules before (row_of name) said

abbrev pub is_within : ℕ → ℕ → ℕ → Bool
is_within low high number = nat_le low number && nat_le number high

-- whether 64 bits with a sign hold it
abbrev pub fits_value : ℤ → Bool
fits_value (pos number) = nat_lt number (2 ^ 63)
fits_value (negsuc below) = nat_lt below (2 ^ 63)

-- picoseconds in steps of ten, within the 100 ns of a time; where none are said they are 0
abbrev pub pico_of : Option ℕ → ℕ
pico_of None = 0
pico_of (Some pico) = pico

abbrev pub in_bounds : Argument → ℕ → Bool
in_bounds (argument.From low high) number = is_within low high number
in_bounds _ number = true

-- OutOfRange
abbrev pub is_in_range : Form → Bool
is_in_range (form.Set mode servers) = is_within 1 8 servers
is_in_range (form.Items items queue oldest) = is_within 1 64 items && is_within 2 1000 queue
is_in_range (form.Change item time pico value) =
    is_within 1 (10 ^ 18) time && is_within 0 9999 (pico_of pico) && fits_value value
is_in_range (form.Plain name said) = all_pass in_bounds (row_of name).arguments said

-- NoSuchServer: where there are so many
abbrev pub is_server : ℕ → Argument → ℕ → Bool
is_server servers argument.Server number = is_within 1 servers number
is_server servers _ number = true

abbrev pub has_its_server : List Line → Form → Bool
has_its_server before (form.Plain name said) = all_pass (is_server (servers_in before)) (row_of name).arguments said
has_its_server before _ = true

-- NoSuchItem: where there are so many
abbrev pub is_item : ℕ → Argument → ℕ → Bool
is_item items argument.Item number = is_within 1 items number
is_item items _ number = true

abbrev pub has_item : List Line → ℕ → Bool
has_item before item = is_within 1 (items_in before) item

abbrev pub has_its_item : List Line → Form → Bool
has_its_item before (form.Change item time pico value) = has_item before item
has_its_item before (form.Plain name said) = all_pass (is_item (items_in before)) (row_of name).arguments said
has_its_item before _ = true

-- NotRunning
abbrev pub lacks_running : List Line → Need → ℕ → Bool
lacks_running before need.Running server = not (is_running server before)
lacks_running before _ server = false

abbrev pub needs_running : List Line → Form → Bool
needs_running before (form.Plain name said) = lacks_running before (row_of name).need (first_of said)
needs_running before _ = false

-- AlreadyRunning
abbrev pub runs_already : List Line → Need → ℕ → Bool
runs_already before need.Stopped server = is_running server before
runs_already before _ server = false

abbrev pub starts_running : List Line → Form → Bool
starts_running before (form.Plain name said) = runs_already before (row_of name).need (first_of said)
starts_running before _ = false

-- TooManyStarts
abbrev pub lacks_boot : List Line → Need → ℕ → Bool
lacks_boot before need.Stopped server = nat_le 65535 (boot_of server before)
lacks_boot before _ server = false

abbrev pub starts_too_often : List Line → Form → Bool
starts_too_often before (form.Plain name said) = lacks_boot before (row_of name).need (first_of said)
starts_too_often before _ = false

abbrev pub the_change : ℕ → ℕ → Option ℕ → ℤ → Change
the_change item time pico value = record { item = item; time = pos time; pico = pico_of pico; value = value }

-- TooMany, TimeNotRising and SameValue, by why the source refuses a change
abbrev pub kind_of_refusal : Option SourceFault → Option FaultKind
kind_of_refusal (Some source.Full) = Some kind.TooMany
kind_of_refusal (Some (source.TimeNotRising last)) = Some kind.TimeNotRising
kind_of_refusal (Some source.SameValue) = Some kind.SameValue
kind_of_refusal _ = None

abbrev pub change_fault : Rules → List Line → Change → Option FaultKind
change_fault rules before change =
    if nat_le rules.changes (length (changes_in before)) then Some kind.TooMany
    else kind_of_refusal (refusal (changes_in before) change)

abbrev pub source_fault : Rules → List Line → Form → Option FaultKind
source_fault rules before (form.Change item time pico value) =
    change_fault rules before (the_change item time pico value)
source_fault rules before _ = None

-- NoListener
abbrev pub has_no_listener : Rules → List Line → Bool
has_no_listener rules before =
    nat_le rules.pool (listens_in before) || nat_le 16 (length (attached_in before)) || nat_le 255 (listens_in before)

abbrev pub finds_no_listener : Rules → List Line → Need → Bool
finds_no_listener rules before need.Listener = has_no_listener rules before
finds_no_listener rules before _ = false

abbrev pub lacks_listener : Rules → List Line → Form → Bool
lacks_listener rules before (form.Plain name said) = finds_no_listener rules before (row_of name).need
lacks_listener rules before _ = false

-- NoSuchListener
abbrev pub is_attached : List Line → ℕ → Bool
is_attached before id = list_any (λ other. other == id) (attached_in before)

abbrev pub is_unattached : List Line → Need → ℕ → Bool
is_unattached before need.Attached id = not (is_attached before id)
is_unattached before _ id = false

abbrev pub unlistens_none : List Line → Form → Bool
unlistens_none before (form.Plain name said) = is_unattached before (row_of name).need (first_of said)
unlistens_none before _ = false

-- a fault, or else what comes after it in the order
abbrev pub or_fault : Option FaultKind → Option FaultKind → Option FaultKind
or_fault (Some k) more = Some k
or_fault None more = more

abbrev pub listener_fault : Rules → List Line → Form → Option FaultKind
listener_fault rules before f =
    if lacks_listener rules before f then Some kind.NoListener
    else if unlistens_none before f then Some kind.NoSuchListener
    else None

-- the end of the order, for a line of the table: what it needs, and its first number
abbrev pub need_fault : Rules → List Line → Need → ℕ → Option FaultKind
need_fault rules before needed number =
    if lacks_running before needed number then Some kind.NotRunning
    else if runs_already before needed number then Some kind.AlreadyRunning
    else if lacks_boot before needed number then Some kind.TooManyStarts
    else if finds_no_listener rules before needed then Some kind.NoListener
    else if is_unattached before needed number then Some kind.NoSuchListener
    else None

-- the rest of the order, for a line whose numbers are in range
abbrev pub set_fault : Rules → List Line → Form → Option FaultKind
set_fault rules before f =
    if not (has_its_server before f) then Some kind.NoSuchServer
    else if not (has_its_item before f) then Some kind.NoSuchItem
    else if needs_running before f then Some kind.NotRunning
    else if starts_running before f then Some kind.AlreadyRunning
    else if starts_too_often before f then Some kind.TooManyStarts
    else or_fault (source_fault rules before f) (listener_fault rules before f)

-- of a line whose form may stand at its place
abbrev pub content_fault : Rules → List Line → Form → Option FaultKind
content_fault rules before f = if not (is_in_range f) then Some kind.OutOfRange else set_fault rules before f

-- of a line with a form
abbrev pub form_fault : Rules → List Line → Form → Option FaultKind
form_fault rules before f =
    if not (is_in_place rules before f) then Some kind.BadLine else content_fault rules before f

-- a line that has none of the forms is a BadLine
abbrev pub any_form_fault : Rules → List Line → Option Form → Option FaultKind
any_form_fault rules before None = Some kind.BadLine
any_form_fault rules before (Some f) = form_fault rules before f

-- what is wrong with a line, given its form
abbrev pub fault_with : Rules → List Line → List ℕ → Option Form → Option FaultKind
fault_with rules before text its_form =
    if misses_set (length before) (words_of text) then Some kind.MissingSet
    else if nat_le rules.lines (length before) then Some kind.TooLong
    else any_form_fault rules before its_form

-- what is wrong with the text of a line
abbrev pub fault_of : Rules → List Line → List ℕ → Option FaultKind
fault_of rules before text = fault_with rules before text (form_of text)

-- the line of a form with which nothing is wrong
abbrev pub line_of : Form → Line
line_of (form.Set mode servers) = line.Set mode servers
line_of (form.Items items queue oldest) = line.Items items queue oldest
line_of (form.Change item time pico value) = line.Change (the_change item time pico value)
line_of (form.Plain name said) = line_with name (first_of said) (second_of said)

-- the line, unless something is wrong with it
abbrev pub verdict : Option FaultKind → Option Form → Result Line FaultKind
verdict (Some k) its_form = Err k
verdict None None = Err kind.BadLine
verdict None (Some f) = Ok (line_of f)

-- the line that a text says after the lines before it, or what is wrong with it
abbrev pub line_or_fault : Rules → List Line → List ℕ → Result Line FaultKind
line_or_fault rules before text = verdict (fault_of rules before text) (form_of text)

-- the same, of a line whose form may stand at its place
abbrev pub content_verdict : Rules → List Line → Form → Result Line FaultKind
content_verdict rules before f = verdict (content_fault rules before f) (Some f)

-- a number that passes a test, or the fault
abbrev pub tested : {A : Type 0} → Bool → A → FaultKind → Result A FaultKind
tested true answer k = Ok answer
tested false answer k = Err k
