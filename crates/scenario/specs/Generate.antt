-- Scenarios made from a seed: what the lines are, and the draws that each takes, in their order.
use Rattle.std.specs.Prelude.{ℕ, zero, suc, ◌+◌, ◌-◌, ◌*◌, ◌/◌, ◌%◌, ◌^◌, ◌==◌, pos, List, [], ◌∷◌, ◌++◌, true}
use Rattle.std.specs.Prelude.{length, nat_lt, if◌then◌else◌}
use Rattle.ua_base.specs.declared.modes.SetMode.{SetMode}
use Rattle.ua_base.specs.declared.modes.SetMode.TheVariants.{Hot, Warm, Cold}
use Rattle.set_model.specs.declared.source.Change.{Change}
use Rattle.scenario.specs.declared.line.Line.{Line}
use Rattle.scenario.specs.declared.line.Line.TheVariants as line
use Rattle.scenario.specs.Past.{servers_in, items_in, changes_in, is_running, boot_of}

-- the state after a draw; it begins as the seed
unfoldable pub next_state : ℕ → ℕ
next_state state = (state * 6364136223846793005 + 1442695040888963407) % 2 ^ 64

-- what a draw below a number gives, by the state after it
unfoldable pub drawn : ℕ → ℕ → ℕ
drawn below state = (state / 2 ^ 33) % below

-- what the first and the second draw from a state give
abbrev pub first_draw : ℕ → ℕ → ℕ
first_draw below state = drawn below (next_state state)

abbrev pub second_draw : ℕ → ℕ → ℕ
second_draw below state = first_draw below (next_state state)

-- where a scenario stands: the state, the time of the last change, and the lines so far
pub record Course : Type 0 where
  pub state : ℕ
  pub time : ℕ
  pub lines : List Line

abbrev pub mode_of_draw : ℕ → SetMode
mode_of_draw number = if number == 0 then Hot else if number == 1 then Warm else Cold

-- the first line and the second, each by two draws
abbrev pub set_drawn : ℕ → Line
set_drawn state = line.Set (mode_of_draw (first_draw 3 state)) (2 + second_draw 3 state)

abbrev pub items_drawn : ℕ → Line
items_drawn state = line.Items (1 + first_draw 4 state) (2 + second_draw 9 state) true

abbrev pub begun : ℕ → Course
begun seed = record {
  state = next_state (next_state (next_state (next_state seed)));
  time = 0;
  lines = set_drawn seed ∷ items_drawn (next_state (next_state seed)) ∷ [];
}

-- a server of the set
abbrev pub server_drawn : List Line → ℕ → ℕ
server_drawn before state = 1 + first_draw (servers_in before) state

-- the server starts where it doesn't run and its boot number can rise
abbrev pub start_or_pass : List Line → ℕ → Line
start_or_pass before server =
    if is_running server before then line.Pass 8
    else if nat_lt (boot_of server before) 65535 then line.Start server
    else line.Pass 8

-- a line for a server that runs; one that doesn't starts
abbrev pub run_or_start : List Line → ℕ → Line → Line
run_or_start before server l = if is_running server before then l else start_or_pass before server

abbrev pub level_or_pass : List Line → ℕ → ℕ → Line
level_or_pass before server level = if is_running server before then line.Level server level else line.Pass 8

-- the next change, of an item: its time is above that of the last one, and its value is its number
abbrev pub change_drawn : List Line → ℕ → ℕ → Change
change_drawn before time state = record {
  item = 1 + first_draw (items_in before) state;
  time = pos (time + 1 + second_draw 10 state);
  pico = 0;
  value = pos (length (changes_in before) + 1);
}

-- a line that befalls one server, by a number from 91 to 98
abbrev pub befalling_drawn : List Line → ℕ → ℕ → Line
befalling_drawn before number state =
    if nat_lt number 93 then line.Cut (server_drawn before state)
    else if nat_lt number 94 then line.Half (server_drawn before state)
    else if nat_lt number 95 then line.Hold (server_drawn before state)
    else if nat_lt number 97 then line.Free (server_drawn before state)
    else if nat_lt number 98 then
    run_or_start before (server_drawn before state) (line.Stop (server_drawn before state))
    else start_or_pass before (server_drawn before state)

-- a line that is no change, by a number from 30 to 99
abbrev pub line_drawn : List Line → ℕ → ℕ → Line
line_drawn before number state =
    if nat_lt number 55 then
    run_or_start before (server_drawn before state) (line.Feed (server_drawn before state) (1 + second_draw 3 state))
    else if nat_lt number 75 then line.Pass (1 + first_draw 8 state)
    else if nat_lt number 87 then line.Tick (50 * (1 + first_draw 10 state))
    else if nat_lt number 91 then level_or_pass before (server_drawn before state) (second_draw 256 state)
    else if nat_lt number 99 then befalling_drawn before number state
    else line.Piece (1 + first_draw 4096 state)

-- two draws for a feed and a level, and one for each other
abbrev pub state_drawn : ℕ → ℕ → ℕ
state_drawn number state =
    if nat_lt number 55 then next_state (next_state state)
    else if nat_lt number 87 then next_state state
    else if nat_lt number 91 then next_state (next_state state)
    else next_state state

abbrev pub changed : Course → Course
changed course = record {
  state = next_state (next_state course.state);
  time = course.time + 1 + second_draw 10 course.state;
  lines = course.lines ++ line.Change (change_drawn course.lines course.time course.state) ∷ [];
}

abbrev pub other : ℕ → Course → Course
other number course = record course {
  state = state_drawn number course.state;
  lines = course.lines ++ line_drawn course.lines number course.state ∷ [];
}

-- the line by a number below 100
abbrev pub by_number : ℕ → Course → Course
by_number number course = if nat_lt number 30 then changed course else other number course

abbrev pub one_more : Course → Course
one_more course =
    by_number (first_draw 100 course.state) (record course { state = next_state course.state })

-- so many lines after the first two
abbrev pub course_of : ℕ → ℕ → Course
course_of zero seed = begun seed
course_of (suc count) seed = one_more (course_of count seed)

-- a scenario of so many lines, of which the last is `end`
abbrev pub generated : ℕ → ℕ → List Line
generated seed lines = (course_of (lines - 3) seed).lines ++ line.End ∷ []
