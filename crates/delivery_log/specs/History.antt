-- What happened to a client's log, newest first, and what it comes to: the lines, the joints and the stamps delivered,
-- told from the history alone.
use Rattle.std.specs.Prelude.{◌≡◌, ◌==◌, ◌&&◌, ℕ, ◌≤◌, List, [], ◌∷◌, ◌++◌, Option, Some, None, if◌then◌else◌}
use Rattle.set_model.specs.declared.line.Arrived.{Arrived}
use Rattle.set_model.specs.declared.line.GapCause.TheVariants.{Late}
use Rattle.set_model.specs.declared.line.LogLine.{LogLine}
use Rattle.set_model.specs.declared.stamp.Stamp.{Stamp}
use Rattle.delivery_log.specs.declared.rule.Joint.{Joint}
use Rattle.delivery_log.specs.declared.rule.Joint.TheVariants.{Open}
use Rattle.delivery_log.specs.declared.rule.Turn.{Turn}
use Rattle.delivery_log.specs.Judge.{joint_after, later, turned}
use Rattle.delivery_log.specs.State.{LogState}
use Rattle.delivery_log.specs.Log.{IsServerWithin, IsWithin, entered, entry_lines, joint_at, last_kept, new_log, noted, taken_over, with_all_turned, with_joint, with_turned}

-- an entry of a server and item is entered; their joint is set; something befalls their joint, or all joints of a
-- server; a line is noted
pub data Act : Type 0 where
  Enter : (server item : ℕ) → (entry : Arrived) → Act
  Set : (server item : ℕ) → (joint : Joint) → Act
  TurnOne : (server item : ℕ) → (turn : Turn) → Act
  TurnAll : (server : ℕ) → (turn : Turn) → Act
  Note : (line : LogLine) → Act

-- the stamp of an item's last data line after an act, from the one before it
abbrev pub last_by : ℕ → Act → Option Stamp → Option Stamp
last_by item (Enter server i entry) last = if i == item then later last entry.time else last
last_by item (Set server i joint) last = last
last_by item (TurnOne server i turn) last = last
last_by item (TurnAll server turn) last = last
last_by item (Note line) last = last

-- the stamp of an item's last data line
abbrev pub last_stamp : ℕ → List Act → Option Stamp
last_stamp item [] = None
last_stamp item (act ∷ earlier) = last_by item act (last_stamp item earlier)

-- the joint of a server and item after an act, from the one before it
abbrev pub joint_by : ℕ → ℕ → Act → Joint → Joint
joint_by server item (Enter s i entry) joint =
    if (s == server) && (i == item) then joint_after entry.time joint else joint
joint_by server item (Set s i next) joint = if (s == server) && (i == item) then next else joint
joint_by server item (TurnOne s i turn) joint = if (s == server) && (i == item) then turned turn joint else joint
joint_by server item (TurnAll s turn) joint = if s == server then turned turn joint else joint
joint_by server item (Note line) joint = joint

-- the joint of a server and item
abbrev pub joint_of : ℕ → ℕ → List Act → Joint
joint_of server item [] = Open Late
joint_of server item (act ∷ earlier) = joint_by server item act (joint_of server item earlier)

-- the lines of an act, after an earlier history
abbrev pub lines_after : Act → List Act → List LogLine
lines_after (Enter server item entry) earlier =
    entry_lines item entry (last_stamp item earlier) (joint_of server item earlier)
lines_after (Set server item joint) earlier = []
lines_after (TurnOne server item turn) earlier = []
lines_after (TurnAll server turn) earlier = []
lines_after (Note line) earlier = line ∷ []

-- all lines, oldest first
abbrev pub lines_of : List Act → List LogLine
lines_of [] = []
lines_of (act ∷ earlier) = lines_of earlier ++ lines_after act earlier

-- the entry that came last for a server and item, after an act
abbrev pub previous_by : ℕ → ℕ → Act → Option Arrived → Option Arrived
previous_by server item (Enter s i entry) before = if (s == server) && (i == item) then Some entry else before
previous_by server item (Set s i joint) before = before
previous_by server item (TurnOne s i turn) before = before
previous_by server item (TurnAll s turn) before = before
previous_by server item (Note line) before = before

-- the entry that came last for a server and item
abbrev pub previous : ℕ → ℕ → List Act → Option Arrived
previous server item [] = None
previous server item (act ∷ earlier) = previous_by server item act (previous server item earlier)

-- what an act makes of the log that is kept
abbrev pub acted : Act → LogState → LogState
acted (Enter server item entry) log = entered server item entry log
acted (Set server item joint) log = with_joint server item joint log
acted (TurnOne server item turn) log = with_turned server item turn log
acted (TurnAll server turn) log = with_all_turned server turn log
acted (Note line) log = noted line log

-- what acts make of the log that is kept
abbrev pub log_after : List Act → LogState → LogState
log_after [] log = log
log_after (act ∷ earlier) log = acted act (log_after earlier log)

-- the log that is kept after all acts
abbrev pub log_of : ℕ → ℕ → List Act → LogState
log_of servers items history = log_after history (new_log servers items)

-- one log and another one that took over from it, read as one: the lines of both, and what the second one keeps
abbrev pub joined : LogState → LogState → LogState
joined first second = record second { lines = first.lines ++ second.lines }

-- the logs of two clients, of which the second took over from the first after the first's acts
abbrev pub log_of_both : ℕ → ℕ → List Act → List Act → LogState
log_of_both servers items first second =
    joined (log_of servers items first) (log_after second (taken_over (log_of servers items first)))

-- the act is of servers and items of so many
abbrev pub IsActWithin : ℕ → ℕ → Act → Type 0
IsActWithin servers items (Enter server item entry) = IsWithin servers items server item
IsActWithin servers items (Set server item joint) = IsWithin servers items server item
IsActWithin servers items (TurnOne server item turn) = IsWithin servers items server item
IsActWithin servers items (TurnAll server turn) = IsServerWithin servers server
IsActWithin servers items (Note line) = Unit {0}

-- all acts are of servers and items of so many
abbrev pub AreWithin : ℕ → ℕ → List Act → Type 0
AreWithin servers items [] = Unit {0}
AreWithin servers items (act ∷ earlier) = IsActWithin servers items act × AreWithin servers items earlier

-- the log that is kept says what the history says: its lines, each joint, and each item's stamp last delivered
pub record StandsFor (servers items : ℕ) (history : List Act) (log : LogState) : Type 0 where
  pub lines : log.lines ≡ lines_of history
  pub joints : (server item : ℕ) → IsWithin servers items server item
      → joint_at server item log ≡ joint_of server item history
  pub lasts : (item : ℕ) → 1 ≤ item → item ≤ items → last_kept item log ≡ last_stamp item history
