-- What each call does to the log. Servers and items are numbered from 1.
use Rattle.std.specs.Prelude.{ℕ, ◌≤◌, ◌-◌, length, List, [], ◌∷◌, ◌++◌, Option, Some, None, map, replicate, slice_index_or, slice_set}
use Rattle.set_model.specs.declared.line.Arrived.{Arrived}
use Rattle.set_model.specs.declared.line.GapCause.TheVariants.{Late}
use Rattle.set_model.specs.declared.line.LogLine.{LogLine}
use Rattle.set_model.specs.declared.line.LogLine.TheVariants as line
use Rattle.set_model.specs.declared.stamp.Stamp.{Stamp}
use Rattle.delivery_log.specs.declared.rule.Joint.{Joint}
use Rattle.delivery_log.specs.declared.rule.Joint.TheVariants.{Open}
use Rattle.delivery_log.specs.declared.rule.Turn.{Turn}
use Rattle.delivery_log.specs.declared.rule.Verdict.{Verdict}
use Rattle.delivery_log.specs.declared.rule.Verdict.TheVariants.{Nothing, Deliver, GapDeliver}
use Rattle.delivery_log.specs.Judge.{has_overflow, joint_after, later, turned, verdict_of}
use Rattle.delivery_log.specs.State.{LogState}

-- the joints of so many servers and items before anything came
abbrev pub late_joints : ℕ → ℕ → List (List Joint)
late_joints servers items = replicate servers (replicate items (Open Late))

-- a log that begins with these stamps last delivered and these joints, and has no lines
abbrev pub begun : List (Option Stamp) → List (List Joint) → LogState
begun lasts joints = record { lasts = lasts; joints = joints; lines = [] }

-- the log of a client of so many servers and items, before anything came
abbrev pub new_log : ℕ → ℕ → LogState
new_log servers items = begun (replicate items None) (late_joints servers items)

-- the log of a client that takes over from the one whose log this is
abbrev pub taken_over : LogState → LogState
taken_over log = begun log.lasts log.joints

-- a server and an item of so many, both numbered from 1
pub record IsWithin (servers items server item : ℕ) : Type 0 where
  pub server_from : 1 ≤ server
  pub server_to : server ≤ servers
  pub item_from : 1 ≤ item
  pub item_to : item ≤ items

-- a server of so many, numbered from 1
pub record IsServerWithin (servers server : ℕ) : Type 0 where
  pub server_from : 1 ≤ server
  pub server_to : server ≤ servers

-- the log is one of this server
abbrev pub CoversServer : ℕ → LogState → Type 0
CoversServer server log = IsServerWithin (length log.joints) server

-- the log is one of this server and item
abbrev pub Covers : ℕ → ℕ → LogState → Type 0
Covers server item log = IsWithin (length log.joints) (length log.lasts) server item

-- the stamp of an item's last data line, as the log keeps it
abbrev pub last_kept : ℕ → LogState → Option Stamp
last_kept item log = slice_index_or log.lasts (item - 1) None

-- the joints of a server
abbrev pub joints_at : ℕ → LogState → List Joint
joints_at server log = slice_index_or log.joints (server - 1) []

-- the joint of a server and item
abbrev pub joint_at : ℕ → ℕ → LogState → Joint
joint_at server item log = slice_index_or (joints_at server log) (item - 1) (Open Late)

-- the log with another joint of a server and item
abbrev pub with_joint : ℕ → ℕ → Joint → LogState → LogState
with_joint server item joint log = record log {
  joints = slice_set log.joints (server - 1) (slice_set (joints_at server log) (item - 1) joint);
}

-- the log after what befalls the joint of a server and item
abbrev pub with_turned : ℕ → ℕ → Turn → LogState → LogState
with_turned server item turn log = with_joint server item (turned turn (joint_at server item log)) log

-- the log after what befalls all joints of a server
abbrev pub with_all_turned : ℕ → Turn → LogState → LogState
with_all_turned server turn log = record log {
  joints = slice_set log.joints (server - 1) (map (turned turn) (joints_at server log));
}

-- the log with another stamp last delivered of an item
abbrev pub with_last : ℕ → Option Stamp → LogState → LogState
with_last item last log = record log { lasts = slice_set log.lasts (item - 1) last }

-- the log with more lines
abbrev pub with_lines : List LogLine → LogState → LogState
with_lines lines log = record log { lines = log.lines ++ lines }

-- the log with one line more
abbrev pub noted : LogLine → LogState → LogState
noted line log = with_lines (line ∷ []) log

-- the data line of an entry that has this stamp
abbrev pub data_line : ℕ → Stamp → Arrived → LogLine
data_line item stamp entry = line.Delivered item stamp.time stamp.pico entry.value entry.status

-- the lines that an entry of this stamp gains
abbrev pub timed_lines : ℕ → Stamp → Arrived → Verdict → List LogLine
timed_lines item stamp entry Nothing = []
timed_lines item stamp entry Deliver = data_line item stamp entry ∷ []
timed_lines item stamp entry (GapDeliver cause) = line.Gap item cause ∷ data_line item stamp entry ∷ []

-- the lines that an entry gains: none where it has no source time
abbrev pub lines_by : ℕ → Option Stamp → Arrived → Verdict → List LogLine
lines_by item None entry verdict = []
lines_by item (Some stamp) entry verdict = timed_lines item stamp entry verdict

-- the lines of an entry, by the stamp of the item's last data line and the joint
abbrev pub entry_lines : ℕ → Arrived → Option Stamp → Joint → List LogLine
entry_lines item entry last joint =
    lines_by item entry.time entry (verdict_of last joint entry.time (has_overflow entry.status))

-- the log after an entry of a server and item
abbrev pub entered : ℕ → ℕ → Arrived → LogState → LogState
entered server item entry log =
    with_joint server item (joint_after entry.time (joint_at server item log))
    (with_last item (later (last_kept item log) entry.time)
    (with_lines (entry_lines item entry (last_kept item log) (joint_at server item log)) log))
