-- A cycle of the publishing timer, by the rows of the standard's state table (OPC 10000-4, 5.13.1.2).
use Rattle.std.specs.Prelude.{ℕ, ◌+◌, ◌-◌, ◌^◌, ◌&&◌, ◌||◌, Bool, true, false, not, Option, Some, None, nat_le, if◌then◌else◌}
use Rattle.std.specs.List.{list_any}
use Rattle.subscription.specs.declared.cycle.Cycle.{Cycle}
use Rattle.subscription.specs.declared.cycle.Cycle.TheVariants.{Quiet, Notify, KeepAlive, Late, Expired}
use Rattle.subscription.specs.State.{SubState}
use Rattle.subscription.specs.Items.{has_entries}

-- it has something: publishing is enabled, and an item that is reported has an entry
abbrev pub has_something : SubState → Bool
has_something s = s.spec.enabled && list_any has_entries s.items

-- with this cycle the keep-alive count is reached
abbrev pub is_silent : SubState → Bool
is_silent s = nat_le s.spec.keep_alive (s.quiet + 1)

-- a message is to be sent: there is something, or none was sent yet, or there was none for too long
abbrev pub wants : SubState → Bool
wants s = has_something s || not s.begun || is_silent s

-- with this cycle the lifetime count is reached
abbrev pub is_forgotten : SubState → Bool
is_forgotten s = nat_le s.spec.lifetime (s.life + 1)

-- the row that a cycle takes, where a Publish request is queued or none is
abbrev pub row_of : Bool → SubState → Cycle
row_of true s = if has_something s then Notify else if wants s then KeepAlive else Quiet
row_of false s = if is_forgotten s then Expired else if wants s then Late else Quiet

-- the moment an interval after another one, if there is such a moment
abbrev pub moment_after : ℕ → ℕ → Option ℕ
moment_after interval now = if nat_le (now + interval) (2 ^ 64 - 1) then Some (now + interval) else None

abbrev pub next_moment : ℕ → Option ℕ → Option ℕ
next_moment interval None = None
next_moment interval (Some due) = moment_after interval due

abbrev pub life_after : Bool → ℕ → ℕ
life_after true life = 0
life_after false life = life + 1

-- a cycle went by
abbrev pub ticked : Bool → SubState → SubState
ticked queued s = record s { due = next_moment s.spec.interval s.due; life = life_after queued s.life }

-- what each row leaves; the message of Notify and KeepAlive is sent by itself, and an ended subscription is as it was
abbrev pub after_row : Cycle → Bool → SubState → SubState
after_row Quiet queued s = record (ticked queued s) { quiet = s.quiet + 1 }
after_row Notify queued s = ticked queued s
after_row KeepAlive queued s = ticked queued s
after_row Late queued s = record (ticked queued s) { late = true }
after_row Expired queued s = s

abbrev pub cycled : Bool → SubState → SubState
cycled queued s = after_row (row_of queued s) queued s
