-- The rule of the log: what an entry gains, and the joint of its server and item afterwards.
use Rattle.std.specs.Prelude.{◌==◌, ℕ, Bool, true, false, Option, Some, None, if◌then◌else◌, bit_and}
use Rattle.ua_base.specs.Status.{overflow_bits, overflow_mask}
use Rattle.set_model.specs.declared.line.GapCause.TheVariants.{Warm, NoTime, Overflow}
use Rattle.set_model.specs.declared.stamp.Stamp.{Stamp}
use Rattle.set_model.specs.Stamp.{is_before}
use Rattle.delivery_log.specs.declared.rule.Joint.{Joint}
use Rattle.delivery_log.specs.declared.rule.Joint.TheVariants.{Joined, Open, Held}
use Rattle.delivery_log.specs.declared.rule.Turn.{Turn}
use Rattle.delivery_log.specs.declared.rule.Turn.TheVariants.{Become, Loosen, Confirm}
use Rattle.delivery_log.specs.declared.rule.Verdict.{Verdict}
use Rattle.delivery_log.specs.declared.rule.Verdict.TheVariants.{Nothing, Deliver, GapDeliver}

-- the status says that the item's queue dropped values before this entry
abbrev pub has_overflow : ℕ → Bool
has_overflow status = bit_and status overflow_mask == overflow_bits

-- the later of the stamp last delivered and an entry's stamp, where both are there
abbrev pub later : Option Stamp → Option Stamp → Option Stamp
later last None = last
later None (Some stamp) = Some stamp
later (Some last) (Some stamp) = if is_before last stamp then Some stamp else Some last

-- Held stays; any other joint becomes the next one
abbrev pub unless_held : Joint → Joint → Joint
unless_held Held next = Held
unless_held Joined next = next
unless_held (Open cause) next = next

-- where it is confirmed that the item's monitoring is on again, Held becomes open; any other joint stays
abbrev pub confirmed : Joint → Joint
confirmed Held = Open Warm
confirmed Joined = Joined
confirmed (Open cause) = Open cause

-- the joint after what befalls it
abbrev pub turned : Turn → Joint → Joint
turned (Become next) joint = next
turned (Loosen cause) joint = unless_held joint (Open cause)
turned Confirm joint = confirmed joint

-- the joint after an entry, by its stamp: without a source time, something may be missing
abbrev pub joint_after : Option Stamp → Joint → Joint
joint_after None joint = unless_held joint (Open NoTime)
joint_after (Some stamp) joint = unless_held joint Joined

-- what an entry later than the item's last data line gains: a gap line where the joint or the mark asks for one
abbrev pub verdict_after : Joint → Bool → Verdict
verdict_after (Open cause) marked = GapDeliver cause
verdict_after Held marked = GapDeliver Warm
verdict_after Joined true = GapDeliver Overflow
verdict_after Joined false = Deliver

-- what an entry gains, by the stamp of the item's last data line and the entry's own
abbrev pub verdict_of : Option Stamp → Joint → Option Stamp → Bool → Verdict
verdict_of last joint None marked = Nothing
verdict_of None joint (Some stamp) marked = Deliver
verdict_of (Some last) joint (Some stamp) marked = if is_before last stamp then verdict_after joint marked else Nothing

-- what an entry gains, and the joint afterwards
abbrev pub judge : Option Stamp → Joint → Option Stamp → Bool → Verdict × Joint
judge last joint stamp marked = (verdict_of last joint stamp marked, joint_after stamp joint)
