-- What `run` promises of each status, by the words, the input's bytes and what is written.
use Rattle.std.specs.Prelude.{◌≡◌, ◌≤◌, ℕ, List, [], length, Bool, true, false, Option, Some, None, Ok, Err}
use Rattle.std.specs.Prelude.{IfSome, IsSome}
use Rattle.ua_edge.specs.Calls.{Rose}
use Rattle.uaset.specs.declared.words.Command.{Command}
use Rattle.uaset.specs.declared.answer.Refusal.{Refusal}
use Rattle.uaset.specs.declared.answer.Refusal.TheVariants as refusal
use Rattle.uaset.specs.declared.status.Status.{Status}
use Rattle.uaset.specs.declared.status.Status.TheVariants as status
use Rattle.uaset.specs.Commands.{answer_to, reads, Means}
use Rattle.uaset.specs.Edges.{HasAppended, HasAppendedFront}

-- how many listeners a run may attach: there are none yet
abbrev pub listeners : ℕ
listeners = 0

-- these bytes are the whole input, where it is told, and no bytes where nothing is read
abbrev pub IsTaken : Option ℕ → Option (List ℕ) → List ℕ → Type 0
IsTaken None input bytes = bytes ≡ []
IsTaken (Some most) input bytes = IfSome input (λ told. told ≡ bytes)

-- a command reads these bytes of an input
abbrev pub IsInput : Command → Option (List ℕ) → List ℕ → Type 0
IsInput c = IsTaken (reads c)

-- the input is these bytes, and not more than are read; or it doesn't matter
abbrev pub CanTake : Option ℕ → Option (List ℕ) → List ℕ → Type 0
CanTake None input bytes = bytes ≡ []
CanTake (Some most) input bytes = (input ≡ Some bytes) × (length bytes ≤ most)

-- a command gets these bytes, unless something fails
abbrev pub Gets : Command → Option (List ℕ) → List ℕ → Type 0
Gets c = CanTake (reads c)

-- a command reads nothing, or the count of its source's faults didn't rise
abbrev pub IsUntroubled : Command → ℕ → ℕ → Type 0
IsUntroubled c before now = IsSome (reads c) → ¬ Rose before now

-- the whole answer to an input was written, where that is told
abbrev pub Answers : ℕ → Command → Option (List ℕ) → Option (List ℕ) → Option (List ℕ) → Type 0
Answers pool c input before after =
    (bytes text : List ℕ) × IsInput c input bytes × (answer_to pool c bytes ≡ Ok text) × HasAppended before after text

-- a front of the answer to an input was written, where that is told
abbrev pub AnswersInPart : ℕ → Command → Option (List ℕ) → Option (List ℕ) → Option (List ℕ) → Type 0
AnswersInPart pool c input before after =
    (bytes text : List ℕ) × IsInput c input bytes × (answer_to pool c bytes ≡ Ok text)
    × HasAppendedFront before after text

-- what was written, where that is told, is what the command promises of an input
abbrev pub KeepsPromise : ℕ → Command → Option (List ℕ) → Option (List ℕ) → Option (List ℕ) → Type 0
KeepsPromise pool c input before after =
    (bytes text : List ℕ) × IsInput c input bytes × Means pool c bytes text × HasAppended before after text

-- an input is refused for this
abbrev pub IsRefused : ℕ → Command → Refusal → Option (List ℕ) → Type 0
IsRefused pool c r input = (bytes : List ℕ) × IsInput c input bytes × (answer_to pool c bytes ≡ Err r)

-- the status that tells of a refusal
abbrev pub status_after : Refusal → Status
status_after (refusal.Scenario line kind) = status.Scenario line kind
status_after (refusal.Show place code) = status.Show place code
status_after refusal.OutOfMemory = status.Memory

-- the whole input was judged where a command ends so
abbrev pub judges : Status → Bool
judges status.Ok = true
judges (status.Scenario line kind) = true
judges (status.Show place code) = true
judges (status.Usage place) = false
judges status.ReadFault = false
judges status.WriteFault = false
judges (status.TooLong bytes) = false
judges status.Memory = false

-- nothing is written where a command ends so
abbrev pub is_silent : Status → Bool
is_silent status.Ok = false
is_silent (status.Usage place) = true
is_silent (status.Scenario line kind) = true
is_silent (status.Show place code) = true
is_silent status.ReadFault = true
is_silent status.WriteFault = false
is_silent (status.TooLong bytes) = true
is_silent status.Memory = false
