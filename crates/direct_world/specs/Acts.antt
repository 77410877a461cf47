-- What a line of a scenario does to the client's log of a direct world, told as acts on the log.
use Rattle.std.specs.Prelude.{ℕ, ◌+◌, List, [], ◌∷◌, ◌++◌, take}
use Rattle.set_model.specs.declared.line.GapCause.TheVariants.{Late}
use Rattle.item_queue.specs.declared.queue.Entry.{Entry}
use Rattle.item_queue.specs.State.{QueueState}
use Rattle.delivery_log.specs.declared.rule.Joint.TheVariants.{Open}
use Rattle.delivery_log.specs.declared.rule.Turn.TheVariants.{Become}
use Rattle.delivery_log.specs.History.{Act, Enter, TurnAll, acted}
use Rattle.delivery_log.specs.State.{LogState}
use Rattle.direct_world.specs.Server.{arrived, queue_at}

-- these entries of a server and item are entered, one after another
abbrev pub entering : ℕ → ℕ → List Entry → List Act
entering server item [] = []
entering server item (entry ∷ entries) = Enter server item (arrived entry) ∷ entering server item entries

-- up to so many oldest entries of each queue of a server are entered, from an item on in rising order
abbrev pub taking : ℕ → ℕ → ℕ → List QueueState → List Act
taking server item count [] = []
taking server item count (queue ∷ queues) =
    entering server item (take count queue.entries) ++ taking server (item + 1) count queues

-- up to so many oldest entries of the queue of a place are entered
abbrev pub taking_place : ℕ → ℕ → ℕ → List QueueState → List Act
taking_place server place count queues = entering server (place + 1) (take count (queue_at place queues).entries)

-- the joints of all items of a server become those of a new life
abbrev pub reopening : ℕ → List Act
reopening server = TurnAll server (Become (Open Late)) ∷ []

-- the log after these acts, one after another
abbrev pub after_acts : List Act → LogState → LogState
after_acts [] log = log
after_acts (act ∷ acts) log = after_acts acts (acted act log)

-- a history, newest first, with these acts after it, one after another
abbrev pub with_acts : List Act → List Act → List Act
with_acts [] history = history
with_acts (act ∷ acts) history = with_acts acts (act ∷ history)
