-- The log that a world keeps is the log of its history, whose acts are of its servers and items.
use Rattle.std.proofs.Common.{◌≡◌, ℕ, ◌+◌, ◌≤◌, List, [], ◌∷◌, length, take, refl, sym, subst, arith}
use Rattle.item_queue.specs.declared.queue.Entry.{Entry}
use Rattle.item_queue.specs.State.{QueueState}
use Rattle.delivery_log.specs.Log.{IsWithin}
use Rattle.delivery_log.specs.History.{Act, Enter, AreWithin, log_of}
use Rattle.direct_world.specs.Acts.{after_acts, with_acts, entering, taking, reopening}
use Rattle.direct_world.specs.Server.{arrived}
use Rattle.direct_world.proofs.Acting.{with_more_acts}

-- the log after acts is that of the history with them
pub acts_kept : (n m : ℕ) (acts history : List Act) → after_acts acts (log_of n m history) ≡ log_of n m (with_acts acts history)
acts_kept n m [] history = refl
acts_kept n m (act ∷ acts) history = acts_kept n m acts (act ∷ history)

entering_within : (n m server item : ℕ) (entries : List Entry) (history : List Act) → IsWithin n m server item → AreWithin n m history
    → AreWithin n m (with_acts (entering server item entries) history)
entering_within n m server item [] history w h = h
entering_within n m server item (entry ∷ entries) history w h = entering_within n m server item entries (Enter server item (arrived entry) ∷ history) w (w, h)

pub taking_within : (n m server item count : ℕ) (queues : List QueueState) (history : List Act) → 1 ≤ server → server ≤ n → 1 ≤ item
    → item + length queues ≤ m + 1 → AreWithin n m history → AreWithin n m (with_acts (taking server item count queues) history)
taking_within n m server item count [] history s t i j h = h
taking_within n m server item count (queue ∷ queues) history s t i j h =
    let within : IsWithin n m server item = record { server_from = s; server_to = t; item_from = i; item_to = omega arith } in
    let P : List Act → Type 0 = AreWithin n m in
    subst P (sym (with_more_acts (entering server item (take count queue.entries)) (taking server (item + 1) count queues) history))
    (taking_within n m server (item + 1) count queues _ s t (omega arith) (omega arith) (entering_within n m server item (take count queue.entries) history within h))

pub reopening_within : (n m server : ℕ) (history : List Act) → 1 ≤ server → server ≤ n → AreWithin n m history
    → AreWithin n m (with_acts (reopening server) history)
reopening_within n m server history s t h = (record { server_from = s; server_to = t }, h)
