-- Rounds: in each, connections are made and closed as the client wishes, and what is in flight comes.
use Rattle.std.specs.Prelude.{ℕ, zero, suc, length, if◌then◌else◌}
use Rattle.set_rules.specs.State.{SetState}
use Rattle.set_rules.specs.Nodes.{Nodes}
use Rattle.set_rules.specs.Slots.{happens, served}
use Rattle.set_rules.specs.Moves.{client_does, in_slot, is_left, learned, lost, slot_at, wished}

module _ {S C W : Type 0} (n : Nodes S C W) where
  -- a connection that its server is closing ends, now that all that it put came
  abbrev pub left : ℕ → SetState S C W → SetState S C W
  left place w = if is_left n (slot_at place w) then lost n place w else w

  -- the wishes of the client for a server; what is in flight to it; what is in flight from it, with what it put just now;
  -- and the end of a connection that it is closing
  abbrev pub turn : ℕ → SetState S C W → SetState S C W
  turn place w = left place (learned n place (in_slot place (served n) (wished n place w)))

  -- one that is held has no turn
  abbrev pub turn_if_free : ℕ → SetState S C W → SetState S C W
  turn_if_free place w = if (slot_at place w).held then w else turn place w

  -- the first so many servers, in rising order
  unfoldable pub turns_among : ℕ → SetState S C W → SetState S C W
  turns_among zero w = w
  turns_among (suc place) w = turn_if_free place (turns_among place w)

  abbrev pub round : SetState S C W → SetState S C W
  round w = turns_among (length w.slots) w

  unfoldable pub rounds : ℕ → SetState S C W → SetState S C W
  rounds zero w = w
  rounds (suc count) w = round (rounds count w)

  -- ---- time

  unfoldable pub ticked_among : ℕ → ℕ → SetState S C W → SetState S C W
  ticked_among ms zero w = w
  ticked_among ms (suc place) w = in_slot place (happens n (n.ticks ms)) (ticked_among ms place w)

  -- milliseconds go by for the servers that run, in rising order, and then for the client
  abbrev pub ticked : ℕ → SetState S C W → SetState S C W
  ticked ms w = client_does n (n.waits ms) (ticked_among ms (length w.slots) w)
