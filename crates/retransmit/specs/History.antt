-- What is kept, said of all calls so far. Nothing but `kept_after` knows what a call does to the kept messages.
use Rattle.std.specs.Prelude.{◌≡◌, ◌≤◌, ℕ, ◌+◌, ◌==◌, max, List, [], ◌∷◌, Bool, false, not, ◌&&◌, ◌||◌, length, take, reverse, filter, nat_lt, Option, Some, None, if◌then◌else◌}
use Rattle.retransmit.specs.declared.retransmission.Sent.{Sent}
use Rattle.retransmit.specs.Kept.{with_sent, without}

-- one call
pub data Call (M : Type 0) : Type 0 where
  Send : ℕ → M → Call M
  Acknowledge : ℕ → Call M

-- the numbers but this one
abbrev pub others : ℕ → List ℕ → List ℕ
others number numbers = filter (λ other. not (other == number)) numbers

module _ {M : Type 0} where
  -- what is kept after these calls, the newest call first
  abbrev pub kept_after : List (Call M) → List (Sent M)
  kept_after [] = []
  kept_after (Send number message ∷ earlier) = with_sent number message (kept_after earlier)
  kept_after (Acknowledge number ∷ earlier) = without number (kept_after earlier)

  -- the message that was sent last under this number
  abbrev pub last_sent : ℕ → List (Call M) → Option M
  last_sent number [] = None
  last_sent number (Send other message ∷ earlier) = if other == number then Some message else last_sent number earlier
  last_sent number (Acknowledge other ∷ earlier) = last_sent number earlier

  -- whether the number was acknowledged since it was sent last
  abbrev pub acknowledged : ℕ → List (Call M) → Bool
  acknowledged number [] = false
  acknowledged number (Send other message ∷ earlier) = if other == number then false else acknowledged number earlier
  acknowledged number (Acknowledge other ∷ earlier) = other == number || acknowledged number earlier

  -- the other numbers that were sent since this one was sent last, and are not acknowledged since: each once, the
  -- one sent last first
  abbrev pub waiting_since : ℕ → List (Call M) → List ℕ
  waiting_since number [] = []
  waiting_since number (Send other message ∷ earlier) = if other == number then [] else other ∷ others other (waiting_since number earlier)
  waiting_since number (Acknowledge other ∷ earlier) = others other (waiting_since number earlier)

  -- how many of them there were at one time at the most, of all times since this number was sent last
  abbrev pub most_waiting : ℕ → List (Call M) → ℕ
  most_waiting number [] = 0
  most_waiting number (Send other message ∷ earlier) =
      if other == number then 0 else max (length (waiting_since number (Send other message ∷ earlier))) (most_waiting number earlier)
  most_waiting number (Acknowledge other ∷ earlier) = most_waiting number earlier

  -- what is given for a number: the message that was sent last under it, where it is not acknowledged since, and where
  -- since then there was no time at which 64 others, sent after it, waited for their acknowledgements
  abbrev pub available : ℕ → List (Call M) → Option M
  available number history =
      if nat_lt (most_waiting number history) 64 && not (acknowledged number history) then last_sent number history else None

  -- how often another number was sent since this one was sent last
  abbrev pub sendings_since : ℕ → List (Call M) → ℕ
  sendings_since number [] = 0
  sendings_since number (Send other message ∷ earlier) = if other == number then 0 else sendings_since number earlier + 1
  sendings_since number (Acknowledge other ∷ earlier) = sendings_since number earlier

  -- what was sent last under each number, without the acknowledged, the newest first
  abbrev pub unacknowledged : List (Call M) → List (Sent M)
  unacknowledged [] = []
  unacknowledged (Send number message ∷ earlier) = record { number = number; message = message } ∷ without number (unacknowledged earlier)
  unacknowledged (Acknowledge number ∷ earlier) = without number (unacknowledged earlier)

  -- the newest of these, 64 at the most, in the order of sending
  abbrev pub AreNewest : List (Sent M) → List (Sent M) → Type 0
  AreNewest kept sent = (count : ℕ) × (count ≤ 64) × (kept ≡ reverse (take count sent))
