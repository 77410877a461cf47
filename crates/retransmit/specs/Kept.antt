-- What sending and acknowledging make of the kept messages: the retransmission queue (OPC 10000-4, 5.13.1.1).
use Rattle.std.specs.Prelude.{ℕ, ◌-◌, ◌==◌, List, [], ◌∷◌, ◌++◌, not, length, drop, filter, map, Option, Some, None, if◌then◌else◌}
use Rattle.retransmit.specs.declared.retransmission.Sent.{Sent}

module _ {M : Type 0} where
  -- a list cut to its last ones
  abbrev pub last_ones : ℕ → List (Sent M) → List (Sent M)
  last_ones count kept = drop (length kept - count) kept

  -- the kept messages but the one of this number
  abbrev pub without : ℕ → List (Sent M) → List (Sent M)
  without number kept = filter (λ sent. not (sent.number == number)) kept

  -- a message that is sent takes the place of the one of its number, and stands last among the last 64
  abbrev pub with_sent : ℕ → M → List (Sent M) → List (Sent M)
  with_sent number message kept = last_ones 64 (without number kept ++ record { number = number; message = message } ∷ [])

  -- the kept message of this number
  abbrev pub message_of : ℕ → List (Sent M) → Option M
  message_of number [] = None
  message_of number (sent ∷ kept) = if sent.number == number then Some sent.message else message_of number kept

  -- the available sequence numbers (OPC 10000-4, 5.13.5), in the order of sending
  abbrev pub numbers_of : List (Sent M) → List ℕ
  numbers_of kept = map (λ sent. sent.number) kept
