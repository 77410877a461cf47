-- How a ring of messages is gone through: each is moved from its front to its end.
use Rattle.std.specs.Prelude.{ℕ, ◌==◌, List, [], ◌∷◌, ◌++◌, if◌then◌else◌}
use Rattle.retransmit.specs.declared.retransmission.Sent.{Sent}

module _ {M : Type 0} where
  -- the first message moved to the end, or out where it is of this number
  abbrev pub turned : ℕ → List (Sent M) → List (Sent M)
  turned number [] = []
  turned number (sent ∷ kept) = if sent.number == number then kept else kept ++ sent ∷ []
