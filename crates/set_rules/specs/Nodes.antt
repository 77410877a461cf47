-- What the nodes of a set do, of any kind: over whole messages, or over bytes.
use Rattle.std.specs.Prelude.{ℕ, Bool}
use Rattle.set_model.specs.declared.source.Change.{Change}
use Rattle.link_rules.specs.declared.notice.Wish.{Wish}

pub record Nodes (S C W : Type 0) : Type 0 where
  -- ---- what is in flight
  pub nothing : W
  pub joined : W → W → W
  -- ---- a server
  -- a connection of this number was made, or ended; what came on it is heard
  pub accepts : ℕ → S → S
  pub ends : ℕ → S → S
  pub hears : ℕ → W → S → S
  -- a change comes; milliseconds go by; the ServiceLevel is set
  pub feeds : Change → S → S
  pub ticks : ℕ → S → S
  pub levels : ℕ → S → S
  -- what it put for a connection; that this is taken; whether it is closing the connection
  pub answered : ℕ → S → W
  pub emptied : ℕ → S → S
  pub is_closing : ℕ → S → Bool
  -- ---- the client, by a server's number
  pub connects : ℕ → C → C
  pub is_refused : ℕ → C → C
  pub loses : ℕ → C → C
  pub learns : ℕ → W → C → C
  pub waits : ℕ → C → C
  -- what it put for the server; that this is taken; its wish for the connection; that this is taken
  pub asked : ℕ → C → W
  pub cleared : ℕ → C → C
  pub wish : ℕ → C → Wish
  pub wish_taken : ℕ → C → C
