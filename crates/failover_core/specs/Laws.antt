-- What a chosen server is, said without the search for it.
use Rattle.std.specs.Prelude.{◌≡◌, ◌≢◌, ◌≤◌, ℕ, List, [], ◌∷◌, Option, Some, ◌⊎◌}
use Rattle.failover_core.specs.declared.choice.Candidate.{Candidate}

-- the candidate is one of these
abbrev pub IsAmong : Candidate → List Candidate → Type 0
IsAmong one [] = ⊥
IsAmong one (other ∷ more) = (one ≡ other) ⊎ IsAmong one more

-- a server that is the right choice among those that are ready, where another one was active
pub record IsBest (ready : List Candidate) (active : Option ℕ) (server : ℕ) : Type 0 where
  pub level : ℕ
  pub listed : IsAmong (record { server = server; level = level }) ready
  pub has_data : 2 ≤ level
  pub highest : (other : Candidate) → IsAmong other ready → other.level ≤ level
  -- of several of that level it is the active one, if that is among them, and else the one of the lowest number
  pub keeps : (kept : ℕ) → active ≡ Some kept → IsAmong (record { server = kept; level = level }) ready → server ≡ kept
  pub lowest : active ≢ Some server → (other : ℕ) → IsAmong (record { server = other; level = level }) ready
      → server ≤ other
