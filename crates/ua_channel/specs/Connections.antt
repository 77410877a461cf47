-- The ends of a node's connections: a slab of channels, and an ordered map from each connection's number to its key.
use Rattle.std.specs.Prelude.{◌≡◌, ◌≢◌, ℕ, List, [], ◌∷◌, Some, unwrap_or}
use Rattle.slab.specs.Slab.{Slab, get}
use Rattle.ua_channel.specs.State.{ChannelState, blank_end}

-- the channel at a key; each key of the map has one
abbrev pub channel_in : Slab ChannelState → ℕ → ChannelState
channel_in slots key = unwrap_or (get slots key) blank_end

-- each connection's number with its channel, by rising number
abbrev pub shown : Slab ChannelState → List (ℕ × ℕ) → List (ℕ × ChannelState)
shown slots [] = []
shown slots (e ∷ keys) = (e.0, channel_in slots e.1) ∷ shown slots keys

-- no number has this key
abbrev pub NotAmong : ℕ → List (ℕ × ℕ) → Type 0
NotAmong key [] = Unit {0}
NotAmong key (e ∷ keys) = (e.1 ≢ key) × NotAmong key keys

-- each key has a channel, and is of one number alone
abbrev pub AreHeld : Slab ChannelState → List (ℕ × ℕ) → Type 0
AreHeld slots [] = Unit {0}
AreHeld slots (e ∷ keys) =
    (get slots e.1 ≡ Some (channel_in slots e.1)) × NotAmong e.1 keys × AreHeld slots keys
