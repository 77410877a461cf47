-- What an end hears of messages that come to it.
use Rattle.std.specs.Prelude.{◌≡◌, List, [], ◌∷◌}
use Rattle.ua_chunks.specs.Assembly.{Tokens}
use Rattle.ua_channel.specs.declared.ear.Ear.{Ear}
use Rattle.ua_channel.specs.declared.heard.Heard.{Heard}
use Rattle.ua_channel.specs.State.{WireState}
use Rattle.ua_channel.specs.Messages.{hearing_of}

-- it is what an end hears of this message, whatever it awaited and whichever tokens it took
abbrev pub IsHeardOf : Heard → WireState → Type 0
IsHeardOf h wire = (ear : Ear) × (tokens : Tokens) × (h ≡ (hearing_of ear wire tokens).heard)

-- each is heard of the message at its place; of those that come after nothing was heard
abbrev pub AreHeardOf : List Heard → List WireState → Type 0
AreHeardOf [] wires = Unit {0}
AreHeardOf (h ∷ more) [] = ⊥
AreHeardOf (h ∷ more) (wire ∷ wires) = IsHeardOf h wire × AreHeardOf more wires
