-- On which of a link's connections a message is heard, and behind what.
use Rattle.std.specs.Prelude.{◌≡◌, List, ◌∷◌, ◌++◌}
use Rattle.ua_channel.specs.declared.heard.Heard.{Heard}
use Rattle.link_rules.specs.Said.{Told}
use Rattle.link_takings.specs.Exchange.{Exchange, messages_of}
use Rattle.client_dials.specs.Spoken.{Spoken}

-- a message is heard on one of these connections behind all that was taken there, and the messages that were put there by
-- then begin all that are put there
pub record IsHeardBehind (h : Heard) (e : Exchange) (all : List Spoken) : Type 0 where
  pub newer : List Spoken
  pub spoken : Spoken
  pub older : List Spoken
  pub are : all ≡ newer ++ spoken ∷ older
  pub later : List Heard
  pub heard : spoken.heard ≡ e.taken ++ h ∷ later
  pub others : List Told
  pub put : messages_of spoken.said ≡ e.put ++ others
