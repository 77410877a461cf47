-- What is heard and said on each connection of a link.
use Rattle.std.specs.Prelude.{List, [], ◌∷◌, ◌++◌}
use Rattle.ua_channel.specs.declared.heard.Heard.{Heard}
use Rattle.link_rules.specs.Said.{Said}
use Rattle.client_links.specs.Links.{Passing, Opened, Took, Put}

-- on one connection, in order
pub record Spoken : Type 0 where
  pub heard : List Heard
  pub said : List Said

abbrev pub new_spoken : Spoken
new_spoken = record { heard = []; said = [] }

abbrev pub on_newest : (Spoken → Spoken) → List Spoken → List Spoken
on_newest change [] = []
on_newest change (s ∷ earlier) = change s ∷ earlier

-- a connection that is opened is a new one, and what passes then passes on the newest
abbrev pub spoken_with : Passing → List Spoken → List Spoken
spoken_with Opened earlier = new_spoken ∷ earlier
spoken_with (Took h) earlier = on_newest (λ (s : Spoken). record s { heard = s.heard ++ h ∷ [] }) earlier
spoken_with (Put said) earlier = on_newest (λ (s : Spoken). record s { said = s.said ++ said ∷ [] }) earlier

-- the connections of all that passes, newest first
abbrev pub spoken_in : List Passing → List Spoken → List Spoken
spoken_in [] earlier = earlier
spoken_in (passing ∷ more) earlier = spoken_in more (spoken_with passing earlier)
