-- What is said is read again as what it is.
use Rattle.std.specs.Prelude.{◌≡◌, Ok}
use Rattle.ua_values.specs.Reading.{input}
use Rattle.ua_chunks.specs.Bodies.{hello_at, value_of, whole_at, written_hello}
use Rattle.ua_structures.specs.Body.{body_at}
use Rattle.ua_services.specs.Families.{requests, written_request}
use Rattle.link_rules.specs.Said.{Said, Told, Greeted, Opens, Asks, Limited, Renewed}
use Rattle.link_keeps.specs.Fitting.{IsShort}

abbrev pub IsToldAgain : Told → Type 0
IsToldAgain (Greeted greeting url) =
    value_of (whole_at hello_at (input 0 (written_hello (greeting, url)))) ≡ Ok (greeting, url)
IsToldAgain (Opens number r) = body_at requests (written_request r) ≡ Ok r
IsToldAgain (Asks number r) = IsShort r → body_at requests (written_request r) ≡ Ok r
IsToldAgain (Limited limits) = Unit {0}
IsToldAgain (Renewed channel token) = Unit {0}

abbrev pub IsReadAgain : Said → Type 0
IsReadAgain said = IsToldAgain said.told
