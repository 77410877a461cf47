-- The numbers of a link's requests.
use Rattle.std.specs.Prelude.{◌≡◌, ℕ, List, [], ◌∷◌}
use Rattle.ua_base.specs.Number.{after_message}
use Rattle.ua_services.specs.declared.request.Request.{Request}
use Rattle.ua_services.specs.Requests.{header_of}
use Rattle.link_rules.specs.Said.{Said, Told, Asks, Greeted, Opens}

-- it has the number after the last one, and names it in its header as its handle
abbrev pub IsNext : ℕ → ℕ → Request → Type 0
IsNext last number r = (number ≡ after_message last) × ((header_of r).request_handle ≡ number)

abbrev pub IsNumbered : ℕ → Told → Type 0
IsNumbered last (Opens number r) = IsNext last number r
IsNumbered last (Asks number r) = IsNext last number r
IsNumbered last other = Unit {0}

-- a HEL begins a connection
abbrev pub last_by : Told → ℕ → ℕ
last_by (Greeted greeting url) last = 0
last_by (Opens number r) last = number
last_by (Asks number r) last = number
last_by other last = last

abbrev pub last_after : List Said → ℕ → ℕ
last_after [] last = last
last_after (said ∷ more) last = last_after more (last_by said.told last)

abbrev pub AreNumbered : ℕ → List Said → Type 0
AreNumbered last [] = Unit {0}
AreNumbered last (said ∷ more) = IsNumbered last said.told × AreNumbered (last_by said.told last) more
