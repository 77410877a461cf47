-- What is read of what a client put: what it asked for.
use Rattle.std.specs.Prelude.{◌≡◌, ℕ, List, [], ◌∷◌, Ok}
use Rattle.ua_channel.specs.declared.heard.Heard.{Heard}
use Rattle.ua_channel.specs.declared.heard.Heard.TheVariants as heard
use Rattle.ua_services.specs.declared.request.Request.{Request}
use Rattle.ua_services.specs.Requests.{request_at}
use Rattle.link_rules.specs.Said.{Told, Asks}

-- where it is heard as a request, it asked for that one
abbrev pub ReadsAs : Told → Heard → Type 0
ReadsAs told (heard.Message number body) = (r : Request) → request_at body ≡ Ok r → (asked : ℕ) × (told ≡ Asks asked r)
ReadsAs told other = Unit {0}

-- each message is heard of the one at its place
abbrev pub AreReadAs : List Heard → List Told → Type 0
AreReadAs [] told = Unit {0}
AreReadAs (h ∷ more) [] = ⊥
AreReadAs (h ∷ more) (one ∷ told) = ReadsAs one h × AreReadAs more told
