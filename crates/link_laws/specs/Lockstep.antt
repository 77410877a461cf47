-- What is put on a connection and taken of it.
use Rattle.std.specs.Prelude.{ℕ, ◌+◌, List, [], ◌∷◌, length, filter, Bool, true, false, if◌then◌else◌}
use Rattle.ua_channel.specs.State.{is_deaf}
use Rattle.ua_sub_msgs.specs.declared.request.SubRequest.{SubRequest}
use Rattle.ua_sub_msgs.specs.declared.request.SubRequest.TheVariants as sub_request
use Rattle.ua_services.specs.declared.request.Request.{Request}
use Rattle.ua_services.specs.declared.request.Request.TheVariants as request
use Rattle.link_rules.specs.declared.phase.Phase.{Phase}
use Rattle.link_rules.specs.declared.phase.Phase.TheVariants as phase
use Rattle.link_rules.specs.State.{LinkState}
use Rattle.link_rules.specs.Said.{Said, Told, Asks, Greeted, Limited, Opens, Renewed}
use Rattle.link_rules.specs.Step.{Happening, Hears, Opens as IsOpened, after, ear_of}

-- ---- messages that are put

-- limits and a new token are no messages
abbrev pub is_put : Told → Bool
is_put (Greeted greeting url) = true
is_put (Opens number r) = true
is_put (Asks number r) = true
is_put (Limited limits) = false
is_put (Renewed channel token) = false

abbrev pub puts : List Said → List Said
puts said = filter (λ one. is_put one.told) said

abbrev pub publishes_sub : SubRequest → Bool
publishes_sub (sub_request.Publish r) = true
publishes_sub other = false

abbrev pub publishes_by : Request → Bool
publishes_by (request.Subscription r) = publishes_sub r
publishes_by (request.Session r) = false

abbrev pub is_publish : Told → Bool
is_publish (Asks number r) = publishes_by r
is_publish other = false

abbrev pub has_publish : List Said → Bool
has_publish [] = false
has_publish (said ∷ more) = if is_publish said.told then true else has_publish more

-- ---- one connection

-- how many messages were put on it and taken of it, and whether a Publish was put
pub record Tally : Type 0 where
  pub put : ℕ
  pub taken : ℕ
  pub published : Bool

abbrev pub no_tally : Tally
no_tally = record { put = 0; taken = 0; published = false }

-- a connection that is wished for is a new one
abbrev pub anew_in : Phase → Tally → Tally
anew_in (phase.Dialing taken) t = no_tally
anew_in other t = t

-- nothing is taken by a link that is deaf
abbrev pub tally_taken : Happening → LinkState → Tally → Tally
tally_taken (IsOpened url) l t = anew_in l.phase t
tally_taken (Hears h) l t = if is_deaf (ear_of l) then t else record t { taken = t.taken + 1 }
tally_taken other l t = t

abbrev pub tally_put : List Said → Tally → Tally
tally_put said t = record t {
  put = t.put + length (puts said);
  published = if t.published then true else has_publish said;
}

abbrev pub tally_after : Happening → LinkState → Tally → Tally
tally_after h l t = tally_put (after h l).said (tally_taken h l t)

abbrev pub tally_all : List Happening → LinkState → Tally → Tally
tally_all [] l t = t
tally_all (h ∷ more) l t = tally_all more (after h l).link (tally_after h l t)
