-- How the messages that a link missed are asked for again.
use Rattle.std.specs.Prelude.{◌≡◌, ◌<◌, ◌⊎◌, ℕ, List, [], ◌∷◌, ◌++◌, true, Some}
use Rattle.ua_sub_msgs.specs.declared.request.SubRequest.{SubRequest}
use Rattle.ua_sub_msgs.specs.declared.request.SubRequest.TheVariants as sub_request
use Rattle.ua_sub_msgs.specs.declared.publish.RepublishRequest.{RepublishRequest}
use Rattle.ua_services.specs.declared.request.Request.{Request}
use Rattle.ua_services.specs.declared.request.Request.TheVariants as request
use Rattle.link_rules.specs.declared.phase.Phase.TheVariants as phase
use Rattle.link_rules.specs.declared.remembered.Remembered.{Remembered}
use Rattle.link_rules.specs.State.{is_ready}
use Rattle.link_rules.specs.Said.{LinkDid, Said, Told, Asks}

-- ---- Republishes that are put

abbrev pub missed_in_sub : SubRequest → List RepublishRequest
missed_in_sub (sub_request.Republish r) = r ∷ []
missed_in_sub other = []

abbrev pub missed_in : Request → List RepublishRequest
missed_in (request.Subscription r) = missed_in_sub r
missed_in (request.Session r) = []

abbrev pub missed_told : Told → List RepublishRequest
missed_told (Asks number r) = missed_in r
missed_told other = []

abbrev pub missed_put : List Said → List RepublishRequest
missed_put [] = []
missed_put (said ∷ more) = missed_told said.told ++ missed_put more

-- ---- what is done of the messages that are wanted

-- one is put, for this message of the subscription
pub record AsksFor (id number : ℕ) (list : List RepublishRequest) : Type 0 where
  pub one : RepublishRequest
  pub put : list ≡ one ∷ []
  pub subscription : one.subscription_id ≡ id
  pub message : one.retransmit_sequence_number ≡ number

-- the first is asked for, and the others are wanted then; where none is wanted the link is ready
abbrev pub IsAsking : List ℕ → ℕ → LinkDid → Type 0
IsAsking [] id did = is_ready did.link ≡ true
IsAsking (number ∷ wanted) id did =
    (did.link.phase ≡ phase.Republishing wanted) × AsksFor id number (missed_put did.said)

-- or the link falls; its subscription is remembered
pub record GoesOn (wanted : List ℕ) (remembered : Remembered) (did : LinkDid) : Type 0 where
  pub asks : (did.link.phase ≡ phase.Idle) ⊎ IsAsking wanted remembered.id did
  pub later : Remembered
  pub is : did.link.remembered ≡ Some later
  pub id : later.id ≡ remembered.id

-- and this message is below the next one
pub record IsBehind (number : ℕ) (wanted : List ℕ) (remembered : Remembered) (did : LinkDid) : Type 0 where
  pub goes : GoesOn wanted remembered did
  pub behind : number < goes.later.next
