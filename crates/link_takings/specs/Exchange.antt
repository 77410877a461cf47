-- What is put on a connection and taken of it, message by message.
use Rattle.std.specs.Prelude.{◌≡◌, ◌+◌, ℕ, List, [], ◌∷◌, ◌++◌, length, map, false, if◌then◌else◌}
use Rattle.ua_channel.specs.declared.heard.Heard.{Heard}
use Rattle.ua_channel.specs.State.{is_deaf}
use Rattle.ua_sub_msgs.specs.declared.publish.RepublishRequest.{RepublishRequest}
use Rattle.ua_sub_msgs.specs.declared.request.SubRequest.TheVariants as sub_request
use Rattle.ua_services.specs.declared.request.Request.TheVariants as request
use Rattle.link_rules.specs.declared.phase.Phase.{Phase}
use Rattle.link_rules.specs.declared.phase.Phase.TheVariants as phase
use Rattle.link_rules.specs.State.{LinkState}
use Rattle.link_rules.specs.Said.{Said, Told, Asks}
use Rattle.link_rules.specs.Step.{Happening, Hears, Opens as IsOpened, after, ear_of}
use Rattle.link_laws.specs.Lockstep.{is_publish, puts}

-- ---- one connection

-- the messages that were put on it and those that were taken of it, in order
pub record Exchange : Type 0 where
  pub put : List Told
  pub taken : List Heard

abbrev pub no_exchange : Exchange
no_exchange = record { put = []; taken = [] }

-- a connection that is wished for is a new one
abbrev pub anew_in : Phase → Exchange → Exchange
anew_in (phase.Dialing taken) e = no_exchange
anew_in other e = e

-- nothing is taken by a link that is deaf
abbrev pub exchange_taken : Happening → LinkState → Exchange → Exchange
exchange_taken (IsOpened url) l e = anew_in l.phase e
exchange_taken (Hears h) l e = if is_deaf (ear_of l) then e else record e { taken = e.taken ++ h ∷ [] }
exchange_taken other l e = e

-- the messages in what is said
abbrev pub messages_of : List Said → List Told
messages_of said = map (λ (one : Said). one.told) (puts said)

abbrev pub exchange_put : List Said → Exchange → Exchange
exchange_put said e = record e { put = e.put ++ messages_of said }

abbrev pub exchange_after : Happening → LinkState → Exchange → Exchange
exchange_after h l e = exchange_put (after h l).said (exchange_taken h l e)

abbrev pub exchange_all : List Happening → LinkState → Exchange → Exchange
exchange_all [] l e = e
exchange_all (h ∷ more) l e = exchange_all more (after h l).link (exchange_after h l e)

-- ---- messages that are asked for again

abbrev pub NoPublish : List Told → Type 0
NoPublish [] = Unit {0}
NoPublish (told ∷ more) = (is_publish told ≡ false) × NoPublish more

-- the last message that was put is a Republish request for a message of the subscription of this id; one message more was
-- put than was taken, and no Publish
pub record AsksAgain (id : ℕ) (e : Exchange) : Type 0 where
  pub before : List Told
  pub number : ℕ
  pub asked : ℕ
  pub body : RepublishRequest
  pub put : e.put ≡ before ++ Asks number (request.Subscription (sub_request.Republish body)) ∷ []
  pub subscription : body.subscription_id ≡ id
  pub message : body.retransmit_sequence_number ≡ asked
  pub step : length e.put ≡ length e.taken + 1
  pub unpublished : NoPublish e.put
