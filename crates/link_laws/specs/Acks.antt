-- What a link acknowledges.
use Rattle.std.specs.Prelude.{◌≡◌, ℕ, List, [], ◌∷◌, ◌++◌, ◌⊎◌, map, Option, Some, None}
use Rattle.ua_sub_msgs.specs.declared.notification.NotificationMessage.{NotificationMessage}
use Rattle.ua_sub_msgs.specs.declared.publish.SubscriptionAcknowledgement.{SubscriptionAcknowledgement}
use Rattle.ua_sub_msgs.specs.declared.request.SubRequest.{SubRequest}
use Rattle.ua_sub_msgs.specs.declared.request.SubRequest.TheVariants as sub_request
use Rattle.ua_services.specs.declared.request.Request.{Request}
use Rattle.ua_services.specs.declared.request.Request.TheVariants as request
use Rattle.link_rules.specs.declared.content.Content.{Content}
use Rattle.link_rules.specs.declared.content.Content.TheVariants as content
use Rattle.link_rules.specs.declared.remembered.Remembered.{Remembered}
use Rattle.link_rules.specs.State.{LinkState}
use Rattle.link_rules.specs.Said.{Said, Told, Asks}
use Rattle.link_rules.specs.Requests.{acknowledgement}
use Rattle.link_rules.specs.Messages.{content_of}
use Rattle.link_rules.specs.Step.{Happening, after}
use Rattle.link_laws.specs.Taken.{message_in, reply_of}

-- ---- those that are put

abbrev pub acks_in_sub : SubRequest → List SubscriptionAcknowledgement
acks_in_sub (sub_request.Publish r) = r.subscription_acknowledgements
acks_in_sub other = []

abbrev pub acks_in : Request → List SubscriptionAcknowledgement
acks_in (request.Subscription r) = acks_in_sub r
acks_in (request.Session r) = []

abbrev pub acks_told : Told → List SubscriptionAcknowledgement
acks_told (Asks number r) = acks_in r
acks_told other = []

-- in the Publishes, in order
abbrev pub acks_put : List Said → List SubscriptionAcknowledgement
acks_put [] = []
acks_put (said ∷ more) = acks_told said.told ++ acks_put more

-- ---- those that are due

abbrev pub due_of : Option Remembered → List ℕ → List SubscriptionAcknowledgement
due_of None acks = []
due_of (Some remembered) acks = map (acknowledgement remembered.id) acks

abbrev pub due : LinkState → List SubscriptionAcknowledgement
due l = due_of l.remembered l.acks

-- ---- messages with data that are heard

abbrev pub data_by : Content → ℕ → ℕ → List SubscriptionAcknowledgement
data_by (content.Values values) id number = acknowledgement id number ∷ []
data_by other id number = []

-- as acknowledgements, for the subscription that is remembered
abbrev pub data_heard : Option Remembered → Option NotificationMessage → List SubscriptionAcknowledgement
data_heard (Some remembered) (Some message) =
    data_by (content_of message.notification_data) remembered.id message.sequence_number
data_heard (Some remembered) None = []
data_heard None message = []

-- of a link to which this happens
abbrev pub all_heard : List Happening → LinkState → List SubscriptionAcknowledgement
all_heard [] l = []
all_heard (h ∷ more) l = data_heard l.remembered (message_in (reply_of h)) ++ all_heard more (after h l).link

-- all of these, in this order, are among those
abbrev pub IsWithin : {A : Type 0} → List A → List A → Type 0
IsWithin xs [] = xs ≡ []
IsWithin {A} xs (y ∷ ys) = IsWithin xs ys ⊎ ((rest : List A) × (xs ≡ y ∷ rest) × IsWithin rest ys)
