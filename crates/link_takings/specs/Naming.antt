-- Which subscription a link's requests name.
use Rattle.std.specs.Prelude.{◌≡◌, ℕ, List, [], ◌∷◌, Option, Some, None}
use Rattle.ua_sub_msgs.specs.declared.request.SubRequest.{SubRequest}
use Rattle.ua_sub_msgs.specs.declared.request.SubRequest.TheVariants as sub_request
use Rattle.ua_services.specs.declared.request.Request.{Request}
use Rattle.ua_services.specs.declared.request.Request.TheVariants as request
use Rattle.link_rules.specs.declared.remembered.Remembered.{Remembered}
use Rattle.link_rules.specs.Said.{Said, Told, Asks}

-- the ids of subscriptions in a request that is for some; a Publish is for none
abbrev pub ids_in_sub : SubRequest → Option (List ℕ)
ids_in_sub (sub_request.CreateMonitoredItems r) = Some (r.subscription_id ∷ [])
ids_in_sub (sub_request.SetMonitoringMode r) = Some (r.subscription_id ∷ [])
ids_in_sub (sub_request.DeleteMonitoredItems r) = Some (r.subscription_id ∷ [])
ids_in_sub (sub_request.ModifySubscription r) = Some (r.subscription_id ∷ [])
ids_in_sub (sub_request.SetPublishingMode r) = Some r.subscription_ids
ids_in_sub (sub_request.Republish r) = Some (r.subscription_id ∷ [])
ids_in_sub (sub_request.TransferSubscriptions r) = Some r.subscription_ids
ids_in_sub (sub_request.DeleteSubscriptions r) = Some r.subscription_ids
ids_in_sub (sub_request.CreateSubscription r) = None
ids_in_sub (sub_request.Publish r) = None

abbrev pub ids_in : Request → Option (List ℕ)
ids_in (request.Subscription r) = ids_in_sub r
ids_in (request.Session r) = None

abbrev pub ids_told : Told → Option (List ℕ)
ids_told (Asks number r) = ids_in r
ids_told other = None

-- they are one, the id of the subscription that is remembered
abbrev pub IsOfRemembered : Option (List ℕ) → Option Remembered → Type 0
IsOfRemembered None o = Unit {0}
IsOfRemembered (Some ids) o = (r : Remembered) × (o ≡ Some r) × (ids ≡ r.id ∷ [])

abbrev pub AllOfRemembered : List Said → Option Remembered → Type 0
AllOfRemembered [] o = Unit {0}
AllOfRemembered (said ∷ more) o = IsOfRemembered (ids_told said.told) o × AllOfRemembered more o
