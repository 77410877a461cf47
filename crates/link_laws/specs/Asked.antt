-- Which monitoring modes and which items a link asks for.
use Rattle.std.specs.Prelude.{◌≡◌, ◌≢◌, ℕ, ℤ, pos, List, [], ◌∷◌, ◌++◌, Option, Some, None}
use Rattle.ua_base.specs.declared.modes.Mode.{Mode}
use Rattle.ua_base.specs.Modes.{mode_number}
use Rattle.ua_sub_msgs.specs.declared.item.CreateMonitoredItemsRequest.{CreateMonitoredItemsRequest}
use Rattle.ua_sub_msgs.specs.declared.request.SubRequest.{SubRequest}
use Rattle.ua_sub_msgs.specs.declared.request.SubRequest.TheVariants as sub_request
use Rattle.ua_services.specs.declared.request.Request.{Request}
use Rattle.ua_services.specs.declared.request.Request.TheVariants as request
use Rattle.link_rules.specs.declared.config.LinkConfig.{LinkConfig}
use Rattle.link_rules.specs.Said.{Said, Told, Asks}
use Rattle.link_rules.specs.Requests.{item_requests}
use Rattle.link_rules.specs.Step.{Happening, Wants}

-- ---- modes

abbrev pub mode_in_sub : SubRequest → Option ℤ
mode_in_sub (sub_request.SetMonitoringMode r) = Some r.monitoring_mode
mode_in_sub other = None

abbrev pub mode_in : Request → Option ℤ
mode_in (request.Subscription r) = mode_in_sub r
mode_in (request.Session r) = None

-- the mode of a SetMonitoringMode, by its number
abbrev pub mode_asked : Told → Option ℤ
mode_asked (Asks number r) = mode_in r
mode_asked other = None

-- no SetMonitoringMode is for this mode
abbrev pub NeverAsks : Mode → List Said → Type 0
NeverAsks mode [] = Unit {0}
NeverAsks mode (said ∷ more) = (mode_asked said.told ≢ Some (pos (mode_number mode))) × NeverAsks mode more

-- the client never wants it
abbrev pub IsNoWish : Mode → Happening → Type 0
IsNoWish mode (Wants other) = other ≢ mode
IsNoWish mode other = Unit {0}

abbrev pub NeverWants : Mode → List Happening → Type 0
NeverWants mode [] = Unit {0}
NeverWants mode (h ∷ more) = IsNoWish mode h × NeverWants mode more

-- ---- items

abbrev pub items_in_sub : SubRequest → List CreateMonitoredItemsRequest
items_in_sub (sub_request.CreateMonitoredItems r) = r ∷ []
items_in_sub other = []

abbrev pub items_in : Request → List CreateMonitoredItemsRequest
items_in (request.Subscription r) = items_in_sub r
items_in (request.Session r) = []

abbrev pub items_asked : Told → List CreateMonitoredItemsRequest
items_asked (Asks number r) = items_in r
items_asked other = []

-- the CreateMonitoredItems that are put, in order
abbrev pub items_put : List Said → List CreateMonitoredItemsRequest
items_put [] = []
items_put (said ∷ more) = items_asked said.told ++ items_put more

-- for all items of the configuration, from 1 on, each under its number, with the resting mode and the configured queue; and
-- for their source times (OPC 10000-4, 7.39)
pub record IsStandard (id : ℕ) (config : LinkConfig) (r : CreateMonitoredItemsRequest) : Type 0 where
  pub subscription : r.subscription_id ≡ id
  pub items : r.items_to_create ≡ item_requests config config.items
  pub times : r.timestamps_to_return ≡ pos 0

-- none, or one of the subscription of this id, where there is one
abbrev pub MakesItems : Option ℕ → LinkConfig → List CreateMonitoredItemsRequest → Type 0
MakesItems made config [] = Unit {0}
MakesItems made config (r ∷ []) = (id : ℕ) × (made ≡ Some id) × IsStandard id config r
MakesItems made config (r ∷ another ∷ more) = ⊥
