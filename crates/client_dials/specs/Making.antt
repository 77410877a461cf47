-- Where a link asks for items: behind the reply that made the subscription (OPC 10000-4, 5.12.2 and 5.13.2).
use Rattle.std.specs.Prelude.{◌≤◌, ℕ, ◌+◌, ◌==◌, List, [], ◌∷◌, Option, Some, None, if◌then◌else◌}
use Rattle.ua_channel.specs.declared.heard.Heard.{Heard}
use Rattle.ua_sub_msgs.specs.declared.item.CreateMonitoredItemsRequest.{CreateMonitoredItemsRequest}
use Rattle.link_rules.specs.declared.config.LinkConfig.{LinkConfig}
use Rattle.link_laws.specs.Asked.{IsStandard, items_put}
use Rattle.link_laws.specs.Taken.{heard_reply, id_in}
use Rattle.client_dials.specs.Spoken.{Spoken}

-- how many of these ask for items in the subscription of an id
abbrev pub asks_for : ℕ → List CreateMonitoredItemsRequest → ℕ
asks_for id [] = 0
asks_for id (r ∷ more) = (if r.subscription_id == id then 1 else 0) + asks_for id more

abbrev pub makes_by : ℕ → Option ℕ → ℕ
makes_by id None = 0
makes_by id (Some made) = if made == id then 1 else 0

-- how many of the replies among these messages made a subscription of this id
abbrev pub makes_in : ℕ → List Heard → ℕ
makes_in id [] = 0
makes_in id (h ∷ more) = makes_by id (id_in (heard_reply h)) + makes_in id more

-- each asks for all of the link's items, as a link asks for them
abbrev pub AreStandard : LinkConfig → List CreateMonitoredItemsRequest → Type 0
AreStandard config [] = Unit {0}
AreStandard config (r ∷ more) = IsStandard r.subscription_id config r × AreStandard config more

-- on a connection items are asked for in this form alone, and in the subscription of an id no more often than a reply made
-- one of it there
pub record AsksForMade (config : LinkConfig) (spoken : Spoken) : Type 0 where
  pub standard : AreStandard config (items_put spoken.said)
  pub few : (id : ℕ) → asks_for id (items_put spoken.said) ≤ makes_in id spoken.heard
