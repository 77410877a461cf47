-- What a subscription's message brings.
use Rattle.std.specs.Prelude.{◌≡◌, ◌<◌, ◌≤◌, ◌^◌, ℕ, ℤ, List, [], ◌∷◌, false, Ok, length, FitsSigned}
use Rattle.std.specs.Int.{w64}
use Rattle.ua_values.specs.declared.extension.ExtensionObject.{ExtensionObject}
use Rattle.ua_values.specs.Laws.{KeepsArray}
use Rattle.ua_structures.specs.declared.header.ResponseHeader.{ResponseHeader}
use Rattle.ua_structures.specs.Body.{object_at, type_number}
use Rattle.ua_sub_msgs.specs.declared.notification.MonitoredItemNotification.{MonitoredItemNotification}
use Rattle.ua_sub_msgs.specs.declared.publish.PublishResponse.{PublishResponse}
use Rattle.ua_sub_msgs.specs.Families.{notifications}
use Rattle.subscription.specs.Items.{Told}
use Rattle.subscription.specs.Message.{data_change}
use Rattle.link_rules.specs.Messages.{has_status}

-- the numbers of an entry that is told are those that their types hold
pub record FitsTold (one : Told) : Type 0 where
  pub handle : one.handle < 2 ^ 32
  pub value : FitsSigned w64 one.entry.change.value
  pub time : FitsSigned w64 one.entry.change.time
  pub pico : one.entry.change.pico ≤ 9999

-- so are those of a message, which tells at most 1000 entries
pub record FitsMessageOf (number : ℕ) (now : ℤ) (told : List Told) : Type 0 where
  pub number_fits : number < 2 ^ 32
  pub time : FitsSigned w64 now
  pub most : length told ≤ 1000

-- those of a reply's header
pub record FitsHeader (header : ResponseHeader) : Type 0 where
  pub time : FitsSigned w64 header.timestamp
  pub handle : header.request_handle < 2 ^ 32
  pub code : header.service_result < 2 ^ 32

-- and those of a reply to a Publish, besides its message
pub record FitsPublish (r : PublishResponse) : Type 0 where
  pub header : FitsHeader r.response_header
  pub subscription : r.subscription_id < 2 ^ 32
  pub available : KeepsArray (λ n. n < 2 ^ 32) r.available_sequence_numbers
  pub results : KeepsArray (λ n. n < 2 ^ 32) r.results

-- a message's one object holds these values: it is a DataChangeNotification, and is read as one of them
pub record HoldsValues (values : List MonitoredItemNotification) (objects : List ExtensionObject) : Type 0 where
  pub object : ExtensionObject
  pub alone : objects ≡ object ∷ []
  pub numbered : type_number object.type_id ≡ 811
  pub read : object_at notifications object ≡ Ok (data_change values)
  pub no_status : has_status objects ≡ false
