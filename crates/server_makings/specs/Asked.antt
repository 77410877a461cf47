-- Which items CreateMonitoredItems asks for, and which of them are made (OPC 10000-4, 5.12.2).
use Rattle.std.specs.Prelude.{◌≡◌, ℕ, ◌==◌, List, [], ◌∷◌, ◌++◌, ◌⊎◌, map, Option, Some, None, Result, Ok, if◌then◌else◌}
use Rattle.ua_base.specs.declared.modes.Timestamps.{Timestamps}
use Rattle.ua_channel.specs.declared.heard.Heard.{Heard}
use Rattle.ua_channel.specs.declared.heard.Heard.TheVariants as heard
use Rattle.ua_sub_msgs.specs.declared.item.MonitoredItemCreateRequest.{MonitoredItemCreateRequest}
use Rattle.ua_sub_msgs.specs.declared.request.SubRequest.{SubRequest}
use Rattle.ua_sub_msgs.specs.declared.request.SubRequest.TheVariants as sub_request
use Rattle.ua_services.specs.declared.request.Request.{Request}
use Rattle.ua_services.specs.declared.request.Request.TheVariants as request
use Rattle.ua_services.specs.declared.request.RequestFault.{RequestFault}
use Rattle.ua_services.specs.Requests.{request_at}
use Rattle.subscription.specs.declared.spec.ItemSpec.{ItemSpec}
use Rattle.server_rules.specs.Durations.{revised_queue}
use Rattle.server_rules.specs.Items.{item_number, judged}
use Rattle.server_rules.specs.Operations.{mode_named, timestamps_named}
use Rattle.server_rules.specs.Step.{Happening, Hears}
use Rattle.server_laws.specs.Moves.{Doing, Adds, Removes, Modes, Cycles, Sends, Acknowledges, Modifies, Enables, Goes, Move, Makes, Does, Enters, Ends, Asks, Issues, Repeats, Answers}

-- ---- what is asked for

-- an item, with the timestamps that its request names for all of its items
pub record AskedItem : Type 0 where
  pub stamps : Timestamps
  pub item : MonitoredItemCreateRequest

-- a request whose timestamps are none of the standard's asks for nothing
abbrev pub asked_with : Option Timestamps → List MonitoredItemCreateRequest → List AskedItem
asked_with None items = []
asked_with (Some stamps) items = map (λ item. record { stamps = stamps; item = item }) items

-- in the subscription of an id, by this request
abbrev pub asked_of_sub : ℕ → SubRequest → List AskedItem
asked_of_sub id (sub_request.CreateMonitoredItems r) =
    if r.subscription_id == id then asked_with (timestamps_named r.timestamps_to_return) r.items_to_create else []
asked_of_sub id other = []

abbrev pub asked_of_request : ℕ → Result Request RequestFault → List AskedItem
asked_of_request id (Ok (request.Subscription r)) = asked_of_sub id r
asked_of_request id other = []

abbrev pub asked_of_heard : ℕ → Heard → List AskedItem
asked_of_heard id (heard.Message number body) = asked_of_request id (request_at body)
asked_of_heard id other = []

abbrev pub asked_by : ℕ → Happening → List AskedItem
asked_by id (Hears conn h) = asked_of_heard id h
asked_by id other = []

-- by all that happened, newest first; in order
abbrev pub asked_in : ℕ → List Happening → List AskedItem
asked_in id [] = []
asked_in id (happening ∷ earlier) = asked_in id earlier ++ asked_by id happening

-- ---- what is made

abbrev pub added_by : Doing → List ItemSpec
added_by (Adds spec) = spec ∷ []
added_by (Removes id) = []
added_by (Modes id mode) = []
added_by (Cycles queued) = []
added_by (Sends now) = []
added_by (Acknowledges number) = []
added_by (Modifies spec now) = []
added_by (Enables enabled) = []
added_by Goes = []

abbrev pub added_in : ℕ → Move → List ItemSpec
added_in id (Does other doing) = if other == id then added_by doing else []
added_in id (Makes spec start) = []
added_in id (Enters change) = []
added_in id (Ends other) = []
added_in id (Asks call) = []
added_in id Issues = []
added_in id (Repeats other number) = []
added_in id (Answers answer) = []

-- the items that these moves make in the subscription of an id, in order
abbrev pub made_in : ℕ → List Move → List ItemSpec
made_in id [] = []
made_in id (move ∷ moves) = added_in id move ++ made_in id moves

-- ---- the ones of the others

-- each of these is what a server of so many items makes of one that was asked for: in the same order, and of each one at
-- the most
abbrev pub AreMadeOf : ℕ → List ItemSpec → List AskedItem → Type 0
AreMadeOf items [] asked = Unit {0}
AreMadeOf items (spec ∷ made) [] = ⊥
AreMadeOf items (spec ∷ made) (one ∷ asked) =
    ((judged items one.stamps one.item ≡ Ok spec) × AreMadeOf items made asked) ⊎ AreMadeOf items (spec ∷ made) asked

-- what an item is, by what was asked for
pub record IsAsAsked (items : ℕ) (named : Timestamps) (asked : MonitoredItemCreateRequest) (spec : ItemSpec) : Type 0 where
  pub node : item_number items asked.item_to_monitor.node_id ≡ Some spec.node
  pub handle : spec.handle ≡ asked.requested_parameters.client_handle
  pub mode : mode_named asked.monitoring_mode ≡ Some spec.mode
  pub queue : spec.queue ≡ revised_queue asked.requested_parameters.queue_size
  pub oldest : spec.oldest ≡ asked.requested_parameters.discard_oldest
  pub stamps : spec.stamps ≡ named
