-- How many messages the subscription of an id may send in a life, by what happened in it.
use Rattle.std.specs.Prelude.{◌≡◌, ◌≤◌, ℕ, ◌+◌, ◌*◌, ◌==◌, ◌&&◌, List, [], ◌∷◌, ◌++◌, Bool, false, Option, Some, None, Result, Ok, length, filter, nat_lt, if◌then◌else◌}
use Rattle.set_model.specs.declared.source.Change.{Change}
use Rattle.ua_values.specs.declared.node.NodeId.{NodeId}
use Rattle.ua_values.specs.declared.node.NodeId.TheVariants as node
use Rattle.ua_channel.specs.declared.heard.Heard.{Heard}
use Rattle.ua_channel.specs.declared.heard.Heard.TheVariants as heard
use Rattle.ua_sub_msgs.specs.declared.item.MonitoredItemCreateRequest.{MonitoredItemCreateRequest}
use Rattle.ua_sub_msgs.specs.declared.request.SubRequest.{SubRequest}
use Rattle.ua_sub_msgs.specs.declared.request.SubRequest.TheVariants as sub_request
use Rattle.ua_services.specs.declared.request.Request.{Request}
use Rattle.ua_services.specs.declared.request.Request.TheVariants as request
use Rattle.ua_services.specs.declared.request.RequestFault.{RequestFault}
use Rattle.ua_services.specs.Requests.{request_at}
use Rattle.subscription.specs.declared.spec.ItemSpec.{ItemSpec}
use Rattle.subscription.specs.State.{ItemState, SubState}
use Rattle.subscription.specs.Items.{is_disabled}
use Rattle.subscription.specs.History.{Call, Add, Remove, SetMode, Feed, Timer, Publish, Acknowledge, Modify, SetEnabled, Moved}
use Rattle.server_rules.specs.State.{ServerState, sub_at}
use Rattle.server_rules.specs.Step.{Happening, Hears, after}
use Rattle.server_rules.specs.Acts.{state_after}
use Rattle.server_laws.specs.Counted.{held}
use Rattle.server_laws.specs.Course.{IsCourse, Leave, Setting, core_of, fed_in, leave_of, life_of}
use Rattle.server_laws.specs.Lives.{Life, Lives, Over, Stands, Unborn, life_after, messages_in}
use Rattle.server_laws.specs.Messages.{AreMessages}

-- ---- what its queues hold, and which of its items are Disabled

abbrev pub held_by : Option SubState → ℕ
held_by None = 0
held_by (Some sub) = held sub.items

abbrev pub count_disabled : List ItemState → ℕ
count_disabled items = length (filter (λ item. is_disabled item.mode) items)

abbrev pub disabled_in : Option SubState → ℕ
disabled_in None = 0
disabled_in (Some sub) = count_disabled sub.items

-- ---- SetMonitoringMode

abbrev pub sets_modes : ℕ → Leave → Bool
sets_modes id (Setting other mode) = other == id
sets_modes id other = false

-- one of this subscription found an item Disabled and left it otherwise: fewer are
abbrev pub wakes : ℕ → Happening → ServerState → Bool
wakes id happening s =
    sets_modes id (leave_of happening) && nat_lt (disabled_in (sub_at id (after happening s).state.subs)) (disabled_in (sub_at id s.subs))

-- how many of them did
abbrev pub times_woken : ℕ → List Happening → ServerState → ℕ
times_woken id [] s = 0
times_woken id (happening ∷ earlier) s =
    (if wakes id happening (state_after earlier s) then 1 else 0) + times_woken id earlier s

-- ---- the items that were made in it

abbrev pub made_by : Call → List ItemSpec
made_by (Add spec current) = spec ∷ []
made_by (Remove id) = []
made_by (SetMode id mode current) = []
made_by (Feed change) = []
made_by (Timer queued) = []
made_by (Publish now) = []
made_by (Acknowledge number) = []
made_by (Modify spec now) = []
made_by (SetEnabled enabled) = []
made_by Moved = []

abbrev pub items_made : List Call → List ItemSpec
items_made [] = []
items_made (call ∷ earlier) = made_by call ++ items_made earlier

abbrev pub items_in : Life → List ItemSpec
items_in Unborn = []
items_in (Lives spec start calls) = items_made calls
items_in (Over spec start calls) = items_made calls

-- those of a node
abbrev pub is_of : ℕ → ItemSpec → Bool
is_of node spec = spec.node == node

abbrev pub made_of : ℕ → List ItemSpec → ℕ
made_of node specs = length (filter (is_of node) specs)

-- how many of the items each change may come to, all together
abbrev pub reached : List Change → List ItemSpec → ℕ
reached [] specs = 0
reached (change ∷ changes) specs = made_of change.item specs + reached changes specs

-- ---- the items that were asked for

-- the number of an item's node
abbrev pub asked_node : NodeId → Option ℕ
asked_node (node.Numeric namespace number) = if namespace == 2 then Some number else None
asked_node (node.Text namespace name) = None
asked_node (node.Guid namespace name) = None
asked_node (node.Opaque namespace name) = None

abbrev pub with_node : Option ℕ → List ℕ → List ℕ
with_node None nodes = nodes
with_node (Some number) nodes = number ∷ nodes

abbrev pub nodes_in : List MonitoredItemCreateRequest → List ℕ
nodes_in [] = []
nodes_in (one ∷ more) = with_node (asked_node one.item_to_monitor.node_id) (nodes_in more)

-- the nodes that a CreateMonitoredItems of this subscription names
abbrev pub nodes_of_sub : ℕ → SubRequest → List ℕ
nodes_of_sub id (sub_request.CreateMonitoredItems r) = if r.subscription_id == id then nodes_in r.items_to_create else []
nodes_of_sub id other = []

abbrev pub nodes_of_request : ℕ → Result Request RequestFault → List ℕ
nodes_of_request id (Ok (request.Subscription r)) = nodes_of_sub id r
nodes_of_request id other = []

abbrev pub nodes_of_heard : ℕ → Heard → List ℕ
nodes_of_heard id (heard.Message number body) = nodes_of_request id (request_at body)
nodes_of_heard id other = []

abbrev pub nodes_of : ℕ → Happening → List ℕ
nodes_of id (Hears conn h) = nodes_of_heard id h
nodes_of id other = []

abbrev pub nodes_asked : ℕ → List Happening → List ℕ
nodes_asked id [] = []
nodes_asked id (happening ∷ earlier) = nodes_of id happening ++ nodes_asked id earlier

abbrev pub count_of : ℕ → List ℕ → ℕ
count_of node nodes = length (filter (λ other. other == node) nodes)

-- how many of these nodes each change may be of, all together
abbrev pub met : List Change → List ℕ → ℕ
met [] nodes = 0
met (change ∷ changes) nodes = count_of change.item nodes + met changes nodes

-- none of them comes twice
abbrev pub AreApart : List ℕ → Type 0
AreApart nodes = (node : ℕ) → count_of node nodes ≤ 1

-- ---- the bound

-- whatever happened comes to moves, of which this is the life of the subscription; all its messages, and the entries that
-- its queues hold, are no more than the changes that were fed, each for each item of its node, and the items that were
-- made in it, once each and once more for each SetMonitoringMode that found one Disabled and left it otherwise. The items
-- that were made are among those that CreateMonitoredItems of it asked for, so the same holds of these
pub record IsBounded (id : ℕ) (happenings : List Happening) (s : ServerState) : Type 0 where
  pub course : IsCourse happenings s
  pub life : Life
  pub is : life ≡ life_after id course.moves (core_of s) Unborn
  pub stands : Stands id life (core_of (state_after happenings s))
  pub messages : AreMessages id (messages_in life) (life_of happenings s)
  pub given : (sub : SubState) → sub_at id (state_after happenings s).subs ≡ Some sub → length (items_in life) ≡ sub.given
  pub most : length (messages_in life) + held_by (sub_at id (state_after happenings s).subs)
      ≤ reached (fed_in happenings) (items_in life) + length (items_in life) * (1 + times_woken id happenings s)
  pub asked : (p : ℕ → Bool) → length (filter (λ spec. p spec.node) (items_in life)) ≤ length (filter p (nodes_asked id happenings))
  pub closed : length (messages_in life) + held_by (sub_at id (state_after happenings s).subs)
      ≤ met (fed_in happenings) (nodes_asked id happenings) + length (nodes_asked id happenings) * (1 + times_woken id happenings s)
  pub apart : AreApart (nodes_asked id happenings) → length (messages_in life) + held_by (sub_at id (state_after happenings s).subs)
      ≤ length (fed_in happenings) + length (nodes_asked id happenings) * (1 + times_woken id happenings s)
