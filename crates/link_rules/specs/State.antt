-- What a link is between two events: plain data, over whole messages (OPC 10000-4, 5.5, 5.6 and 5.13).
use Rattle.std.specs.Prelude.{ℕ, ℤ, ◌+ℤ◌, ◌*◌, ◌^◌, ◌-◌, not, pos, List, [], Bool, true, false, Option, Some, None, nat_lt}
use Rattle.std.specs.Int.{int_min}
use Rattle.ua_values.specs.declared.node.NodeId.{NodeId}
use Rattle.ua_values.specs.declared.node.NodeId.TheVariants as node
use Rattle.link_rules.specs.declared.config.LinkConfig.{LinkConfig}
use Rattle.link_rules.specs.declared.conversation.Conversation.{Conversation}
use Rattle.link_rules.specs.declared.phase.Phase.{Phase}
use Rattle.link_rules.specs.declared.phase.Phase.TheVariants as phase
use Rattle.link_rules.specs.declared.phase.ReadyState.{ReadyState}
use Rattle.link_rules.specs.declared.remembered.Monitored.{Monitored}
use Rattle.link_rules.specs.declared.remembered.Remembered.{Remembered}

-- one server as its client sees it, over lost connections
pub record LinkState : Type 0 where
  pub config : LinkConfig
  -- in milliseconds
  pub age : ℕ
  pub phase : Phase
  -- when it came to this phase, or heard in it what keeps it there, in milliseconds of its age
  pub since : ℕ
  -- for how many milliseconds it doesn't dial
  pub wait : ℕ
  -- it wishes that the connection be closed
  pub closes : Bool
  -- the server's redundancy is of a kind that isn't used
  pub unsupported : Bool
  -- the endpoint of the last connection
  pub url : Option (List ℕ)
  -- the secret id of its session (OPC 10000-4, 5.6.2)
  pub session : NodeId
  pub conversation : Conversation
  -- its subscription, and the items of it that were made
  pub remembered : Option Remembered
  pub monitored : List Monitored
  -- the numbers of the subscription's messages that are to be acknowledged, oldest first
  pub acks : List ℕ

abbrev pub null_node : NodeId
null_node = node.Numeric 0 0

-- a connection on which nothing was said, and of whose server nothing is known
abbrev pub new_conversation : Conversation
new_conversation = record {
  channel = 0;
  token = 0;
  limit = 0;
  last = 0;
  opened = 0;
  lifetime = 0;
  renewal = None;
  reading = None;
  read_at = 0;
}

abbrev pub new_link : LinkConfig → LinkState
new_link config = record {
  config = config;
  age = 0;
  phase = phase.Idle;
  since = 0;
  wait = 0;
  closes = false;
  unsupported = false;
  url = None;
  session = null_node;
  conversation = new_conversation;
  remembered = None;
  monitored = [];
  acks = [];
}

-- ---- time

-- a DateTime counts steps of 100 ns (OPC 10000-6, 5.2.2.5); the last one stays
abbrev pub link_time : LinkState → ℤ
link_time l = int_min (l.config.start +ℤ pos (l.age * 10000)) (pos (2 ^ 63 - 1))

-- so many milliseconds have passed since this age
abbrev pub have_passed : ℕ → ℕ → LinkState → Bool
have_passed span at l = not (nat_lt (l.age - at) span)

-- ---- phases

abbrev pub is_idle_phase : Phase → Bool
is_idle_phase phase.Idle = true
is_idle_phase other = false

-- what is known in the phase Ready
abbrev pub ready_in : Phase → Option ReadyState
ready_in (phase.Ready ready) = Some ready
ready_in other = None

abbrev pub is_ready_phase : Phase → Bool
is_ready_phase (phase.Ready ready) = true
is_ready_phase other = false

abbrev pub is_idle : LinkState → Bool
is_idle l = is_idle_phase l.phase

abbrev pub is_ready : LinkState → Bool
is_ready l = is_ready_phase l.phase

-- another phase begins
abbrev pub with_phase : Phase → LinkState → LinkState
with_phase next l = record l { phase = next; since = l.age }

-- what is known in the same phase changes
abbrev pub with_ready : ReadyState → LinkState → LinkState
with_ready ready l = record l { phase = phase.Ready ready }

abbrev pub with_conversation : Conversation → LinkState → LinkState
with_conversation c l = record l { conversation = c }

abbrev pub with_remembered : Remembered → LinkState → LinkState
with_remembered r l = record l { remembered = Some r }

-- the subscription is no more: it has no items, and nothing is to be acknowledged
abbrev pub forgotten : LinkState → LinkState
forgotten l = record l { remembered = None; monitored = []; acks = [] }
