-- What follows what its links told: the choice among those that are ready, and the modes in which their items are to be
-- monitored (OPC 10000-4, 6.6.2.4).
use Rattle.std.specs.Prelude.{ℕ, ◌+◌, zero, suc, nat_lt, Bool, List, [], ◌∷◌, ◌++◌, length, Option, Some, None, if◌then◌else◌}
use Rattle.set_model.specs.declared.line.LogLine.TheVariants as line
use Rattle.delivery_log.specs.Log.{noted}
use Rattle.failover_core.specs.declared.choice.Candidate.{Candidate}
use Rattle.failover_core.specs.Choice.{decided, switch_of, wanted}
use Rattle.link_rules.specs.State.{is_ready}
use Rattle.link_rules.specs.Step.{wants}
use Rattle.client_rules.specs.State.{ClientState, level_of, link_of, with_log}
use Rattle.client_rules.specs.Acts.{Switches}
use Rattle.client_rules.specs.Doing.{ClientDid, and_then, each_server, nothing}
use Rattle.client_rules.specs.Links.{linked}

-- ---- the choice

abbrev pub candidate_of : ℕ → ClientState → List Candidate
candidate_of server c =
    if is_ready (link_of server c) then record { server = server; level = level_of server c } ∷ [] else []

-- those of the first so many servers that are ready, with the levels that were read of them last
unfoldable pub ready_among : ℕ → ClientState → List Candidate
ready_among zero c = []
ready_among (suc count) c = ready_among count c ++ candidate_of (count + 1) c

abbrev pub ready_of : ClientState → List Candidate
ready_of c = ready_among (length c.links) c

abbrev pub switched : Option (ℕ × ℕ) → ClientState → ClientDid
switched None c = nothing c
switched (Some both) c = record {
  client = with_log (noted (line.Switch both.0 both.1) c.log) c;
  orders = [];
  acts = Switches both.0 both.1 ∷ [];
}

abbrev pub with_choice : List Candidate → ClientState → ClientState
with_choice ready c = record c { core = decided ready c.core }

unfoldable pub chosen : List Candidate → ClientState → ClientDid
chosen ready c = switched (switch_of ready c.core) (with_choice ready c)

-- ---- the modes

-- a server that is ready is told how its items are to be monitored
unfoldable pub told_mode : ℕ → ClientState → ClientDid
told_mode server c =
    if is_ready (link_of server c) then linked server (wants (wanted server c.core)) c else nothing c

abbrev pub modes_told : ClientState → ClientDid
modes_told c = each_server told_mode (length c.links) c

-- ---- both, again where a link closed meanwhile

unfoldable pub round : List Candidate → ClientState → ClientDid
round ready c = and_then modes_told (chosen ready c)

abbrev pub are_fewer : List Candidate → List Candidate → Bool
are_fewer after before = nat_lt (length after) (length before)

-- at most so many times
unfoldable pub settled_within : ℕ → List Candidate → ClientState → ClientDid
settled_within zero ready c = nothing c
settled_within (suc most) ready c =
    if are_fewer (ready_of (round ready c).client) ready then
    and_then (settled_within most (ready_of (round ready c).client)) (round ready c)
    else round ready c

-- each time but the last one a link closes
abbrev pub settled : ClientState → ClientDid
settled c = settled_within (length c.links + 1) (ready_of c) c
