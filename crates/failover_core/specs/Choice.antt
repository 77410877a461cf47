-- Which server a client of a non-transparent set takes its data from (OPC 10000-4, 6.6.2.4).
use Rattle.std.specs.Prelude.{ℕ, ◌==◌, ◌&&◌, ◌||◌, Bool, true, false, not, nat_lt, nat_le, List, [], ◌∷◌, Option, Some, None, if◌then◌else◌}
use Rattle.ua_base.specs.declared.modes.Mode.{Mode}
use Rattle.ua_base.specs.declared.modes.Mode.TheVariants.{Disabled, Sampling, Reporting}
use Rattle.ua_base.specs.declared.modes.SetMode.{SetMode}
use Rattle.ua_base.specs.declared.modes.SetMode.TheVariants.{Direct, Hot, Warm, Cold}
use Rattle.failover_core.specs.declared.choice.Candidate.{Candidate}
use Rattle.failover_core.specs.State.{CoreState}

-- ---- which of two

abbrev pub is_active : Option ℕ → ℕ → Bool
is_active None server = false
is_active (Some active) server = active == server

-- of two servers of one level the active one comes first, and else the one of the lower number
abbrev pub comes_first : Option ℕ → ℕ → ℕ → Bool
comes_first active server other = not (is_active active other) && (is_active active server || nat_lt server other)

-- a server goes before another one where its level is higher, and where it comes first of two of one level
abbrev pub goes_before : Option ℕ → Candidate → Candidate → Bool
goes_before active one other =
    nat_lt other.level one.level || ((one.level == other.level) && comes_first active one.server other.server)

-- ---- which of all

-- a server of level 0 or 1 is in maintenance or has no data (OPC 10000-4, 6.6.2.4.2)
abbrev pub has_data : Candidate → Bool
has_data one = nat_le 2 one.level

abbrev pub better : Option ℕ → Option Candidate → Candidate → Option Candidate
better active None one = if has_data one then Some one else None
better active (Some best) one = if goes_before active one best then Some one else Some best

abbrev pub best_from : Option ℕ → Option Candidate → List Candidate → Option Candidate
best_from active best [] = best
best_from active best (one ∷ more) = best_from active (better active best one) more

abbrev pub best_of : List Candidate → Option ℕ → Option Candidate
best_of ready active = best_from active None ready

abbrev pub server_of : Option Candidate → Option ℕ
server_of None = None
server_of (Some one) = Some one.server

abbrev pub choose : List Candidate → Option ℕ → Option ℕ
choose ready active = server_of (best_of ready active)

-- ---- the client's choice

-- the one chosen becomes the active one
abbrev pub decided : List Candidate → CoreState → CoreState
decided ready core = record core { active = choose ready core.active }

-- 0 stands for none
abbrev pub number_of : Option ℕ → ℕ
number_of None = 0
number_of (Some server) = server

abbrev pub is_same : Option ℕ → Option ℕ → Bool
is_same None None = true
is_same None (Some server) = false
is_same (Some server) None = false
is_same (Some server) (Some other) = server == other

abbrev pub switch_between : Option ℕ → Option ℕ → Option (ℕ × ℕ)
switch_between before after = if is_same before after then None else Some (number_of before, number_of after)

-- the switch of a choice: from the active one to the one chosen, where they are two
abbrev pub switch_of : List Candidate → CoreState → Option (ℕ × ℕ)
switch_of ready core = switch_between core.active (choose ready core.active)

-- ---- modes

-- how a backup's items are monitored (OPC 10000-4, 6.6.2.4.5). The queues of a direct set are read by the client itself
abbrev pub resting : SetMode → Mode
resting Hot = Sampling
resting Warm = Disabled
resting Cold = Reporting
resting Direct = Reporting

abbrev pub wanted : ℕ → CoreState → Mode
wanted server core = if is_active core.active server then Reporting else resting core.mode
