-- What the acts of a client tell of its servers, and the choice for which each of its switches stands.
use Rattle.std.specs.Prelude.{◌≡◌, ◌≢◌, ℕ, ◌+◌, ◌-◌, ◌==◌, zero, suc, Bool, true, false, List, [], ◌∷◌, ◌++◌, length, replicate, Option, Some, None, if◌then◌else◌, slice_index_or, slice_set}
use Rattle.failover_core.specs.declared.choice.Candidate.{Candidate}
use Rattle.failover_core.specs.Choice.{choose, number_of}
use Rattle.link_rules.specs.declared.notice.Notice.{Notice}
use Rattle.link_rules.specs.declared.notice.Notice.TheVariants as notice
use Rattle.client_rules.specs.Acts.{ClientAct, Happened, Tells, Says, Switches}

-- of each server whether it is ready and the level that was read of it last, server 1 first; and the active server
pub record Told : Type 0 where
  pub ready : List Bool
  pub levels : List ℕ
  pub active : Option ℕ

abbrev pub nothing_told : ℕ → Told
nothing_told servers =
    record { ready = replicate servers false; levels = replicate servers 0; active = None }

-- ---- what an act tells

abbrev pub ready_by : Notice → Bool → Bool
ready_by notice.Ready ready = true
ready_by notice.Lost ready = false
ready_by other ready = ready

abbrev pub level_by : Notice → ℕ → ℕ
level_by (notice.Level level) former = level
level_by other former = former

abbrev pub ready_at : ℕ → Told → Bool
ready_at server t = slice_index_or t.ready (server - 1) false

abbrev pub level_at : ℕ → Told → ℕ
level_at server t = slice_index_or t.levels (server - 1) 0

-- 0 stands for none
abbrev pub server_of : ℕ → Option ℕ
server_of number = if number == 0 then None else Some number

abbrev pub told_by : ClientAct → Told → Told
told_by (Happened happening) t = t
told_by (Tells server n) t = record t {
  ready = slice_set t.ready (server - 1) (ready_by n (ready_at server t));
  levels = slice_set t.levels (server - 1) (level_by n (level_at server t));
}
told_by (Says server said) t = t
told_by (Switches from to) t = record t { active = server_of to }

unfoldable pub told_after : List ClientAct → Told → Told
told_after [] t = t
told_after (act ∷ acts) t = told_after acts (told_by act t)

-- ---- who may be chosen then

abbrev pub candidate_at : ℕ → Told → List Candidate
candidate_at server t =
    if ready_at server t then record { server = server; level = level_at server t } ∷ [] else []

unfoldable pub candidates_among : ℕ → Told → List Candidate
candidates_among zero t = []
candidates_among (suc count) t = candidates_among count t ++ candidate_at (count + 1) t

abbrev pub candidates_of : Told → List Candidate
candidates_of t = candidates_among (length t.ready) t

-- ---- switches

-- a switch goes from the server that was chosen before to another one, which is chosen now among those that are ready, by
-- the levels that were read of them last
abbrev pub IsChoice : ClientAct → Told → Type 0
IsChoice (Happened happening) t = Unit {0}
IsChoice (Tells server n) t = Unit {0}
IsChoice (Says server said) t = Unit {0}
IsChoice (Switches from to) t =
    (number_of t.active ≡ from) × (number_of (choose (candidates_of t) t.active) ≡ to) × (from ≢ to)

unfoldable pub AreChoices : List ClientAct → Told → Type 0
AreChoices [] t = Unit {0}
AreChoices (act ∷ acts) t = IsChoice act t × AreChoices acts (told_by act t)

-- ---- how many there are

-- what a server tells that may change the choice: that it is ready or lost, and a level
abbrev pub is_tidings : Notice → Bool
is_tidings notice.Ready = true
is_tidings notice.Lost = true
is_tidings (notice.Level level) = true
is_tidings other = false

abbrev pub counted_if : Bool → ℕ
counted_if b = if b then 1 else 0

unfoldable pub tidings_in : List ClientAct → ℕ
tidings_in [] = 0
tidings_in (Happened happening ∷ acts) = tidings_in acts
tidings_in (Tells server n ∷ acts) = counted_if (is_tidings n) + tidings_in acts
tidings_in (Says server said ∷ acts) = tidings_in acts
tidings_in (Switches from to ∷ acts) = tidings_in acts

unfoldable pub switches_in : List ClientAct → ℕ
switches_in [] = 0
switches_in (Happened happening ∷ acts) = switches_in acts
switches_in (Tells server n ∷ acts) = switches_in acts
switches_in (Says server said ∷ acts) = switches_in acts
switches_in (Switches from to ∷ acts) = 1 + switches_in acts
