-- All that happened to the servers of a set and to its client, from the beginning on.
use Rattle.std.specs.Prelude.{◌≡◌, ◌≤◌, ◌<◌, ℕ, ◌+◌, ◌-◌, ◌^◌, Bool, List, [], ◌∷◌, length}
use Rattle.ua_base.specs.declared.modes.SetMode.{SetMode}
use Rattle.ua_channel.specs.State.{WireState}
use Rattle.scenario.specs.declared.line.Line.{Line}
use Rattle.server_rules.specs.State.{ServerState, new_server}
use Rattle.server_rules.specs.Acts.{state_after}
use Rattle.client_rules.specs.Step.{after_all, new_client}
use Rattle.client_messages.specs.Messages as learning
use Rattle.set_rules.specs.State.{SetState}
use Rattle.set_rules.specs.Moves.{slot_at}
use Rattle.set_fronts.specs.Below.{client_config, server_config, beginning, messages_after}
use Rattle.set_fronts.specs.Noting.{Accepted, NotedClient, NotedLife, Talked}
use Rattle.set_fronts.specs.Lives.{before}
use Rattle.set_fronts.specs.Fronts.{IsFront, lives_over, noted_after}
use Rattle.set_talks.specs.Heard.{AreHeardOf}
use Rattle.set_talks.specs.Lives.{Dial, dials_after, heard_on, put_on}
use Rattle.set_histories.specs.Recording.{RecordedClient, RecordedLife, recorded_client, recorded_life, recording}

-- ---- a set that records

abbrev pub RecordedSet : Type 0
RecordedSet = SetState (NotedLife RecordedLife WireState) (NotedClient RecordedClient WireState) (List WireState)

abbrev pub recorded_after : SetMode → ℕ → ℕ → ℕ → Bool → List Line → RecordedSet
recorded_after mode servers items queue oldest lines =
    noted_after recording (recorded_life (beginning mode servers items)) items lines servers
    (recorded_client (learning.new_talk (client_config mode servers items queue oldest)))

-- all lives of the server at a place, newest first
abbrev pub lives_after : SetMode → ℕ → ℕ → ℕ → Bool → List Line → ℕ → List (NotedLife RecordedLife WireState)
lives_after mode servers items queue oldest lines place =
    before (slot_at place (recorded_after mode servers items queue oldest lines)).life
    (lives_over recording (recorded_life (beginning mode servers items)) items lines servers
    (recorded_client (learning.new_talk (client_config mode servers items queue oldest))) place)

-- ---- what is recorded

-- on a connection of a life: what was heard of what came, and what was put of what the life said
pub record IsTold (past : RecordedLife) (s : ServerState) (accepted : Accepted WireState) : Type 0 where
  pub heard : AreHeardOf (heard_on accepted.number past.happenings) accepted.talked.taken
  pub put : IsFront accepted.talked.put (put_on accepted.number past.happenings s)

abbrev pub AllTold : RecordedLife → ServerState → List (Accepted WireState) → Type 0
AllTold past s [] = Unit {0}
AllTold past s (accepted ∷ earlier) = IsTold past s accepted × AllTold past s earlier

-- a life of a server: it is what happened to it; and its connections are told, as long as their numbers differ
pub record IsLived (mode : SetMode) (servers items number : ℕ) (life : NotedLife RecordedLife WireState) : Type 0 where
  pub state : life.node.talk.hub
      ≡ state_after life.node.happenings (new_server (server_config mode servers items number life.boot) life.current)
  pub told : length life.connections < 2 ^ 32 - 1
      → AllTold life.node (new_server (server_config mode servers items number life.boot) life.current) life.connections

abbrev pub AllLived : SetMode → ℕ → ℕ → ℕ → List (NotedLife RecordedLife WireState) → Type 0
AllLived mode servers items number [] = Unit {0}
AllLived mode servers items number (life ∷ earlier) =
    IsLived mode servers items number life × AllLived mode servers items number earlier

-- on the connections of a link: what was heard of what came, and what was put of what the client said
abbrev pub AreDialled : List Dial → List (Talked WireState) → Type 0
AreDialled [] [] = Unit {0}
AreDialled [] (t ∷ talked) = ⊥
AreDialled (d ∷ dials) [] = ⊥
AreDialled (d ∷ dials) (t ∷ talked) =
    AreHeardOf d.heard t.taken × IsFront t.put d.put × AreDialled dials talked

-- the client is what happened to it, and its connections are told
pub record IsLearned (mode : SetMode) (servers items queue : ℕ) (oldest : Bool) (c : NotedClient RecordedClient WireState) : Type 0 where
  pub state : c.node.talk.hub ≡ (after_all c.node.moments (new_client (client_config mode servers items queue oldest))).client
  pub dialled : (server : ℕ) → 1 ≤ server → server ≤ servers
      → AreDialled (dials_after server c.node.moments (new_client (client_config mode servers items queue oldest)) []) (c.dials server)

-- ---- the set

pub record AreHistories (mode : SetMode) (servers items queue : ℕ) (oldest : Bool) (lines : List Line) : Type 0 where
  pub client : IsLearned mode servers items queue oldest (recorded_after mode servers items queue oldest lines).client
  pub lives : (place : ℕ) → place + 1 ≤ servers
      → AllLived mode servers items (place + 1) (lives_after mode servers items queue oldest lines place)
  -- the client over messages is the recorded one
  pub same : (messages_after mode servers items queue oldest lines).client
      ≡ (recorded_after mode servers items queue oldest lines).client.node.talk
