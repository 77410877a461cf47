-- The source of a set is the changes of the lines.
use Rattle.std.proofs.Common.{◌≡◌, ℕ, ◌+◌, ◌≤◌, Bool, List, [], ◌∷◌, ◌++◌, length, map, refl, sym, ap, subst, ◌∙◌}
use Rattle.ua_base.specs.declared.modes.SetMode.{SetMode}
use Rattle.set_model.specs.declared.source.Change.{Change}
use Rattle.set_model.specs.Source.{IsSource}
use Rattle.direct_world.specs.State.{WorldState}
use Rattle.direct_world.specs.World as direct
use Rattle.scenario.specs.Past.{changes_in}
use Rattle.scenario.specs.declared.line.Line.{Line}
use Rattle.scenario.specs.declared.line.Line.TheVariants as line
use Rattle.client_messages.specs.Messages as learning
use Rattle.set_histories.specs.Below.{client_config, beginning, noted_client, noted_life, noting}
use Rattle.set_histories.specs.Recording.{recorded_client, recorded_life, recording}
use Rattle.set_histories.specs.Histories.{recorded_after}
use Rattle.set_feeds.specs.Feeds.{sourced}
use Rattle.set_feeds.proofs.Feeding.{IsFedTo, are_kept}
use Rattle.set_feeds.proofs.Walking.{source_is}

-- a scenario that says these changes alone
abbrev lines_of : List Change → List Line
lines_of [] = []
lines_of (change ∷ changes) = line.Change change ∷ lines_of changes

said : (changes : List Change) → changes_in (lines_of changes) ≡ changes
said [] = refl
said (change ∷ changes) = ap (λ l. change ∷ l) (said changes)

come_to : (changes : List Change) (w : WorldState) → (direct.after_all (lines_of changes) w).source ≡ sourced changes w.source
come_to [] w = refl
come_to (change ∷ changes) w = come_to changes (direct.after (line.Change change) w)

pub whole_source : ((servers items : ℕ) (oldest : Bool) (queue : ℕ) (lines : List Line) → IsSource (changes_in lines) → length (changes_in lines) ≤ 200000
    → (direct.world_of servers items oldest queue lines).source ≡ changes_in lines)
    → (oldest : Bool) (changes : List Change) → IsSource changes → length changes ≤ 200000 → sourced changes [] ≡ changes
whole_source law oldest changes is few =
    sym (come_to changes (direct.new_world 1 1 oldest 2))
    ∙ law 1 1 oldest 2 (lines_of changes) (subst (λ (l : List Change). IsSource l) (sym (said changes)) is)
    (subst (λ (l : List Change). length l ≤ 200000) (sym (said changes)) few)
    ∙ said changes

pub lines_come_to : (mode : SetMode) (servers items queue : ℕ) (oldest : Bool) (lines : List Line)
    → (recorded_after mode servers items queue oldest lines).source ≡ sourced (changes_in lines) []
lines_come_to mode servers items queue oldest lines =
    source_is (noting recording) (noted_life (recorded_life (beginning mode servers items))) items (IsFedTo items) servers (are_kept mode servers items) lines
    (noted_client (recorded_client (learning.new_talk (client_config mode servers items queue oldest))))
