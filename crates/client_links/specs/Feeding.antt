-- What the values that a client's links tell owe its log: each goes on from the one before it.
use Rattle.std.specs.Prelude.{ℕ, ◌==◌, ◌≤◌, List, [], ◌∷◌, Option, Some, None, if◌then◌else◌}
use Rattle.set_model.specs.declared.source.Change.{Change}
use Rattle.delivery_log.specs.WellFed.{IsFedEntry, Linked}
use Rattle.ua_variants.specs.declared.variant.Stamped.{Stamped}
use Rattle.ua_variants.specs.declared.variant.Variant.{Variant}
use Rattle.link_rules.specs.declared.notice.Notice.{Notice}
use Rattle.link_rules.specs.declared.notice.Notice.TheVariants as notice
use Rattle.client_rules.specs.Arrival.{arrived_of}

-- the last value that came of an item since its values began or messages were missing; notices newest first
abbrev pub former_of : ℕ → List Notice → Option (Stamped Variant)
former_of item [] = None
former_of item (notice.Taken i value ∷ earlier) = if i == item then Some value else former_of item earlier
former_of item (notice.Stream i ∷ earlier) = if i == item then None else former_of item earlier
former_of item (notice.Jump ∷ earlier) = None
former_of item (other ∷ earlier) = former_of item earlier

abbrev pub FollowsFormer : List Change → ℕ → Stamped Variant → Option (Stamped Variant) → Type 0
FollowsFormer source item value None = Unit {0}
FollowsFormer source item value (Some former) = Linked source item (arrived_of former) (arrived_of value)

-- each value of an item that the client has, of so many, is a change of the source, and it is linked to the one before it;
-- notices newest first
abbrev pub AreFollowing : List Change → ℕ → List Notice → Type 0
AreFollowing source items [] = Unit {0}
AreFollowing source items (notice.Taken item value ∷ earlier) =
    (1 ≤ item → item ≤ items
    → IsFedEntry source item (arrived_of value) × FollowsFormer source item value (former_of item earlier))
    × AreFollowing source items earlier
AreFollowing source items (other ∷ earlier) = AreFollowing source items earlier
