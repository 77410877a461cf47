-- What the values that a warm set's links tell owe its log: while an item reports, each goes on from the one before it.
use Rattle.std.specs.Prelude.{ℕ, ◌==◌, ◌≤◌, Bool, true, false, List, [], ◌∷◌, Option, Some, None, if◌then◌else◌}
use Rattle.ua_base.specs.declared.modes.Mode.{Mode}
use Rattle.ua_base.specs.declared.modes.Mode.TheVariants.{Disabled, Sampling, Reporting}
use Rattle.set_model.specs.declared.source.Change.{Change}
use Rattle.delivery_log.specs.WellFed.{IsFedEntry}
use Rattle.ua_variants.specs.declared.variant.Stamped.{Stamped}
use Rattle.ua_variants.specs.declared.variant.Variant.{Variant}
use Rattle.link_rules.specs.declared.notice.Notice.{Notice}
use Rattle.link_rules.specs.declared.notice.Notice.TheVariants as notice
use Rattle.client_rules.specs.Arrival.{arrived_of}
use Rattle.client_links.specs.Feeding.{FollowsFormer}

-- ---- whether an item reports (OPC 10000-4, 5.12.4 and 6.6.2.4.5.3)

abbrev pub sent_by : Mode → Bool → Bool
sent_by Disabled reports = false
sent_by Sampling reports = reports
sent_by Reporting reports = reports

abbrev pub confirmed_by : Mode → Bool → Bool
confirmed_by Disabled reports = reports
confirmed_by Sampling reports = reports
confirmed_by Reporting reports = true

-- since its values began it was confirmed that it reports, and after that it wasn't asked to be off; notices newest first
abbrev pub reports_in : ℕ → List Notice → Bool
reports_in item [] = false
reports_in item (notice.Stream i ∷ earlier) = if i == item then false else reports_in item earlier
reports_in item (notice.Sent mode ∷ earlier) = sent_by mode (reports_in item earlier)
reports_in item (notice.Confirmed mode ∷ earlier) = confirmed_by mode (reports_in item earlier)
reports_in item (other ∷ earlier) = reports_in item earlier

-- ---- what a value follows

abbrev pub unless_off : {A : Type 0} → Mode → Option A → Option A
unless_off Disabled former = None
unless_off Sampling former = former
unless_off Reporting former = former

-- the last value that came of an item while it reports, since it began to and since messages were missing last; notices
-- newest first
abbrev pub former_on : ℕ → List Notice → Option (Stamped Variant)
former_on item [] = None
former_on item (notice.Taken i value ∷ earlier) =
    if i == item then (if reports_in item earlier then Some value else None) else former_on item earlier
former_on item (notice.Stream i ∷ earlier) = if i == item then None else former_on item earlier
former_on item (notice.Jump ∷ earlier) = None
former_on item (notice.Sent mode ∷ earlier) = unless_off mode (former_on item earlier)
former_on item (other ∷ earlier) = former_on item earlier

-- each value of an item that the client has, of so many, is a change of the source; and where its item reports it is linked to
-- the one before it, where there is one; notices newest first
abbrev pub AreFollowingOn : List Change → ℕ → List Notice → Type 0
AreFollowingOn source items [] = Unit {0}
AreFollowingOn source items (notice.Taken item value ∷ earlier) =
    (1 ≤ item → item ≤ items
    → IsFedEntry source item (arrived_of value) × FollowsFormer source item value (former_on item earlier))
    × AreFollowingOn source items earlier
AreFollowingOn source items (other ∷ earlier) = AreFollowingOn source items earlier
