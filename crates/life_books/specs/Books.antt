-- The messages of a life's subscription, as a book of their values (OPC 10000-4, 5.12.1 and 5.13.1).
use Rattle.std.specs.Prelude.{◌≡◌, ◌≤◌, ℕ, ℤ, List, [], ◌∷◌, true, Some, map, slice_get}
use Rattle.set_model.specs.declared.source.Change.{Change}
use Rattle.item_queue.specs.declared.queue.Entry.{Entry}
use Rattle.delivery_log.specs.WellFed.{IsFedEntry}
use Rattle.ua_base.specs.declared.modes.Timestamps.{Timestamps}
use Rattle.ua_sub_msgs.specs.declared.notification.MonitoredItemNotification.{MonitoredItemNotification}
use Rattle.subscription.specs.declared.spec.ItemSpec.{ItemSpec}
use Rattle.subscription.specs.Items.{Told}
use Rattle.subscription.specs.Message.{has_source, notified}
use Rattle.server_rules.specs.Durations.{revised_queue}
use Rattle.link_rules.specs.declared.config.LinkConfig.{LinkConfig}
use Rattle.arriving_entries.specs.Arrivals.{arrival_of}

-- ---- values

-- these are the values of a message that tells these entries at some time
abbrev pub IsValuesOf : List MonitoredItemNotification → List Told → Type 0
IsValuesOf values told = (now : ℤ) × (values ≡ map (notified now) told)

-- so of each message: as many lists of values as lists of entries
abbrev pub AreValuesOf : List (List MonitoredItemNotification) → List (List Told) → Type 0
AreValuesOf [] [] = Unit {0}
AreValuesOf [] (told ∷ more) = ⊥
AreValuesOf (values ∷ rest) [] = ⊥
AreValuesOf (values ∷ rest) (told ∷ more) = IsValuesOf values told × AreValuesOf rest more

-- ---- entries

-- an entry stands under a handle exactly where it is of the item of an id
pub record IsUnder (handle id : ℕ) (one : Told) : Type 0 where
  pub there : one.handle ≡ handle → one.id ≡ id
  pub alone : one.id ≡ id → one.handle ≡ handle

-- an entry is sent with its source time
pub record IsTimed (one : Told) : Type 0 where
  pub timed : has_source one.stamps ≡ true
  pub pico : one.entry.change.pico ≤ 9999

-- each entry is a change of the item, as the log takes it
abbrev pub AreFed : List Change → ℕ → List Entry → Type 0
AreFed source item [] = Unit {0}
AreFed source item (entry ∷ entries) = IsFedEntry source item (arrival_of entry) × AreFed source item entries

-- ---- items

-- what a server makes of one of the first so many requests of a client: an item of the node that is its handle
pub record IsOwnItem (config : LinkConfig) (count : ℕ) (stamps : Timestamps) (spec : ItemSpec) : Type 0 where
  pub node : spec.node ≡ spec.handle
  pub least : 1 ≤ spec.handle
  pub most : spec.handle ≤ count
  pub queue : spec.queue ≡ revised_queue config.queue
  pub wide : 2 ≤ config.queue → 2 ≤ spec.queue
  pub timed : spec.stamps ≡ stamps

-- each item is so, and no two have the same handle
pub record AreOwnItems (config : LinkConfig) (count : ℕ) (stamps : Timestamps) (specs : List ItemSpec) : Type 0 where
  pub each : (place : ℕ) (spec : ItemSpec) → slice_get specs place ≡ Some spec → IsOwnItem config count stamps spec
  pub apart : (place other : ℕ) (one two : ItemSpec) → slice_get specs place ≡ Some one → slice_get specs other ≡ Some two
      → one.handle ≡ two.handle → place ≡ other
