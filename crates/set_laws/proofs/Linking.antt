-- The laws of which a life's books are made, and what a life knows of the source.
use Rattle.std.proofs.Common.{◌≡◌, ◌⊎◌, ℕ, ◌^◌, ◌<◌, ◌≤◌, List, [], ◌++◌, take, Some, sym, ap, subst, ◌∙◌}
use Rattle.std.specs.Prelude.{slice_get}
use Rattle.std.specs.List.{AllByRecursion}
use Rattle.ua_base.specs.declared.modes.Timestamps.TheVariants as timestamps
use Rattle.set_model.specs.declared.source.Change.{Change}
use Rattle.set_model.specs.Source.{IsSource, of_item}
use Rattle.item_queue.specs.declared.queue.Entry.{Entry}
use Rattle.ua_channel.specs.State.{WireState}
use Rattle.ua_sub_msgs.specs.declared.notification.MonitoredItemNotification.{MonitoredItemNotification}
use Rattle.subscription.specs.Linked.{AreLinked}
use Rattle.server_laws.specs.Course.{fed_in}
use Rattle.server_laws.specs.Whole.{NeverOff}
use Rattle.server_keeps.specs.Fitting.{FitsChange, FitsConfig, FitsHappening}
use Rattle.server_makings.specs.Asked.{asked_in, asked_with}
use Rattle.link_rules.specs.declared.config.LinkConfig.{LinkConfig}
use Rattle.link_rules.specs.Requests.{item_requests}
use Rattle.life_books.specs.Lives.{AreOfSource}
use Rattle.whole_books.specs.Whole.{AreOfBoot, IsWhole}
use Rattle.set_rules.specs.Slots.{currents}
use Rattle.set_histories.specs.Below.{NotedLife}
use Rattle.set_histories.specs.Recording.{RecordedLife}
use Rattle.set_feeds.specs.Feeds.{IsFedFrom}
use Rattle.set_feeds.specs.Known.{known_of}
use Rattle.set_talks.specs.Meetings.{Life, start_of}

-- what is known of an item is of the source
pub record Knowing : Type 0 where
  pub linked : (items : ℕ) (source : List Change) (first count item : ℕ) (size : ℕ) (entries : List Entry)
      → AreLinked size (of_item item (known_of items source first count)) entries → AreLinked size (of_item item source) entries
  pub found : (items : ℕ) (source : List Change) (first count item : ℕ) (place : ℕ) (change : Change)
      → slice_get (of_item item (known_of items source first count)) place ≡ Some change
      → (there : ℕ) × (slice_get (of_item item source) there ≡ Some change)

-- once, or not at all, as a link asks for so many items
abbrev pub AskedOnce : ℕ → LinkConfig → ℕ → Life → Type 0
AskedOnce id link count life =
    (asked_in id life.happenings ≡ []) ⊎ (asked_in id life.happenings ≡ asked_with (Some timestamps.Source) (item_requests link count))

pub record Binding : Type 0 where
  pub knowing : Knowing
  pub books : (life : Life) (id : ℕ) (source : List Change) (link : LinkConfig) (count : ℕ)
      → FitsConfig life.config → AllByRecursion FitsChange life.current → AllByRecursion FitsHappening life.happenings
      → count < 2 ^ 16 → NeverOff life.happenings id
      → (asked_in id life.happenings ≡ []) ⊎ (asked_in id life.happenings ≡ asked_with (Some timestamps.Source) (item_requests link count))
      → 2 ≤ link.queue → IsSource source
      → ((item : ℕ) → AreOfSource (life.current ++ fed_in life.happenings) source item)
      → (book : List (List MonitoredItemNotification)) × IsWhole id count source life.happenings (start_of life) book
  pub ids : (life : Life) → AreOfBoot life.config.boot life.happenings (start_of life)

abbrev known_front : ℕ → List Change → ℕ → List Change
known_front items source first = currents items (take first source)

pub known_is : Knowing → (items : ℕ) (source : List Change) (life : NotedLife RecordedLife WireState) → IsFedFrom items source life
    → (item : ℕ) → AreOfSource (life.current ++ fed_in life.node.happenings) source item
known_is laws items source life fed item =
    let same : known_of items source fed.first fed.count ≡ life.current ++ fed_in life.node.happenings =
    sym (ap (λ (l : List Change). l ++ fed_in life.node.happenings) fed.begins ∙ ap (λ (l : List Change). known_front items source fed.first ++ l) fed.fed) in
    subst (λ (known : List Change). AreOfSource known source item) same (record {
      there = laws.found items source fed.first fed.count item;
      linked = laws.linked items source fed.first fed.count item;
    })
