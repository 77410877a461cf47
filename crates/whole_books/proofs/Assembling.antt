-- The whole book of a life's subscription.
use Rattle.std.proofs.Common.{◌≡◌, ◌⊎◌, inl, inr, ℕ, ◌*◌, ◌≤◌, ◌<◌, ◌^◌, List, [], ◌∷◌, ◌++◌, Some, length, sym, subst, ◌∙◌}
use Rattle.std.specs.Prelude.{reverse, slice_get}
use Rattle.std.specs.List.{AllByRecursion}
use Rattle.ua_base.specs.declared.modes.Timestamps.{Timestamps}
use Rattle.ua_base.specs.declared.modes.Timestamps.TheVariants as timestamps
use Rattle.set_model.specs.declared.source.Change.{Change}
use Rattle.set_model.specs.Source.{IsSource}
use Rattle.ua_sub_msgs.specs.declared.notification.MonitoredItemNotification.{MonitoredItemNotification}
use Rattle.ua_sub_msgs.specs.declared.notification.NotificationMessage.{NotificationMessage}
use Rattle.subscription.specs.declared.spec.ItemSpec.{ItemSpec}
use Rattle.subscription.specs.Items.{Told}
use Rattle.server_rules.specs.declared.config.ServerConfig.{ServerConfig}
use Rattle.server_rules.specs.State.{ServerState, new_server}
use Rattle.server_rules.specs.Said.{Did}
use Rattle.server_rules.specs.Step.{Happening}
use Rattle.server_rules.specs.Acts.{state_after}
use Rattle.server_laws.specs.Beginning.{KeptUnder}
use Rattle.server_laws.specs.Bounded.{items_made}
use Rattle.server_laws.specs.Course.{fed_in, life_of}
use Rattle.server_laws.specs.Lives.{IsSent, messages_sent}
use Rattle.server_keeps.specs.Fitting.{FitsChange, FitsConfig, FitsHappening, FitsMessage}
use Rattle.server_chains.specs.Chains.{TellsChains, joined as all_joined, messages_told}
use Rattle.server_makings.specs.Asked.{AreMadeOf, AskedItem, asked_with}
use Rattle.server_makings.specs.Kept.{AreKeptOf}
use Rattle.server_tellings.specs.Heard.{IsAtPlace, WasSent}
use Rattle.link_rules.specs.declared.config.LinkConfig.{LinkConfig}
use Rattle.link_rules.specs.Requests.{item_requests}
use Rattle.link_takings.specs.From.{HasData}
use Rattle.life_books.specs.Books.{AreOwnItems}
use Rattle.life_books.specs.Lives.{AreOfSource, IsBookOf}
use Rattle.whole_books.specs.Whole.{IsPlaced, IsWhole}
use Rattle.whole_books.proofs.Fewness.{Places}
use Rattle.whole_books.proofs.Entries.{all_fits, all_sourced, all_timed, known_fit}
use Rattle.whole_books.proofs.Keeping.{Limits, kept_fits, sent_fits}
use Rattle.whole_books.proofs.Placing.{Brings, FewKept, as_long, value_at}

-- how many messages there are
abbrev pub FewTold : Type 0
FewTold = (id count items : ℕ) (known source : List Change) (did : Did) (link : LinkConfig) (stamps : Timestamps) (tells : TellsChains id known did)
    → AreMadeOf items (reverse (items_made tells.calls)) (asked_with (Some stamps) (item_requests link count))
    → IsSource source → ((item : ℕ) → AreOfSource known source item)
    → length (messages_told tells.spec tells.start tells.calls) ≤ count * length source

-- what the crates below say
pub record Laws : Type 0 where
  pub places : Places
  pub limits : Limits
  pub brings : Brings
  pub few_kept : FewKept
  pub few_told : FewTold
  pub own : (items : ℕ) (config : LinkConfig) (count : ℕ) (stamps : Timestamps) (specs : List ItemSpec)
      → AreMadeOf items specs (asked_with (Some stamps) (item_requests config count)) → AreOwnItems config count stamps specs

-- what is made of nothing is made of anything
of_any : (items : ℕ) (specs : List ItemSpec) (asked : List AskedItem) → AreMadeOf items specs [] → AreMadeOf items specs asked
of_any items [] asked made = tt
of_any items (spec ∷ specs) asked made = absurd made

pub either : (items : ℕ) (specs : List ItemSpec) (asked : List AskedItem) (link : LinkConfig) (count : ℕ) → AreMadeOf items specs asked
    → (asked ≡ []) ⊎ (asked ≡ asked_with (Some timestamps.Source) (item_requests link count))
    → AreMadeOf items specs (asked_with (Some timestamps.Source) (item_requests link count))
either items specs asked link count made (inl none) =
    of_any items specs (asked_with (Some timestamps.Source) (item_requests link count)) (subst (AreMadeOf items specs) none made)
either items specs asked link count made (inr all) = subst (AreMadeOf items specs) all made

module _ (laws : Laws) (config : ServerConfig) (current : List Change) (happenings : List Happening) (id : ℕ) (source : List Change) (link : LinkConfig) (count : ℕ)
    (fits : FitsConfig config) (begins : AllByRecursion FitsChange current) (happen : AllByRecursion FitsHappening happenings) (few : count < 2 ^ 16)
    (rises : IsSource source) (among : (item : ℕ) → AreOfSource (current ++ fed_in happenings) source item) where
  abbrev start : ServerState
  start = new_server config current

  abbrev known : List Change
  known = current ++ fed_in happenings

  module _ (tells : TellsChains id known (life_of happenings start))
      (made : AreMadeOf config.items (reverse (items_made tells.calls)) (asked_with (Some timestamps.Source) (item_requests link count)))
      (kept : AreKeptOf id happenings start (messages_sent tells.spec tells.start tells.calls))
      (book : List (List MonitoredItemNotification))
      (is : IsBookOf source (messages_sent tells.spec tells.start tells.calls) (messages_told tells.spec tells.start tells.calls) book) where
    abbrev messages : List NotificationMessage
    messages = messages_sent tells.spec tells.start tells.calls

    abbrev told : List (List Told)
    told = messages_told tells.spec tells.start tells.calls

    owned : AreOwnItems link count timestamps.Source (reverse (items_made tells.calls))
    owned = laws.own config.items link count timestamps.Source (reverse (items_made tells.calls)) made

    fit : AllByRecursion FitsChange known
    fit = known_fit current happenings begins happen

    stands : (place : ℕ) (message : NotificationMessage) (values : List MonitoredItemNotification) → slice_get messages place ≡ Some message
        → FitsMessage message → (number : ℕ) → HasData number values message → slice_get book place ≡ Some values
    stands place message values here keeps number has =
        value_at laws.brings laws.few_kept book messages told is.are tells.told
        (all_sourced laws.places link count known source tells.spec tells.start tells.calls owned few fit rises among (all_joined told) tells.items tells.changes)
        (all_timed laws.places link count known source tells.spec tells.start tells.calls owned few fit rises among (all_joined told) tells.items tells.changes)
        (all_fits laws.places link count known source tells.spec tells.start tells.calls owned few fit rises among (all_joined told) tells.items tells.changes)
        place message values here keeps has.brings

    sent_there : (number : ℕ) (values : List MonitoredItemNotification) → WasSent id number values (life_of happenings start) → IsPlaced book number values
    sent_there number values was =
        let there : IsAtPlace number was.message messages = was.placed messages tells.messages in (
          there.place,
          stands there.place was.message values there.is
              (sent_fits laws.limits start (laws.limits.first config current fits begins) happenings id was.message happen was.sent) number was.has,
          there.numbered,
        )

    kept_there : (later earlier : List Happening) (asked number : ℕ) (message : NotificationMessage) (values : List MonitoredItemNotification)
        → happenings ≡ later ++ earlier → KeptUnder id asked message (state_after earlier start) → HasData number values message → IsPlaced book number values
    kept_there later earlier asked number message values are under has =
        let there : IsSent asked message messages = kept later earlier asked message are under in (
          there.place,
          stands there.place message values there.is
              (kept_fits laws.limits start (laws.limits.first config current fits begins) later earlier id asked message (subst (AllByRecursion FitsHappening) are happen) under)
              number has,
          sym has.numbered ∙ is.numbered there.place message there.is,
        )

    pub whole : IsWhole id count source happenings start book
    whole = record {
      linked = is.linked;
      few = subst (λ (n : ℕ). n ≤ count * length source) (sym (as_long book told is.are))
          (laws.few_told id count config.items known source (life_of happenings start) link timestamps.Source tells made rises among);
      sent = sent_there;
      kept = kept_there;
    }
