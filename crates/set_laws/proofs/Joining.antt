-- What the client of a hot or a cold set is told follows what it was told before.
use Rattle.std.proofs.Common.{◌≡◌, ◌⊎◌, inl, inr, ℕ, zero, suc, ◌+◌, ◌<◌, ◌≤◌, nat_le, Bool, true, false, List, [], length, refl, sym, subst, arith}
use Rattle.std.proofs.lemmas.Bool.Decides.{nat_tests}
use Rattle.std.specs.Prelude.{reverse}
use Rattle.std.specs.List.{AllByRecursion}
use Rattle.ua_base.specs.declared.modes.Mode.TheVariants.{Disabled}
use Rattle.ua_base.specs.declared.modes.SetMode.{SetMode}
use Rattle.set_model.specs.declared.source.Change.{Change}
use Rattle.scenario.specs.declared.line.Line.{Line}
use Rattle.scenario.specs.Past.{boot_of}
use Rattle.link_rules.specs.declared.config.LinkConfig.{LinkConfig}
use Rattle.link_rules.specs.declared.notice.Notice.{Notice}
use Rattle.link_rules.specs.State.{new_link}
use Rattle.link_rules.specs.Step as alone
use Rattle.link_laws.specs.Asked.{NeverWants}
use Rattle.link_following.specs.Book.{Book, ComeOf, IsSound}
use Rattle.client_rules.specs.declared.config.ClientConfig.{ClientConfig}
use Rattle.client_rules.specs.State.{link_config, servers_of}
use Rattle.client_rules.specs.Step.{Moment}
use Rattle.client_laws.specs.Life.{acts_of}
use Rattle.client_links.specs.Awaited.{AllAwaited}
use Rattle.client_links.specs.Feeding.{AreFollowing}
use Rattle.client_links.specs.Links.{IsHotOrCold, passed_by, told_of}
use Rattle.client_dials.specs.Spoken.{spoken_in}
use Rattle.set_histories.specs.Below.{client_config}
use Rattle.set_histories.specs.Histories.{RecordedSet, lives_after, recorded_after}
use Rattle.set_talks.specs.Meetings.{AllShared, Life}
use Rattle.set_meetings.specs.Noted.{lives_noted}
use Rattle.set_askings.specs.Once.{AllKept, IsAskedOnce, IsOrderly}
use Rattle.set_takings.specs.Booked.{IsBooked}
use Rattle.set_laws.specs.Limits.{AreWithin}
use Rattle.set_laws.proofs.Bound.{all_booked, all_sound, volumes_of}
use Rattle.set_laws.proofs.Finding.{book_in}
use Rattle.set_laws.proofs.Linking.{Binding}
use Rattle.set_laws.proofs.Lives.{all_bound, all_falling}
use Rattle.set_laws.proofs.Meeting.{IsMet, LinkLaws, SetLaws, met, urls_long}

-- of links and clients, whatever happens to them
pub record ClientLaws : Type 0 where
  pub links : LinkLaws
  pub others : (config : ClientConfig) (moments : List Moment) (server : ℕ) → (server ≡ 0) ⊎ (servers_of config < server)
      → told_of server (acts_of config moments) ≡ []
  pub follow : (config : LinkConfig) (happenings : List alone.Happening) (source : List Change) (book : Book)
      → IsSound source config.items book → ComeOf book happenings (new_link config)
      → AreFollowing source config.items (reverse (alone.after_all happenings (new_link config)).notices)
  pub asked : (config : LinkConfig) (happenings : List alone.Happening) (lives : List Life) (id : ℕ) → NeverWants Disabled happenings
      → AllShared (spoken_in (passed_by happenings (new_link config)) []) lives
      → AllKept (spoken_in (passed_by happenings (new_link config)) [])
      → AllByRecursion IsOrderly lives → AllByRecursion (IsAskedOnce config id) lives
  pub come : (config : LinkConfig) (happenings : List alone.Happening) (lives : List Life) (book : Book)
      → AllAwaited happenings (new_link config)
      → AllShared (spoken_in (passed_by happenings (new_link config)) []) lives
      → AllKept (spoken_in (passed_by happenings (new_link config)) [])
      → AllByRecursion (IsBooked book) lives → ComeOf book happenings (new_link config)
  pub binding : Binding

-- ---- of one server

module _ (mode : SetMode) (servers items queue : ℕ) (oldest : Bool) (lines : List Line) (hot : IsHotOrCold mode)
    (within : AreWithin servers items queue lines) (laws : ClientLaws) (set : SetLaws mode servers items queue oldest lines) where
  abbrev end : RecordedSet
  end = recorded_after mode servers items queue oldest lines

  abbrev config : ClientConfig
  config = client_config mode servers items queue oldest

  abbrev link : LinkConfig
  link = link_config config

  abbrev moments : List Moment
  moments = end.client.node.moments

  place_follows : (place : ℕ) → place + 1 ≤ servers → AreFollowing end.source items (reverse (told_of (place + 1) (acts_of config moments)))
  place_follows place least =
      let server : ℕ = place + 1 in
      let x : IsMet mode servers items queue oldest lines place = met mode servers items queue oldest lines within laws.links set place least in
      let lives = lives_after mode servers items queue oldest lines place in
      let noted : List Life = lives_noted mode servers items server lives in
      let once = λ (id : ℕ). laws.asked link x.one.happenings noted id (x.one.ordinary hot) x.shared x.kept x.orderly in
      let bound = all_bound mode servers items server end.source link laws.binding lives (set.fit place least) (set.heard place least)
      (set.fed place least) once (let less = within.items_fit in omega (arith, less)) refl within.queue_least set.is in
      let falling = all_falling mode servers items server lives (set.meet place least).numbered
      (few_lives (length lives) (boot_of server lines) (set.few place least) (within.few_boots server)) in
      let book : Book = book_in (volumes_of items end.source noted bound) in
      let come = laws.come link x.one.happenings noted book x.awaited x.shared x.kept (all_booked items end.source noted bound falling) in
      let follow = laws.follow link x.one.happenings end.source book (all_sound items end.source noted bound within.items_fit set.short) come in
      subst (λ (l : List Notice). AreFollowing end.source items (reverse l)) (sym x.one.told) follow
    where
      few_lives : (n boot : ℕ) → n ≤ boot → boot ≤ 65535 → n ≤ 65535
      few_lives n boot one two = omega (arith, one, two)

  other_follows : (server : ℕ) → (server ≡ 0) ⊎ (servers < server) → AreFollowing end.source items (reverse (told_of server (acts_of config moments)))
  other_follows server none =
      subst (λ (l : List Notice). AreFollowing end.source items (reverse l)) (sym (laws.others config moments server (is_other none))) tt
    where
      is_other : (server ≡ 0) ⊎ (servers < server) → (server ≡ 0) ⊎ (servers_of config < server)
      is_other (inl first) = inl first
      is_other (inr above) = inr (subst (λ (n : ℕ). n < server) (sym (urls_long servers)) above)

  by_place : (server place : ℕ) → server ≡ place + 1 → server ≤ servers → AreFollowing end.source items (reverse (told_of server (acts_of config moments)))
  by_place server place same least =
      subst (λ (n : ℕ). AreFollowing end.source items (reverse (told_of n (acts_of config moments)))) (sym same)
      (place_follows place (subst (λ (n : ℕ). n ≤ servers) same least))

  pub all_follow : (server : ℕ) → AreFollowing end.source items (reverse (told_of server (acts_of config moments)))
  all_follow zero = other_follows 0 (inl refl)
  all_follow (suc place) = by_test (nat_le (suc place) servers) refl
    where
      by_test : (b : Bool) → nat_le (suc place) servers ≡ b → AreFollowing end.source items (reverse (told_of (suc place) (acts_of config moments)))
      by_test true test = by_place (suc place) place (omega arith) (grind (arith, nat_tests))
      by_test false test = other_follows (suc place) (inr (grind (arith, nat_tests)))
