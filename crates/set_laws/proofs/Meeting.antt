-- Where the client's link to a server of a set meets the server's lives.
use Rattle.std.proofs.Common.{◌≡◌, ℕ, zero, suc, ◌+◌, ◌-◌, ◌^◌, ◌<◌, ◌≤◌, Bool, List, [], ◌∷◌, length, Some, refl, sym, ap, subst, ◌∙◌, arith}
use Rattle.std.proofs.lemmas.List.{length-append}
use Rattle.std.specs.List.{AllByRecursion}
use Rattle.ua_base.specs.declared.modes.SetMode.{SetMode}
use Rattle.set_model.specs.Source.{IsSource}
use Rattle.scenario.specs.declared.line.Line.{Line}
use Rattle.scenario.specs.Past.{boot_of}
use Rattle.link_rules.specs.declared.config.LinkConfig.{LinkConfig}
use Rattle.link_rules.specs.State.{new_link}
use Rattle.link_rules.specs.Step as alone
use Rattle.link_laws.specs.Counted.{ticks_in}
use Rattle.client_rules.specs.declared.config.ClientConfig.{ClientConfig}
use Rattle.client_rules.specs.Acts as acts
use Rattle.client_rules.specs.State.{link_config, servers_of}
use Rattle.client_rules.specs.Step.{Ends, Goes, Moment, Takes, after_all, new_client}
use Rattle.client_keeps.specs.Fitting as client_keeps
use Rattle.client_laws.specs.Life.{acts_of}
use Rattle.client_links.specs.Awaited.{AllAwaited, AreAwaited}
use Rattle.client_links.specs.Links.{IsLinkLife, Passing, passed_by, passed_in, ticks_at}
use Rattle.client_dials.specs.Spoken.{Spoken, spoken_in}
use Rattle.client_messages.specs.Messages as learning
use Rattle.set_histories.specs.Below.{client_config, url_text, urls, beginning, AllFronts}
use Rattle.set_histories.specs.Histories.{RecordedSet, lives_after, recorded_after}
use Rattle.set_histories.specs.Recording.{recorded_client, recorded_life, recording}
use Rattle.set_feeds.specs.Feeds.{AllFedFrom}
use Rattle.set_hearings.specs.Attentive.{AllAttentive}
use Rattle.set_fitting.specs.Counted.{ticks_in_moments}
use Rattle.set_fitting.specs.Fits.{AllFit}
use Rattle.set_talks.specs.Meetings.{AllShared, AreShared, Life, Served, connections_of}
use Rattle.set_meetings.specs.Noted.{lives_noted}
use Rattle.set_askings.specs.Once.{AllKept, IsOrderly}
use Rattle.set_laws.specs.Limits.{AreWithin}
use Rattle.set_laws.proofs.Lives.{Noted, all_orderly, all_short}
use Rattle.set_laws.proofs.Passing.{all_kept}

-- of links and clients, whatever happens to them
pub record LinkLaws : Type 0 where
  pub live : (config : ClientConfig) (moments : List Moment) (server : ℕ) → 1 ≤ server → server ≤ servers_of config
      → IsLinkLife server config moments
  pub keeps : (config : ClientConfig) (moments : List Moment) → client_keeps.FitsConfig config → AllByRecursion client_keeps.FitsMoment moments
      → AllByRecursion client_keeps.KeepsAct (after_all moments (new_client config)).acts
  pub few : (config : LinkConfig) (happenings : List alone.Happening) → AllAwaited happenings (new_link config)
      → length (spoken_in (passed_by happenings (new_link config)) []) ≤ ticks_in happenings + 1

-- of sets, after any lines
pub record SetLaws (mode : SetMode) (servers items queue : ℕ) (oldest : Bool) (lines : List Line) : Type 0 where
  pub shared : (place : ℕ) → place + 1 ≤ servers
      → length (spoken_in (passed_in (place + 1) (acts_of (client_config mode servers items queue oldest) (recorded_after mode servers items queue oldest lines).client.node.moments)) []) < 2 ^ 32 - 1
      → AllShared (spoken_in (passed_in (place + 1) (acts_of (client_config mode servers items queue oldest) (recorded_after mode servers items queue oldest lines).client.node.moments)) [])
      (lives_noted mode servers items (place + 1) (lives_after mode servers items queue oldest lines place))
  pub meet : AllFronts recording (recorded_life (beginning mode servers items)) items lines servers
      (recorded_client (learning.new_talk (client_config mode servers items queue oldest)))
  pub heard : (place : ℕ) → place + 1 ≤ servers
      → AllAttentive mode servers items (place + 1) (lives_after mode servers items queue oldest lines place)
  pub awaited : (server : ℕ) → 1 ≤ server → server ≤ servers
      → AreAwaited server (recorded_after mode servers items queue oldest lines).client.node.moments (new_client (client_config mode servers items queue oldest))
  pub fed : (place : ℕ) → place + 1 ≤ servers
      → AllFedFrom items (recorded_after mode servers items queue oldest lines).source (lives_after mode servers items queue oldest lines place)
  pub fit : (place : ℕ) → place + 1 ≤ servers
      → AllFit mode servers items (place + 1) (lives_after mode servers items queue oldest lines place)
  pub client : client_keeps.FitsConfig (client_config mode servers items queue oldest)
      × AllByRecursion client_keeps.FitsMoment (recorded_after mode servers items queue oldest lines).client.node.moments
  pub few : (place : ℕ) → place + 1 ≤ servers
      → length (lives_after mode servers items queue oldest lines place) ≤ boot_of (place + 1) lines
  pub ticks : ticks_in_moments (recorded_after mode servers items queue oldest lines).client.node.moments ≤ length lines
  pub short : length (recorded_after mode servers items queue oldest lines).source ≤ 200000
  pub is : IsSource (recorded_after mode servers items queue oldest lines).source

-- ---- counts

none_more : (n : ℕ) → 0 + n ≡ n
none_more n = omega arith

same_ticks : (moments : List Moment) → ticks_at moments ≡ ticks_in_moments moments
same_ticks [] = refl
same_ticks (Goes (acts.Ticks ms) ∷ moments) = ap (λ (n : ℕ). 1 + n) (same_ticks moments) ∙ one_more (ticks_in_moments moments)
  where
    one_more : (n : ℕ) → 1 + n ≡ suc n
    one_more n = omega arith
same_ticks (Goes (acts.Opens server) ∷ moments) = none_more (ticks_at moments) ∙ same_ticks moments
same_ticks (Goes (acts.Refuses server) ∷ moments) = none_more (ticks_at moments) ∙ same_ticks moments
same_ticks (Goes (acts.Hears server h) ∷ moments) = none_more (ticks_at moments) ∙ same_ticks moments
same_ticks (Goes (acts.Closes server) ∷ moments) = none_more (ticks_at moments) ∙ same_ticks moments
same_ticks (Ends ∷ moments) = none_more (ticks_at moments) ∙ same_ticks moments
same_ticks (Takes server ∷ moments) = none_more (ticks_at moments) ∙ same_ticks moments

pub urls_long : (count : ℕ) → length (urls count) ≡ count
unfolding urls
urls_long zero = refl
urls_long (suc count) =
    let last = length-append (urls count) (Some (url_text (count + 1)) ∷ []) in let before = urls_long count in omega (arith, last, before)

shared_long : (spoken : List Spoken) (served : List Served) → AreShared spoken served → length spoken ≡ length served
shared_long [] [] x = refl
shared_long [] (c ∷ served) x = absurd x
shared_long (s ∷ spoken) [] x = absurd x
shared_long (s ∷ spoken) (c ∷ served) x = ap suc (shared_long spoken served x.1)

-- ---- of one server

module _ (mode : SetMode) (servers items queue : ℕ) (oldest : Bool) (lines : List Line) where
  abbrev pub end : RecordedSet
  end = recorded_after mode servers items queue oldest lines

  abbrev pub config : ClientConfig
  config = client_config mode servers items queue oldest

  abbrev pub link : LinkConfig
  link = link_config config

  abbrev pub moments : List Moment
  moments = end.client.node.moments

  abbrev pub lives_at : ℕ → List Noted
  lives_at place = lives_after mode servers items queue oldest lines place

  abbrev pub noted_at : ℕ → List Life
  noted_at place = lives_noted mode servers items (place + 1) (lives_at place)

  -- the link is a link alone, in which what comes is awaited; its connections are those of the server's lives, what it says on
  -- them keeps the limits, and so does all that happens to the lives
  pub record IsMet (place : ℕ) : Type 0 where
    pub one : IsLinkLife (place + 1) config moments
    pub awaited : AllAwaited one.happenings (new_link link)
    pub shared : AllShared (spoken_in (passed_by one.happenings (new_link link)) []) (noted_at place)
    pub kept : AllKept (spoken_in (passed_by one.happenings (new_link link)) [])
    pub orderly : AllByRecursion IsOrderly (noted_at place)

  few_spoken : (n ticks moments count : ℕ) → n ≤ ticks + 1 → ticks ≤ moments → moments ≤ count → count ≤ 2 ^ 31 → n < 2 ^ 32 - 1
  few_spoken n ticks moments count one two three four = omega (arith, one, two, three, four)

  pub met : AreWithin servers items queue lines → LinkLaws → SetLaws mode servers items queue oldest lines → (place : ℕ) → place + 1 ≤ servers → IsMet place
  met within laws set place least =
      let server : ℕ = place + 1 in
      let one : IsLinkLife server config moments =
      laws.live config moments server (omega arith) (subst (λ (n : ℕ). server ≤ n) (sym (urls_long servers)) least) in
      let awaited : AllAwaited one.happenings (new_link link) = one.awaited (set.awaited server (omega arith) least) in
      let spoken : List Spoken = spoken_in (passed_by one.happenings (new_link link)) [] in
      let few : length spoken < 2 ^ 32 - 1 =
      few_spoken (length spoken) (ticks_in one.happenings) (ticks_at moments) (length lines) (laws.few link one.happenings awaited) one.ticks
      (subst (λ (n : ℕ). n ≤ length lines) (sym (same_ticks moments)) set.ticks) within.few_lines in
      let shared : AllShared spoken (noted_at place) =
      subst (λ (l : List Passing). AllShared (spoken_in l []) (noted_at place)) one.passed
      (set.shared place least (subst (λ (l : List Passing). length (spoken_in l []) < 2 ^ 32 - 1) (sym one.passed) few)) in
      let short = all_short mode servers items server (lives_at place)
      (subst (λ (n : ℕ). n < 2 ^ 32 - 1) (shared_long spoken (connections_of (noted_at place)) shared) few) in
      record {
        one = one;
        awaited = awaited;
        shared = shared;
        kept = subst (λ (l : List Passing). AllKept (spoken_in l [])) one.passed
            (all_kept server (acts_of config moments) (laws.keeps config moments set.client.0 set.client.1));
        orderly = all_orderly mode servers items server (lives_at place) (set.fit place least) (set.heard place least) (set.meet place least).numbered short;
      }
