-- Each connection of a link is one of its server's lives.
use Rattle.std.proofs.Common.{◌≡◌, ◌≤◌, ◌<◌, ℕ, zero, suc, ◌+◌, ◌-◌, ◌^◌, List, [], ◌∷◌, ◌++◌, map, length, Bool, true, Some, refl, sym, ◌∙◌, ap, subst, arith}
use Rattle.std.proofs.lemmas.List.{append_assoc, length-append, length-replicate}
use Rattle.ua_base.specs.declared.modes.SetMode.{SetMode}
use Rattle.ua_channel.specs.declared.heard.Heard.{Heard}
use Rattle.ua_channel.specs.State.{WireState}
use Rattle.ua_channel.specs.Orders.{puts_of}
use Rattle.scenario.specs.declared.line.Line.{Line}
use Rattle.link_rules.specs.Said.{orders_of}
use Rattle.link_rules.specs.State.{new_link}
use Rattle.client_rules.specs.declared.config.ClientConfig.{ClientConfig}
use Rattle.client_rules.specs.State.{idle_client, is_server, link_config, servers_of}
use Rattle.client_rules.specs.Step.{Ends, Moment, after_all, new_client}
use Rattle.client_laws.specs.Life.{acts_of}
use Rattle.client_links.specs.Links.{passed_in}
use Rattle.client_dials.specs.Spoken.{Spoken, spoken_in}
use Rattle.client_messages.specs.Messages as learning
use Rattle.set_histories.specs.Below.{client_config, url_text, urls, beginning, Accepted, NotedLife, Talked, AllFronts, AllMeet, IsFront, connections_of as accepted_of}
use Rattle.set_talks.specs.Heard.{AreHeardOf}
use Rattle.set_histories.specs.Histories.{AllLived, AllTold, AreDialled, AreHistories, lives_after, recorded_after}
use Rattle.set_talks.specs.Lives.{Dial, heard_on, put_on}
use Rattle.set_histories.specs.Recording.{RecordedLife, recorded_client, recorded_life, recording}
use Rattle.set_histories.proofs.Dialled.{all_long}
use Rattle.set_histories.proofs.Links.{within_is}
use Rattle.set_talks.specs.Meetings.{AllShared, AreShared, Life, Served, connections_of, served_by, start_of}
use Rattle.set_meetings.specs.Noted.{life_noted, lives_noted}
use Rattle.set_meetings.proofs.Walking.{are_dials, dial_of}

abbrev Lived : Type 0
Lived = NotedLife RecordedLife WireState

-- ---- fronts

heard_more : (heard : List Heard) (taken rest : List WireState) → AreHeardOf heard taken → AreHeardOf heard (taken ++ rest)
heard_more [] taken rest are = tt
heard_more (h ∷ heard) [] rest are = absurd are
heard_more (h ∷ heard) (wire ∷ taken) rest are = (are.0, heard_more heard taken rest are.1)

-- what is heard of a front is heard of the whole
heard_front : (heard : List Heard) (taken put : List WireState) → AreHeardOf heard taken → IsFront taken put → AreHeardOf heard put
heard_front heard taken put are front =
    subst (AreHeardOf heard) (sym front.1) (heard_more heard taken front.0 are)

front_then : (first second third : List WireState) → IsFront first second → IsFront second third → IsFront first third
front_then first second third one other = (
  one.0 ++ other.0,
  other.1 ∙ ap (λ (l : List WireState). l ++ other.0) one.1 ∙ append_assoc first one.0 other.0,
)

-- ---- the connections of a server's lives

-- one of a life is what was noted of it
record IsNoted (accepted : Accepted WireState) (served : Served) : Type 0 where
  heard : AreHeardOf (heard_on served.number served.life.happenings) accepted.talked.taken
  put : IsFront accepted.talked.put (put_on served.number served.life.happenings (start_of served.life))

abbrev AreNoted : List (Accepted WireState) → List Served → Type 0
AreNoted [] [] = Unit {0}
AreNoted [] (served ∷ others) = ⊥
AreNoted (accepted ∷ earlier) [] = ⊥
AreNoted (accepted ∷ earlier) (served ∷ others) = IsNoted accepted served × AreNoted earlier others

noted_append : (all more : List (Accepted WireState)) (served others : List Served) → AreNoted all served → AreNoted more others
    → AreNoted (all ++ more) (served ++ others)
noted_append [] more [] others first second = second
noted_append [] more (one ∷ served) others first second = absurd first
noted_append (accepted ∷ all) more [] others first second = absurd first
noted_append (accepted ∷ all) more (one ∷ served) others first second =
    (first.0, noted_append all more served others first.1 second)

-- those of one life
life_is_noted : (life : Life) (past : RecordedLife) (accepted : List (Accepted WireState)) → life.happenings ≡ past.happenings
    → AllTold past (start_of life) accepted
    → AreNoted accepted (served_by life (map (λ (a : Accepted WireState). a.number) accepted))
life_is_noted life past [] same told = tt
life_is_noted life past (a ∷ accepted) same told = (
  record {
    heard = subst (λ l. AreHeardOf (heard_on a.number l) a.talked.taken) (sym same) told.0.heard;
    put = subst (λ l. IsFront a.talked.put (put_on a.number l (start_of life))) (sym same) told.0.put;
  },
  life_is_noted life past accepted same told.1,
)

-- those of all lives, where they aren't more than the numbers go
lives_are_noted : (mode : SetMode) (servers items number most : ℕ) (lives : List Lived)
    → AllLived mode servers items number lives → length (accepted_of lives) < most → most ≡ 2 ^ 32 - 1
    → AreNoted (accepted_of lives) (connections_of (lives_noted mode servers items number lives))
lives_are_noted mode servers items number most [] lived few is = tt
lives_are_noted mode servers items number most (life ∷ earlier) lived few is =
    let sum : length (life.connections ++ accepted_of earlier) ≡ length life.connections + length (accepted_of earlier) =
    length-append life.connections (accepted_of earlier) in
    let own : length life.connections < most = omega (arith, sum, few) in
    let rest : length (accepted_of earlier) < most = omega (arith, sum, few) in
    let noted : Life = life_noted mode servers items number life in
    noted_append life.connections (accepted_of earlier) (served_by noted noted.connections)
    (connections_of (lives_noted mode servers items number earlier))
    (life_is_noted noted life.node life.connections refl (lived.0.told (subst (λ n. length life.connections < n) is own)))
    (lives_are_noted mode servers items number most earlier lived.1 rest is)

-- ---- both ends

dialled_long : (dials : List Dial) (talked : List (Talked WireState)) → AreDialled dials talked → length talked ≡ length dials
dialled_long [] [] are = refl
dialled_long [] (t ∷ talked) are = absurd are
dialled_long (d ∷ dials) [] are = absurd are
dialled_long (d ∷ dials) (t ∷ talked) are = ap suc (dialled_long dials talked are.2)

meeting_long : (talked : List (Talked WireState)) (accepted : List (Accepted WireState)) → AllMeet talked accepted
    → length accepted ≡ length talked
meeting_long [] [] meet = refl
meeting_long [] (a ∷ accepted) meet = absurd meet
meeting_long (t ∷ talked) [] meet = absurd meet
meeting_long (t ∷ talked) (a ∷ accepted) meet = ap suc (meeting_long talked accepted meet.1)

spoken_long : (all : List Spoken) → length (map dial_of all) ≡ length all
spoken_long [] = refl
spoken_long (s ∷ all) = ap suc (spoken_long all)

are_shared : (all : List Spoken) (talked : List (Talked WireState)) (accepted : List (Accepted WireState)) (served : List Served)
    → AreDialled (map dial_of all) talked → AllMeet talked accepted → AreNoted accepted served → AreShared all served
are_shared [] [] [] [] dialled meet noted = tt
are_shared [] [] [] (one ∷ served) dialled meet noted = absurd noted
are_shared [] [] (a ∷ accepted) served dialled meet noted = absurd meet
are_shared [] (t ∷ talked) accepted served dialled meet noted = absurd dialled
are_shared (s ∷ all) [] accepted served dialled meet noted = absurd dialled
are_shared (s ∷ all) (t ∷ talked) [] served dialled meet noted = absurd meet
are_shared (s ∷ all) (t ∷ talked) (a ∷ accepted) [] dialled meet noted = absurd noted
are_shared (s ∷ all) (t ∷ talked) (a ∷ accepted) (one ∷ served) dialled meet noted =
    let put : List WireState = put_on one.number one.life.happenings (start_of one.life) in
    let said : List WireState = puts_of (orders_of s.said) in (
      record {
        back = heard_front s.heard t.taken put dialled.0
            (front_then t.taken a.talked.put put meet.0.back noted.0.put);
        there = heard_front (heard_on one.number one.life.happenings) a.talked.taken said noted.0.heard
            (front_then a.talked.taken t.put said meet.0.there dialled.1);
      },
      are_shared all talked accepted served dialled.2 meet.1 noted.1,
    )

-- ---- a set that begins

urls_long : (servers : ℕ) → length (urls servers) ≡ servers
unfolding urls
urls_long zero = refl
urls_long (suc count) =
    let last = length-append (urls count) (Some (url_text (count + 1)) ∷ []) in let before = urls_long count in omega (arith, last, before)

links_long : (config : ClientConfig) → length (new_client config).links ≡ servers_of config
unfolding after_all
links_long config = all_long (Ends ∷ []) (idle_client config) ∙ length-replicate (servers_of config) (new_link (link_config config))

-- ---- the law

module _ (mode : SetMode) (servers items queue : ℕ) (oldest : Bool) (lines : List Line) where
  abbrev config : ClientConfig
  config = client_config mode servers items queue oldest

  abbrev moments : List Moment
  moments = (recorded_after mode servers items queue oldest lines).client.node.moments

  first_long : length (new_client config).links ≡ servers
  first_long = links_long config ∙ urls_long servers

  pub connections_meet : AreHistories mode servers items queue oldest lines
      → AllFronts recording (recorded_life (beginning mode servers items)) items lines servers (recorded_client (learning.new_talk config))
      → (place : ℕ) → place + 1 ≤ servers
      → length (spoken_in (passed_in (place + 1) (acts_of config moments)) []) < 2 ^ 32 - 1
      → AllShared (spoken_in (passed_in (place + 1) (acts_of config moments)) [])
      (lives_noted mode servers items (place + 1) (lives_after mode servers items queue oldest lines place))
  connections_meet histories all place within few =
      let spoken : List Spoken = spoken_in (passed_in (place + 1) (acts_of config moments)) [] in
      let lives : List Lived = lives_after mode servers items queue oldest lines place in
      let talked : List (Talked WireState) = (recorded_after mode servers items queue oldest lines).client.dials (place + 1) in
      let known : is_server (place + 1) (new_client config) ≡ true =
      within_is (place + 1) (length (new_client config).links) (omega arith) (subst (λ n. place + 1 ≤ n) (sym first_long) within) in
      let dialled : AreDialled (map dial_of spoken) talked =
      subst (λ (l : List Dial). AreDialled l talked) (sym (are_dials (place + 1) moments (new_client config) [] known))
      (histories.client.dialled (place + 1) (omega arith) within) in
      let meet : AllMeet talked (accepted_of lives) = (all place within).meet in
      let long : length (accepted_of lives) ≡ length spoken =
      meeting_long talked (accepted_of lives) meet ∙ dialled_long (map dial_of spoken) talked dialled ∙ spoken_long spoken in
      are_shared spoken talked (accepted_of lives) (connections_of (lives_noted mode servers items (place + 1) lives))
      dialled meet
      (lives_are_noted mode servers items (place + 1) (2 ^ 32 - 1) lives (histories.lives place within)
      (subst (λ n. n < 2 ^ 32 - 1) (sym long) few) refl)
