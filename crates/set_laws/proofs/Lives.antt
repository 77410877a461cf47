-- The lives of a server of a set are bound in books.
use Rattle.std.proofs.Common.{◌≡◌, ℕ, suc, ◌+◌, ◌-◌, ◌^◌, ◌<◌, ◌≤◌, min, List, [], ◌∷◌, length, map, refl, ap, subst, ◌∙◌, arith}
use Rattle.std.proofs.lemmas.List.{length-append}
use Rattle.std.specs.List.{AllByRecursion}
use Rattle.ua_base.specs.declared.modes.SetMode.{SetMode}
use Rattle.set_model.specs.declared.source.Change.{Change}
use Rattle.set_model.specs.Source.{IsSource}
use Rattle.ua_channel.specs.State.{WireState}
use Rattle.server_rules.specs.State.{ServerState}
use Rattle.server_rules.specs.Step.{Closes, Feeds, Happening, Hears, Levels, Opens, Ticks}
use Rattle.server_answers.specs.Turns as answers
use Rattle.link_rules.specs.declared.config.LinkConfig.{LinkConfig}
use Rattle.set_histories.specs.Below.{AreCounted, AreNumbered, Accepted, NotedLife}
use Rattle.set_histories.specs.Recording.{RecordedLife}
use Rattle.set_feeds.specs.Feeds.{AllFedFrom, IsFedFrom}
use Rattle.set_hearings.specs.Attentive as hearings
use Rattle.set_hearings.specs.Attentive.{AllAttentive, IsAttentive, numbers_of}
use Rattle.set_talks.specs.On.{AreOn}
use Rattle.set_fitting.specs.Fits.{AllFit, LifeFits}
use Rattle.set_talks.specs.Meetings.{Life, connections_of, served_by, start_of}
use Rattle.set_meetings.specs.Noted.{life_noted, lives_noted}
use Rattle.set_askings.specs.Once.{AreAbove, AreApart, IsAskedOnce, IsOrderly}
use Rattle.set_laws.proofs.Bound.{AreFalling, AreUnder, IsBound}
use Rattle.set_laws.proofs.Linking.{AskedOnce, Binding, known_is}

abbrev pub Noted : Type 0
Noted = NotedLife RecordedLife WireState

-- ---- the numbers of a life's connections

below : (number count most bound : ℕ) → number ≡ min (count + 1) most → suc count < bound → number < bound
below number count most bound is less = omega (arith, is, less)

next : (number count most : ℕ) → number ≡ min (count + 1) most → suc count ≤ most → count < number
next number count most is less = omega (arith, is, less)

unlike : (one other : ℕ) → other < one → other ≡ one → ⊥
unlike one other less same = omega (arith, less, same)

abbrev numbers : List (Accepted WireState) → List ℕ
numbers connections = map (λ (a : Accepted WireState). a.number) connections

are_above : (bound : ℕ) (connections : List (Accepted WireState)) → AreCounted connections → length connections < bound → AreAbove bound (numbers connections)
are_above bound [] x less = tt
are_above bound (a ∷ earlier) x less =
    (unlike bound a.number (below a.number (length earlier) (2 ^ 32 - 1) bound x.0 less), are_above bound earlier x.1 (omega (arith, less)))

are_apart : (connections : List (Accepted WireState)) → AreCounted connections → length connections ≤ 2 ^ 32 - 1 → AreApart (numbers connections)
are_apart [] x few = tt
are_apart (a ∷ earlier) x few =
    (are_above a.number earlier x.1 (next a.number (length earlier) (2 ^ 32 - 1) x.0 few), are_apart earlier x.1 (omega (arith, few)))

same_numbers : (connections : List (Accepted WireState)) → numbers_of connections ≡ numbers connections
same_numbers [] = refl
same_numbers (a ∷ earlier) = ap (λ (l : List ℕ). a.number ∷ l) (same_numbers earlier)

-- ---- what is heard

heard_too : (past : List Happening) (s : ServerState) → hearings.AreHeard past s → answers.AreHeard past s
heard_too [] s x = tt
heard_too (Opens k ∷ past) s x = heard_too past s x
heard_too (Hears k h ∷ past) s x = (x.0, heard_too past s x.1)
heard_too (Closes k ∷ past) s x = heard_too past s x
heard_too (Feeds change ∷ past) s x = heard_too past s x
heard_too (Ticks ms ∷ past) s x = heard_too past s x
heard_too (Levels level ∷ past) s x = heard_too past s x

-- ---- lives

module _ (mode : SetMode) (servers items number : ℕ) where
  abbrev of_noted : Noted → Life
  of_noted life = life_noted mode servers items number life

  -- the connections of each life are few
  abbrev pub AllShort : List Noted → Type 0
  AllShort [] = Unit {0}
  AllShort (life ∷ earlier) = (length life.connections < 2 ^ 32 - 1) × AllShort earlier

  one_orderly : (life : Noted) → LifeFits mode servers items number life → IsAttentive mode servers items number life
      → AreCounted life.connections → length life.connections < 2 ^ 32 - 1 → IsOrderly (of_noted life)
  one_orderly life fit attentive counted few = record {
    config = fit.config;
    current = fit.current;
    happenings = fit.happenings;
    on = subst (λ (l : List ℕ). AreOn l life.node.happenings) (same_numbers life.connections) attentive.on;
    apart = are_apart life.connections counted (omega (arith, few));
  }

  pub all_orderly : (lives : List Noted) → AllFit mode servers items number lives → AllAttentive mode servers items number lives
      → AreNumbered lives → AllShort lives → AllByRecursion IsOrderly (lives_noted mode servers items number lives)
  all_orderly [] fit attentive numbered short = tt
  all_orderly (life ∷ lives) fit attentive numbered short =
      (one_orderly life fit.0 attentive.0 numbered.1 short.0, all_orderly lives fit.1 attentive.1 numbered.2 short.1)

  -- ---- boot numbers

  all_under : (bound : ℕ) (lives : List Noted) → AreNumbered lives → length lives < bound → AreUnder bound (lives_noted mode servers items number lives)
  all_under bound [] x less = tt
  all_under bound (life ∷ earlier) x less =
      (below life.boot (length earlier) (2 ^ 16 - 1) bound x.0 less, all_under bound earlier x.2 (omega (arith, less)))

  pub all_falling : (lives : List Noted) → AreNumbered lives → length lives ≤ 65535 → AreFalling (lives_noted mode servers items number lives)
  all_falling [] x few = tt
  all_falling (life ∷ earlier) x few =
      (all_under life.boot earlier x.2 (next life.boot (length earlier) (2 ^ 16 - 1) x.0 few), all_falling earlier x.2 (omega (arith, few)))

  -- ---- the lengths of their connections

  served_long : (life : Life) (numbers : List ℕ) → length (served_by life numbers) ≡ length numbers
  served_long life [] = refl
  served_long life (n ∷ numbers) = ap suc (served_long life numbers)

  numbers_long : (connections : List (Accepted WireState)) → length (numbers connections) ≡ length connections
  numbers_long [] = refl
  numbers_long (a ∷ earlier) = ap suc (numbers_long earlier)

  pub all_short : (lives : List Noted) → length (connections_of (lives_noted mode servers items number lives)) < 2 ^ 32 - 1 → AllShort lives
  all_short [] less = tt
  all_short (life ∷ earlier) less =
      let own = served_long (of_noted life) (numbers life.connections) ∙ numbers_long life.connections in
      let rest = connections_of (lives_noted mode servers items number earlier) in
      let whole = length-append (served_by (of_noted life) (numbers life.connections)) rest in
      (omega (arith, less, own, whole), all_short earlier (omega (arith, less, own, whole)))

  -- ---- bound

  module _ (source : List Change) (link : LinkConfig) (laws : Binding) where
    one_bound : (life : Noted) → LifeFits mode servers items number life → IsAttentive mode servers items number life
        → IsFedFrom items source life → ((id : ℕ) → IsAskedOnce link id (of_noted life)) → items < 2 ^ 16 → link.items ≡ items
        → 2 ≤ link.queue → IsSource source → IsBound items source (of_noted life)
    one_bound life fit attentive fed once few wide queue is =
        let known = known_is laws.knowing items source life fed in
        let books = λ (id : ℕ). laws.books (of_noted life) id source link items fit.config fit.current fit.happenings few (once id).on
        (subst (λ (n : ℕ). AskedOnce id link n (of_noted life)) wide (once id).once) queue is known in
        record {
          config = fit.config;
          current = fit.current;
          happenings = fit.happenings;
          heard = heard_too life.node.happenings (start_of (of_noted life)) attentive.heard;
          book = λ id. (books id).0;
          whole = λ id. (books id).1;
          own = laws.ids (of_noted life);
        }

    pub all_bound : (lives : List Noted) → AllFit mode servers items number lives → AllAttentive mode servers items number lives
        → AllFedFrom items source lives → ((id : ℕ) → AllByRecursion (IsAskedOnce link id) (lives_noted mode servers items number lives))
        → items < 2 ^ 16 → link.items ≡ items → 2 ≤ link.queue → IsSource source
        → AllByRecursion (IsBound items source) (lives_noted mode servers items number lives)
    all_bound [] fit attentive fed once few wide queue is = tt
    all_bound (life ∷ lives) fit attentive fed once few wide queue is = (
      one_bound life fit.0 attentive.0 fed.0 (λ id. (once id).0) few wide queue is,
      all_bound lives fit.1 attentive.1 fed.1 (λ id. (once id).1) few wide queue is,
    )
