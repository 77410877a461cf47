-- Each switch is a choice among the servers that the acts before it tell to be ready.
use Rattle.std.proofs.Common.{◌≡◌, ◌≢◌, ◌⊎◌, ℕ, zero, suc, ◌+◌, ◌-◌, ◌==◌, ◌≤◌, ◌&&◌, List, [], ◌∷◌, ◌++◌, map, length, replicate, Bool, true, false, nat_le, Option, Some, None, if◌then◌else◌, slice_index_or, slice_set, refl, sym, ◌∙◌, ap, ap₂, subst, inl, inr, arith}
use Rattle.std.proofs.lemmas.Bool.Decides.{nat_tests}
use Rattle.std.proofs.lemmas.Grind.{get_or-set_at}
use Rattle.std.proofs.lemmas.List.{length-set, length-replicate, get_or-set_other, get_or-replicate, set-get_or}
use Rattle.ua_base.specs.declared.modes.SetMode.{SetMode}
use Rattle.ua_base.specs.declared.modes.SetMode.TheVariants.{Direct, Hot, Warm, Cold}
use Rattle.failover_core.specs.declared.choice.Candidate.{Candidate}
use Rattle.failover_core.specs.Choice.{choose, is_same, number_of, wanted}
use Rattle.failover_core.specs.State.{CoreState}
use Rattle.failover_core.specs.Laws.{IsAmong, IsBest}
use Rattle.failover_core.proofs.Best as best
use Rattle.link_rules.specs.declared.notice.Notice.{Notice}
use Rattle.link_rules.specs.declared.notice.Notice.TheVariants as notice
use Rattle.link_rules.specs.Said.{LinkDid, Said}
use Rattle.link_rules.specs.declared.phase.Phase.{Phase}
use Rattle.link_rules.specs.declared.phase.Phase.TheVariants as phase
use Rattle.link_rules.specs.State.{LinkState, is_ready, is_ready_phase, new_link}
use Rattle.link_rules.specs.Opening as opening
use Rattle.link_rules.specs.Time as time
use Rattle.link_rules.specs.Step as link
use Rattle.client_rules.specs.declared.config.ClientConfig.{ClientConfig}
use Rattle.client_rules.specs.State.{ClientState, idle_client, is_server, level_of, link_config, link_of, servers_of, with_link}
use Rattle.client_rules.specs.Acts.{ClientAct, Happening, Happened, Tells, Says, Switches, Opens, Refuses, Hears, Closes, Ticks}
use Rattle.client_rules.specs.Doing.{ClientDid, and_then, each_server, nothing}
use Rattle.client_rules.specs.Links.{all_told, fell, falls, server_after, linked, linked_by, moved, told}
use Rattle.client_rules.specs.Settling.{are_fewer, candidate_of, chosen, ready_among, ready_of, round, settled, settled_within, switched, told_mode, with_choice}
use Rattle.client_rules.specs.Dialling.{are_idle, dialled, dialled_by, dials_among, dials_at, dials_if, first_to_dial, has_numbers}
use Rattle.client_rules.specs.Step.{Moment, Goes, Ends, Takes, without_wish, after, after_all, at_moment, counted, happening, happens, is_known, new_client}
use Rattle.client_laws.specs.Life.{acts_of}
use Rattle.client_laws.specs.Choosing.{AreChoices, IsChoice, Told, candidates_among, candidates_of, level_by, nothing_told, ready_at, ready_by, server_of, told_after, told_by}
use Rattle.client_laws.proofs.Readiness.{Tracks, closed_tracks, dials_unready, heard_tracks, opened_tracks, ready_after, refused_tracks, ticked_tracks, wants_tracks}

-- what was told shows the client as it is
pub record Shows (c : ClientState) (t : Told) : Type 0 where
  pub ready_count : length t.ready ≡ length c.links
  pub levels_are : t.levels ≡ c.levels
  pub levels_count : length c.levels ≡ length c.links
  pub ready : (server : ℕ) → 1 ≤ server → server ≤ length c.links → ready_at server t ≡ is_ready (link_of server c)
  pub active : t.active ≡ c.core.active
  pub cursor : 1 ≤ c.cursor
  pub numbered : (server : ℕ) → c.core.active ≡ Some server → 1 ≤ server

-- a rule's acts show the client as it leaves it, and its switches are choices
pub record Follows (t : Told) (did : ClientDid) : Type 0 where
  pub shows : Shows did.client (told_after did.acts t)
  pub choices : AreChoices did.acts t

-- ---- one rule after another

after_append : (acts more : List ClientAct) (t : Told) → told_after (acts ++ more) t ≡ told_after more (told_after acts t)
unfolding told_after
after_append [] more t = refl
after_append (act ∷ acts) more t = after_append acts more (told_by act t)

choices_append : (acts more : List ClientAct) (t : Told) → AreChoices acts t → AreChoices more (told_after acts t)
    → AreChoices (acts ++ more) t
unfolding told_after AreChoices
choices_append [] more t first second = second
choices_append (act ∷ acts) more t first second = (first.0, choices_append acts more (told_by act t) first.1 second)

nothing_follows : (c : ClientState) (t : Told) → Shows c t → Follows t (nothing c)
unfolding told_after AreChoices
nothing_follows c t shows = record { shows = shows; choices = tt }

follows_then : (t : Told) (did : ClientDid) (rule : ClientState → ClientDid) → Follows t did
    → Follows (told_after did.acts t) (rule did.client) → Follows t (and_then rule did)
follows_then t did rule first second = record {
  shows = subst (Shows (rule did.client).client) (sym (after_append did.acts (rule did.client).acts t)) second.shows;
  choices = choices_append did.acts (rule did.client).acts t first.choices second.choices;
}

-- ---- a link

tells_choose : (server : ℕ) (notices : List Notice) (said : List Said) (t : Told)
    → AreChoices (map (Tells server) notices ++ map (Says server) said) t
unfolding AreChoices
tells_choose server [] [] t = tt
tells_choose server [] (s ∷ said) t = (tt, tells_choose server [] said t)
tells_choose server (n ∷ notices) said t = (tt, tells_choose server notices said (told_by (Tells server n) t))

says_tell : (server : ℕ) (said : List Said) (t : Told) → told_after (map (Says server) said) t ≡ t
unfolding told_after
says_tell server [] t = refl
says_tell server (s ∷ said) t = says_tell server said t

-- what a link's notices tell
record TellsOf (server : ℕ) (notices : List Notice) (c : ClientState) (t : Told) (after : ClientState) (now : Told) : Type 0 where
  links : after.links ≡ c.links
  config : after.config ≡ c.config
  core : after.core ≡ c.core
  cursor : after.cursor ≡ c.cursor
  ready_count : length now.ready ≡ length t.ready
  levels_are : now.levels ≡ after.levels
  levels_count : length after.levels ≡ length c.levels
  own : ready_at server now ≡ ready_after notices (ready_at server t)
  others : (other : ℕ) → 1 ≤ other → other ≢ server → ready_at other now ≡ ready_at other t
  active : now.active ≡ t.active

-- one notice
record TellsOne (server : ℕ) (n : Notice) (c : ClientState) : Type 0 where
  links : (told server n c).links ≡ c.links
  config : (told server n c).config ≡ c.config
  core : (told server n c).core ≡ c.core
  cursor : (told server n c).cursor ≡ c.cursor
  levels : (told server n c).levels ≡ slice_set c.levels (server - 1) (level_by n (level_of server c))

tells_one : (server : ℕ) (n : Notice) (c : ClientState) → TellsOne server n c
unfolding told
tells_one server (notice.Level level) c = record { links = refl; config = refl; core = refl; cursor = refl; levels = refl }
tells_one server notice.Ready c = record { links = refl; config = refl; core = refl; cursor = refl; levels = sym (set-get_or c.levels (server - 1) 0) }
tells_one server notice.Lost c = record { links = refl; config = refl; core = refl; cursor = refl; levels = sym (set-get_or c.levels (server - 1) 0) }
tells_one server notice.Unsupported c = record { links = refl; config = refl; core = refl; cursor = refl; levels = sym (set-get_or c.levels (server - 1) 0) }
tells_one server (notice.Stream item) c = record { links = refl; config = refl; core = refl; cursor = refl; levels = sym (set-get_or c.levels (server - 1) 0) }
tells_one server notice.Jump c = record { links = refl; config = refl; core = refl; cursor = refl; levels = sym (set-get_or c.levels (server - 1) 0) }
tells_one server (notice.Taken item value) c = record { links = refl; config = refl; core = refl; cursor = refl; levels = sym (set-get_or c.levels (server - 1) 0) }
tells_one server (notice.Sent mode) c = record { links = refl; config = refl; core = refl; cursor = refl; levels = sym (set-get_or c.levels (server - 1) 0) }
tells_one server (notice.Confirmed mode) c = record { links = refl; config = refl; core = refl; cursor = refl; levels = sym (set-get_or c.levels (server - 1) 0) }

apart : (server other : ℕ) → 1 ≤ server → 1 ≤ other → other ≢ server → other - 1 ≢ server - 1
apart server other from own differs = λ same. differs (omega arith)

tells_all : (server : ℕ) (notices : List Notice) (c : ClientState) (t : Told) → 1 ≤ server → server ≤ length t.ready
    → t.levels ≡ c.levels
    → TellsOf server notices c t (all_told server notices c) (told_after (map (Tells server) notices) t)
unfolding all_told told_after
tells_all server [] c t from to levels = record {
  links = refl;
  config = refl;
  core = refl;
  cursor = refl;
  ready_count = refl;
  levels_are = levels;
  levels_count = refl;
  own = refl;
  others = λ other own differs. refl;
  active = refl;
}
tells_all server (n ∷ notices) c t from to levels =
    let one = tells_one server n c in
    let next : Told = told_by (Tells server n) t in
    let same : length next.ready ≡ length t.ready = length-set t.ready (server - 1) (ready_by n (ready_at server t)) in
    let now_levels : next.levels ≡ (told server n c).levels =
    ap (λ ls. slice_set ls (server - 1) (level_by n (slice_index_or ls (server - 1) 0))) levels ∙ sym one.levels in
    let rest = tells_all server notices (told server n c) next from (omega arith) now_levels in record {
      links = rest.links ∙ one.links;
      config = rest.config ∙ one.config;
      core = rest.core ∙ one.core;
      cursor = rest.cursor ∙ one.cursor;
      ready_count = rest.ready_count ∙ same;
      levels_are = rest.levels_are;
      levels_count = rest.levels_count ∙ ap length one.levels ∙ length-set c.levels (server - 1) (level_by n (level_of server c));
      own = rest.own ∙ ap (ready_after notices)
          (get_or-set_at t.ready (server - 1) (server - 1) (ready_by n (ready_at server t)) false refl (omega arith));
      others = λ other own differs. rest.others other own differs
          ∙ get_or-set_other t.ready (server - 1) (other - 1) (ready_by n (ready_at server t)) false (apart server other from own differs);
      active = rest.active;
    }

-- a client after a link moved
record IsMoved (server : ℕ) (l : LinkState) (c after : ClientState) : Type 0 where
  links : after.links ≡ slice_set c.links (server - 1) l
  config : after.config ≡ c.config
  core : after.core ≡ c.core
  levels : after.levels ≡ c.levels
  cursor : 1 ≤ c.cursor → 1 ≤ after.cursor

after_first : (server : ℕ) (b : Bool) → 1 ≤ (if b then 1 else server + 1)
after_first server true = omega arith
after_first server false = omega arith

fell_moves : (server : ℕ) (l : LinkState) (c : ClientState) (b : Bool) → IsMoved server l c (fell server b (with_link server l c))
fell_moves server l c true =
    record { links = refl; config = refl; core = refl; levels = refl; cursor = λ from. after_first server _ }
fell_moves server l c false = record { links = refl; config = refl; core = refl; levels = refl; cursor = λ from. from }

linked_ready : (server : ℕ) (l : LinkState) (c after : ClientState) (other : ℕ) → 1 ≤ server → other ≤ length c.links
    → 1 ≤ other → after.links ≡ slice_set c.links (server - 1) l → after.config ≡ c.config
    → (same : (other ≡ server) ⊎ (other ≢ server)) → (ready : Bool)
    → (other ≡ server → ready ≡ is_ready l) → (other ≢ server → ready ≡ is_ready (link_of other c))
    → ready ≡ is_ready (link_of other after)
linked_ready server l c after other from to own links config (inl is) ready here there =
    here is
    ∙ sym (ap₂ (λ (ls : List LinkState) (g : ClientConfig). is_ready (slice_index_or ls (other - 1) (new_link (link_config g)))) links config
    ∙ ap is_ready (get_or-set_at c.links (server - 1) (other - 1) l (new_link (link_config c.config)) (ap (λ n. n - 1) is) (omega arith)))
linked_ready server l c after other from to own links config (inr differs) ready here there =
    there differs
    ∙ sym (ap₂ (λ (ls : List LinkState) (g : ClientConfig). is_ready (slice_index_or ls (other - 1) (new_link (link_config g)))) links config
    ∙ ap is_ready (get_or-set_other c.links (server - 1) (other - 1) l (new_link (link_config c.config)) (apart server other from own differs)))

same_or_not : (a b : ℕ) (t : Bool) → (a == b) ≡ t → (a ≡ b) ⊎ (a ≢ b)
same_or_not a b true e = inl (grind (arith, nat_tests))
same_or_not a b false e = inr (grind (arith, nat_tests))

linked_shows : (server : ℕ) (did : LinkDid) (c : ClientState) (t : Told) → 1 ≤ server → server ≤ length c.links
    → Tracks (is_ready (link_of server c)) did → Shows c t
    → Shows (linked_by server did c).client (told_after (map (Tells server) did.notices) t)
unfolding linked_by
linked_shows server did c t from to tracks shows =
    let move = fell_moves server did.link c (falls (link_of server c) did.link) in
    let counts : length t.ready ≡ length c.links = shows.ready_count in
    let tells = tells_all server did.notices (moved server did.link c) t from (omega arith) (shows.levels_are ∙ sym move.levels) in
    let count : length (all_told server did.notices (moved server did.link c)).links ≡ length c.links =
    ap length (tells.links ∙ move.links) ∙ length-set c.links (server - 1) did.link in record {
      ready_count = tells.ready_count ∙ counts ∙ sym count;
      levels_are = tells.levels_are;
      levels_count = tells.levels_count ∙ ap length move.levels ∙ shows.levels_count ∙ sym count;
      ready = λ other own within.
          linked_ready server did.link c (all_told server did.notices (moved server did.link c)) other from (omega arith) own
          (tells.links ∙ move.links) (tells.config ∙ move.config) (same_or_not other server _ refl)
          (ready_at other (told_after (map (Tells server) did.notices) t))
          (λ is. ap (λ n. ready_at n (told_after (map (Tells server) did.notices) t)) is ∙ tells.own
          ∙ ap (ready_after did.notices) (shows.ready server from to) ∙ tracks.told)
          (λ differs. tells.others other own differs ∙ shows.ready other own (omega arith));
      active = tells.active ∙ shows.active ∙ sym (ap (λ (k : CoreState). k.active) (tells.core ∙ move.core));
      cursor = subst (λ n. 1 ≤ n) (sym tells.cursor) (move.cursor shows.cursor);
      numbered = λ active is. shows.numbered active (ap (λ (k : CoreState). k.active) (sym (tells.core ∙ move.core)) ∙ is);
    }

linked_follows : (server : ℕ) (did : LinkDid) (c : ClientState) (t : Told) → 1 ≤ server → server ≤ length c.links
    → Tracks (is_ready (link_of server c)) did → Shows c t → Follows t (linked_by server did c)
unfolding linked_by
linked_follows server did c t from to tracks shows = record {
  shows = subst (Shows (linked_by server did c).client)
      (sym (after_append (map (Tells server) did.notices) (map (Says server) did.said) t
      ∙ says_tell server did.said (told_after (map (Tells server) did.notices) t)))
      (linked_shows server did c t from to tracks shows);
  choices = tells_choose server did.notices did.said t;
}

-- ---- all servers

ready_length : (acts : List ClientAct) (t : Told) → length (told_after acts t).ready ≡ length t.ready
unfolding told_after
ready_length [] t = refl
ready_length (Happened happening ∷ acts) t = ready_length acts t
ready_length (Tells server n ∷ acts) t =
    ready_length acts (told_by (Tells server n) t) ∙ length-set t.ready (server - 1) (ready_by n (ready_at server t))
ready_length (Says server said ∷ acts) t = ready_length acts t
ready_length (Switches from to ∷ acts) t = ready_length acts (told_by (Switches from to) t)

-- a rule that follows leaves as many links
same_links : (c : ClientState) (t : Told) (did : ClientDid) → Shows c t → Follows t did → length did.client.links ≡ length c.links
same_links c t did shows follows =
    sym follows.shows.ready_count ∙ ready_length did.acts t ∙ shows.ready_count

abbrev pub EachFollows : (ℕ → ClientState → ClientDid) → Type 0
EachFollows rule = (server : ℕ) (d : ClientState) (u : Told) → 1 ≤ server → server ≤ length d.links → Shows d u → Follows u (rule server d)

each_follows : (rule : ℕ → ClientState → ClientDid) (count : ℕ) (c : ClientState) (t : Told) → count ≤ length c.links
    → Shows c t → EachFollows rule → Follows t (each_server rule count c)
unfolding each_server
each_follows rule zero c t most shows each = nothing_follows c t shows
each_follows rule (suc count) c t most shows each =
    let first = each_follows rule count c t (omega arith) shows each in
    let same : length (each_server rule count c).client.links ≡ length c.links =
    same_links c t (each_server rule count c) shows first in
    follows_then t (each_server rule count c) (rule (count + 1)) first
    (each (count + 1) (each_server rule count c).client (told_after (each_server rule count c).acts t) (omega arith) (omega arith) first.shows)

-- ---- the choice

abbrev pub one_if : ℕ → Bool → ℕ → List Candidate
one_if server b level = if b then record { server = server; level = level } ∷ [] else []

candidates_are : (c : ClientState) (t : Told) (count : ℕ) → count ≤ length c.links → Shows c t
    → candidates_among count t ≡ ready_among count c
unfolding candidates_among ready_among
candidates_are c t zero most shows = refl
candidates_are c t (suc count) most shows =
    ap₂ (λ (cs ds : List Candidate). cs ++ ds) (candidates_are c t count (omega arith) shows)
    (ap₂ (one_if (count + 1))
    (shows.ready (count + 1) (omega arith) (omega arith))
    (ap (λ (ls : List ℕ). slice_index_or ls (count + 1 - 1) 0) shows.levels_are))

all_candidates : (c : ClientState) (t : Told) → Shows c t → candidates_of t ≡ ready_of c
all_candidates c t shows =
    ap (λ n. candidates_among n t) shows.ready_count ∙ candidates_are c t (length c.links) (omega arith) shows

among_first : (one other : Candidate) (first more : List Candidate) → IsAmong one first ⊎ IsAmong one more
    → IsAmong one (other ∷ first) ⊎ IsAmong one more
among_first one other first more (inl among) = inl (inr among)
among_first one other first more (inr among) = inr among

pub among_append : (one : Candidate) (first more : List Candidate) → IsAmong one (first ++ more)
    → IsAmong one first ⊎ IsAmong one more
among_append one [] more among = inr among
among_append one (other ∷ first) more (inl is) = inl (inl is)
among_append one (other ∷ first) more (inr among) = among_first one other first more (among_append one first more among)

pub one_from : (b : Bool) (server level : ℕ) (one : Candidate)
    → IsAmong one (one_if server b level) → one.server ≡ server
one_from true server level one (inl is) = ap (λ (x : Candidate). x.server) is
one_from true server level one (inr among) = absurd among
one_from false server level one among = absurd among

numbered_by : (c : ClientState) (count : ℕ) (one : Candidate)
    → (IsAmong one (ready_among count c) → 1 ≤ one.server)
    → IsAmong one (ready_among count c) ⊎ IsAmong one (candidate_of (count + 1) c) → 1 ≤ one.server
numbered_by c count one rest (inl first) = rest first
numbered_by c count one rest (inr last) =
    let is : one.server ≡ count + 1 = one_from (is_ready (link_of (count + 1) c)) (count + 1) (level_of (count + 1) c) one last in
    omega arith

numbered : (c : ClientState) (count : ℕ) (one : Candidate) → IsAmong one (ready_among count c) → 1 ≤ one.server
unfolding ready_among
numbered c zero one among = absurd among
numbered c (suc count) one among =
    numbered_by c count one (numbered c count one) (among_append one (ready_among count c) (candidate_of (count + 1) c) among)

pub number_test : (server : ℕ) (b : Bool) → (server == 0) ≡ b → 1 ≤ server
    → if◌then◌else◌ {A = Option ℕ} b None (Some server) ≡ Some server
number_test server true e own = absurd (grind (arith, nat_tests))
number_test server false e own = refl

pub server_number : (o : Option ℕ) → ((server : ℕ) → o ≡ Some server → 1 ≤ server) → server_of (number_of o) ≡ o
server_number None from = refl
server_number (Some server) from = number_test server (server == 0) refl (from server refl)

chosen_from : (c : ClientState) (active : Option ℕ) (server : ℕ) → choose (ready_of c) active ≡ Some server → 1 ≤ server
chosen_from c active server e =
    numbered c (length c.links) _ (best.chosen (ready_of c) active server e).listed

same_is : (a b : Option ℕ) → is_same a b ≡ true → a ≡ b
same_is None None e = refl
same_is None (Some y) e = absurd cc
same_is (Some x) None e = absurd cc
same_is (Some x) (Some y) e = ap (λ n. Some n) (grind (arith, nat_tests))

numbers_differ : (a b : Option ℕ) → is_same a b ≡ false → ((server : ℕ) → a ≡ Some server → 1 ≤ server)
    → ((server : ℕ) → b ≡ Some server → 1 ≤ server) → number_of a ≢ number_of b
numbers_differ None None e p q = absurd cc
numbers_differ None (Some y) e p q = λ same. let own : 1 ≤ y = q y refl in omega arith
numbers_differ (Some x) None e p q = λ same. let own : 1 ≤ x = p x refl in omega arith
numbers_differ (Some x) (Some y) e p q = λ same. grind (arith, nat_tests)

choice_by : (c : ClientState) (t : Told) (after : Option ℕ) (same : Bool) → after ≡ choose (ready_of c) c.core.active
    → is_same c.core.active after ≡ same → Shows c t
    → Follows t (switched (if◌then◌else◌ {A = Option (ℕ × ℕ)} same None (Some (number_of c.core.active, number_of after))) (with_choice (ready_of c) c))
unfolding told_after AreChoices
choice_by c t after true is e shows = record {
  shows = record {
    ready_count = shows.ready_count;
    levels_are = shows.levels_are;
    levels_count = shows.levels_count;
    ready = shows.ready;
    active = shows.active ∙ same_is c.core.active after e ∙ is;
    cursor = shows.cursor;
    numbered = chosen_from c c.core.active;
  };
  choices = tt;
}
choice_by c t after false is e shows = record {
  shows = record {
    ready_count = shows.ready_count;
    levels_are = shows.levels_are;
    levels_count = shows.levels_count;
    ready = shows.ready;
    active = ap (λ o. server_of (number_of o)) is
        ∙ server_number (choose (ready_of c) c.core.active) (chosen_from c c.core.active);
    cursor = shows.cursor;
    numbered = chosen_from c c.core.active;
  };
  choices = (
    (
      ap number_of shows.active,
      ap₂ (λ cs a. number_of (choose cs a)) (all_candidates c t shows) shows.active ∙ sym (ap number_of is),
      numbers_differ c.core.active after e shows.numbered (λ server f. chosen_from c c.core.active server (sym is ∙ f)),
    ),
    tt,
  );
}

chosen_follows : (c : ClientState) (t : Told) → Shows c t → Follows t (chosen (ready_of c) c)
unfolding chosen
chosen_follows c t shows =
    choice_by c t (choose (ready_of c) c.core.active) (is_same c.core.active (choose (ready_of c) c.core.active)) refl refl shows

-- ---- settling

mode_test : (b : Bool) (t : Told) (did : ClientDid) (c : ClientState) → Shows c t → Follows t did → Follows t (if b then did else nothing c)
mode_test true t did c shows follows = follows
mode_test false t did c shows follows = nothing_follows c t shows

mode_follows : EachFollows told_mode
unfolding told_mode
mode_follows server c t from to shows =
    mode_test (is_ready (link_of server c)) t (linked server (link.wants (wanted server c.core)) c) c shows
    (linked_follows server (link.wants (wanted server c.core) (link_of server c)) c t from to
    (wants_tracks (wanted server c.core) (link_of server c)) shows)

round_follows : (c : ClientState) (t : Told) → Shows c t → Follows t (round (ready_of c) c)
unfolding round
round_follows c t shows =
    let first = chosen_follows c t shows in
    follows_then t (chosen (ready_of c) c) (λ d. each_server told_mode (length d.links) d) first
    (each_follows told_mode (length (chosen (ready_of c) c).client.links) (chosen (ready_of c) c).client
    (told_after (chosen (ready_of c) c).acts t) (omega arith) first.shows mode_follows)

settled_test : (b : Bool) (t : Told) (did : ClientDid) (rule : ClientState → ClientDid) → Follows t did
    → Follows (told_after did.acts t) (rule did.client) → Follows t (if b then and_then rule did else did)
settled_test true t did rule first second = follows_then t did rule first second
settled_test false t did rule first second = first

settled_follows : (most : ℕ) (c : ClientState) (t : Told) → Shows c t → Follows t (settled_within most (ready_of c) c)
unfolding settled_within
settled_follows zero c t shows = nothing_follows c t shows
settled_follows (suc most) c t shows =
    let first = round_follows c t shows in
    settled_test (are_fewer (ready_of (round (ready_of c) c).client) (ready_of c)) t (round (ready_of c) c)
    (settled_within most (ready_of (round (ready_of c) c).client)) first
    (settled_follows most (round (ready_of c) c).client (told_after (round (ready_of c) c).acts t) first.shows)

-- ---- dialling

dials_test : (b : Bool) (server : ℕ) (l : LinkState) (c : ClientState) (t : Told) → 1 ≤ server
    → is_ready l ≡ is_ready (link_of server c) → Shows c t → Shows (if b then with_link server l c else c) t
dials_test false server l c t from as_ready shows = shows
dials_test true server l c t from as_ready shows =
    let count : length (slice_set c.links (server - 1) l) ≡ length c.links = length-set c.links (server - 1) l in record {
      ready_count = shows.ready_count ∙ sym count;
      levels_are = shows.levels_are;
      levels_count = shows.levels_count ∙ sym count;
      ready = λ other own within.
          linked_ready server l c (with_link server l c) other from (omega arith) own refl refl (same_or_not other server _ refl)
          (ready_at other t)
          (λ is. shows.ready other own (omega arith) ∙ ap (λ n. is_ready (link_of n c)) is ∙ sym as_ready)
          (λ differs. shows.ready other own (omega arith));
      active = shows.active;
      cursor = shows.cursor;
      numbered = shows.numbered;
    }

dials_at_shows : (server : ℕ) (c : ClientState) (t : Told) → 1 ≤ server → Shows c t → Shows (dials_at server c) t
dials_at_shows server c t from shows =
    dials_test (opening.may_dial (link_of server c)) server (opening.dials (link_of server c)) c t from
    (dials_unready (link_of server c)) shows

among_shows : (count : ℕ) (c : ClientState) (t : Told) → Shows c t → Shows (dials_among count c) t
unfolding dials_among
among_shows zero c t shows = shows
among_shows (suc count) c t shows =
    dials_at_shows (count + 1) (dials_among count c) t (omega arith) (among_shows count c t shows)

found_test : (b : Bool) (server : ℕ) (c : ClientState) (t : Told) (rest : Option ℕ) → 1 ≤ server → Shows c t
    → Shows (dials_if rest c) t → Shows (dials_if (if b then Some server else rest) c) t
found_test true server c t rest from shows next = dials_at_shows server c t from shows
found_test false server c t rest from shows next = next

first_shows : (count server : ℕ) (c : ClientState) (t : Told) → 1 ≤ server → Shows c t
    → Shows (dials_if (first_to_dial count server c) c) t
unfolding first_to_dial
first_shows zero server c t from shows = shows
first_shows (suc count) server c t from shows =
    found_test (opening.may_dial (link_of server c)) server c t (first_to_dial count (server_after server c) c) from shows
    (first_shows count (server_after server c) c t (after_first server _) shows)

one_test : (b : Bool) (c after : ClientState) (t : Told) → Shows c t → Shows after t → Shows (if b then after else c) t
one_test true c after t shows next = next
one_test false c after t shows next = shows

dialled_by_shows : (set : SetMode) (c : ClientState) (t : Told) → Shows c t → Shows (dialled_by set c) t
dialled_by_shows Direct c t shows = shows
dialled_by_shows Hot c t shows = among_shows (length c.links) c t shows
dialled_by_shows Warm c t shows = among_shows (length c.links) c t shows
dialled_by_shows Cold c t shows =
    one_test (are_idle (length c.links) c) c (dials_if (first_to_dial (length c.links) c.cursor c) c) t shows
    (first_shows (length c.links) c.cursor c t shows.cursor shows)

dialled_shows : (c : ClientState) (t : Told) → Shows c t → Shows (dialled c) t
unfolding dialled
dialled_shows c t shows =
    one_test (has_numbers c) c (dialled_by c.config.mode c) t shows (dialled_by_shows c.config.mode c t shows)

-- ---- events

server_test : (server count : ℕ) (p q : Bool) → nat_le 1 server ≡ p → nat_le server count ≡ q → (p && q) ≡ true
    → (1 ≤ server) × (server ≤ count)
server_test server count true true e f h = (grind (arith, nat_tests), grind (arith, nat_tests))
server_test server count true false e f h = absurd cc
server_test server count false q e f h = absurd cc

server_is : (server : ℕ) (c : ClientState) → is_server server c ≡ true → (1 ≤ server) × (server ≤ length c.links)
server_is server c h = server_test server (length c.links) _ _ refl refl h

counted_shows : (c : ClientState) (t : Told) → Shows c t → Shows (counted c) t
counted_shows c t shows = record {
  ready_count = shows.ready_count;
  levels_are = shows.levels_are;
  levels_count = shows.levels_count;
  ready = shows.ready;
  active = shows.active;
  cursor = shows.cursor;
  numbered = shows.numbered;
}

happening_follows : (h : Happening) (c : ClientState) (t : Told) → Shows c t → Follows t (happening h c)
unfolding told_after AreChoices
happening_follows h c t shows = record { shows = shows; choices = (tt, tt) }

happens_follows : (h : Happening) (c : ClientState) (t : Told) → is_known h c ≡ true → Shows c t → Follows t (happens h c)
happens_follows (Opens server) c t known shows =
    let is = server_is server c known in
    linked_follows server _ (counted c) t is.0 is.1 (opened_tracks _ (link_of server (counted c))) (counted_shows c t shows)
happens_follows (Refuses server) c t known shows =
    let is = server_is server c known in linked_follows server _ c t is.0 is.1 (refused_tracks (link_of server c)) shows
happens_follows (Hears server h) c t known shows =
    let is = server_is server c known in linked_follows server _ c t is.0 is.1 (heard_tracks h (link_of server c)) shows
happens_follows (Closes server) c t known shows =
    let is = server_is server c known in linked_follows server _ c t is.0 is.1 (closed_tracks (link_of server c)) shows
happens_follows (Ticks ms) c t known shows =
    each_follows (λ server. linked server (time.ticked ms)) (length c.links) c t (omega arith) shows
    (λ server d u from to told_d. linked_follows server _ d u from to (ticked_tracks ms (link_of server d)) told_d)

settled_all : (c : ClientState) (t : Told) → Shows c t → Follows t (settled c)
settled_all c t shows = settled_follows (length c.links + 1) c t shows

after_test : (b : Bool) (h : Happening) (c : ClientState) (t : Told) → is_known h c ≡ b → Shows c t
    → Follows t (if b then and_then settled (and_then (happens h) (happening h c)) else nothing c)
after_test false h c t e shows = nothing_follows c t shows
after_test true h c t e shows =
    let begun = happening_follows h c t shows in
    let first = follows_then t (happening h c) (happens h) begun
    (happens_follows h c (told_after (happening h c).acts t) e begun.shows) in
    let did : ClientDid = and_then (happens h) (happening h c) in
    follows_then t did settled first (settled_all did.client (told_after did.acts t) first.shows)

after_follows : (h : Happening) (c : ClientState) (t : Told) → Shows c t → Follows t (after h c)
unfolding after
after_follows h c t shows = after_test (is_known h c) h c t refl shows

ready_taken : (p : Phase) → is_ready_phase (link.taken_in p) ≡ is_ready_phase p
ready_taken (phase.Dialing taken) = refl
ready_taken other = refl

taken_ready : (b : Bool) (l : LinkState) → is_ready (if b then record l { closes = false } else record l { phase = link.taken_in l.phase }) ≡ is_ready l
taken_ready true l = refl
taken_ready false l = ready_taken l.phase

wish_test : (b : Bool) (server : ℕ) (c : ClientState) (t : Told) → is_server server c ≡ b → Shows c t
    → Shows (if b then with_link server (link.wish_taken (link_of server c)) c else c) t
wish_test false server c t is shows = shows
wish_test true server c t is shows =
    let within = server_is server c is in
    dials_test true server (link.wish_taken (link_of server c)) c t within.0 (taken_ready (link_of server c).closes (link_of server c)) shows

moment_follows : (m : Moment) (c : ClientState) (t : Told) → Shows c t → Follows t (at_moment m c)
moment_follows (Goes h) c t shows = after_follows h c t shows
moment_follows Ends c t shows = nothing_follows (dialled c) t (dialled_shows c t shows)
moment_follows (Takes server) c t shows = nothing_follows (without_wish server c) t (wish_test (is_server server c) server c t refl shows)

all_follow : (moments : List Moment) (c : ClientState) (t : Told) → Shows c t → Follows t (after_all moments c)
unfolding after_all
all_follow [] c t shows = nothing_follows c t shows
all_follow (m ∷ moments) c t shows =
    let first = moment_follows m c t shows in
    follows_then t (at_moment m c) (after_all moments) first
    (all_follow moments (at_moment m c).client (told_after (at_moment m c).acts t) first.shows)

-- ---- a life

start_ready : (config : ClientConfig) (server : ℕ) → 1 ≤ server → server ≤ servers_of config
    → ready_at server (nothing_told (servers_of config)) ≡ is_ready (link_of server (idle_client config))
start_ready config server from to =
    get_or-replicate (servers_of config) (server - 1) false false (omega arith)
    ∙ sym (ap is_ready (get_or-replicate (servers_of config) (server - 1) (new_link (link_config config)) (new_link (link_config config)) (omega arith)))

start_shows : (config : ClientConfig) → Shows (idle_client config) (nothing_told (servers_of config))
start_shows config =
    let links : length (replicate (servers_of config) (new_link (link_config config))) ≡ servers_of config = length-replicate (servers_of config) _ in record {
      ready_count = length-replicate (servers_of config) false ∙ sym links;
      levels_are = refl;
      levels_count = length-replicate (servers_of config) 0 ∙ sym links;
      ready = λ server from to. start_ready config server from (omega arith);
      active = refl;
      cursor = omega arith;
      numbered = λ server is. absurd cc;
    }

-- all switches of a life are choices
pub are_choices : (config : ClientConfig) (moments : List Moment)
    → AreChoices (acts_of config moments) (nothing_told (servers_of config))
are_choices config moments =
    (all_follow moments (new_client config) (nothing_told (servers_of config))
    (dialled_shows (idle_client config) (nothing_told (servers_of config)) (start_shows config))).choices

choice_at : (front back : List ClientAct) (from to : ℕ) (t : Told) → AreChoices (front ++ Switches from to ∷ back) t
    → IsChoice (Switches from to) (told_after front t)
unfolding told_after AreChoices
choice_at [] back from to t choices = choices.0
choice_at (act ∷ front) back from to t choices = choice_at front back from to (told_by act t) choices.1

server_by : (o : Option ℕ) (to : ℕ) → number_of o ≡ to → 1 ≤ to → o ≡ Some to
server_by None to e own = absurd (omega arith)
server_by (Some server) to e own = ap (λ n. Some n) e

-- a switch to a server goes to the best one
pub are_best : (config : ClientConfig) (moments : List Moment) (front back : List ClientAct) (from to : ℕ)
    → acts_of config moments ≡ front ++ Switches from to ∷ back → 1 ≤ to
    → IsBest (candidates_of (told_after front (nothing_told (servers_of config))))
    (told_after front (nothing_told (servers_of config))).active to
are_best config moments front back from to is own =
    let now : Told = told_after front (nothing_told (servers_of config)) in
    let choice = choice_at front back from to (nothing_told (servers_of config))
    (subst (λ acts. AreChoices acts (nothing_told (servers_of config))) is (are_choices config moments)) in
    best.chosen (candidates_of now) now.active to (server_by (choose (candidates_of now) now.active) to choice.1 own)
