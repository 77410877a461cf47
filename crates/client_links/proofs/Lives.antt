-- Each rule of a client does to its link to a server what happenings of that link alone do.
use Rattle.std.proofs.Common.{◌≡◌, ◌≢◌, ◌⊎◌, inl, inr, ℕ, zero, suc, ◌+◌, ◌-◌, ◌==◌, ◌≤◌, ◌&&◌, List, [], ◌∷◌, ◌++◌, map, length, Bool, true, false, nat_le, Option, Some, None, if◌then◌else◌, slice_index_or, refl, sym, ◌∙◌, ap, ap₂, subst, arith}
use Rattle.std.proofs.lemmas.Bool.Decides.{nat_tests}
use Rattle.std.proofs.lemmas.Grind.{get_or-set_at}
use Rattle.std.proofs.lemmas.List.{append-nil, length-set, length-replicate, get_or-set_other, get_or-replicate}
use Rattle.ua_base.specs.declared.modes.Mode.TheVariants.{Disabled, Sampling, Reporting}
use Rattle.ua_base.specs.declared.modes.SetMode.{SetMode}
use Rattle.ua_base.specs.declared.modes.SetMode.TheVariants.{Direct, Hot, Warm, Cold}
use Rattle.failover_core.specs.declared.choice.Candidate.{Candidate}
use Rattle.failover_core.specs.Choice.{is_active, resting, switch_of, wanted}
use Rattle.link_rules.specs.declared.notice.Notice.{Notice}
use Rattle.link_rules.specs.declared.notice.Notice.TheVariants as notice
use Rattle.link_rules.specs.Said.{LinkDid}
use Rattle.link_rules.specs.State.{LinkState, is_ready, new_link}
use Rattle.link_rules.specs.Opening as opening
use Rattle.link_rules.specs.Step as alone
use Rattle.link_laws.specs.Asked.{IsNoWish, NeverWants}
use Rattle.link_laws.specs.Counted.{tick_at, ticks_in}
use Rattle.client_rules.specs.declared.config.ClientConfig.{ClientConfig}
use Rattle.client_rules.specs.State.{ClientState, idle_client, is_server, link_config, link_of, servers_of, with_link}
use Rattle.client_rules.specs.Acts.{ClientAct, Happening, Happened, Opens, Refuses, Hears, Closes, Ticks}
use Rattle.client_rules.specs.Doing.{ClientDid, and_then, each_server, nothing}
use Rattle.client_rules.specs.Links.{all_told, fell, falls, linked_by, moved, told}
use Rattle.client_rules.specs.Settling.{are_fewer, chosen, modes_told, ready_of, round, settled, settled_within, switched, told_mode, with_choice}
use Rattle.client_rules.specs.Dialling.{are_idle, dialled, dialled_by, dials_among, dials_at, dials_if, first_to_dial, has_numbers}
use Rattle.client_rules.specs.Step.{Moment, Goes, Ends, Takes, after, after_all, at_moment, counted, endpoint, happening, happens, is_known, new_client, without_wish}
use Rattle.client_laws.specs.Life.{acts_of, client_after}
use Rattle.client_links.specs.Awaited.{AllAwaited, AreAwaited, IsAwaited, IsAwaitedAt}
use Rattle.client_links.specs.Links.{IsHotOrCold, IsLinkLife, Opened, Passing, Put, Took, begun_by, passed_by, passed_in, tick_by, tick_of, ticks_at, told_of}
use Rattle.client_links.proofs.Lists.{awaited_append, link_append, never_append, notices_append, passed_append, passed_by_append, passed_other, passed_own, ticks_append, told_append, told_other, told_own}

-- a client became another one by these acts, and its link to a server by happenings of a link alone: they are awaited if this
-- is given, and time passes in so many of them at most
pub record LivesIf (server : ℕ) (c next : ClientState) (acts : List ClientAct) (given : Type 0) (most : ℕ) : Type 0 where
  pub happenings : List alone.Happening
  pub link : link_of server next ≡ (alone.after_all happenings (link_of server c)).link
  pub told : told_of server acts ≡ (alone.after_all happenings (link_of server c)).notices
  pub passed : passed_in server acts ≡ passed_by happenings (link_of server c)
  pub ordinary : IsHotOrCold c.core.mode → NeverWants Disabled happenings
  pub awaited : given → AllAwaited happenings (link_of server c)
  pub ticks : ticks_in happenings ≤ most
  pub count : length next.links ≡ length c.links
  pub mode : next.core.mode ≡ c.core.mode

-- nothing comes of the server, and no time passes
abbrev pub Lives : ℕ → ClientState → ClientState → List ClientAct → Type 0
Lives server c next acts = LivesIf server c next acts (Unit {0}) 0

-- ---- one rule after another

-- with what is given for both, and the ticks of both
lives_both : (server : ℕ) (c one next : ClientState) (acts more : List ClientAct) (given wanted : Type 0) (most least : ℕ)
    → LivesIf server c one acts given most → LivesIf server one next more wanted least
    → LivesIf server c next (acts ++ more) (given × wanted) (most + least)
lives_both server c one next acts more given wanted most least first second =
    let l : LinkState = link_of server c in
    let early : ticks_in first.happenings ≤ most = first.ticks in
    let late : ticks_in second.happenings ≤ least = second.ticks in
    let sum : ticks_in (first.happenings ++ second.happenings) ≡ ticks_in first.happenings + ticks_in second.happenings =
    ticks_append first.happenings second.happenings in record {
      happenings = first.happenings ++ second.happenings;
      link = second.link ∙ ap (λ (m : LinkState). (alone.after_all second.happenings m).link) first.link
          ∙ sym (link_append first.happenings second.happenings l);
      told = told_append server acts more
          ∙ ap₂ (λ (a b : List Notice). a ++ b) first.told
          (second.told ∙ ap (λ (m : LinkState). (alone.after_all second.happenings m).notices) first.link)
          ∙ sym (notices_append first.happenings second.happenings l);
      passed = passed_append server acts more
          ∙ ap₂ (λ (a b : List Passing). a ++ b) first.passed (second.passed ∙ ap (passed_by second.happenings) first.link)
          ∙ sym (passed_by_append first.happenings second.happenings l);
      ordinary = λ is. never_append Disabled first.happenings second.happenings (first.ordinary is)
          (second.ordinary (subst IsHotOrCold (sym first.mode) is));
      awaited = λ g. awaited_append first.happenings second.happenings l (first.awaited g.0)
          (subst (AllAwaited second.happenings) first.link (second.awaited g.1));
      ticks = omega (arith, sum, early, late);
      count = second.count ∙ first.count;
      mode = second.mode ∙ first.mode;
    }

-- where more is given, and there may be more ticks
lives_more : (server : ℕ) (c next : ClientState) (acts : List ClientAct) (given more : Type 0) (least most : ℕ)
    → (more → given) → least ≤ most → LivesIf server c next acts given least → LivesIf server c next acts more most
lives_more server c next acts given more least most gives within lives =
    let few : ticks_in lives.happenings ≤ least = lives.ticks in record {
      happenings = lives.happenings;
      link = lives.link;
      told = lives.told;
      passed = lives.passed;
      ordinary = lives.ordinary;
      awaited = λ g. lives.awaited (gives g);
      ticks = omega (arith, few, within);
      count = lives.count;
      mode = lives.mode;
    }

-- what needs nothing and has no ticks follows
lives_behind : (server : ℕ) (c one next : ClientState) (acts more : List ClientAct) (given : Type 0) (most : ℕ)
    → LivesIf server c one acts given most → Lives server one next more → LivesIf server c next (acts ++ more) given most
lives_behind server c one next acts more given most first second =
    lives_more server c next (acts ++ more) (given × Unit {0}) given (most + 0) most (λ g. (g, tt)) (omega arith)
    (lives_both server c one next acts more given (Unit {0}) most 0 first second)

lives_then : (server : ℕ) (c one next : ClientState) (acts more : List ClientAct) → Lives server c one acts
    → Lives server one next more → Lives server c next (acts ++ more)
lives_then server c one next acts more first second =
    lives_behind server c one next acts more (Unit {0}) 0 first second

-- nothing happens to the link
beside_if : (given : Type 0) (most server : ℕ) (c next : ClientState) (acts : List ClientAct)
    → link_of server next ≡ link_of server c → told_of server acts ≡ [] → passed_in server acts ≡ []
    → length next.links ≡ length c.links → next.core.mode ≡ c.core.mode → LivesIf server c next acts given most
beside_if given most server c next acts link told passed count mode = record {
  happenings = [];
  link = link;
  told = told;
  passed = passed;
  ordinary = λ is. tt;
  awaited = λ g. tt;
  ticks = omega arith;
  count = count;
  mode = mode;
}

lives_beside : (server : ℕ) (c next : ClientState) (acts : List ClientAct) → link_of server next ≡ link_of server c
    → told_of server acts ≡ [] → passed_in server acts ≡ [] → length next.links ≡ length c.links
    → next.core.mode ≡ c.core.mode → Lives server c next acts
lives_beside server c next acts link told passed count mode =
    beside_if (Unit {0}) 0 server c next acts link told passed count mode

nothing_if : (given : Type 0) (most server : ℕ) (c : ClientState) → LivesIf server c c [] given most
nothing_if given most server c = beside_if given most server c c [] refl refl refl refl refl

lives_nothing : (server : ℕ) (c : ClientState) → Lives server c c []
lives_nothing server c = nothing_if (Unit {0}) 0 server c

lives_if : (server : ℕ) (b : Bool) (c : ClientState) (did : ClientDid) → Lives server c did.client did.acts
    → Lives server c (if b then did else nothing c).client (if b then did else nothing c).acts
lives_if server true c did lives = lives
lives_if server false c did lives = lives_nothing server c

-- ---- links

-- the same links
pub record IsAlike (c next : ClientState) : Type 0 where
  pub config : next.config ≡ c.config
  pub links : next.links ≡ c.links
  pub mode : next.core.mode ≡ c.core.mode

alike_then : (c one next : ClientState) → IsAlike c one → IsAlike one next → IsAlike c next
alike_then c one next first second = record {
  config = second.config ∙ first.config;
  links = second.links ∙ first.links;
  mode = second.mode ∙ first.mode;
}

link_alike : (server : ℕ) (c next : ClientState) → IsAlike c next → link_of server next ≡ link_of server c
link_alike server c next same =
    ap (λ (l : List LinkState). slice_index_or l (server - 1) (new_link (link_config next.config))) same.links
    ∙ ap (λ (k : ClientConfig). slice_index_or c.links (server - 1) (new_link (link_config k))) same.config

told_alike : (server : ℕ) (n : Notice) (c : ClientState) → IsAlike c (told server n c)
unfolding told
told_alike server (notice.Level level) c = record { config = refl; links = refl; mode = refl }
told_alike server notice.Ready c = record { config = refl; links = refl; mode = refl }
told_alike server notice.Lost c = record { config = refl; links = refl; mode = refl }
told_alike server notice.Unsupported c = record { config = refl; links = refl; mode = refl }
told_alike server (notice.Stream item) c = record { config = refl; links = refl; mode = refl }
told_alike server notice.Jump c = record { config = refl; links = refl; mode = refl }
told_alike server (notice.Taken item value) c = record { config = refl; links = refl; mode = refl }
told_alike server (notice.Sent mode) c = record { config = refl; links = refl; mode = refl }
told_alike server (notice.Confirmed mode) c = record { config = refl; links = refl; mode = refl }

all_told_alike : (server : ℕ) (notices : List Notice) (c : ClientState) → IsAlike c (all_told server notices c)
unfolding all_told
all_told_alike server [] c = record { config = refl; links = refl; mode = refl }
all_told_alike server (n ∷ notices) c =
    alike_then c (told server n c) (all_told server notices (told server n c)) (told_alike server n c)
    (all_told_alike server notices (told server n c))

fell_alike : (server : ℕ) (b : Bool) (c : ClientState) → IsAlike c (fell server b c)
fell_alike server true c = record { config = refl; links = refl; mode = refl }
fell_alike server false c = record { config = refl; links = refl; mode = refl }

pub linked_alike : (s : ℕ) (did : LinkDid) (c : ClientState) → IsAlike (with_link s did.link c) (linked_by s did c).client
unfolding linked_by
linked_alike s did c =
    alike_then (with_link s did.link c) (moved s did.link c) (all_told s did.notices (moved s did.link c))
    (fell_alike s (falls (link_of s c) did.link) (with_link s did.link c))
    (all_told_alike s did.notices (moved s did.link c))

-- another link at the place of a server
set_here : (s server : ℕ) (l : LinkState) (c : ClientState) → s - 1 ≡ server - 1 → 1 ≤ server → server ≤ length c.links
    → link_of server (with_link s l c) ≡ l
set_here s server l c same from to =
    get_or-set_at c.links (s - 1) (server - 1) l (new_link (link_config c.config)) (sym same) (omega arith)

set_beside : (s server : ℕ) (l : LinkState) (c : ClientState) → s - 1 ≢ server - 1
    → link_of server (with_link s l c) ≡ link_of server c
set_beside s server l c apart =
    get_or-set_other c.links (s - 1) (server - 1) l (new_link (link_config c.config)) (λ e. apart (sym e))

same_or_not : (a b : ℕ) (t : Bool) → (a == b) ≡ t → (a ≡ b) ⊎ (a ≢ b)
same_or_not a b true e = inl (grind (arith, nat_tests))
same_or_not a b false e = inr (grind (arith, nat_tests))

-- ---- a link does something

-- it happens to the server's own link, behind acts that say so
linked_own : (server : ℕ) (h : alone.Happening) (front : List ClientAct) (c : ClientState) (given : Type 0) (most : ℕ)
    → 1 ≤ server → server ≤ length c.links → (server == server) ≡ true → told_of server front ≡ []
    → passed_in server front ≡ begun_by h → (IsHotOrCold c.core.mode → IsNoWish Disabled h)
    → (given → IsAwaited h (link_of server c)) → tick_at h ≤ most
    → LivesIf server c (linked_by server (alone.after h (link_of server c)) c).client
    (front ++ (linked_by server (alone.after h (link_of server c)) c).acts) given most
unfolding linked_by
linked_own server h front c given most from to own quiet begun wish awaits tick =
    let did : LinkDid = alone.after h (link_of server c) in
    let same : IsAlike (with_link server did.link c) (linked_by server did c).client = linked_alike server did c in
    let acts : List ClientAct = (linked_by server did c).acts in record {
      happenings = h ∷ [];
      link = link_alike server (with_link server did.link c) (linked_by server did c).client same
          ∙ set_here server server did.link c refl from to;
      told = told_append server front acts
          ∙ ap₂ (λ (a b : List Notice). a ++ b) quiet (told_own server server did.notices did.said own)
          ∙ sym (append-nil did.notices);
      passed = passed_append server front acts
          ∙ ap₂ (λ (a b : List Passing). a ++ b) begun (passed_own server server did.notices did.said own)
          ∙ sym (append-nil (begun_by h ++ map Put did.said));
      ordinary = λ is. (wish is, tt);
      awaited = λ g. (awaits g, tt);
      ticks = omega (arith, tick);
      count = ap length same.links ∙ length-set c.links (server - 1) did.link;
      mode = same.mode;
    }

-- what another link does is nothing to it
linked_other : (given : Type 0) (most s server : ℕ) (did : LinkDid) (front : List ClientAct) (c : ClientState)
    → (s == server) ≡ false → s - 1 ≢ server - 1 → told_of server front ≡ [] → passed_in server front ≡ []
    → LivesIf server c (linked_by s did c).client (front ++ (linked_by s did c).acts) given most
unfolding linked_by
linked_other given most s server did front c test apart quiet begun =
    let same : IsAlike (with_link s did.link c) (linked_by s did c).client = linked_alike s did c in
    let acts : List ClientAct = (linked_by s did c).acts in
    beside_if given most server c (linked_by s did c).client (front ++ acts)
    (link_alike server (with_link s did.link c) (linked_by s did c).client same ∙ set_beside s server did.link c apart)
    (told_append server front acts
    ∙ ap₂ (λ (a b : List Notice). a ++ b) quiet (told_other s server did.notices did.said test))
    (passed_append server front acts
    ∙ ap₂ (λ (a b : List Passing). a ++ b) begun (passed_other s server did.notices did.said test))
    (ap length same.links ∙ length-set c.links (s - 1) did.link) same.mode

-- of any server, whose number is 1 or more
linked_test : (s server : ℕ) (h : alone.Happening) (front : List ClientAct) (c : ClientState) (given : Type 0) (most : ℕ)
    (t : Bool) → (s == server) ≡ t → 1 ≤ s → 1 ≤ server → server ≤ length c.links → told_of server front ≡ []
    → ((s == server) ≡ true → passed_in server front ≡ begun_by h) → ((s == server) ≡ false → passed_in server front ≡ [])
    → (IsHotOrCold c.core.mode → IsNoWish Disabled h) → (given → s ≡ server → IsAwaited h (link_of server c))
    → (s ≡ server → tick_at h ≤ most)
    → LivesIf server c (linked_by s (alone.after h (link_of s c)) c).client
    (front ++ (linked_by s (alone.after h (link_of s c)) c).acts) given most
linked_test s server h front c given most true e known from to quiet begun beside wish awaited tick =
    let is : s ≡ server = grind (arith, nat_tests) in
    let own : (server == server) ≡ true = subst (λ k. (k == server) ≡ true) is e in
    subst (λ k. LivesIf server c (linked_by k (alone.after h (link_of k c)) c).client
    (front ++ (linked_by k (alone.after h (link_of k c)) c).acts) given most) (sym is)
    (linked_own server h front c given most from to own quiet (begun e) wish (λ g. awaited g is) (tick is))
linked_test s server h front c given most false e known from to quiet begun beside wish awaited tick =
    let differ : s ≢ server = grind (arith, nat_tests) in
    linked_other given most s server (alone.after h (link_of s c)) front c e (λ same. differ (omega arith)) quiet (beside e)

-- with no act before, where nothing of it passes but what it says, and it needn't be awaited
linked_lives : (s server : ℕ) (h : alone.Happening) (c : ClientState) (most : ℕ) → 1 ≤ s → 1 ≤ server
    → server ≤ length c.links → begun_by h ≡ [] → (IsHotOrCold c.core.mode → IsNoWish Disabled h)
    → IsAwaited h (link_of server c) → (s ≡ server → tick_at h ≤ most)
    → LivesIf server c (linked_by s (alone.after h (link_of s c)) c).client
    (linked_by s (alone.after h (link_of s c)) c).acts (Unit {0}) most
linked_lives s server h c most known from to silent wish awaited tick =
    linked_test s server h [] c (Unit {0}) most (s == server) refl known from to refl (λ e. sym silent) (λ e. refl) wish
    (λ g is. awaited) tick

-- ---- all servers

-- a tick at this server
abbrev tick_here : Bool → ℕ
tick_here true = 1
tick_here false = 0

-- at those servers up to this number
abbrev ticks_up : ℕ → ℕ → ℕ
ticks_up server zero = 0
ticks_up server (suc count) = ticks_up server count + tick_here (count + 1 == server)

none_up : (server count : ℕ) → count + 1 ≤ server → ticks_up server count ≡ 0
none_up server zero below = refl
none_up server (suc count) below =
    let before : ticks_up server count ≡ 0 = none_up server count (omega arith) in
    none_here server count (count + 1 == server) refl below before
  where
    none_here : (server count : ℕ) (b : Bool) → (count + 1 == server) ≡ b → suc count + 1 ≤ server
        → ticks_up server count ≡ 0 → ticks_up server count + tick_here b ≡ 0
    none_here server count true e below before = absurd (grind (arith, nat_tests))
    none_here server count false e below before = omega (arith, before)

one_up : (server count : ℕ) → ticks_up server count ≤ 1
one_up server zero = omega arith
one_up server (suc count) = one_here server count (count + 1 == server) refl (one_up server count)
  where
    one_here : (server count : ℕ) (b : Bool) → (count + 1 == server) ≡ b → ticks_up server count ≤ 1
        → ticks_up server count + tick_here b ≤ 1
    one_here server count false e before = omega (arith, before)
    one_here server count true e before =
        let is : count + 1 ≡ server = grind (arith, nat_tests) in
        let none : ticks_up server count ≡ 0 = none_up server count (omega arith) in
        omega (arith, none)

each_ticks : (rule : ℕ → ClientState → ClientDid) (count server : ℕ) (c : ClientState) → server ≤ length c.links
    → ((s : ℕ) (d : ClientState) → 1 ≤ s → server ≤ length d.links
    → LivesIf server d (rule s d).client (rule s d).acts (Unit {0}) (tick_here (s == server)))
    → LivesIf server c (each_server rule count c).client (each_server rule count c).acts (Unit {0}) (ticks_up server count)
unfolding each_server
each_ticks rule zero server c to each = lives_nothing server c
each_ticks rule (suc count) server c to each =
    let did : ClientDid = each_server rule count c in
    let first : LivesIf server c did.client did.acts (Unit {0}) (ticks_up server count) = each_ticks rule count server c to each in
    let same : length did.client.links ≡ length c.links = first.count in
    lives_more server c (rule (count + 1) did.client).client (did.acts ++ (rule (count + 1) did.client).acts)
    (Unit {0} × Unit {0}) (Unit {0}) (ticks_up server count + tick_here (count + 1 == server))
    (ticks_up server count + tick_here (count + 1 == server)) (λ g. (tt, tt)) (omega arith)
    (lives_both server c did.client (rule (count + 1) did.client).client did.acts (rule (count + 1) did.client).acts
    (Unit {0}) (Unit {0}) (ticks_up server count) (tick_here (count + 1 == server)) first
    (each (count + 1) did.client (omega arith) (omega arith)))

each_lives : (rule : ℕ → ClientState → ClientDid) (count server : ℕ) (c : ClientState) → server ≤ length c.links
    → ((s : ℕ) (d : ClientState) → 1 ≤ s → server ≤ length d.links → Lives server d (rule s d).client (rule s d).acts)
    → Lives server c (each_server rule count c).client (each_server rule count c).acts
unfolding each_server
each_lives rule zero server c to each = lives_nothing server c
each_lives rule (suc count) server c to each =
    let did : ClientDid = each_server rule count c in
    let first : Lives server c did.client did.acts = each_lives rule count server c to each in
    let same : length did.client.links ≡ length c.links = first.count in
    lives_then server c did.client (rule (count + 1) did.client).client did.acts (rule (count + 1) did.client).acts first
    (each (count + 1) did.client (omega arith) (omega arith))

-- ---- settling

switched_lives : (o : Option (ℕ × ℕ)) (ready : List Candidate) (server : ℕ) (c : ClientState)
    → Lives server c (switched o (with_choice ready c)).client (switched o (with_choice ready c)).acts
switched_lives None ready server c =
    lives_beside server c (switched None (with_choice ready c)).client [] refl refl refl refl refl
switched_lives (Some both) ready server c =
    lives_beside server c (switched (Some both) (with_choice ready c)).client (switched (Some both) (with_choice ready c)).acts
    refl refl refl refl refl

chosen_lives : (ready : List Candidate) (server : ℕ) (c : ClientState)
    → Lives server c (chosen ready c).client (chosen ready c).acts
unfolding chosen
chosen_lives ready server c = switched_lives (switch_of ready c.core) ready server c

-- a hot or a cold backup's items aren't off
resting_ordinary : (set : SetMode) → IsHotOrCold set → resting set ≢ Disabled
resting_ordinary set (inl is) e = let never : Sampling ≡ Disabled = sym (ap resting is) ∙ e in absurd cc
resting_ordinary set (inr is) e = let never : Reporting ≡ Disabled = sym (ap resting is) ∙ e in absurd cc

wanted_test : (active : Bool) (set : SetMode) → IsHotOrCold set → (if active then Reporting else resting set) ≢ Disabled
wanted_test true set is e = absurd cc
wanted_test false set is e = resting_ordinary set is e

mode_lives : (s server : ℕ) (c : ClientState) → 1 ≤ s → 1 ≤ server → server ≤ length c.links
    → Lives server c (told_mode s c).client (told_mode s c).acts
unfolding told_mode
mode_lives s server c known from to =
    let h : alone.Happening = alone.Wants (wanted s c.core) in
    lives_if server (is_ready (link_of s c)) c (linked_by s (alone.after h (link_of s c)) c)
    (linked_lives s server h c 0 known from to refl (wanted_test (is_active c.core.active s) c.core.mode) tt
    (λ is. omega arith))

modes_live : (server : ℕ) (c : ClientState) → 1 ≤ server → server ≤ length c.links
    → Lives server c (modes_told c).client (modes_told c).acts
modes_live server c from to =
    each_lives told_mode (length c.links) server c to (λ s d known within. mode_lives s server d known from within)

round_lives : (ready : List Candidate) (server : ℕ) (c : ClientState) → 1 ≤ server → server ≤ length c.links
    → Lives server c (round ready c).client (round ready c).acts
unfolding round
round_lives ready server c from to =
    let did : ClientDid = chosen ready c in
    let first : Lives server c did.client did.acts = chosen_lives ready server c in
    let same : length did.client.links ≡ length c.links = first.count in
    lives_then server c did.client (modes_told did.client).client did.acts (modes_told did.client).acts first
    (modes_live server did.client from (omega arith))

settled_test : (b : Bool) (server : ℕ) (c : ClientState) (did : ClientDid) (rule : ClientState → ClientDid)
    → Lives server c did.client did.acts → Lives server did.client (rule did.client).client (rule did.client).acts
    → Lives server c (if b then and_then rule did else did).client (if b then and_then rule did else did).acts
settled_test true server c did rule first second =
    lives_then server c did.client (rule did.client).client did.acts (rule did.client).acts first second
settled_test false server c did rule first second = first

settled_lives : (most : ℕ) (ready : List Candidate) (server : ℕ) (c : ClientState) → 1 ≤ server → server ≤ length c.links
    → Lives server c (settled_within most ready c).client (settled_within most ready c).acts
unfolding settled_within
settled_lives zero ready server c from to = lives_nothing server c
settled_lives (suc most) ready server c from to =
    let did : ClientDid = round ready c in
    let first : Lives server c did.client did.acts = round_lives ready server c from to in
    let same : length did.client.links ≡ length c.links = first.count in
    settled_test (are_fewer (ready_of did.client) ready) server c did (settled_within most (ready_of did.client)) first
    (settled_lives most (ready_of did.client) server did.client from (omega arith))

-- ---- a link that dials, or whose wish is taken

-- it tells and says nothing
silent_test : (s server : ℕ) (h : alone.Happening) (c : ClientState) → (s - 1 ≡ server - 1) ⊎ (s - 1 ≢ server - 1)
    → 1 ≤ server → server ≤ length c.links → begun_by h ++ map Put (alone.after h (link_of server c)).said ≡ []
    → (alone.after h (link_of server c)).notices ≡ [] → IsNoWish Disabled h → IsAwaited h (link_of server c)
    → tick_at h ≡ 0 → Lives server c (with_link s (alone.after h (link_of s c)).link c) []
silent_test s server h c (inl same) from to unsaid untold wish awaited untimed = record {
  happenings = h ∷ [];
  link = set_here s server (alone.after h (link_of s c)).link c same from to
      ∙ ap (λ n. (alone.after h (slice_index_or c.links n (new_link (link_config c.config)))).link) same;
  told = sym (append-nil (alone.after h (link_of server c)).notices ∙ untold);
  passed = sym (append-nil (begun_by h ++ map Put (alone.after h (link_of server c)).said) ∙ unsaid);
  ordinary = λ is. (wish, tt);
  awaited = λ g. (awaited, tt);
  ticks = omega (arith, untimed);
  count = length-set c.links (s - 1) (alone.after h (link_of s c)).link;
  mode = refl;
}
silent_test s server h c (inr apart) from to unsaid untold wish awaited untimed =
    lives_beside server c (with_link s (alone.after h (link_of s c)).link c) []
    (set_beside s server (alone.after h (link_of s c)).link c apart) refl refl
    (length-set c.links (s - 1) (alone.after h (link_of s c)).link) refl

silent_if : (b : Bool) (server : ℕ) (c next : ClientState) → Lives server c next [] → Lives server c (if b then next else c) []
silent_if true server c next lives = lives
silent_if false server c next lives = lives_nothing server c

silent_then : (server : ℕ) (c one next : ClientState) → Lives server c one [] → Lives server one next [] → Lives server c next []
silent_then server c one next first second = lives_then server c one next [] [] first second

dials_live : (s server : ℕ) (c : ClientState) → 1 ≤ server → server ≤ length c.links → Lives server c (dials_at s c) []
dials_live s server c from to =
    silent_if (opening.may_dial (link_of s c)) server c (with_link s (opening.dials (link_of s c)) c)
    (silent_test s server alone.Dials c (same_or_not (s - 1) (server - 1) _ refl) from to refl refl tt tt refl)

among_live : (count server : ℕ) (c : ClientState) → 1 ≤ server → server ≤ length c.links
    → Lives server c (dials_among count c) []
unfolding dials_among
among_live zero server c from to = lives_nothing server c
among_live (suc count) server c from to =
    let one : ClientState = dials_among count c in
    let first : Lives server c one [] = among_live count server c from to in
    let same : length one.links ≡ length c.links = first.count in
    silent_then server c one (dials_at (count + 1) one) first (dials_live (count + 1) server one from (omega arith))

one_lives : (o : Option ℕ) (server : ℕ) (c : ClientState) → 1 ≤ server → server ≤ length c.links
    → Lives server c (dials_if o c) []
one_lives None server c from to = lives_nothing server c
one_lives (Some s) server c from to = dials_live s server c from to

dialled_by_lives : (set : SetMode) (server : ℕ) (c : ClientState) → 1 ≤ server → server ≤ length c.links
    → Lives server c (dialled_by set c) []
dialled_by_lives Direct server c from to = lives_nothing server c
dialled_by_lives Hot server c from to = among_live (length c.links) server c from to
dialled_by_lives Warm server c from to = among_live (length c.links) server c from to
dialled_by_lives Cold server c from to =
    silent_if (are_idle (length c.links) c) server c (dials_if (first_to_dial (length c.links) c.cursor c) c)
    (one_lives (first_to_dial (length c.links) c.cursor c) server c from to)

dialled_lives : (server : ℕ) (c : ClientState) → 1 ≤ server → server ≤ length c.links → Lives server c (dialled c) []
unfolding dialled
dialled_lives server c from to =
    silent_if (has_numbers c) server c (dialled_by c.config.mode c) (dialled_by_lives c.config.mode server c from to)

wish_lives : (s server : ℕ) (c : ClientState) → 1 ≤ server → server ≤ length c.links → Lives server c (without_wish s c) []
wish_lives s server c from to =
    silent_if (is_server s c) server c (with_link s (alone.wish_taken (link_of s c)) c)
    (silent_test s server alone.Takes c (same_or_not (s - 1) (server - 1) _ refl) from to refl refl tt tt refl)

-- ---- events

tick_own : (s server ms : ℕ) → s ≡ server → (b : Bool) → (s == server) ≡ b → tick_at (alone.Ticks ms) ≤ tick_here b
tick_own s server ms is true e = tick_one ms (ms == 0)
  where
    tick_one : (ms : ℕ) (b : Bool) → (if b then 0 else 1) ≤ 1
    tick_one ms true = omega arith
    tick_one ms false = omega arith
tick_own s server ms is false e = absurd (grind (arith, nat_tests))

server_test : (s count : ℕ) (p q : Bool) → nat_le 1 s ≡ p → nat_le s count ≡ q → (p && q) ≡ true → 1 ≤ s
server_test s count true true e f h = grind (arith, nat_tests)
server_test s count true false e f h = absurd cc
server_test s count false q e f h = absurd cc

pub server_is : (s : ℕ) (c : ClientState) → is_server s c ≡ true → 1 ≤ s
server_is s c h = server_test s (length c.links) _ _ refl refl h

-- it happens, and a link does what follows
happens_live : (h : Happening) (server : ℕ) (c : ClientState) → is_known h c ≡ true → 1 ≤ server → server ≤ length c.links
    → LivesIf server c (and_then (happens h) (happening h c)).client (and_then (happens h) (happening h c)).acts
    (IsAwaitedAt server (Goes h) c) (tick_by h)
happens_live (Opens s) server c known from to =
    let lives = linked_test s server (alone.Opens (Some (endpoint s (counted c)))) (Happened (Opens s) ∷ []) (counted c)
    (IsAwaitedAt server (Goes (Opens s)) c) 0 (s == server) refl (server_is s c known) from to refl
    (λ e. ap (λ b. (if b then Opened ∷ [] else []) ++ []) e) (λ e. ap (λ b. (if b then Opened ∷ [] else []) ++ []) e)
    (λ is. tt) (λ g is. g is) (λ is. omega arith) in record {
      happenings = lives.happenings;
      link = lives.link;
      told = lives.told;
      passed = lives.passed;
      ordinary = lives.ordinary;
      count = lives.count;
      mode = lives.mode;
      awaited = lives.awaited;
      ticks = lives.ticks;
    }
happens_live (Refuses s) server c known from to =
    linked_test s server alone.Refuses (Happened (Refuses s) ∷ []) c (Unit {0}) 0 (s == server) refl (server_is s c known)
    from to refl (λ e. refl) (λ e. refl) (λ is. tt) (λ g is. tt) (λ is. omega arith)
happens_live (Hears s h) server c known from to =
    linked_test s server (alone.Hears h) (Happened (Hears s h) ∷ []) c (IsAwaitedAt server (Goes (Hears s h)) c) 0
    (s == server) refl (server_is s c known) from to refl
    (λ e. ap (λ b. (if b then Took h ∷ [] else []) ++ []) e) (λ e. ap (λ b. (if b then Took h ∷ [] else []) ++ []) e)
    (λ is. tt) (λ g is. g is) (λ is. omega arith)
happens_live (Closes s) server c known from to =
    linked_test s server alone.Closes (Happened (Closes s) ∷ []) c (Unit {0}) 0 (s == server) refl (server_is s c known)
    from to refl (λ e. refl) (λ e. refl) (λ is. tt) (λ g is. tt) (λ is. omega arith)
happens_live (Ticks ms) server c known from to =
    let lives = each_ticks (λ s d. linked_by s (alone.after (alone.Ticks ms) (link_of s d)) d) (length c.links) server c to
    (λ s d of within. linked_lives s server (alone.Ticks ms) d (tick_here (s == server)) of from within refl (λ is. tt) tt
    (λ is. tick_own s server ms is (s == server) refl)) in
    let few : ticks_in lives.happenings ≤ ticks_up server (length c.links) = lives.ticks in
    let one : ticks_up server (length c.links) ≤ 1 = one_up server (length c.links) in record {
      happenings = lives.happenings;
      link = lives.link;
      told = lives.told;
      passed = lives.passed;
      ordinary = lives.ordinary;
      count = lives.count;
      mode = lives.mode;
      awaited = lives.awaited;
      ticks = omega (arith, few, one);
    }

after_test : (b : Bool) (h : Happening) (server : ℕ) (c : ClientState) → is_known h c ≡ b → 1 ≤ server → server ≤ length c.links
    → LivesIf server c (if b then and_then settled (and_then (happens h) (happening h c)) else nothing c).client
    (if b then and_then settled (and_then (happens h) (happening h c)) else nothing c).acts
    (IsAwaitedAt server (Goes h) c) (tick_by h)
after_test false h server c e from to =
    nothing_if (IsAwaitedAt server (Goes h) c) (tick_by h) server c
after_test true h server c e from to =
    let did : ClientDid = and_then (happens h) (happening h c) in
    let first : LivesIf server c did.client did.acts (IsAwaitedAt server (Goes h) c) (tick_by h) =
    happens_live h server c e from to in
    let same : length did.client.links ≡ length c.links = first.count in
    lives_behind server c did.client (settled did.client).client did.acts (settled did.client).acts
    (IsAwaitedAt server (Goes h) c) (tick_by h) first
    (settled_lives (length did.client.links + 1) (ready_of did.client) server did.client from (omega arith))

after_lives : (h : Happening) (server : ℕ) (c : ClientState) → 1 ≤ server → server ≤ length c.links
    → LivesIf server c (after h c).client (after h c).acts (IsAwaitedAt server (Goes h) c) (tick_by h)
unfolding after
after_lives h server c from to = after_test (is_known h c) h server c refl from to

moment_lives : (m : Moment) (server : ℕ) (c : ClientState) → 1 ≤ server → server ≤ length c.links
    → LivesIf server c (at_moment m c).client (at_moment m c).acts (IsAwaitedAt server m c) (tick_of m)
moment_lives (Goes h) server c from to = after_lives h server c from to
moment_lives Ends server c from to = dialled_lives server c from to
moment_lives (Takes s) server c from to = wish_lives s server c from to

all_live : (moments : List Moment) (server : ℕ) (c : ClientState) → 1 ≤ server → server ≤ length c.links
    → LivesIf server c (after_all moments c).client (after_all moments c).acts (AreAwaited server moments c) (ticks_at moments)
unfolding after_all
all_live [] server c from to = lives_nothing server c
all_live (m ∷ moments) server c from to =
    let did : ClientDid = at_moment m c in
    let first : LivesIf server c did.client did.acts (IsAwaitedAt server m c) (tick_of m) = moment_lives m server c from to in
    let same : length did.client.links ≡ length c.links = first.count in
    lives_both server c did.client (after_all moments did.client).client did.acts (after_all moments did.client).acts
    (IsAwaitedAt server m c) (AreAwaited server moments did.client) (tick_of m) (ticks_at moments) first
    (all_live moments server did.client from (omega arith))

-- ---- a life

-- from a link that begins
pub links_live : (config : ClientConfig) (moments : List Moment) (server : ℕ) → 1 ≤ server → server ≤ servers_of config
    → IsLinkLife server config moments
links_live config moments server from to =
    let begun : LinkState = new_link (link_config config) in
    let start : ClientState = idle_client config in
    let one : ClientState = new_client config in
    let count : length start.links ≡ servers_of config = length-replicate (servers_of config) begun in
    let is : link_of server start ≡ begun = get_or-replicate (servers_of config) (server - 1) begun begun (omega arith) in
    let first : Lives server start one [] = dialled_lives server start from (omega arith) in
    let same : length one.links ≡ length start.links = first.count in
    let given : Type 0 = AreAwaited server moments one in
    let all : LivesIf server start (client_after config moments) (acts_of config moments) (Unit {0} × given)
    (0 + ticks_at moments) =
    lives_both server start one (client_after config moments) [] (acts_of config moments) (Unit {0}) given 0 (ticks_at moments)
    first (all_live moments server one from (omega arith)) in
    let few : ticks_in all.happenings ≤ 0 + ticks_at moments = all.ticks in record {
      happenings = all.happenings;
      link = all.link ∙ ap (λ (l : LinkState). (alone.after_all all.happenings l).link) is;
      told = all.told ∙ ap (λ (l : LinkState). (alone.after_all all.happenings l).notices) is;
      passed = all.passed ∙ ap (passed_by all.happenings) is;
      ordinary = all.ordinary;
      awaited = λ g. subst (AllAwaited all.happenings) is (all.awaited (tt, g));
      ticks = omega (arith, few);
    }
