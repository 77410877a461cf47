-- Time goes by for the client of a set no more often than there are lines.
use Rattle.std.proofs.Common.{◌≡◌, ℕ, suc, ◌+◌, ◌≤◌, Bool, true, false, cond, List, [], ◌∷◌, ◌++◌, length, Option, Some, None, refl, arith}
use Rattle.ua_base.specs.declared.modes.SetMode.{SetMode}
use Rattle.scenario.specs.declared.line.Line.{Line}
use Rattle.scenario.specs.declared.line.Line.TheVariants as line
use Rattle.ua_channel.specs.State.{WireState, is_deaf}
use Rattle.ua_channel.specs.Messages.{hearing_of}
use Rattle.message_ends.specs.Ends.{MessageEnd}
use Rattle.message_ends.specs.Talk.{heard_one}
use Rattle.client_rules.specs.State.{is_server}
use Rattle.client_rules.specs.Acts.{Closes, Hears, Opens, Refuses, Ticks}
use Rattle.client_rules.specs.Step.{Ends, Goes, Moment, Takes, ears}
use Rattle.client_messages.specs.Messages as learning
use Rattle.set_rules.specs.World.{Beginning}
use Rattle.set_histories.specs.Below.{client_config, Client, beginning, NotedClient, NotedLife, noted_client, noted_life, noting}
use Rattle.set_histories.specs.Recording.{RecordedClient, RecordedLife, event_of, learned_here, learned_in, recorded_client, recorded_life, recording}
use Rattle.set_histories.specs.Histories.{recorded_after}
use Rattle.set_fitting.specs.Counted.{ticks_in_moments}
use Rattle.set_fitting.proofs.Walking.{Any, AreKept, LineIs, LinesAre, all_later, client_keeps}

-- ---- moments

ticks_both : (moments more : List Moment) → ticks_in_moments (moments ++ more) ≡ ticks_in_moments moments + ticks_in_moments more
ticks_both [] more = omega arith
ticks_both (Goes (Ticks ms) ∷ moments) more = let rest = ticks_both moments more in omega (arith, rest)
ticks_both (Goes (Opens server) ∷ moments) more = ticks_both moments more
ticks_both (Goes (Refuses server) ∷ moments) more = ticks_both moments more
ticks_both (Goes (Hears server h) ∷ moments) more = ticks_both moments more
ticks_both (Goes (Closes server) ∷ moments) more = ticks_both moments more
ticks_both (Ends ∷ moments) more = ticks_both moments more
ticks_both (Takes server ∷ moments) more = ticks_both moments more

none_more : (moments more : List Moment) (age : ℕ) → ticks_in_moments more ≡ 0 → ticks_in_moments moments ≤ age → ticks_in_moments (moments ++ more) ≤ age
none_more moments more age none less = let both = ticks_both moments more in omega (arith, none, less, both)

one_more : (moments : List Moment) (ms age : ℕ) → ticks_in_moments moments ≤ age → ticks_in_moments (moments ++ Goes (Ticks ms) ∷ Ends ∷ []) ≤ suc age
one_more moments ms age less = let both = ticks_both moments (Goes (Ticks ms) ∷ Ends ∷ []) in omega (arith, less, both)

both_none : (moments more : List Moment) → ticks_in_moments moments ≡ 0 → ticks_in_moments more ≡ 0 → ticks_in_moments (moments ++ more) ≡ 0
both_none moments more first second = let both = ticks_both moments more in omega (arith, first, second, both)

event_ticks : (number : ℕ) (t : Client) (moments : List Moment) → ticks_in_moments moments ≡ 0 → ticks_in_moments (event_of number t moments) ≡ 0
event_ticks number t moments none = by_test (is_server number t.hub)
  where
    by_test : (b : Bool) → ticks_in_moments (cond b (moments ++ Ends ∷ []) []) ≡ 0
    by_test true = both_none moments (Ends ∷ []) none refl
    by_test false = refl

here_ticks : (o : Option MessageEnd) (number : ℕ) (wire : WireState) (t : Client) → ticks_in_moments (learned_here o number wire t) ≡ 0
here_ticks None number wire t = refl
here_ticks (Some e) number wire t = by_test (is_deaf (ears number t.hub))
  where
    by_test : (b : Bool) → ticks_in_moments (cond b [] (Goes (Hears number (hearing_of (ears number t.hub) wire e.tokens).heard) ∷ [])) ≡ 0
    by_test true = refl
    by_test false = refl

learned_ticks : (number : ℕ) (wires : List WireState) (t : Client) → ticks_in_moments (learned_in number wires t) ≡ 0
learned_ticks number [] t = refl
learned_ticks number (wire ∷ wires) t =
    both_none (learned_here (t.ends number) number wire t) (learned_in number wires (heard_one ears learning.answers number wire t))
    (here_ticks (t.ends number) number wire t) (learned_ticks number wires (heard_one ears learning.answers number wire t))

-- ---- the client

abbrev FewTicks : ℕ → NotedClient RecordedClient WireState → Type 0
FewTicks age c = ticks_in_moments c.node.moments ≤ age

event_few : (age number : ℕ) (moments : List Moment) (c : NotedClient RecordedClient WireState) → ticks_in_moments moments ≡ 0 → FewTicks age c
    → ticks_in_moments (c.node.moments ++ event_of number c.node.talk moments) ≤ age
event_few age number moments c none less =
    none_more c.node.moments (event_of number c.node.talk moments) age (event_ticks number c.node.talk moments none) less

abbrev Life : Type 0
Life = NotedLife RecordedLife WireState

abbrev AnyLife : ℕ → Life → Type 0
AnyLife place life = Unit {0}

module _ (mode : SetMode) (servers items : ℕ) where
  abbrev begin_lives : Beginning Life
  begin_lives = noted_life (recorded_life (beginning mode servers items))

  are_few : AreKept (noting recording) begin_lives items Any Any Any Any AnyLife FewTicks
  are_few = record {
    there_none = tt;
    back_none = tt;
    there_joined = λ wires more x y. tt;
    back_joined = λ wires more x y. tt;
    accepts = λ place number life x. tt;
    ends = λ place number life x. tt;
    hears = λ place number wires life come x. tt;
    feeds = λ place change life is x. tt;
    ticks = λ place ms life x. tt;
    levels = λ place level life is x. tt;
    answered = λ place number life x. tt;
    emptied = λ place number life x. tt;
    connects = λ age number c x. event_few age number (Goes (Opens number) ∷ []) c refl x;
    is_refused = λ age number c x. event_few age number (Goes (Refuses number) ∷ []) c refl x;
    loses = λ age number c x. event_few age number (Goes (Closes number) ∷ []) c refl x;
    learns = λ age number wires c come x. event_few age number (learned_in number wires c.node.talk) c (learned_ticks number wires c.node.talk) x;
    waits = λ age ms c x. one_more c.node.moments ms age x;
    later = λ age c x. one_later (ticks_in_moments c.node.moments) age x;
    asked = λ age number c x. tt;
    cleared = λ age number c x. x;
    wish_taken = λ age number c x. none_more c.node.moments (Takes number ∷ []) age refl x;
  }
    where
      one_later : (some age : ℕ) → some ≤ age → some ≤ suc age
      one_later some age less = omega (arith, less)

  any_line : (l : Line) → LineIs (noting recording) begin_lives items Any Any Any Any AnyLife FewTicks l
  any_line (line.Change change) = tt
  any_line (line.Level server level) = tt
  any_line other = tt

  any_lines : (lines : List Line) → LinesAre (noting recording) begin_lives items Any Any Any Any AnyLife FewTicks servers are_few lines
  any_lines [] = tt
  any_lines (l ∷ lines) = (any_line l, any_lines lines)

  pub few_ticks : (queue : ℕ) (oldest : Bool) (lines : List Line)
      → ticks_in_moments (recorded_after mode servers items queue oldest lines).client.node.moments ≤ length lines
  few_ticks queue oldest lines =
      let few = client_keeps (noting recording) begin_lives items Any Any Any Any AnyLife FewTicks servers are_few (λ place boot current here may small all. tt)
      lines (noted_client (recorded_client (learning.new_talk (client_config mode servers items queue oldest)))) (any_lines lines) (omega arith) in
      let age = all_later (noting recording) begin_lives items Any Any Any Any AnyLife FewTicks servers are_few lines 0 in
      omega (arith, few, age)
