-- The lives of a set's servers hear on their own connections, and on none that is deaf.
use Rattle.std.proofs.Common.{◌≡◌, ◌≤◌, ◌^◌, ℕ, ◌+◌, ◌-◌, ◌==◌, min, Bool, true, false, cond, List, [], ◌∷◌, Option, Some, None, is_some, refl, sym, ap, subst, ◌∙◌, arith}
use Rattle.ua_base.specs.declared.modes.SetMode.{SetMode}
use Rattle.set_model.specs.declared.source.Change.{Change}
use Rattle.scenario.specs.declared.line.Line.{Line}
use Rattle.ua_channel.specs.State.{WireState, is_deaf}
use Rattle.ua_channel.specs.Messages.{hearing_of}
use Rattle.message_ends.specs.Ends.{MessageEnd}
use Rattle.message_ends.specs.Talk as talks
use Rattle.server_rules.specs.Acts.{state_after}
use Rattle.server_rules.specs.Connecting.{is_above}
use Rattle.server_rules.specs.State.{ServerState, new_server}
use Rattle.server_rules.specs.Step.{Closes, Feeds, Happening, Hears, Levels, Opens, Ticks, after, ears}
use Rattle.server_messages.specs.Messages as serving
use Rattle.client_messages.specs.Messages as learning
use Rattle.set_histories.specs.Below.{client_config, server_config, Server, beginning, Accepted, NotedLife, Talked, noted_client, noted_life, noting, on_newest, puts, takes}
use Rattle.set_histories.specs.Recording.{RecordedLife, closes_in, heard_here, heard_in, opens_in, recorded_client, recorded_life, recording}
use Rattle.set_histories.specs.Histories.{lives_after}
use Rattle.set_histories.proofs.Ends.{has_heard}
use Rattle.set_histories.proofs.Walking.{AllOver, AreKept, lives_keep, next_given}
use Rattle.set_hearings.specs.Attentive.{AllAttentive, AreHeard, AreInTurn, AreUpTo, IsAttentive, numbers_of}
use Rattle.set_talks.specs.On.{AreOn, IsIn}

abbrev Life : Type 0
Life = NotedLife RecordedLife WireState

-- ---- one more connection

in_more : (number one : ℕ) (numbers : List ℕ) → IsIn number numbers → IsIn number (one ∷ numbers)
in_more number one numbers x = (one ∷ x.0, x.1, ap (λ (l : List ℕ). one ∷ l) x.2)

on_more : (one : ℕ) (numbers : List ℕ) (past : List Happening) → AreOn numbers past → AreOn (one ∷ numbers) past
on_more one numbers [] x = tt
on_more one numbers (Opens k ∷ past) x = on_more one numbers past x
on_more one numbers (Hears k h ∷ past) x = (in_more k one numbers x.0, on_more one numbers past x.1)
on_more one numbers (Closes k ∷ past) x = on_more one numbers past x
on_more one numbers (Feeds change ∷ past) x = on_more one numbers past x
on_more one numbers (Ticks ms ∷ past) x = on_more one numbers past x
on_more one numbers (Levels level ∷ past) x = on_more one numbers past x

-- ---- a higher number

up_to_more : (number higher : ℕ) (past : List Happening) → number ≤ higher → AreUpTo number past → AreUpTo higher past
up_to_more number higher [] less x = tt
up_to_more number higher (Opens k ∷ past) less x =
    let first = x.0 in (omega (arith, less, first), up_to_more number higher past less x.1)
up_to_more number higher (Hears k h ∷ past) less x =
    let first = x.0 in (omega (arith, less, first), up_to_more number higher past less x.1)
up_to_more number higher (Closes k ∷ past) less x = up_to_more number higher past less x
up_to_more number higher (Feeds change ∷ past) less x = up_to_more number higher past less x
up_to_more number higher (Ticks ms ∷ past) less x = up_to_more number higher past less x
up_to_more number higher (Levels level ∷ past) less x = up_to_more number higher past less x

-- ---- what happened to a life that began so, whose connections have these numbers

pub record IsHeedful (first : ServerState) (given : ℕ) (numbers : List ℕ) (hub : ServerState) (past : List Happening) : Type 0 where
  pub state : hub ≡ state_after past first
  pub heard : AreHeard past first
  pub on : AreOn numbers past
  pub turn : AreInTurn past
  pub up : AreUpTo given past

module _ (first : ServerState) where
  state_then : (h : Happening) (past : List Happening) (s : ServerState) → s ≡ state_after past first → (after h s).state ≡ state_after (h ∷ past) first
  unfolding state_after
  state_then h past s is = ap (λ (u : ServerState). (after h u).state) is

  at_first : first ≡ state_after [] first
  unfolding state_after
  at_first = refl

  feeds_then : (given : ℕ) (change : Change) (numbers : List ℕ) (s : ServerState) (past : List Happening) → IsHeedful first given numbers s past
      → IsHeedful first given numbers (after (Feeds change) s).state (Feeds change ∷ past)
  feeds_then given change numbers s past x =
      record { state = state_then (Feeds change) past s x.state; heard = x.heard; on = x.on; turn = x.turn; up = x.up }

  ticks_then : (given ms : ℕ) (numbers : List ℕ) (s : ServerState) (past : List Happening) → IsHeedful first given numbers s past
      → IsHeedful first given numbers (after (Ticks ms) s).state (Ticks ms ∷ past)
  ticks_then given ms numbers s past x =
      record { state = state_then (Ticks ms) past s x.state; heard = x.heard; on = x.on; turn = x.turn; up = x.up }

  levels_then : (given level : ℕ) (numbers : List ℕ) (s : ServerState) (past : List Happening) → IsHeedful first given numbers s past
      → IsHeedful first given numbers (after (Levels level) s).state (Levels level ∷ past)
  levels_then given level numbers s past x =
      record { state = state_then (Levels level) past s x.state; heard = x.heard; on = x.on; turn = x.turn; up = x.up }

  more_then : (given number : ℕ) (numbers : List ℕ) (s : ServerState) (past : List Happening) → IsHeedful first given numbers s past → IsHeedful first given (number ∷ numbers) s past
  more_then given number numbers s past x =
      record { state = x.state; heard = x.heard; on = on_more number numbers past x.on; turn = x.turn; up = x.up }

  higher_then : (given number : ℕ) (numbers : List ℕ) (s : ServerState) (past : List Happening) → given ≤ number → IsHeedful first given numbers s past
      → IsHeedful first number numbers s past
  higher_then given number numbers s past less x =
      record { state = x.state; heard = x.heard; on = x.on; turn = x.turn; up = up_to_more given number past less x.up }

  opens_then : (given number : ℕ) (numbers : List ℕ) (t : Server) (past : List Happening) → given ≤ number → IsHeedful first given numbers t.hub past
      → IsHeedful first number (number ∷ numbers) (serving.opened number t).hub (opens_in number t past)
  opens_then given number numbers t past less x =
      more_then number number numbers (serving.opened number t).hub (opens_in number t past)
      (opened_by (is_above t.hub.highest number) (higher_then given number numbers t.hub past less x))
    where
      opened_by : (b : Bool) → IsHeedful first number numbers t.hub past
          → IsHeedful first number numbers (cond b (serving.with_ends (serving.end_opened number t.ends) (after (Opens number) t.hub)) t).hub
          (cond b (Opens number ∷ past) past)
      opened_by true y = record {
        state = state_then (Opens number) past t.hub y.state;
        heard = y.heard;
        on = y.on;
        turn = (y.up, y.turn);
        up = (omega arith, y.up);
      }
      opened_by false y = y

  closes_then : (given number : ℕ) (numbers : List ℕ) (t : Server) (past : List Happening) → IsHeedful first given numbers t.hub past
      → IsHeedful first given numbers (serving.closed number t).hub (closes_in number t past)
  closes_then given number numbers t past x = closed_by (is_some (t.ends number))
    where
      closed_by : (b : Bool) → IsHeedful first given numbers (cond b (serving.with_ends (serving.end_closed number t.ends) (after (Closes number) t.hub)) t).hub
          (cond b (Closes number ∷ past) past)
      closed_by true = record { state = state_then (Closes number) past t.hub x.state; heard = x.heard; on = x.on; turn = x.turn; up = x.up }
      closed_by false = x

  -- ---- messages that come on its last connection

  hears_if : (b : Bool) (number : ℕ) (numbers : List ℕ) (wire : WireState) (e : MessageEnd) (t : Server) (past : List Happening) → IsIn number numbers
      → is_deaf (ears number t.hub) ≡ b → t.ends number ≡ Some e → IsHeedful first number numbers t.hub past
      → IsHeedful first number numbers (cond b t (talks.judged ears serving.answers number (hearing_of (ears number t.hub) wire e.tokens) e t)).hub
      (cond b past (Hears number (hearing_of (ears number t.hub) wire e.tokens).heard ∷ past))
  hears_if true number numbers wire e t past own deaf there x = x
  hears_if false number numbers wire e t past own hears there x = record {
    state = (has_heard ears serving.answers number wire e t there).hub ∙ state_then (Hears number (hearing_of (ears number t.hub) wire e.tokens).heard) past t.hub x.state;
    heard = (subst (λ (s : ServerState). is_deaf (ears number s) ≡ false) x.state hears, x.heard);
    on = (own, x.on);
    turn = (x.up, x.turn);
    up = (omega arith, x.up);
  }

  hears_by : (found : Option MessageEnd) (number : ℕ) (numbers : List ℕ) (wire : WireState) (t : Server) (past : List Happening) → IsIn number numbers
      → t.ends number ≡ found → IsHeedful first number numbers t.hub past
      → IsHeedful first number numbers (talks.heard_by ears serving.answers found number wire t).hub (heard_here found number wire t past)
  hears_by None number numbers wire t past own there x = x
  hears_by (Some e) number numbers wire t past own there x = hears_if (is_deaf (ears number t.hub)) number numbers wire e t past own refl there x

  hears_one : (number : ℕ) (numbers : List ℕ) (wire : WireState) (t : Server) (past : List Happening) → IsIn number numbers → IsHeedful first number numbers t.hub past
      → IsHeedful first number numbers (talks.heard_one ears serving.answers number wire t).hub (heard_here (t.ends number) number wire t past)
  unfolding talks.heard_one
  hears_one number numbers wire t past own x = hears_by (t.ends number) number numbers wire t past own refl x

  hears_then : (number : ℕ) (numbers : List ℕ) (wires : List WireState) (t : Server) (past : List Happening) → IsIn number numbers → IsHeedful first number numbers t.hub past
      → IsHeedful first number numbers (talks.heard_all ears serving.answers number wires t).hub (heard_in number wires t past)
  hears_then number numbers [] t past own x = x
  hears_then number numbers (wire ∷ wires) t past own x =
      hears_then number numbers wires (talks.heard_one ears serving.answers number wire t) (heard_here (t.ends number) number wire t past) own
      (hears_one number numbers wire t past own x)

-- ---- numbers stay where something is noted

changed_number : (b : Bool) (change : Talked WireState → Talked WireState) (a : Accepted WireState) → (cond b (record a { talked = change a.talked }) a).number ≡ a.number
changed_number true change a = refl
changed_number false change a = refl

same_numbers : (number : ℕ) (change : Talked WireState → Talked WireState) (connections : List (Accepted WireState))
    → numbers_of (on_newest number change connections) ≡ numbers_of connections
same_numbers number change [] = refl
same_numbers number change (a ∷ earlier) = ap (λ k. k ∷ numbers_of earlier) (changed_number (a.number == number) change a)

-- ---- what is kept of a life at a place

-- the connection that stands is one of these, and the last of so many that were given
abbrev StandsIn : ℕ → Option ℕ → List ℕ → Type 0
StandsIn given None numbers = Unit {0}
StandsIn given (Some number) numbers = IsIn number numbers × (given ≡ number)

given_up : (given : ℕ) → given ≤ 2 ^ 32 - 1 → given ≤ next_given given
given_up given most = omega (arith, most)

module _ (mode : SetMode) (servers items : ℕ) where
  abbrev first_of : ℕ → Life → ServerState
  first_of place life = new_server (server_config mode servers items (place + 1) life.boot) life.current

  pub record IsKept (place given : ℕ) (life : Life) (o : Option ℕ) : Type 0 where
    pub heeds : IsHeedful (first_of place life) given (numbers_of life.connections) life.node.talk.hub life.node.happenings
    pub stands : StandsIn given o (numbers_of life.connections)
    pub most : given ≤ 2 ^ 32 - 1

  hears_it : (place given number : ℕ) (wires : List WireState) (life : Life) → IsKept place given life (Some number)
      → IsKept place given ((noting recording).hears number wires life) (Some number)
  hears_it place given number wires life x =
      let same = sym (same_numbers number (takes wires) life.connections) in
      record {
        heeds = subst (λ (l : List ℕ). IsHeedful (first_of place life) given l (recording.hears number wires life.node).talk.hub (recording.hears number wires life.node).happenings) same
            (subst (λ (k : ℕ). IsHeedful (first_of place life) k (numbers_of life.connections) (recording.hears number wires life.node).talk.hub (recording.hears number wires life.node).happenings) (sym x.stands.1)
            (hears_then (first_of place life) number (numbers_of life.connections) wires life.node.talk life.node.happenings x.stands.0
            (subst (λ (k : ℕ). IsHeedful (first_of place life) k (numbers_of life.connections) life.node.talk.hub life.node.happenings) x.stands.1 x.heeds)));
        stands = (subst (λ (l : List ℕ). IsIn number l) same x.stands.0, x.stands.1);
        most = x.most;
      }

  empties_it : (place given number : ℕ) (life : Life) → IsKept place given life (Some number) → IsKept place given ((noting recording).emptied number life) (Some number)
  empties_it place given number life x =
      let same = sym (same_numbers number (puts (recording.answered number life.node)) life.connections) in
      record {
        heeds = subst (λ (l : List ℕ). IsHeedful (first_of place life) given l life.node.talk.hub life.node.happenings) same x.heeds;
        stands = (subst (λ (l : List ℕ). IsIn number l) same x.stands.0, x.stands.1);
        most = x.most;
      }

  pub lives_are_kept : (count : ℕ) → AreKept (noting recording) (noted_life (recorded_life (beginning mode servers items))) (λ place given life o. IsKept place given life o) count
  lives_are_kept count = record {
    begun = λ place boot current within. record {
      heeds = record {
        state = at_first (new_server (server_config mode servers items (place + 1) boot) current);
        heard = tt;
        on = tt;
        turn = tt;
        up = tt;
      };
      stands = tt;
      most = omega arith;
    };
    accepts = λ place given life x. record {
      heeds = opens_then (first_of place life) given (next_given given) (numbers_of life.connections) life.node.talk life.node.happenings (given_up given x.most) x.heeds;
      stands = (([], numbers_of life.connections, refl), refl);
      most = omega arith;
    };
    ends = λ place given number life x. record {
      heeds = closes_then (first_of place life) given number (numbers_of life.connections) life.node.talk life.node.happenings x.heeds;
      stands = tt;
      most = x.most;
    };
    hears = λ place given number wires life x. hears_it place given number wires life x;
    feeds = λ place given o change life x. record {
      heeds = feeds_then (first_of place life) given change (numbers_of life.connections) life.node.talk.hub life.node.happenings x.heeds;
      stands = x.stands;
      most = x.most;
    };
    ticks = λ place given o ms life x. record {
      heeds = ticks_then (first_of place life) given ms (numbers_of life.connections) life.node.talk.hub life.node.happenings x.heeds;
      stands = x.stands;
      most = x.most;
    };
    levels = λ place given o level life x. record {
      heeds = levels_then (first_of place life) given level (numbers_of life.connections) life.node.talk.hub life.node.happenings x.heeds;
      stands = x.stands;
      most = x.most;
    };
    emptied = λ place given number life x. empties_it place given number life x;
  }

  -- ---- in the words of the law

  pub is_attentive : (place given : ℕ) (o : Option ℕ) (life : Life) → IsKept place given life o → IsAttentive mode servers items (place + 1) life
  is_attentive place given o life x = record { heard = x.heeds.heard; on = x.heeds.on; turn = x.heeds.turn }

  pub attend : (place : ℕ) (lives : List Life)
      → AllOver (noting recording) (noted_life (recorded_life (beginning mode servers items))) (λ place given life o. IsKept place given life o) servers (lives_are_kept servers)
      (λ place life. IsAttentive mode servers items (place + 1) life) is_attentive place lives
      → AllAttentive mode servers items (place + 1) lives
  attend place [] x = tt
  attend place (life ∷ earlier) x = (x.0, attend place earlier x.1)

pub lives_attend : (mode : SetMode) (servers items queue : ℕ) (oldest : Bool) (lines : List Line) (place : ℕ) → place + 1 ≤ servers
    → AllAttentive mode servers items (place + 1) (lives_after mode servers items queue oldest lines place)
lives_attend mode servers items queue oldest lines place within =
    let begins = noted_life (recorded_life (beginning mode servers items)) in
    let P = λ (place given : ℕ) (life : Life) (o : Option ℕ). IsKept mode servers items place given life o in
    attend mode servers items place (lives_after mode servers items queue oldest lines place)
    (lives_keep (noting recording) begins P servers (lives_are_kept mode servers items servers)
    (λ place life. IsAttentive mode servers items (place + 1) life) (is_attentive mode servers items) items lines
    (noted_client (recorded_client (learning.new_talk (client_config mode servers items queue oldest)))) place within)
