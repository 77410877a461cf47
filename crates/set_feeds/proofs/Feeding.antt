-- Each life of a server is fed from the source.
use Rattle.std.proofs.Common.{◌≡◌, ℕ, zero, suc, ◌+◌, ◌≤◌, ◌==◌, Bool, true, false, cond, List, [], ◌∷◌, ◌++◌, length, take, drop, Option, Some, None, is_some, refl, sym, ap, subst, ◌∙◌, arith}
use Rattle.std.specs.Prelude.{nat_le}
use Rattle.std.proofs.lemmas.List.{append-nil, append_assoc, length-append}
use Rattle.ua_base.specs.declared.modes.SetMode.{SetMode}
use Rattle.set_model.specs.declared.source.Change.{Change}
use Rattle.set_model.specs.declared.source.SourceFault.{SourceFault}
use Rattle.set_model.specs.Source.{last_of, refusal}
use Rattle.direct_world.specs.World.{appended, appended_unless}
use Rattle.scenario.specs.declared.line.Line.{Line}
use Rattle.ua_channel.specs.State.{WireState}
use Rattle.message_ends.specs.Ends.{MessageEnd}
use Rattle.message_ends.specs.Talk.{heard_one}
use Rattle.server_rules.specs.Connecting.{is_above}
use Rattle.server_rules.specs.Step.{Closes, Feeds, Happening, Hears, Levels, Opens, Ticks, ears}
use Rattle.ua_channel.specs.State.{is_deaf}
use Rattle.server_laws.specs.Course.{fed_in}
use Rattle.server_messages.specs.Messages as serving
use Rattle.client_messages.specs.Messages as learning
use Rattle.ua_channel.specs.Messages.{hearing_of}
use Rattle.set_rules.specs.Slots.{current_of, currents}
use Rattle.set_histories.specs.Below.{client_config, Server, beginning, NotedLife, noted_client, noted_life, noting}
use Rattle.set_histories.specs.Recording.{RecordedLife, closes_in, heard_here, heard_in, opens_in, recorded_client, recorded_life, recording}
use Rattle.set_histories.specs.Histories.{lives_after, recorded_after}
use Rattle.set_feeds.specs.Feeds.{AllFedFrom, IsFedFrom}
use Rattle.set_feeds.proofs.Known.{drop_front, take_front}
use Rattle.set_feeds.proofs.Walking.{AllKept, AreKept, lives_keep}

abbrev Life : Type 0
Life = NotedLife RecordedLife WireState

-- ---- what feeds nothing

heard_here_feeds : (o : Option MessageEnd) (conn : ℕ) (wire : WireState) (t : Server) (past : List Happening) → fed_in (heard_here o conn wire t past) ≡ fed_in past
heard_here_feeds None conn wire t past = refl
heard_here_feeds (Some e) conn wire t past = by_test (is_deaf (ears conn t.hub))
  where
    by_test : (b : Bool) → fed_in (cond b past (Hears conn (hearing_of (ears conn t.hub) wire e.tokens).heard ∷ past)) ≡ fed_in past
    by_test true = refl
    by_test false = refl

heard_feeds : (conn : ℕ) (wires : List WireState) (t : Server) (past : List Happening) → fed_in (heard_in conn wires t past) ≡ fed_in past
heard_feeds conn [] t past = refl
heard_feeds conn (wire ∷ wires) t past =
    heard_feeds conn wires (heard_one ears serving.answers conn wire t) (heard_here (t.ends conn) conn wire t past)
    ∙ heard_here_feeds (t.ends conn) conn wire t past

opens_feed : (conn : ℕ) (t : Server) (past : List Happening) → fed_in (opens_in conn t past) ≡ fed_in past
opens_feed conn t past = by_test (is_above t.hub.highest conn)
  where
    by_test : (b : Bool) → fed_in (cond b (Opens conn ∷ past) past) ≡ fed_in past
    by_test true = refl
    by_test false = refl

closes_feed : (conn : ℕ) (t : Server) (past : List Happening) → fed_in (closes_in conn t past) ≡ fed_in past
closes_feed conn t past = by_test (is_some (t.ends conn))
  where
    by_test : (b : Bool) → fed_in (cond b (Closes conn ∷ past) past) ≡ fed_in past
    by_test true = refl
    by_test false = refl

-- ---- a life by the source

-- it began behind the start of the source, and was fed what follows, up to a place
pub record IsFedTo (items : ℕ) (source : List Change) (position : ℕ) (life : Life) : Type 0 where
  pub start : List Change
  pub later : List Change
  pub is : source ≡ (start ++ fed_in life.node.happenings) ++ later
  pub begins : life.current ≡ currents items start
  pub reached : position ≡ length (start ++ fed_in life.node.happenings)

-- another life that began so and was fed the same
same_fed : (items : ℕ) (source : List Change) (position : ℕ) (life other : Life) → fed_in other.node.happenings ≡ fed_in life.node.happenings → other.current ≡ life.current
    → IsFedTo items source position life → IsFedTo items source position other
same_fed items source position life other fed current x = record {
  start = x.start;
  later = x.later;
  is = x.is ∙ ap (λ l. (x.start ++ l) ++ x.later) (sym fed);
  begins = current ∙ x.begins;
  reached = x.reached ∙ ap (λ l. length (x.start ++ l)) (sym fed);
}

no_currents : (items : ℕ) → currents items [] ≡ []
unfolding currents
no_currents zero = refl
no_currents (suc items) = ap (λ l. l ++ current_of (last_of (items + 1) [])) (no_currents items)

grown : (change : Change) (source : List Change) → (more : List Change) × (appended change source ≡ source ++ more)
grown change source = by_test (nat_le change.pico 9999) (refusal source change)
  where
    by_test : (b : Bool) (o : Option SourceFault) → (more : List Change) × (cond b (appended_unless o change source) source ≡ source ++ more)
    by_test true None = (change ∷ [], refl)
    by_test true (Some fault) = ([], sym (append-nil source))
    by_test false o = ([], sym (append-nil source))

grows_one : (items : ℕ) (source : List Change) (position : ℕ) (change : Change) (life : Life) → IsFedTo items source position life
    → IsFedTo items (appended change source) position life
grows_one items source position change life x =
    let g = grown change source in
    record {
      start = x.start;
      later = x.later ++ g.0;
      is = g.1 ∙ ap (λ l. l ++ g.0) x.is ∙ append_assoc (x.start ++ fed_in life.node.happenings) x.later g.0;
      begins = x.begins;
      reached = x.reached;
    }

later_is : (items : ℕ) (source : List Change) (position : ℕ) (life : Life) (x : IsFedTo items source position life) → drop position source ≡ x.later
later_is items source position life x =
    ap (λ k. drop k source) x.reached
    ∙ ap (drop (length (x.start ++ fed_in life.node.happenings))) x.is
    ∙ drop_front (x.start ++ fed_in life.node.happenings) x.later

one_longer : (front : List Change) (change : Change) (position : ℕ) → position ≡ length front → position + 1 ≡ length (front ++ change ∷ [])
one_longer front change position is = let long = length-append front (change ∷ []) in omega (arith, is, long)

feeds_one : (items : ℕ) (source rest : List Change) (position : ℕ) (change : Change) (life : Life) → drop position source ≡ change ∷ rest → IsFedTo items source position life
    → IsFedTo items source (position + 1) ((noting recording).feeds change life)
feeds_one items source rest position change life next x =
    let past = fed_in life.node.happenings in
    let more : x.later ≡ change ∷ rest = sym (later_is items source position life x) ∙ next in
    let whole : (x.start ++ past) ++ change ∷ [] ≡ x.start ++ (past ++ change ∷ []) = append_assoc x.start past (change ∷ []) in
    record {
      start = x.start;
      later = rest;
      is = x.is ∙ ap (λ l. (x.start ++ past) ++ l) more ∙ sym (append_assoc (x.start ++ past) (change ∷ []) rest) ∙ ap (λ l. l ++ rest) whole;
      begins = x.begins;
      reached = one_longer (x.start ++ past) change position x.reached ∙ ap (λ (l : List Change). length l) whole;
    }

pub are_kept : (mode : SetMode) (servers items : ℕ) → AreKept (noting recording) (noted_life (recorded_life (beginning mode servers items))) items (IsFedTo items)
are_kept mode servers items = record {
  first = λ number. record { start = []; later = []; is = refl; begins = sym (no_currents items); reached = refl };
  begun = λ source number boot. record {
    start = source;
    later = [];
    is = sym (append-nil (source ++ []) ∙ append-nil source);
    begins = refl;
    reached = ap (λ (l : List Change). length l) (sym (append-nil source));
  };
  grows = λ source position change life x. grows_one items source position change life x;
  feeds = λ source rest position change life next x. feeds_one items source rest position change life next x;
  accepts = λ source position number life x.
      same_fed items source position life ((noting recording).accepts number life) (opens_feed number life.node.talk life.node.happenings) refl x;
  ends = λ source position number life x.
      same_fed items source position life ((noting recording).ends number life) (closes_feed number life.node.talk life.node.happenings) refl x;
  hears = λ source position number wires life x.
      same_fed items source position life ((noting recording).hears number wires life) (heard_feeds number wires life.node.talk life.node.happenings) refl x;
  ticks = λ source position ms life x. same_fed items source position life ((noting recording).ticks ms life) refl refl x;
  levels = λ source position level life x. same_fed items source position life ((noting recording).levels level life) refl refl x;
  emptied = λ source position number life x. same_fed items source position life ((noting recording).emptied number life) refl refl x;
}

-- ---- in the words of the law

fed_from : (items : ℕ) (source : List Change) (position : ℕ) (life : Life) → IsFedTo items source position life → IsFedFrom items source life
fed_from items source position life x =
    let past = fed_in life.node.happenings in
    let parts : source ≡ x.start ++ (past ++ x.later) = x.is ∙ append_assoc x.start past x.later in
    let long : length source ≡ length (x.start ++ (past ++ x.later)) = ap (λ (l : List Change). length l) parts in
    let sum = length-append x.start (past ++ x.later) in
    record {
      first = length x.start;
      count = length past;
      begins = x.begins ∙ ap (currents items) (sym (ap (take (length x.start)) parts ∙ take_front x.start (past ++ x.later)));
      within = omega (arith, long, sum);
      fed = sym (ap (λ l. take (length past) (drop (length x.start) l)) parts
          ∙ ap (take (length past)) (drop_front x.start (past ++ x.later))
          ∙ take_front past x.later);
    }

all_fed : (mode : SetMode) (servers items : ℕ) (source : List Change) (lives : List Life)
    → AllKept (noting recording) (noted_life (recorded_life (beginning mode servers items))) items (IsFedTo items) source lives → AllFedFrom items source lives
all_fed mode servers items source [] all = tt
all_fed mode servers items source (life ∷ lives) all = (fed_from items source all.0.0 life all.0.1, all_fed mode servers items source lives all.1)

pub lives_fed : (mode : SetMode) (servers items queue : ℕ) (oldest : Bool) (lines : List Line) (place : ℕ) → place + 1 ≤ servers
    → AllFedFrom items (recorded_after mode servers items queue oldest lines).source (lives_after mode servers items queue oldest lines place)
lives_fed mode servers items queue oldest lines place within =
    let begins = noted_life (recorded_life (beginning mode servers items)) in
    let x = lives_keep (noting recording) begins items (IsFedTo items) servers (are_kept mode servers items) lines
    (noted_client (recorded_client (learning.new_talk (client_config mode servers items queue oldest)))) place within in
    subst (λ (l : List Change). AllFedFrom items l (lives_after mode servers items queue oldest lines place)) (sym x.1)
    (all_fed mode servers items x.0 (lives_after mode servers items queue oldest lines place) x.2)
