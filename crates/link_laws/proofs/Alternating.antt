-- A link tells that it is ready exactly where it becomes so.
use Rattle.std.proofs.Common.{◌≡◌, ℕ, zero, suc, List, [], ◌∷◌, ◌++◌, Bool, true, false, Option, Some, None, if◌then◌else◌, ◌==◌, ◌&&◌, not, refl, sym, ap, ◌∙◌, subst}
use Rattle.ua_sub_msgs.specs.declared.notification.MonitoredItemNotification.{MonitoredItemNotification}
use Rattle.link_rules.specs.declared.notice.Notice.{Notice}
use Rattle.link_rules.specs.declared.notice.Notice.TheVariants as notice
use Rattle.link_rules.specs.declared.phase.Phase.{Phase}
use Rattle.link_rules.specs.declared.phase.Phase.TheVariants as phase
use Rattle.link_rules.specs.declared.remembered.Monitored.{Monitored}
use Rattle.link_rules.specs.declared.remembered.Remembered.{Remembered}
use Rattle.link_rules.specs.State.{LinkState, is_idle_phase, is_ready, is_ready_phase}
use Rattle.link_rules.specs.Said.{LinkDid, and_then, nothing, tells}
use Rattle.link_rules.specs.Messages.{acknowledged, all_taken, awaits, data_taken, kept_alive, newest, taken_as}
use Rattle.link_rules.specs.Numbers.{is_jump, is_next}
use Rattle.link_rules.specs.Subscribing.{streams}
use Rattle.link_rules.specs.Opening.{may_dial}
use Rattle.link_rules.specs.Step.{Happening, after, after_all}
use Rattle.link_laws.specs.Told.{Alternate, MayTell, ready_after, ready_by}
use Rattle.link_laws.proofs.Moves.{AreFair, ArePlain, Asking, Channel, Session, Activation, Probe, Transfer, Again, Subscription, Items, Publish, Modes, Level, Renewal, Calls, Face, IsFair, IsPlain, Leave, MayAsk, Move, Turns, Falls, Ages, Wishes, Greets, Puts, Enters, Completes, Loses, Makes, Keeps, Brings, Levels, Probed, Answers, Seeks, Sets, Confirms, begun, done, done_all, face_of, left, leave_of, lost_if, Probes, Adds, sends}
use Rattle.link_laws.proofs.Coming.{begun_unready, ready_face, same_ready}
use Rattle.link_laws.proofs.Opening.{happens, is_ready_at}

-- ---- notices

ready_join : (one other : List Notice) (ready : Bool) → ready_after (one ++ other) ready ≡ ready_after other (ready_after one ready)
ready_join [] other ready = refl
ready_join (n ∷ one) other ready = ready_join one other (ready_by n ready)

alternate_join : (one other : List Notice) (ready : Bool) → Alternate ready one → Alternate (ready_after one ready) other
    → Alternate ready (one ++ other)
alternate_join [] other ready h rest = rest
alternate_join (n ∷ one) other ready h rest = (h.0, alternate_join one other (ready_by n ready) h.1 rest)

-- from a link that is so ready
record IsTold (ready : Bool) (did : LinkDid) : Type 0 where
  pub turns : Alternate ready did.notices
  pub ends : ready_after did.notices ready ≡ is_ready did.link

told_then : (ready : Bool) (did : LinkDid) (rule : LinkState → LinkDid) → IsTold ready did → IsTold (is_ready did.link) (rule did.link)
    → IsTold ready (and_then rule did)
told_then ready did rule one other = record {
  turns = alternate_join did.notices (rule did.link).notices ready one.turns
      (subst (λ b. Alternate b (rule did.link).notices) (sym one.ends) other.turns);
  ends = ready_join did.notices (rule did.link).notices ready ∙ ap (ready_after (rule did.link).notices) one.ends ∙ other.ends;
}

-- notices that don't tell of it
record AreApart (notices : List Notice) : Type 0 where
  pub turns : (ready : Bool) → Alternate ready notices
  pub ends : (ready : Bool) → ready_after notices ready ≡ ready

none_apart : AreApart []
none_apart = record { turns = λ ready. tt; ends = λ ready. refl }

one_apart : (n : Notice) (more : List Notice) → ((ready : Bool) → MayTell n ready) → ((ready : Bool) → ready_by n ready ≡ ready) → AreApart more
    → AreApart (n ∷ more)
one_apart n more may same h = record {
  turns = λ ready. (may ready, subst (λ b. Alternate b more) (sym (same ready)) (h.turns ready));
  ends = λ ready. ap (ready_after more) (same ready) ∙ h.ends ready;
}

join_apart : (one other : List Notice) → AreApart one → AreApart other → AreApart (one ++ other)
join_apart one other h rest = record {
  turns = λ ready. alternate_join one other ready (h.turns ready) (rest.turns (ready_after one ready));
  ends = λ ready. ready_join one other ready ∙ rest.ends (ready_after one ready) ∙ h.ends ready;
}

plain_apart : (notices : List Notice) → ArePlain notices → AreApart notices
plain_apart [] h = none_apart
plain_apart (n ∷ more) h = by_notice n h.0 (plain_apart more h.1)
  where
    by_notice : (n : Notice) → IsPlain n → AreApart more → AreApart (n ∷ more)
    by_notice notice.Ready h rest = absurd h
    by_notice notice.Lost h rest = absurd h
    by_notice other h rest = one_apart other more (λ ready. tt) (λ ready. refl) rest

taken_apart : (o : Option Monitored) (one : MonitoredItemNotification) → AreApart (taken_as o one.value)
taken_apart None one = none_apart
taken_apart (Some monitored) one = one_apart (notice.Taken monitored.item one.value) [] (λ ready. tt) (λ ready. refl) none_apart

all_apart : (items : List Monitored) (values : List MonitoredItemNotification) → AreApart (all_taken items values)
all_apart items [] = none_apart
all_apart items (one ∷ values) = join_apart _ (all_taken items values) (taken_apart _ one) (all_apart items values)

streams_apart : (count : ℕ) → AreApart (streams count)
streams_apart zero = none_apart
streams_apart (suc count) =
    join_apart (streams count) (notice.Stream (suc count) ∷ []) (streams_apart count)
    (one_apart (notice.Stream (suc count)) [] (λ ready. tt) (λ ready. refl) none_apart)

apart_told : (ready : Bool) (did : LinkDid) → AreApart did.notices → ready ≡ is_ready did.link → IsTold ready did
apart_told ready did h same = record { turns = h.turns ready; ends = h.ends ready ∙ same }

-- ---- moves

pub idle_unready : (p : Phase) → is_idle_phase p ≡ true → is_ready_phase p ≡ false
idle_unready phase.Idle e = refl
idle_unready (phase.Ready ready) e = absurd cc
idle_unready other e = refl

pub both_true : (a b : Bool) → (a && b) ≡ true → a ≡ true
both_true true b e = refl
both_true false b e = absurd cc

pub dial_unready : (l : LinkState) → may_dial l ≡ true → is_ready l ≡ false
dial_unready l e =
    idle_unready l.phase (both_true (is_idle_phase l.phase) (l.wait == 0) (both_true (is_idle_phase l.phase && (l.wait == 0)) (not l.unsupported) e))

asked_ready : (leave : Leave) (a : Asking) (l : LinkState) → MayAsk leave a l → is_ready l ≡ is_ready (begun a l)
asked_ready leave (Items id) l h = begun_unready l.phase h.0
asked_ready leave (Publish ready remembered) l h = is_ready_at l ready h.0
asked_ready leave (Modes mode ready id) l h = is_ready_at l ready h.0
asked_ready leave Level l h = refl
asked_ready leave Renewal l h = refl
asked_ready leave Channel l h = begun_unready l.phase h
asked_ready leave Session l h = begun_unready l.phase h
asked_ready leave Activation l h = begun_unready l.phase h
asked_ready leave Probe l h = begun_unready l.phase h
asked_ready leave (Transfer id) l h = begun_unready l.phase h
asked_ready leave (Again id number wanted) l h = begun_unready l.phase h
asked_ready leave Subscription l h = begun_unready l.phase h

lost_told : (ready : Bool) (did : LinkDid) → did.notices ≡ lost_if ready → did.link.phase ≡ phase.Idle → IsTold ready did
lost_told true did told rests = record {
  turns = subst (Alternate true) (sym told) (refl, tt);
  ends = ap (λ (n : List Notice). ready_after n true) told ∙ sym (ap is_ready_phase rests);
}
lost_told false did told rests = record {
  turns = subst (Alternate false) (sym told) tt;
  ends = ap (λ (n : List Notice). ready_after n false) told ∙ sym (ap is_ready_phase rests);
}

face_unready : (p : Phase) (face : Face) → face_of p ≡ face → sends face ≡ false → is_ready_phase p ≡ false
face_unready p face e is = sym (ready_face p) ∙ ap sends e ∙ is

alive_told : (number : ℕ) (remembered : Remembered) (l : LinkState) → IsTold (is_ready l) (kept_alive number remembered l)
unfolding kept_alive
alive_told number remembered l = by_test (is_jump remembered.next number)
  where
    by_test : (b : Bool) → IsTold (is_ready l) (if b then tells (notice.Jump ∷ []) (awaits number remembered l) else nothing l)
    by_test true = record { turns = (tt, tt); ends = refl }
    by_test false = record { turns = tt; ends = refl }

data_told : (number : ℕ) (values : List MonitoredItemNotification) (remembered : Remembered) (l : LinkState)
    → IsTold (is_ready l) (data_taken number values remembered l)
unfolding data_taken
data_told number values remembered l = by_tests (is_next remembered.next number) (is_jump remembered.next number)
  where
    by_tests : (a b : Bool) → IsTold (is_ready l) (if a then tells (all_taken l.monitored values) (newest number remembered l)
        else if b then tells (notice.Jump ∷ all_taken l.monitored values) (newest number remembered l)
        else nothing (acknowledged number l))
    by_tests true b = apart_told (is_ready l) _ (all_apart l.monitored values) refl
    by_tests false true =
        apart_told (is_ready l) _ (one_apart notice.Jump (all_taken l.monitored values) (λ ready. tt) (λ ready. refl) (all_apart l.monitored values)) refl
    by_tests false false = record { turns = tt; ends = refl }

move_told : (leave : Leave) (move : Move) (l : LinkState) → IsFair leave move l → IsTold (is_ready l) (done move l)
move_told leave (Turns did) l h = apart_told (is_ready l) did (plain_apart did.notices h.plain) (sym (same_ready l did.link h.same))
move_told leave (Falls did) l h = lost_told (is_ready l) did h.told h.rests
move_told leave (Ages ms) l h = record { turns = tt; ends = refl }
move_told leave Wishes l h = record { turns = tt; ends = dial_unready l h.0 }
move_told leave (Greets url) l h = record { turns = tt; ends = face_unready l.phase Calls h refl }
move_told leave (Puts a) l h = record { turns = tt; ends = asked_ready leave a l h.0 }
move_told leave (Enters confirmed) l h = record { turns = (begun_unready l.phase h, tt); ends = refl }
move_told leave (Completes confirmed items) l h = record { turns = (face_unready l.phase Adds h.0 refl, tt); ends = refl }
move_told leave Loses l h = record { turns = (h, tt); ends = refl }
move_told leave (Makes id) l h = apart_told (is_ready l) _ (streams_apart l.config.items) refl
move_told leave (Keeps number remembered) l h = alive_told number remembered l
move_told leave (Brings number values remembered) l h = data_told number values remembered l
move_told leave (Levels level) l h = record { turns = (tt, tt); ends = refl }
move_told leave (Probed level) l h = record { turns = (tt, tt); ends = face_unready l.phase Probes h.1 refl }
move_told leave (Answers ready publishes since) l h = record { turns = tt; ends = is_ready_at l ready h.0 }
move_told leave (Sets mode ready id) l h = record { turns = (tt, tt); ends = is_ready_at l ready h.0 }
move_told leave (Confirms setting ready) l h = record { turns = (tt, tt); ends = is_ready_at l ready h.0 }
move_told leave (Seeks mode ready) l h = record { turns = tt; ends = is_ready_at l ready h.0 }

moves_told : (leave : Leave) (moves : List Move) (l : LinkState) → AreFair leave moves l → IsTold (is_ready l) (done_all moves l)
moves_told leave [] l h = record { turns = tt; ends = refl }
moves_told leave (move ∷ moves) l h =
    told_then (is_ready l) (done move l) (done_all moves) (move_told leave move l h.0)
    (moves_told (left move leave) moves (done move l).link h.1)

event_told : (h : Happening) (l : LinkState) → IsTold (is_ready l) (after h l)
event_told h l =
    let comes = happens h l in subst (IsTold (is_ready l)) (sym comes.is) (moves_told (leave_of h) comes.moves l comes.fair)

all_told : (happenings : List Happening) (l : LinkState) → IsTold (is_ready l) (after_all happenings l)
all_told [] l = record { turns = tt; ends = refl }
all_told (h ∷ more) l =
    told_then (is_ready l) (after h l) (after_all more) (event_told h l) (all_told more (after h l).link)

pub they_alternate : (happenings : List Happening) (l : LinkState) → Alternate (is_ready l) (after_all happenings l).notices
they_alternate happenings l = (all_told happenings l).turns

pub they_tell : (happenings : List Happening) (l : LinkState) → ready_after (after_all happenings l).notices (is_ready l) ≡ is_ready (after_all happenings l).link
they_tell happenings l = (all_told happenings l).ends
