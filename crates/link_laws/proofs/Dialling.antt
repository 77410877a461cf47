-- A link dials again only after time has passed.
use Rattle.std.proofs.Common.{◌≡◌, ℕ, ◌+◌, ◌-◌, ◌==◌, ◌≤◌, ◌&&◌, List, [], ◌∷◌, Bool, true, false, not, Some, None, Result, Ok, Err, if◌then◌else◌, refl, sym, ap, ◌∙◌, subst, arith}
use Rattle.std.proofs.lemmas.Bool.Decides.{nat_tests}
use Rattle.ua_structures.specs.declared.body.BodyFault.{BodyFault}
use Rattle.ua_structures.specs.Body.{body_at}
use Rattle.ua_channel.specs.declared.heard.Heard.{Heard}
use Rattle.ua_channel.specs.declared.heard.Heard.TheVariants as said_of
use Rattle.ua_session_msgs.specs.declared.reply.SessionReply.{SessionReply}
use Rattle.ua_session_msgs.specs.declared.reply.SessionReply.TheVariants as session_reply
use Rattle.ua_sub_msgs.specs.declared.reply.SubReply.{SubReply}
use Rattle.ua_sub_msgs.specs.declared.reply.SubReply.TheVariants as sub_reply
use Rattle.ua_services.specs.declared.reply.Reply.{Reply}
use Rattle.ua_services.specs.declared.reply.Reply.TheVariants as reply
use Rattle.ua_services.specs.Families.{replies}
use Rattle.link_rules.specs.declared.config.LinkConfig.{LinkConfig}
use Rattle.link_rules.specs.declared.phase.Phase.{Phase}
use Rattle.link_rules.specs.declared.phase.Phase.TheVariants as phase
use Rattle.link_rules.specs.State.{LinkState, is_idle_phase, new_link, with_phase}
use Rattle.link_rules.specs.Said.{LinkDid}
use Rattle.link_rules.specs.Closing.{broken}
use Rattle.link_rules.specs.Opening.{dials, may_dial}
use Rattle.link_rules.specs.Time.{aged, is_overdue, keeps_up, ticked}
use Rattle.link_rules.specs.Step as step_rules
use Rattle.link_rules.specs.Step.{Happening, after, after_all}
use Rattle.link_laws.specs.Counted.{dial_at, dials_in, tick_at, ticks_in}
use Rattle.link_laws.proofs.Moves.{AreFair, Asking, Channel, Session, Activation, Probe, Transfer, Again, Subscription, Items, Publish, Modes, Level, Renewal, Comes, Face, Rests, IsFair, Leave, MayAsk, Move, Turns, Falls, Ages, Wishes, Greets, Puts, Enters, Completes, Loses, Makes, Keeps, Brings, Levels, Probed, Answers, Seeks, Sets, Confirms, begun, done, done_all, face_of, left, left_asked, leave_heard, leave_in, leave_of, leave_read, none, stands}
use Rattle.link_laws.proofs.Opening.{happens, ticked_rest}
use Rattle.link_laws.proofs.Alternating.{both_true}
use Rattle.link_laws.proofs.Plain.{alive_brings, data_brings}
use Rattle.link_laws.proofs.Numbering.{asks_stand}

-- so many dials, and so many ticks; where the link might dial now it hasn't dialled since the last tick
record IsPaced (dialled passed : ℕ) (l : LinkState) : Type 0 where
  pub most : dialled ≤ passed + 1
  pub rested : l.phase ≡ phase.Idle → l.wait ≡ 0 → dialled ≤ passed

not_idle : (d p : ℕ) (l : LinkState) → d ≤ p + 1 → (face_of l.phase ≡ Rests → d ≤ p) → IsPaced d p l
not_idle d p l most rests = record { most = most; rested = λ e w. rests (ap face_of e) }

rests_no : {A : Type 0} (face : Face) → stands face ≡ true → face ≡ Rests → A
rests_no face there e = let bad : true ≡ false = sym there ∙ ap stands e in absurd cc

-- the link stands
standing : (d p : ℕ) (l : LinkState) → d ≤ p + 1 → stands (face_of l.phase) ≡ true → IsPaced d p l
standing d p l most there = not_idle d p l most (rests_no (face_of l.phase) there)

same_paced : (d p : ℕ) (l next : LinkState) → next.wait ≡ l.wait → (next.phase ≡ phase.Idle → l.phase ≡ phase.Idle) → IsPaced d p l → IsPaced d p next
same_paced d p l next w e h = record { most = h.most; rested = λ i z. h.rested (e i) (sym w ∙ z) }

idle_face : (p : Phase) → face_of p ≡ Rests → p ≡ phase.Idle
idle_face phase.Idle e = refl
idle_face (phase.Dialing taken) e = absurd cc
idle_face phase.Hello e = absurd cc
idle_face phase.Opening e = absurd cc
idle_face phase.Creating e = absurd cc
idle_face phase.Activating e = absurd cc
idle_face phase.Probing e = absurd cc
idle_face phase.Transferring e = absurd cc
idle_face (phase.Republishing wanted) e = absurd cc
idle_face phase.Subscribing e = absurd cc
idle_face phase.Adding e = absurd cc
idle_face (phase.Ready ready) e = absurd cc

begun_paced : (a : Asking) (leave : Leave) (l : LinkState) (d p : ℕ) → MayAsk leave a l → d ≤ p + 1 → IsPaced d p (begun a l)
begun_paced Level leave l d p h most = standing d p (begun Level l) most (asks_stand leave Level l h)
begun_paced Renewal leave l d p h most = standing d p (begun Renewal l) most (asks_stand leave Renewal l h)
begun_paced Channel leave l d p h most = standing d p (begun Channel l) most refl
begun_paced Session leave l d p h most = standing d p (begun Session l) most refl
begun_paced Activation leave l d p h most = standing d p (begun Activation l) most refl
begun_paced Probe leave l d p h most = standing d p (begun Probe l) most refl
begun_paced (Transfer id) leave l d p h most = standing d p (begun (Transfer id) l) most refl
begun_paced (Again id number wanted) leave l d p h most = standing d p (begun (Again id number wanted) l) most refl
begun_paced Subscription leave l d p h most = standing d p (begun Subscription l) most refl
begun_paced (Items id) leave l d p h most = standing d p (begun (Items id) l) most refl
begun_paced (Publish ready remembered) leave l d p h most = standing d p (begun (Publish ready remembered) l) most refl
begun_paced (Modes mode ready id) leave l d p h most = standing d p (begun (Modes mode ready id) l) most refl

no_some : {A : Type 0} (ms : ℕ) → None ≡ Some ms → A
no_some ms e = absurd cc

no_true : {A : Type 0} (b : Bool) → b ≡ false → b ≡ true → A
no_true b e is = let bad : false ≡ true = sym e ∙ is in absurd cc

waits_more : {A : Type 0} (n : ℕ) → n ≡ 1000 → n ≡ 0 → A
waits_more n e is = absurd (omega (arith, e, is))

-- nothing that a leave without time and dial allows is a dial
move_paced : (leave : Leave) (move : Move) (l : LinkState) (d p : ℕ) → leave.time ≡ None → leave.dial ≡ false → IsFair leave move l
    → IsPaced d p l → IsPaced d p (done move l).link
move_paced leave (Turns did) l d p t i h paced =
    same_paced d p l did.link h.same.wait (λ e. idle_face l.phase (sym h.same.face ∙ ap face_of e)) paced
move_paced leave (Falls did) l d p t i h paced = record { most = paced.most; rested = λ e z. waits_more did.link.wait h.waits z }
move_paced leave (Ages ms) l d p t i h paced = no_some ms (sym t ∙ h)
move_paced leave Wishes l d p t i h paced = no_true leave.dial i h.1
move_paced leave (Greets url) l d p t i h paced = standing d p (done (Greets url) l).link paced.most refl
move_paced leave (Puts a) l d p t i h paced =
    same_paced d p (begun a l) (done (Puts a) l).link refl (λ e. e) (begun_paced a leave l d p h.0 paced.most)
move_paced leave (Sets mode ready id) l d p t i h paced =
    same_paced d p (begun (Modes mode ready id) l) (done (Sets mode ready id) l).link refl (λ e. e) (begun_paced (Modes mode ready id) leave l d p h paced.most)
move_paced leave (Confirms setting ready) l d p t i h paced = standing d p (done (Confirms setting ready) l).link paced.most refl
move_paced leave (Enters confirmed) l d p t i h paced = standing d p (done (Enters confirmed) l).link paced.most refl
move_paced leave (Completes confirmed items) l d p t i h paced = standing d p (done (Completes confirmed items) l).link paced.most refl
move_paced leave Loses l d p t i h paced = standing d p (done Loses l).link paced.most refl
move_paced leave (Makes id) l d p t i h paced = same_paced d p l (done (Makes id) l).link refl (λ e. e) paced
move_paced leave (Keeps number remembered) l d p t i h paced =
    let brings = alive_brings number remembered l in
    same_paced d p l (done (Keeps number remembered) l).link brings.wait (λ e. sym brings.phase ∙ e) paced
move_paced leave (Brings number values remembered) l d p t i h paced =
    let brings = data_brings number values remembered l in
    same_paced d p l (done (Brings number values remembered) l).link brings.wait (λ e. sym brings.phase ∙ e) paced
move_paced leave (Levels level) l d p t i h paced = same_paced d p l (done (Levels level) l).link refl (λ e. e) paced
move_paced leave (Probed level) l d p t i h paced = standing d p (done (Probed level) l).link paced.most refl
move_paced leave (Answers ready publishes since) l d p t i h paced =
    standing d p (done (Answers ready publishes since) l).link paced.most refl
move_paced leave (Seeks mode ready) l d p t i h paced = standing d p (done (Seeks mode ready) l).link paced.most refl

left_time : (move : Move) (leave : Leave) → leave.time ≡ None → (left move leave).time ≡ None
left_time (Puts a) leave h = by_asking a
  where
    by_asking : (a : Asking) → (left_asked a leave).time ≡ None
    by_asking (Items id) = h
    by_asking other = h
left_time (Ages ms) leave h = refl
left_time (Turns did) leave h = h
left_time other leave h = h

left_dial : (move : Move) (leave : Leave) → leave.dial ≡ false → (left move leave).dial ≡ false
left_dial (Puts a) leave h = by_asking a
  where
    by_asking : (a : Asking) → (left_asked a leave).dial ≡ false
    by_asking (Items id) = h
    by_asking other = h
left_dial Wishes leave h = refl
left_dial (Turns did) leave h = h
left_dial other leave h = h

moves_paced : (leave : Leave) (moves : List Move) (l : LinkState) (d p : ℕ) → leave.time ≡ None → leave.dial ≡ false → AreFair leave moves l
    → IsPaced d p l → IsPaced d p (done_all moves l).link
moves_paced leave [] l d p t i h paced = paced
moves_paced leave (move ∷ moves) l d p t i h paced =
    moves_paced (left move leave) moves (done move l).link d p (left_time move leave t) (left_dial move leave i) h.1
    (move_paced leave move l d p t i h.0 paced)

comes_paced : (leave : Leave) (l : LinkState) (did : LinkDid) (d p : ℕ) → leave.time ≡ None → leave.dial ≡ false → Comes leave l did
    → IsPaced d p l → IsPaced d p did.link
comes_paced leave l did d p t i comes paced =
    subst (λ (x : LinkDid). IsPaced d p x.link) (sym comes.is) (moves_paced leave comes.moves l d p t i comes.fair paced)

-- ---- events

dial_by : (l : LinkState) (d p : ℕ) (b : Bool) → may_dial l ≡ b → IsPaced d p l
    → IsPaced (d + (if b then 1 else 0)) p (if b then with_phase (phase.Dialing false) l else l)
dial_by l d p false e paced =
    let same : d + 0 ≡ d = omega arith in subst (λ n. IsPaced n p l) (sym same) paced
dial_by l d p true e paced =
    let rest : (is_idle_phase l.phase && (l.wait == 0)) ≡ true = both_true (is_idle_phase l.phase && (l.wait == 0)) (not l.unsupported) e in
    let idle_is : is_idle_phase l.phase ≡ true = both_true (is_idle_phase l.phase) (l.wait == 0) rest in
    let no_wait : l.wait ≡ 0 = wait_none (is_idle_phase l.phase) l.wait rest in
    let most : d ≤ p = paced.rested (idle_at l.phase idle_is) no_wait in
    let more : d + 1 ≤ p + 1 = omega (arith, most) in
    record { most = more; rested = λ i z. absurd cc }
  where
    idle_at : (p : Phase) → is_idle_phase p ≡ true → p ≡ phase.Idle
    idle_at phase.Idle e = refl
    idle_at (phase.Dialing taken) e = absurd cc
    idle_at phase.Hello e = absurd cc
    idle_at phase.Opening e = absurd cc
    idle_at phase.Creating e = absurd cc
    idle_at phase.Activating e = absurd cc
    idle_at phase.Probing e = absurd cc
    idle_at phase.Transferring e = absurd cc
    idle_at (phase.Republishing wanted) e = absurd cc
    idle_at phase.Subscribing e = absurd cc
    idle_at phase.Adding e = absurd cc
    idle_at (phase.Ready ready) e = absurd cc

    wait_none : (b : Bool) (n : ℕ) → (b && (n == 0)) ≡ true → n ≡ 0
    wait_none true n e = grind (arith, nat_tests)
    wait_none false n e = absurd cc

aged_paced : (ms : ℕ) (l : LinkState) (d p : ℕ) (b : Bool) → (ms == 0) ≡ b → IsPaced d p l → IsPaced d (p + (if b then 0 else 1)) (aged ms l)
aged_paced ms l d p true e paced =
    let none_is : ms ≡ 0 = grind (arith, nat_tests) in
    let same : p + 0 ≡ p = omega arith in
    record {
      most = subst (λ n. d ≤ n + 1) (sym same) paced.most;
      rested = λ i z. subst (λ n. d ≤ n) (sym same) (paced.rested i (let gone : l.wait - ms ≡ 0 = z in omega (arith, gone, none_is)));
    }
aged_paced ms l d p false e paced =
    let most : d ≤ p + 1 = paced.most in
    let more : d ≤ p + 1 + 1 = omega (arith, most) in
    record { most = more; rested = λ i z. most }

ticked_paced : (ms : ℕ) (l : LinkState) (d p : ℕ) → IsPaced d p l → IsPaced d (p + (if ms == 0 then 0 else 1)) (ticked ms l).link
unfolding ticked
ticked_paced ms l d p paced =
    comes_paced none (aged ms l) (if is_overdue (aged ms l) then broken (aged ms l) else keeps_up (aged ms l)) d (p + (if ms == 0 then 0 else 1)) refl refl
    (ticked_rest (aged ms l)) (aged_paced ms l d p (ms == 0) refl paced)

-- any other event
record IsTimeless (h : Happening) : Type 0 where
  pub time : (leave_of h).time ≡ None
  pub dial : (leave_of h).dial ≡ false
  pub no_dial : (l : LinkState) → dial_at h l ≡ 0
  pub no_tick : tick_at h ≡ 0

other_paced : (h : Happening) (l : LinkState) (d p : ℕ) → IsTimeless h → IsPaced d p l → IsPaced (d + dial_at h l) (p + tick_at h) (after h l).link
other_paced h l d p timeless paced =
    let none_dialled : d + dial_at h l ≡ d = omega (arith, timeless.no_dial l) in
    let none_passed : p + tick_at h ≡ p = omega (arith, timeless.no_tick) in
    subst (λ n. IsPaced n (p + tick_at h) (after h l).link) (sym none_dialled)
    (subst (λ n. IsPaced d n (after h l).link) (sym none_passed)
    (comes_paced (leave_of h) l (after h l) d p timeless.time timeless.dial (happens h l) paced))

record IsNow (leave : Leave) : Type 0 where
  pub time : leave.time ≡ None
  pub dial : leave.dial ≡ false

session_now : (r : SessionReply) → IsNow (leave_in (Some (reply.Session r)))
session_now (session_reply.ServiceFault h) = record { time = refl; dial = refl }
session_now (session_reply.Read r) = record { time = refl; dial = refl }
session_now other = record { time = refl; dial = refl }

sub_now : (r : SubReply) → IsNow (leave_in (Some (reply.Subscription r)))
sub_now (sub_reply.CreateSubscription r) = record { time = refl; dial = refl }
sub_now (sub_reply.Publish r) = record { time = refl; dial = refl }
sub_now (sub_reply.Republish r) = record { time = refl; dial = refl }
sub_now other = record { time = refl; dial = refl }

read_now : (result : Result Reply BodyFault) → IsNow (leave_read result)
read_now (Ok (reply.Session r)) = session_now r
read_now (Ok (reply.Subscription r)) = sub_now r
read_now (Err fault) = record { time = refl; dial = refl }

heard_now : (h : Heard) → IsNow (leave_heard h)
heard_now (said_of.Message number body) = read_now (body_at replies body)
heard_now other = record { time = refl; dial = refl }

event_paced : (h : Happening) (l : LinkState) (d p : ℕ) → IsPaced d p l → IsPaced (d + dial_at h l) (p + tick_at h) (after h l).link
event_paced step_rules.Dials l d p paced =
    let same : p + 0 ≡ p = omega arith in
    subst (λ n. IsPaced (d + dial_at step_rules.Dials l) n (dials l)) (sym same) (dial_by l d p (may_dial l) refl paced)
event_paced (step_rules.Ticks ms) l d p paced =
    let same : d + 0 ≡ d = omega arith in
    subst (λ n. IsPaced n (p + (if ms == 0 then 0 else 1)) (ticked ms l).link) (sym same) (ticked_paced ms l d p paced)
event_paced (step_rules.Hears heard) l d p paced =
    other_paced (step_rules.Hears heard) l d p
    (record { time = (heard_now heard).time; dial = (heard_now heard).dial; no_dial = λ x. refl; no_tick = refl }) paced
event_paced (step_rules.Wants mode) l d p paced =
    other_paced (step_rules.Wants mode) l d p (record { time = refl; dial = refl; no_dial = λ x. refl; no_tick = refl }) paced
event_paced other l d p paced = other_paced other l d p (record { time = refl; dial = refl; no_dial = λ x. refl; no_tick = refl }) paced

all_paced : (happenings : List Happening) (l : LinkState) (d p : ℕ) → IsPaced d p l
    → IsPaced (d + dials_in happenings l) (p + ticks_in happenings) (after_all happenings l).link
all_paced [] l d p paced =
    let one : d + 0 ≡ d = omega arith in
    let other : p + 0 ≡ p = omega arith in
    subst (λ n. IsPaced n (p + 0) l) (sym one) (subst (λ n. IsPaced d n l) (sym other) paced)
all_paced (h ∷ more) l d p paced =
    let next : LinkState = (after h l).link in
    let one : d + (dial_at h l + dials_in more next) ≡ d + dial_at h l + dials_in more next = omega arith in
    let other : p + (tick_at h + ticks_in more) ≡ p + tick_at h + ticks_in more = omega arith in
    let goes : IsPaced (d + dial_at h l + dials_in more next) (p + tick_at h + ticks_in more) (after_all more next).link =
    all_paced more next (d + dial_at h l) (p + tick_at h) (event_paced h l d p paced) in
    subst (λ n. IsPaced n (p + (tick_at h + ticks_in more)) (after_all more next).link) (sym one)
    (subst (λ n. IsPaced (d + dial_at h l + dials_in more next) n (after_all more next).link) (sym other) goes)

pub dials_are_paced : (config : LinkConfig) (happenings : List Happening) → dials_in happenings (new_link config) ≤ ticks_in happenings + 1
dials_are_paced config happenings =
    let goes : 0 + dials_in happenings (new_link config) ≤ 0 + ticks_in happenings + 1 =
    (all_paced happenings (new_link config) 0 0 (record { most = omega arith; rested = λ i z. omega arith })).most in
    omega (arith, goes)
