-- At most two Publishes wait.
use Rattle.std.proofs.Common.{◌≡◌, ℕ, ◌+◌, ◌*◌, ◌==◌, ◌≤◌, zero, suc, List, [], ◌∷◌, ◌++◌, Bool, true, false, Option, Some, None, Result, Ok, Err, if◌then◌else◌, refl, sym, ap, ◌∙◌, subst, arith}
use Rattle.std.specs.List.{find}
use Rattle.ua_structures.specs.declared.body.BodyFault.{BodyFault}
use Rattle.ua_structures.specs.Body.{body_at}
use Rattle.ua_channel.specs.declared.heard.Heard.{Heard}
use Rattle.ua_channel.specs.declared.heard.Heard.TheVariants as said_of
use Rattle.ua_session_msgs.specs.declared.reply.SessionReply.{SessionReply}
use Rattle.ua_session_msgs.specs.declared.reply.SessionReply.TheVariants as session_reply
use Rattle.ua_sub_msgs.specs.declared.notification.MonitoredItemNotification.{MonitoredItemNotification}
use Rattle.ua_sub_msgs.specs.declared.reply.SubReply.{SubReply}
use Rattle.ua_sub_msgs.specs.declared.reply.SubReply.TheVariants as sub_reply
use Rattle.ua_services.specs.declared.reply.Reply.{Reply}
use Rattle.ua_services.specs.declared.reply.Reply.TheVariants as reply
use Rattle.ua_services.specs.Families.{replies}
use Rattle.link_rules.specs.declared.notice.Notice.{Notice}
use Rattle.link_rules.specs.declared.notice.Notice.TheVariants as notice
use Rattle.link_rules.specs.declared.phase.Phase.{Phase}
use Rattle.link_rules.specs.declared.phase.Phase.TheVariants as phase
use Rattle.link_rules.specs.declared.phase.Publishes.{Publishes}
use Rattle.link_rules.specs.declared.phase.Publishes.TheVariants.{Zero, One, Two}
use Rattle.link_rules.specs.declared.phase.ReadyState.{ReadyState}
use Rattle.link_rules.specs.declared.remembered.Monitored.{Monitored}
use Rattle.link_rules.specs.declared.remembered.Remembered.{Remembered}
use Rattle.link_rules.specs.State.{LinkState, is_ready}
use Rattle.link_rules.specs.Said.{LinkDid, Said, Told, Limited, Renewed, Greeted, Opens, Asks, nothing, tells}
use Rattle.link_rules.specs.Asking.{next_request}
use Rattle.link_rules.specs.Messages.{acknowledged, all_taken, awaits, data_taken, has_handle, kept_alive, newest, taken_as, taken_of}
use Rattle.link_rules.specs.Numbers.{is_jump, is_next}
use Rattle.link_rules.specs.Publishing.{has_room, one_more}
use Rattle.link_rules.specs.Ready.{answered}
use Rattle.link_rules.specs.Subscribing.{streams}
use Rattle.link_rules.specs.Step as step_rules
use Rattle.link_rules.specs.Step.{Happening, after, after_all}
use Rattle.link_laws.specs.Taken.{heard_reply, reply_by, reply_of}
use Rattle.link_laws.specs.Lockstep.{is_publish}
use Rattle.link_laws.specs.Waiting.{answer_in, answers_in, publishes_put, readies_told, ready_told, room, room_for, room_in}
use Rattle.link_laws.proofs.Moves.{AreFair, ArePlain, AreSilent, Asking, Channel, Session, Activation, Probe, Transfer, Again, Subscription, Items, Publish, Modes, Level, Renewal, Face, Sends, IsFair, IsPlain, IsSilent, Leave, MayAsk, Move, Turns, Falls, Ages, Wishes, Greets, Puts, Enters, Completes, Loses, Makes, Keeps, Brings, Levels, Probed, Answers, Seeks, Sets, Confirms, begun, done, done_all, face_of, left, left_asked, leave_heard, leave_in, leave_of, leave_read, lost_if}
use Rattle.link_laws.proofs.Opening.{happens}
use Rattle.link_laws.proofs.Plain.{alive_brings, data_brings}
use Rattle.link_laws.proofs.Reading.{asks_publish, is_publishing}

-- ---- counts

puts_join : (one other : List Said) → publishes_put (one ++ other) ≡ publishes_put one + publishes_put other
puts_join [] other = omega arith
puts_join (said ∷ one) other =
    sum (if is_publish said.told then 1 else 0) (publishes_put one) (publishes_put other) (publishes_put (one ++ other)) (puts_join one other)
  where
    sum : (a b c all : ℕ) → all ≡ b + c → a + all ≡ a + b + c
    sum a b c all e = omega (arith, e)

readies_join : (one other : List Notice) → readies_told (one ++ other) ≡ readies_told one + readies_told other
readies_join [] other = omega arith
readies_join (n ∷ one) other =
    sum (ready_told n) (readies_told one) (readies_told other) (readies_told (one ++ other)) (readies_join one other)
  where
    sum : (a b c all : ℕ) → all ≡ b + c → a + all ≡ a + b + c
    sum a b c all e = omega (arith, e)

silent_one : (told : Told) → IsSilent told → is_publish told ≡ false
silent_one (Greeted greeting url) h = refl
silent_one (Opens number r) h = refl
silent_one (Asks number r) h = absurd h
silent_one (Limited limits) h = refl
silent_one (Renewed channel token) h = refl

silent_puts : (said : List Said) → AreSilent said → publishes_put said ≡ 0
silent_puts [] h = refl
silent_puts (one ∷ more) h =
    ap (λ b. (if b then 1 else 0) + publishes_put more) (silent_one one.told h.0) ∙ ap (λ n. 0 + n) (silent_puts more h.1)

-- ---- room

abbrev room_of : Face → ℕ
room_of (Sends wanted publishes setting confirmed) = room_for publishes
room_of other = 0

room_face : (p : Phase) → room_in p ≡ room_of (face_of p)
room_face phase.Idle = refl
room_face (phase.Dialing taken) = refl
room_face phase.Hello = refl
room_face phase.Opening = refl
room_face phase.Creating = refl
room_face phase.Activating = refl
room_face phase.Probing = refl
room_face phase.Transferring = refl
room_face (phase.Republishing wanted) = refl
room_face phase.Subscribing = refl
room_face phase.Adding = refl
room_face (phase.Ready ready) = refl

room_at : (l : LinkState) (ready : ReadyState) → l.phase ≡ phase.Ready ready → room l ≡ room_for ready.publishes
room_at l ready e = ap room_in e

less_room : (handle : ℕ) (p : Publishes) → has_room p ≡ true → room_for (one_more handle p) + 1 ≡ room_for p
less_room handle Zero e = refl
less_room handle (One first) e = refl
less_room handle (Two first second) e = absurd cc

more_room : (handle : ℕ) (p rest : Publishes) → answered handle p ≡ Some rest → room_for rest ≡ room_for p + 1
more_room handle Zero rest e = absurd cc
more_room handle (One first) rest e = by_test (first == handle) e
  where
    by_test : (b : Bool) → (if b then Some Zero else None) ≡ Some rest → room_for rest ≡ 1 + 1
    by_test true e = let same : Zero ≡ rest = cc in sym (ap room_for same)
    by_test false e = absurd cc
more_room handle (Two first second) rest e = by_tests (first == handle) (second == handle) e
  where
    by_tests : (a b : Bool) → (if a then Some (One second) else if b then Some (One first) else None) ≡ Some rest → room_for rest ≡ 0 + 1
    by_tests true b e = let same : One second ≡ rest = cc in sym (ap room_for same)
    by_tests false true e = let same : One first ≡ rest = cc in sym (ap room_for same)
    by_tests false false e = absurd cc

-- ---- notices

plain_ready : (n : Notice) → IsPlain n → ready_told n ≡ 0
plain_ready notice.Ready h = absurd h
plain_ready other h = refl

plain_readies : (notices : List Notice) → ArePlain notices → readies_told notices ≡ 0
plain_readies [] h = refl
plain_readies (n ∷ more) h = ap (λ x. x + readies_told more) (plain_ready n h.0) ∙ ap (λ x. 0 + x) (plain_readies more h.1)

lost_readies : (b : Bool) → readies_told (lost_if b) ≡ 0
lost_readies true = refl
lost_readies false = refl

none_both : (one other : ℕ) → one ≡ 0 → other ≡ 0 → one + other ≡ 0
none_both one other e f = omega (arith, e, f)

taken_readies : (o : Option Monitored) (one : MonitoredItemNotification) → readies_told (taken_as o one.value) ≡ 0
taken_readies None one = refl
taken_readies (Some monitored) one = refl

all_readies : (items : List Monitored) (values : List MonitoredItemNotification) → readies_told (all_taken items values) ≡ 0
all_readies items [] = refl
all_readies items (one ∷ values) =
    readies_join (taken_of items one) (all_taken items values)
    ∙ none_both (readies_told (taken_of items one)) (readies_told (all_taken items values))
    (taken_readies (find (has_handle one.client_handle) items) one) (all_readies items values)

streams_readies : (count : ℕ) → readies_told (streams count) ≡ 0
streams_readies zero = refl
streams_readies (suc count) =
    readies_join (streams count) (notice.Stream (suc count) ∷ []) ∙ ap (λ n. n + 0) (streams_readies count)

alive_readies : (number : ℕ) (r : Remembered) (l : LinkState) → readies_told (kept_alive number r l).notices ≡ 0
unfolding kept_alive
alive_readies number r l = by_test (is_jump r.next number)
  where
    by_test : (b : Bool) → readies_told (if b then tells (notice.Jump ∷ []) (awaits number r l) else nothing l).notices ≡ 0
    by_test true = refl
    by_test false = refl

data_readies : (number : ℕ) (values : List MonitoredItemNotification) (r : Remembered) (l : LinkState)
    → readies_told (data_taken number values r l).notices ≡ 0
unfolding data_taken
data_readies number values r l = by_tests (is_next r.next number) (is_jump r.next number)
  where
    by_tests : (a b : Bool) → readies_told (if a then tells (all_taken l.monitored values) (newest number r l)
        else if b then tells (notice.Jump ∷ all_taken l.monitored values) (newest number r l)
        else nothing (acknowledged number l)).notices ≡ 0
    by_tests true b = all_readies l.monitored values
    by_tests false true = ap (λ n. 0 + n) (all_readies l.monitored values)
    by_tests false false = refl

-- ---- moves

abbrev given : Leave → ℕ
given leave = if leave.answer then 1 else 0

-- what is put, and what may still be, is what could be before or comes with an answer or with a new beginning
record IsPaced (before : ℕ) (l : LinkState) (later : ℕ) (did : LinkDid) : Type 0 where
  pub most : publishes_put did.said + room did.link + later ≤ 2 * readies_told did.notices + room l + before

-- nothing is put, and nothing begins
quiet_paced : (before : ℕ) (l : LinkState) (later : ℕ) (did : LinkDid) → publishes_put did.said ≡ 0 → readies_told did.notices ≡ 0
    → room did.link + later ≤ room l + before → IsPaced before l later did
quiet_paced before l later did puts readies h =
    record { most = sum (publishes_put did.said) (room did.link) later (readies_told did.notices) (room l) before puts readies h }
  where
    sum : (p r a t s b : ℕ) → p ≡ 0 → t ≡ 0 → r + a ≤ s + b → p + r + a ≤ 2 * t + s + b
    sum p r a t s b e f h = omega (arith, e, f, h)

no_less : (one other before later : ℕ) → one ≡ other → later ≤ before → one + later ≤ other + before
no_less one other before later e h = omega (arith, e, h)

less : (one other before later : ℕ) → one ≡ 0 → later ≤ before → one + later ≤ other + before
less one other before later e h = omega (arith, e, h)

-- it becomes ready
begins_paced : (before : ℕ) (l : LinkState) (did : LinkDid) → publishes_put did.said ≡ 0 → readies_told did.notices ≡ 1 → room did.link ≡ 2
    → IsPaced before l before did
begins_paced before l did puts readies rooms =
    record { most = sum (publishes_put did.said) (room did.link) (readies_told did.notices) (room l) before puts readies rooms }
  where
    sum : (p r t s b : ℕ) → p ≡ 0 → t ≡ 1 → r ≡ 2 → p + r + b ≤ 2 * t + s + b
    sum p r t s b e f g = omega (arith, e, f, g)

at_least : (n : ℕ) → n ≤ n
at_least n = omega arith

one_put : (a : Asking) (l : LinkState) → publishes_put (done (Puts a) l).said ≡ (if is_publishing a then 1 else 0) + 0
one_put a l = ap (λ b. (if b then 1 else 0) + 0) (asks_publish a l)

other_paced : (leave : Leave) (a : Asking) (l : LinkState) → is_publishing a ≡ false → given (left_asked a leave) ≡ given leave
    → room (begun a l) ≤ room l → IsPaced (given leave) l (given (left_asked a leave)) (done (Puts a) l)
other_paced leave a l other same rooms =
    quiet_paced (given leave) l (given (left_asked a leave)) (done (Puts a) l) (one_put a l ∙ ap (λ b. (if b then 1 else 0) + 0) other) refl
    (sum (room (begun a l)) (room l) (given leave) (given (left_asked a leave)) rooms same)
  where
    sum : (r s b a : ℕ) → r ≤ s → a ≡ b → r + a ≤ s + b
    sum r s b a h e = omega (arith, h, e)

nothing_less : (n : ℕ) → 0 ≤ n
nothing_less n = omega arith

same_less : (one other : ℕ) → one ≡ other → one ≤ other
same_less one other e = omega (arith, e)

puts_paced : (leave : Leave) (a : Asking) (l : LinkState) → MayAsk leave a l → IsPaced (given leave) l (given (left_asked a leave)) (done (Puts a) l)
puts_paced leave (Publish ready remembered) l h =
    record {
      most = sum (publishes_put (done (Puts (Publish ready remembered)) l).said)
          (room_for (one_more (next_request l) ready.publishes)) (given leave) (room l) (room_for ready.publishes) (one_put (Publish ready remembered) l)
          (room_at l ready h.0) (less_room (next_request l) ready.publishes h.2);
    }
  where
    sum : (p r b s q : ℕ) → p ≡ 1 + 0 → s ≡ q → r + 1 ≡ q → p + r + b ≤ 2 * 0 + s + b
    sum p r b s q e f g = omega (arith, e, f, g)
puts_paced leave (Modes mode ready id) l h =
    other_paced leave (Modes mode ready id) l refl refl (same_less (room (begun (Modes mode ready id) l)) (room l) (sym (room_at l ready h.0)))
puts_paced leave Level l h = other_paced leave Level l refl refl (at_least (room l))
puts_paced leave Renewal l h = other_paced leave Renewal l refl refl (at_least (room l))
puts_paced leave Channel l h = other_paced leave Channel l refl refl (nothing_less (room l))
puts_paced leave Session l h = other_paced leave Session l refl refl (nothing_less (room l))
puts_paced leave Activation l h = other_paced leave Activation l refl refl (nothing_less (room l))
puts_paced leave Probe l h = other_paced leave Probe l refl refl (nothing_less (room l))
puts_paced leave (Transfer id) l h = other_paced leave (Transfer id) l refl refl (nothing_less (room l))
puts_paced leave (Again id number wanted) l h = other_paced leave (Again id number wanted) l refl refl (nothing_less (room l))
puts_paced leave Subscription l h = other_paced leave Subscription l refl refl (nothing_less (room l))
puts_paced leave (Items id) l h = other_paced leave (Items id) l refl refl (nothing_less (room l))

move_paced : (leave : Leave) (move : Move) (l : LinkState) → IsFair leave move l → IsPaced (given leave) l (given (left move leave)) (done move l)
move_paced leave (Turns did) l h =
    quiet_paced (given leave) l (given leave) did (silent_puts did.said h.silent) (plain_readies did.notices h.plain)
    (no_less (room did.link) (room l) (given leave) (given leave) (room_face did.link.phase ∙ ap room_of h.same.face ∙ sym (room_face l.phase)) (at_least (given leave)))
move_paced leave (Falls did) l h =
    quiet_paced (given leave) l (given leave) did (ap publishes_put h.said) (ap readies_told h.told ∙ lost_readies (is_ready l))
    (less (room did.link) (room l) (given leave) (given leave) (ap room_in h.rests) (at_least (given leave)))
move_paced leave (Ages ms) l h =
    quiet_paced (given leave) l (given leave) (done (Ages ms) l) refl refl (at_least (room l + given leave))
move_paced leave Wishes l h =
    quiet_paced (given leave) l (given leave) (done Wishes l) refl refl (less 0 (room l) (given leave) (given leave) refl (at_least (given leave)))
move_paced leave (Greets url) l h =
    quiet_paced (given leave) l (given leave) (done (Greets url) l) refl refl (less 0 (room l) (given leave) (given leave) refl (at_least (given leave)))
move_paced leave (Puts a) l h = puts_paced leave a l h.0
move_paced leave (Sets mode ready id) l h =
    let paced : IsPaced (given leave) l (given leave) (done (Puts (Modes mode ready id)) l) = puts_paced leave (Modes mode ready id) l h in
    record { most = paced.most }
move_paced leave (Confirms setting ready) l h =
    quiet_paced (given leave) l (given leave) (done (Confirms setting ready) l) refl refl
    (no_less (room_for ready.publishes) (room l) (given leave) (given leave) (sym (room_at l ready h.0)) (at_least (given leave)))
move_paced leave (Enters confirmed) l h = begins_paced (given leave) l (done (Enters confirmed) l) refl refl refl
move_paced leave (Completes confirmed items) l h = begins_paced (given leave) l (done (Completes confirmed items) l) refl refl refl
move_paced leave Loses l h =
    quiet_paced (given leave) l (given leave) (done Loses l) refl refl (less 0 (room l) (given leave) (given leave) refl (at_least (given leave)))
move_paced leave (Makes id) l h =
    quiet_paced (given leave) l (given leave) (done (Makes id) l) refl (streams_readies l.config.items) (at_least (room l + given leave))
move_paced leave (Keeps number r) l h =
    quiet_paced (given leave) l (given leave) (done (Keeps number r) l) (ap publishes_put (alive_brings number r l).said) (alive_readies number r l)
    (no_less (room (done (Keeps number r) l).link) (room l) (given leave) (given leave) (ap room_in (alive_brings number r l).phase) (at_least (given leave)))
move_paced leave (Brings number values r) l h =
    quiet_paced (given leave) l (given leave) (done (Brings number values r) l) (ap publishes_put (data_brings number values r l).said) (data_readies number values r l)
    (no_less (room (done (Brings number values r) l).link) (room l) (given leave) (given leave) (ap room_in (data_brings number values r l).phase) (at_least (given leave)))
move_paced leave (Levels level) l h =
    quiet_paced (given leave) l (given leave) (done (Levels level) l) refl refl (at_least (room l + given leave))
move_paced leave (Probed level) l h =
    quiet_paced (given leave) l (given leave) (done (Probed level) l) refl refl (less 0 (room l) (given leave) (given leave) refl (at_least (given leave)))
move_paced leave (Answers ready publishes since) l h =
    quiet_paced (given leave) l 0 (done (Answers ready publishes since) l) refl refl
    (sum (room_for publishes) (room l) (given leave) (room_for ready.publishes) (more_room h.2.0 ready.publishes publishes h.2.1) (room_at l ready h.0)
    (ap (λ b. if b then 1 else 0) h.1))
  where
    sum : (r s b q : ℕ) → r ≡ q + 1 → s ≡ q → b ≡ 1 → r + 0 ≤ s + b
    sum r s b q e f g = omega (arith, e, f, g)
move_paced leave (Seeks mode ready) l h =
    quiet_paced (given leave) l (given leave) (done (Seeks mode ready) l) refl refl
    (no_less (room_for ready.publishes) (room l) (given leave) (given leave) (sym (room_at l ready h.0)) (at_least (given leave)))

paced_then : (before : ℕ) (l : LinkState) (middle later : ℕ) (did next : LinkDid) → IsPaced before l middle did → IsPaced middle did.link later next
    → IsPaced before l later (record { link = next.link; said = did.said ++ next.said; notices = did.notices ++ next.notices })
paced_then before l middle later did next one other = record {
  most = sum (publishes_put did.said) (publishes_put next.said) (publishes_put (did.said ++ next.said)) (room did.link) (room next.link) middle later
      (readies_told did.notices) (readies_told next.notices) (readies_told (did.notices ++ next.notices)) (room l) before
      (puts_join did.said next.said) (readies_join did.notices next.notices) one.most other.most;
}
  where
    sum : (p q all r s m a t u told o b : ℕ) → all ≡ p + q → told ≡ t + u → p + r + m ≤ 2 * t + o + b → q + s + a ≤ 2 * u + r + m
        → all + s + a ≤ 2 * told + o + b
    sum p q all r s m a t u told o b e f g h = omega (arith, e, f, g, h)

moves_paced : (leave : Leave) (moves : List Move) (l : LinkState) → AreFair leave moves l → IsPaced (given leave) l 0 (done_all moves l)
moves_paced leave [] l h = quiet_paced (given leave) l 0 (nothing l) refl refl (sum (room l) (given leave))
  where
    sum : (s b : ℕ) → s + 0 ≤ s + b
    sum s b = omega arith
moves_paced leave (move ∷ moves) l h =
    paced_then (given leave) l (given (left move leave)) 0 (done move l) (done_all moves (done move l).link) (move_paced leave move l h.0)
    (moves_paced (left move leave) moves (done move l).link h.1)

-- ---- events

session_given : (r : SessionReply) → given (leave_in (Some (reply.Session r))) ≡ answer_in (Some (reply.Session r))
session_given (session_reply.ServiceFault h) = refl
session_given (session_reply.Read r) = refl
session_given other = refl

sub_given : (r : SubReply) → given (leave_in (Some (reply.Subscription r))) ≡ answer_in (Some (reply.Subscription r))
sub_given (sub_reply.CreateSubscription r) = refl
sub_given (sub_reply.Publish r) = refl
sub_given (sub_reply.Republish r) = refl
sub_given other = refl

read_given : (result : Result Reply BodyFault) → given (leave_read result) ≡ answer_in (reply_by result)
read_given (Ok (reply.Session r)) = session_given r
read_given (Ok (reply.Subscription r)) = sub_given r
read_given (Err fault) = refl

heard_given : (h : Heard) → given (leave_heard h) ≡ answer_in (heard_reply h)
heard_given (said_of.Message number body) = read_given (body_at replies body)
heard_given other = refl

event_given : (h : Happening) → given (leave_of h) ≡ answer_in (reply_of h)
event_given (step_rules.Hears heard) = heard_given heard
event_given (step_rules.Ticks ms) = refl
event_given (step_rules.Wants mode) = refl
event_given step_rules.Dials = refl
event_given other = refl

event_paced : (h : Happening) (l : LinkState) → IsPaced (answer_in (reply_of h)) l 0 (after h l)
event_paced h l =
    let comes = happens h l in
    subst (λ n. IsPaced n l 0 (after h l)) (event_given h)
    (subst (IsPaced (given (leave_of h)) l 0) (sym comes.is) (moves_paced (leave_of h) comes.moves l comes.fair))

all_paced : (happenings : List Happening) (l : LinkState) → IsPaced (answers_in happenings) l 0 (after_all happenings l)
all_paced [] l = quiet_paced 0 l 0 (nothing l) refl refl (at_least (room l + 0))
all_paced (h ∷ more) l =
    let did : LinkDid = after h l in
    let next : LinkDid = after_all more did.link in
    let one : IsPaced (answer_in (reply_of h) + answers_in more) l (answers_in more) did =
    record { most = more_by (publishes_put did.said) (room did.link) (readies_told did.notices) (room l) (answer_in (reply_of h)) (answers_in more) (event_paced h l).most } in
    paced_then (answer_in (reply_of h) + answers_in more) l (answers_in more) 0 did next one (all_paced more did.link)
  where
    more_by : (p r t s a b : ℕ) → p + r + 0 ≤ 2 * t + s + a → p + r + b ≤ 2 * t + s + (a + b)
    more_by p r t s a b h = omega (arith, h)

pub publishes_are_few : (happenings : List Happening) (l : LinkState)
    → publishes_put (after_all happenings l).said + room (after_all happenings l).link
    ≤ 2 * readies_told (after_all happenings l).notices + room l + answers_in happenings
publishes_are_few happenings l =
    let did : LinkDid = after_all happenings l in
    less_zero (publishes_put did.said) (room did.link) (2 * readies_told did.notices + room l + answers_in happenings) (all_paced happenings l).most
  where
    less_zero : (p r n : ℕ) → p + r + 0 ≤ n → p + r ≤ n
    less_zero p r n h = omega (arith, h)
