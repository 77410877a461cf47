-- Modes that are asked for are told, confirmed one after another, and not more than are wanted.
use Rattle.std.proofs.Common.{◌≡◌, ℕ, ℤ, ◌+◌, ◌≤◌, zero, suc, List, [], ◌∷◌, ◌++◌, length, Bool, true, false, Option, Some, None, Result, Ok, Err, if◌then◌else◌, refl, sym, ap, ◌∙◌, subst, arith, append_assoc, length-append}
use Rattle.std.proofs.lemmas.List.{append-nil}
use Rattle.std.specs.Prelude.{pos}
use Rattle.std.specs.List.{find}
use Rattle.ua_base.specs.declared.modes.Mode.{Mode}
use Rattle.ua_base.specs.declared.modes.Mode.TheVariants.{Disabled, Sampling, Reporting}
use Rattle.ua_base.specs.Modes.{mode_number}
use Rattle.ua_structures.specs.declared.body.BodyFault.{BodyFault}
use Rattle.ua_structures.specs.Body.{body_at}
use Rattle.ua_channel.specs.declared.heard.Heard.{Heard}
use Rattle.ua_channel.specs.declared.heard.Heard.TheVariants as said_of
use Rattle.ua_session_msgs.specs.declared.reply.SessionReply.{SessionReply}
use Rattle.ua_session_msgs.specs.declared.reply.SessionReply.TheVariants as session_reply
use Rattle.ua_sub_msgs.specs.declared.notification.MonitoredItemNotification.{MonitoredItemNotification}
use Rattle.ua_sub_msgs.specs.declared.reply.SubReply.{SubReply}
use Rattle.ua_sub_msgs.specs.declared.reply.SubReply.TheVariants as sub_reply
use Rattle.ua_services.specs.declared.reply.Reply.{Reply}
use Rattle.ua_services.specs.declared.reply.Reply.TheVariants as reply
use Rattle.ua_services.specs.Families.{replies}
use Rattle.link_rules.specs.declared.notice.Notice.{Notice}
use Rattle.link_rules.specs.declared.notice.Notice.TheVariants as notice
use Rattle.link_rules.specs.declared.phase.Phase.{Phase}
use Rattle.link_rules.specs.declared.phase.Phase.TheVariants as phase
use Rattle.link_rules.specs.declared.phase.ReadyState.{ReadyState}
use Rattle.link_rules.specs.declared.phase.Setting.{Setting}
use Rattle.link_rules.specs.declared.remembered.Monitored.{Monitored}
use Rattle.link_rules.specs.declared.remembered.Remembered.{Remembered}
use Rattle.link_rules.specs.State.{LinkState, is_ready}
use Rattle.link_rules.specs.Said.{LinkDid, Said, nothing, tells}
use Rattle.link_rules.specs.Messages.{acknowledged, all_taken, awaits, data_taken, has_handle, kept_alive, newest, taken_as, taken_of}
use Rattle.link_rules.specs.Numbers.{is_jump, is_next}
use Rattle.link_rules.specs.Publishing.{is_mode, mode_due_by, unless_confirmed}
use Rattle.link_rules.specs.Subscribing.{streams}
use Rattle.link_rules.specs.Step as step_rules
use Rattle.link_rules.specs.Step.{Happening, after, after_all}
use Rattle.link_laws.specs.Asked.{mode_asked}
use Rattle.link_laws.specs.Setting.{lost_told, losts_told, mode_confirmed, mode_sent, modes_confirmed, modes_put, modes_sent, one_mode, pending, pending_in, setting_mode, wish_at, wishes_in}
use Rattle.link_laws.proofs.Moves.{AreFair, ArePlain, AreSilent, Asking, Channel, Session, Activation, Probe, Transfer, Again, Subscription, Items, Publish, Modes, Level, Renewal, Face, Rests, Calls, Begins, Probes, Adds, Sends, IsFair, IsOther, IsPlain, Leave, MayAsk, Move, Turns, Falls, Ages, Wishes, Greets, Puts, Enters, Completes, Loses, Makes, Keeps, Brings, Levels, Probed, Answers, Seeks, Sets, Confirms, begun, done, done_all, face_of, left, left_asked, leave_heard, leave_in, leave_of, leave_read, lost_if, mode_of, sends}
use Rattle.link_laws.proofs.Coming.{begun_unready, ready_face}
use Rattle.link_laws.proofs.Opening.{happens}
use Rattle.link_laws.proofs.Alternating.{dial_unready}
use Rattle.link_laws.proofs.Plain.{alive_brings, data_brings}
use Rattle.link_laws.proofs.Modes.{asks_mode, mode_by, no_mode}

-- ---- notices

-- those that tell no mode, and no loss
record TellsNone (notices : List Notice) : Type 0 where
  pub sent : modes_sent notices ≡ []
  pub confirmed : modes_confirmed notices ≡ []

no_notice : TellsNone []
no_notice = record { sent = refl; confirmed = refl }

one_notice : (n : Notice) (more : List Notice) → mode_sent n ≡ [] → mode_confirmed n ≡ [] → TellsNone more → TellsNone (n ∷ more)
one_notice n more sent confirmed h = record {
  sent = ap (λ (x : List ℤ). x ++ modes_sent more) sent ∙ h.sent;
  confirmed = ap (λ (x : List ℤ). x ++ modes_confirmed more) confirmed ∙ h.confirmed;
}

sent_join : (one other : List Notice) → modes_sent (one ++ other) ≡ modes_sent one ++ modes_sent other
sent_join [] other = refl
sent_join (n ∷ one) other =
    ap (λ (x : List ℤ). mode_sent n ++ x) (sent_join one other) ∙ sym (append_assoc (mode_sent n) (modes_sent one) (modes_sent other))

confirmed_join : (one other : List Notice) → modes_confirmed (one ++ other) ≡ modes_confirmed one ++ modes_confirmed other
confirmed_join [] other = refl
confirmed_join (n ∷ one) other =
    ap (λ (x : List ℤ). mode_confirmed n ++ x) (confirmed_join one other)
    ∙ sym (append_assoc (mode_confirmed n) (modes_confirmed one) (modes_confirmed other))

losts_join : (one other : List Notice) → losts_told (one ++ other) ≡ losts_told one + losts_told other
losts_join [] other = omega arith
losts_join (n ∷ one) other = sum (lost_told n) (losts_told one) (losts_told other) (losts_told (one ++ other)) (losts_join one other)
  where
    sum : (a b c all : ℕ) → all ≡ b + c → a + all ≡ a + b + c
    sum a b c all e = omega (arith, e)

none_join : (one other : List Notice) → TellsNone one → TellsNone other → TellsNone (one ++ other)
none_join one other h rest = record {
  sent = sent_join one other ∙ ap (λ (x : List ℤ). x ++ modes_sent other) h.sent ∙ rest.sent;
  confirmed = confirmed_join one other ∙ ap (λ (x : List ℤ). x ++ modes_confirmed other) h.confirmed ∙ rest.confirmed;
}

plain_none : (notices : List Notice) → ArePlain notices → TellsNone notices
plain_none [] h = no_notice
plain_none (n ∷ more) h = by_notice n h.0 (plain_none more h.1)
  where
    by_notice : (n : Notice) → IsPlain n → TellsNone more → TellsNone (n ∷ more)
    by_notice (notice.Sent mode) h rest = absurd h
    by_notice (notice.Confirmed mode) h rest = absurd h
    by_notice other h rest = one_notice other more refl refl rest

lost_none : (b : Bool) → TellsNone (lost_if b)
lost_none true = record { sent = refl; confirmed = refl }
lost_none false = no_notice

taken_none : (o : Option Monitored) (one : MonitoredItemNotification) → TellsNone (taken_as o one.value)
taken_none None one = no_notice
taken_none (Some monitored) one = record { sent = refl; confirmed = refl }

all_none : (items : List Monitored) (values : List MonitoredItemNotification) → TellsNone (all_taken items values)
all_none items [] = no_notice
all_none items (one ∷ values) =
    none_join (taken_of items one) (all_taken items values) (taken_none (find (has_handle one.client_handle) items) one) (all_none items values)

streams_none : (count : ℕ) → TellsNone (streams count)
streams_none zero = no_notice
streams_none (suc count) =
    none_join (streams count) (notice.Stream (suc count) ∷ []) (streams_none count) (record { sent = refl; confirmed = refl })

alive_none : (number : ℕ) (r : Remembered) (l : LinkState) → TellsNone (kept_alive number r l).notices
unfolding kept_alive
alive_none number r l = by_test (is_jump r.next number)
  where
    by_test : (b : Bool) → TellsNone (if b then tells (notice.Jump ∷ []) (awaits number r l) else nothing l).notices
    by_test true = record { sent = refl; confirmed = refl }
    by_test false = no_notice

data_none : (number : ℕ) (values : List MonitoredItemNotification) (r : Remembered) (l : LinkState) → TellsNone (data_taken number values r l).notices
unfolding data_taken
data_none number values r l = by_tests (is_next r.next number) (is_jump r.next number)
  where
    by_tests : (a b : Bool) → TellsNone (if a then tells (all_taken l.monitored values) (newest number r l)
        else if b then tells (notice.Jump ∷ all_taken l.monitored values) (newest number r l)
        else nothing (acknowledged number l)).notices
    by_tests true b = all_none l.monitored values
    by_tests false true = one_notice notice.Jump (all_taken l.monitored values) refl refl (all_none l.monitored values)
    by_tests false false = no_notice

-- ---- what is put

put_join : (one other : List Said) → modes_put (one ++ other) ≡ modes_put one ++ modes_put other
put_join [] other = refl
put_join (said ∷ one) other =
    ap (λ (x : List ℤ). one_mode (mode_asked said.told) ++ x) (put_join one other)
    ∙ sym (append_assoc (one_mode (mode_asked said.told)) (modes_put one) (modes_put other))

silent_none : (said : List Said) → AreSilent said → modes_put said ≡ []
silent_none [] h = refl
silent_none (one ∷ more) h =
    ap (λ o. one_mode o ++ modes_put more) (no_mode one.told h.0) ∙ silent_none more h.1

other_mode : (a : Asking) → IsOther a → mode_by a ≡ None
other_mode (Modes mode ready id) h = absurd h
other_mode Channel h = refl
other_mode other h = refl

put_one : (a : Asking) (l : LinkState) (o : Option ℤ) → mode_by a ≡ o → modes_put (done (Puts a) l).said ≡ one_mode o ++ []
put_one a l o e = ap (λ x. one_mode x ++ []) (asks_mode a l ∙ e)

-- ---- what waits, and what is still wanted

abbrev mode_list : Option Mode → List ℤ
mode_list None = []
mode_list (Some mode) = pos (mode_number mode) ∷ []

abbrev pending_of : Face → List ℤ
pending_of (Sends wanted publishes setting confirmed) = mode_list setting
pending_of other = []

setting_list : (s : Option Setting) → setting_mode s ≡ mode_list (mode_of s)
setting_list None = refl
setting_list (Some setting) = refl

pending_face : (p : Phase) → pending_in p ≡ pending_of (face_of p)
pending_face phase.Idle = refl
pending_face (phase.Dialing taken) = refl
pending_face phase.Hello = refl
pending_face phase.Opening = refl
pending_face phase.Creating = refl
pending_face phase.Activating = refl
pending_face phase.Probing = refl
pending_face phase.Transferring = refl
pending_face (phase.Republishing wanted) = refl
pending_face phase.Subscribing = refl
pending_face phase.Adding = refl
pending_face (phase.Ready ready) = setting_list ready.setting

abbrev newest_mode : Option Mode → Option Mode → Option Mode
newest_mode None confirmed = confirmed
newest_mode (Some mode) confirmed = Some mode

-- a mode is wanted that wasn't asked for since
abbrev unmet_by : Option Mode → Option Mode → ℕ
unmet_by None newest = 0
unmet_by (Some mode) newest = if is_mode mode newest then 0 else 1

abbrev unmet_of : Face → ℕ
unmet_of (Sends wanted publishes setting confirmed) = unmet_by wanted (newest_mode setting confirmed)
unmet_of other = 0

abbrev unmet : LinkState → ℕ
unmet l = unmet_of (face_of l.phase)

-- a face that isn't Ready's
unready_face : (f : Face) → sends f ≡ false → (pending_of f ≡ []) × (unmet_of f ≡ 0)
unready_face Rests e = (refl, refl)
unready_face Calls e = (refl, refl)
unready_face Begins e = (refl, refl)
unready_face Probes e = (refl, refl)
unready_face Adds e = (refl, refl)
unready_face (Sends wanted publishes setting confirmed) e = absurd cc

unready_at : (l : LinkState) → is_ready l ≡ false → (pending l ≡ []) × (unmet l ≡ 0)
unready_at l e =
    let none_is = unready_face (face_of l.phase) (ready_face l.phase ∙ e) in
    (pending_face l.phase ∙ none_is.0, none_is.1)

-- ---- one move

abbrev wish_given : Option Mode → ℕ
wish_given None = 0
wish_given (Some mode) = 1

-- modes that are put are told; while the link isn't lost those that are confirmed are those that are put; and they are no
-- more than those that are wanted
record IsSet (before : ℕ) (l : LinkState) (later : ℕ) (did : LinkDid) : Type 0 where
  pub told : modes_put did.said ≡ modes_sent did.notices
  pub turns : losts_told did.notices ≡ 0 → modes_confirmed did.notices ++ pending did.link ≡ pending l ++ modes_put did.said
  pub few : length (modes_put did.said) + unmet did.link + later ≤ unmet l + before

sum_quiet : (put now later once before : ℕ) → put ≡ 0 → now ≤ once → later ≤ before → put + now + later ≤ once + before
sum_quiet put now later once before e h g = omega (arith, e, h, g)

same_least : (a b : ℕ) → a ≡ b → a ≤ b
same_least a b e = omega (arith, e)

-- no mode is put or told
quiet_set : (before : ℕ) (l : LinkState) (later : ℕ) (did : LinkDid) → modes_put did.said ≡ [] → TellsNone did.notices
    → (losts_told did.notices ≡ 0 → pending did.link ≡ pending l) → unmet did.link ≤ unmet l → later ≤ before → IsSet before l later did
quiet_set before l later did put none_told waits wants less = record {
  told = put ∙ sym none_told.sent;
  turns = λ kept.
      ap (λ (x : List ℤ). x ++ pending did.link) none_told.confirmed ∙ waits kept ∙ sym (append-nil (pending l))
      ∙ ap (λ (x : List ℤ). pending l ++ x) (sym put);
  few = sum_quiet (length (modes_put did.said)) (unmet did.link) later (unmet l) before (ap length put) wants less;
}

at_least : (n : ℕ) → n ≤ n
at_least n = omega arith

same_face : (l next : LinkState) → face_of next.phase ≡ face_of l.phase → pending next ≡ pending l
same_face l next e = pending_face next.phase ∙ ap pending_of e ∙ sym (pending_face l.phase)

face_set : (before : ℕ) (l : LinkState) (did : LinkDid) → modes_put did.said ≡ [] → TellsNone did.notices → face_of did.link.phase ≡ face_of l.phase
    → IsSet before l before did
face_set before l did put none_told e =
    quiet_set before l before did put none_told (λ kept. same_face l did.link e) (same_least (unmet did.link) (unmet l) (ap unmet_of e)) (at_least before)

-- from a link that isn't ready to one in which nothing waits
unready_set : (before : ℕ) (l : LinkState) (did : LinkDid) → modes_put did.said ≡ [] → TellsNone did.notices → is_ready l ≡ false
    → pending did.link ≡ [] → unmet did.link ≡ 0 → IsSet before l before did
unready_set before l did put none_told e waits wants =
    let was = unready_at l e in
    quiet_set before l before did put none_told (λ kept. waits ∙ sym was.0) (none_least (unmet did.link) (unmet l) wants) (at_least before)
  where
    none_least : (a b : ℕ) → a ≡ 0 → a ≤ b
    none_least a b e = omega (arith, e)

fallen_set : (b : Bool) (before : ℕ) (l : LinkState) (did : LinkDid) → is_ready l ≡ b → did.said ≡ [] → did.notices ≡ lost_if b → did.link.phase ≡ phase.Idle
    → IsSet before l before did
fallen_set true before l did ready said told rests =
    quiet_set before l before did (ap modes_put said) (subst TellsNone (sym told) (lost_none true))
    (λ kept. not_lost (sym (ap losts_told told) ∙ kept)) (none_least (unmet did.link) (unmet l) (ap (λ p. unmet_of (face_of p)) rests)) (at_least before)
  where
    not_lost : {A : Type 0} → 1 + 0 ≡ 0 → A
    not_lost e = absurd (omega (arith, e))

    none_least : (a b : ℕ) → a ≡ 0 → a ≤ b
    none_least a b e = omega (arith, e)
fallen_set false before l did ready said told rests =
    unready_set before l did (ap modes_put said) (subst TellsNone (sym told) (lost_none false)) ready (ap pending_in rests)
    (ap (λ p. unmet_of (face_of p)) rests)

-- ---- moves

at_ready : (l : LinkState) (ready : ReadyState) → l.phase ≡ phase.Ready ready → face_of l.phase ≡ face_of (phase.Ready ready)
at_ready l ready e = ap face_of e

puts_set : (leave : Leave) (a : Asking) (l : LinkState) (before : ℕ) → MayAsk leave a l → IsOther a → IsSet before l before (done (Puts a) l)
puts_set leave (Modes mode ready id) l before h other = absurd other
puts_set leave (Publish ready remembered) l before h other =
    let next : LinkState = begun (Publish ready remembered) l in
    quiet_set before l before (done (Puts (Publish ready remembered)) l) (put_one (Publish ready remembered) l None refl) no_notice
    (λ kept. pending_face next.phase ∙ sym (ap pending_of (at_ready l ready h.0)) ∙ sym (pending_face l.phase))
    (same_least (unmet next) (unmet l) (sym (ap unmet_of (at_ready l ready h.0)))) (at_least before)
puts_set leave Level l before h other = face_set before l (done (Puts Level) l) (put_one Level l None refl) no_notice refl
puts_set leave Renewal l before h other = face_set before l (done (Puts Renewal) l) (put_one Renewal l None refl) no_notice refl
puts_set leave (Items id) l before h other =
    unready_set before l (done (Puts (Items id)) l) (put_one (Items id) l None refl) no_notice (begun_unready l.phase h.0) refl refl
puts_set leave Channel l before h other =
    unready_set before l (done (Puts Channel) l) (put_one Channel l None refl) no_notice (begun_unready l.phase h) refl refl
puts_set leave Session l before h other =
    unready_set before l (done (Puts Session) l) (put_one Session l None refl) no_notice (begun_unready l.phase h) refl refl
puts_set leave Activation l before h other =
    unready_set before l (done (Puts Activation) l) (put_one Activation l None refl) no_notice (begun_unready l.phase h) refl refl
puts_set leave Probe l before h other =
    unready_set before l (done (Puts Probe) l) (put_one Probe l None refl) no_notice (begun_unready l.phase h) refl refl
puts_set leave (Transfer id) l before h other =
    unready_set before l (done (Puts (Transfer id)) l) (put_one (Transfer id) l None refl) no_notice (begun_unready l.phase h) refl refl
puts_set leave (Again id number wanted) l before h other =
    unready_set before l (done (Puts (Again id number wanted)) l) (put_one (Again id number wanted) l None refl) no_notice (begun_unready l.phase h) refl refl
puts_set leave Subscription l before h other =
    unready_set before l (done (Puts Subscription) l) (put_one Subscription l None refl) no_notice (begun_unready l.phase h) refl refl

-- a mode that is due isn't asked for yet, and no other one waits
record IsDue (mode : Mode) (ready : ReadyState) : Type 0 where
  pub none_waits : mode_of ready.setting ≡ None
  pub wants : ready.wanted ≡ Some mode
  pub other : is_mode mode ready.confirmed ≡ false

due_by : (mode other : Mode) (confirmed : Option Mode) (b : Bool) → is_mode other confirmed ≡ b → (if b then None else Some other) ≡ Some mode
    → (Some other ≡ Some mode) × (is_mode mode confirmed ≡ false)
due_by mode other confirmed true is e = absurd cc
due_by mode other confirmed false is e = let same : other ≡ mode = cc in (e, subst (λ m. is_mode m confirmed ≡ false) same is)

due_in : (mode : Mode) (wanted confirmed : Option Mode) → unless_confirmed wanted confirmed ≡ Some mode → (wanted ≡ Some mode) × (is_mode mode confirmed ≡ false)
due_in mode None confirmed e = absurd cc
due_in mode (Some other) confirmed e = due_by mode other confirmed (is_mode other confirmed) refl e

due_of : (mode : Mode) (setting : Option Setting) (ready : ReadyState) → ready.setting ≡ setting → mode_due_by setting ready ≡ Some mode → IsDue mode ready
due_of mode (Some setting) ready is e = absurd cc
due_of mode None ready is e =
    let found = due_in mode ready.wanted ready.confirmed e in record { none_waits = ap mode_of is; wants = found.0; other = found.1 }

itself : (mode : Mode) → is_mode mode (Some mode) ≡ true
itself Disabled = refl
itself Sampling = refl
itself Reporting = refl

sets_set : (leave : Leave) (mode : Mode) (ready : ReadyState) (id : ℕ) (l : LinkState) (before : ℕ) → MayAsk leave (Modes mode ready id) l
    → IsSet before l before (done (Sets mode ready id) l)
sets_set leave mode ready id l before h =
    let due : IsDue mode ready = due_of mode ready.setting ready refl h.2 in
    let put : modes_put (done (Sets mode ready id) l).said ≡ pos (mode_number mode) ∷ [] = put_one (Modes mode ready id) l (Some (pos (mode_number mode))) refl in
    let was : pending l ≡ [] =
    pending_face l.phase ∙ ap pending_of (at_ready l ready h.0) ∙ ap mode_list due.none_waits in
    let met : unmet (done (Sets mode ready id) l).link ≡ 0 =
    ap (λ o. unmet_by o (Some mode)) due.wants ∙ ap (λ b. if b then 0 else 1) (itself mode) in
    let wanted : unmet l ≡ 1 =
    ap unmet_of (at_ready l ready h.0) ∙ ap (λ o. unmet_by o (newest_mode (mode_of ready.setting) ready.confirmed)) due.wants
    ∙ ap (λ o. unmet_by (Some mode) (newest_mode o ready.confirmed)) due.none_waits ∙ ap (λ b. if b then 0 else 1) due.other in
    record {
      told = put;
      turns = λ kept. sym (ap (λ (x : List ℤ). x ++ modes_put (done (Sets mode ready id) l).said) was ∙ put);
      few = sum (length (modes_put (done (Sets mode ready id) l).said)) (unmet (done (Sets mode ready id) l).link) (unmet l) before (ap length put) met wanted;
    }
  where
    sum : (put now once before : ℕ) → put ≡ 1 → now ≡ 0 → once ≡ 1 → put + now + before ≤ once + before
    sum put now once before e f g = omega (arith, e, f, g)

confirms_set : (setting : Setting) (ready : ReadyState) (l : LinkState) (before : ℕ) → l.phase ≡ phase.Ready ready → ready.setting ≡ Some setting
    → IsSet before l before (done (Confirms setting ready) l)
confirms_set setting ready l before e is =
    let was : pending l ≡ pos (mode_number setting.mode) ∷ [] =
    pending_face l.phase ∙ ap pending_of (at_ready l ready e) ∙ ap (λ o. mode_list (mode_of o)) is in
    let same : unmet (done (Confirms setting ready) l).link ≡ unmet l =
    sym (ap unmet_of (at_ready l ready e) ∙ ap (λ o. unmet_by ready.wanted (newest_mode (mode_of o) ready.confirmed)) is) in
    record {
      told = refl;
      turns = λ kept. sym (append-nil (pending l) ∙ was);
      few = sum_quiet 0 (unmet (done (Confirms setting ready) l).link) before (unmet l) before refl
          (same_least (unmet (done (Confirms setting ready) l).link) (unmet l) same) (at_least before);
    }

unmet_least : (o newest : Option Mode) → unmet_by o newest ≤ 1
unmet_least None newest = omega arith
unmet_least (Some mode) newest = by_test (is_mode mode newest)
  where
    by_test : (b : Bool) → (if b then 0 else 1) ≤ 1
    by_test true = omega arith
    by_test false = omega arith

seeks_set : (leave : Leave) (mode : Mode) (ready : ReadyState) (l : LinkState) → l.phase ≡ phase.Ready ready → leave.wish ≡ Some mode
    → IsSet (wish_given leave.wish) l 0 (done (Seeks mode ready) l)
seeks_set leave mode ready l e wish =
    let next : LinkState = (done (Seeks mode ready) l).link in
    record {
      told = refl;
      turns = λ kept.
          pending_face next.phase ∙ sym (ap pending_of (at_ready l ready e)) ∙ sym (pending_face l.phase) ∙ sym (append-nil (pending l));
      few = sum (unmet next) (unmet l) (wish_given leave.wish) (unmet_least (Some mode) (newest_mode (mode_of ready.setting) ready.confirmed)) (ap wish_given wish);
    }
  where
    sum : (now once given : ℕ) → now ≤ 1 → given ≡ 1 → 0 + now + 0 ≤ once + given
    sum now once given h e = omega (arith, h, e)

move_set : (leave : Leave) (move : Move) (l : LinkState) → IsFair leave move l
    → IsSet (wish_given leave.wish) l (wish_given (left move leave).wish) (done move l)
move_set leave (Turns did) l h =
    face_set (wish_given leave.wish) l did (silent_none did.said h.silent) (plain_none did.notices h.plain) h.same.face
move_set leave (Falls did) l h = fallen_set (is_ready l) (wish_given leave.wish) l did refl h.said h.told h.rests
move_set leave (Ages ms) l h = face_set (wish_given leave.wish) l (done (Ages ms) l) refl no_notice refl
move_set leave Wishes l h = unready_set (wish_given leave.wish) l (done Wishes l) refl no_notice (dial_unready l h.0) refl refl
move_set leave (Greets url) l h =
    unready_set (wish_given leave.wish) l (done (Greets url) l) refl no_notice (sym (ready_face l.phase) ∙ ap sends h) refl refl
move_set leave (Puts a) l h = by_asking a h.0 h.1
  where
    by_asking : (a : Asking) → MayAsk leave a l → IsOther a → IsSet (wish_given leave.wish) l (wish_given (left_asked a leave).wish) (done (Puts a) l)
    by_asking (Items id) may other = puts_set leave (Items id) l (wish_given leave.wish) may other
    by_asking Channel may other = puts_set leave Channel l (wish_given leave.wish) may other
    by_asking Session may other = puts_set leave Session l (wish_given leave.wish) may other
    by_asking Activation may other = puts_set leave Activation l (wish_given leave.wish) may other
    by_asking Probe may other = puts_set leave Probe l (wish_given leave.wish) may other
    by_asking (Transfer id) may other = puts_set leave (Transfer id) l (wish_given leave.wish) may other
    by_asking (Again id number wanted) may other = puts_set leave (Again id number wanted) l (wish_given leave.wish) may other
    by_asking Subscription may other = puts_set leave Subscription l (wish_given leave.wish) may other
    by_asking (Publish ready remembered) may other = puts_set leave (Publish ready remembered) l (wish_given leave.wish) may other
    by_asking (Modes mode ready id) may other = absurd other
    by_asking Level may other = puts_set leave Level l (wish_given leave.wish) may other
    by_asking Renewal may other = puts_set leave Renewal l (wish_given leave.wish) may other
move_set leave (Enters confirmed) l h =
    unready_set (wish_given leave.wish) l (done (Enters confirmed) l) refl (record { sent = refl; confirmed = refl }) (begun_unready l.phase h) refl refl
move_set leave (Completes confirmed items) l h =
    unready_set (wish_given leave.wish) l (done (Completes confirmed items) l) refl (record { sent = refl; confirmed = refl })
    (sym (ready_face l.phase) ∙ ap sends h.0) refl refl
move_set leave Loses l h =
    quiet_set (wish_given leave.wish) l (wish_given leave.wish) (done Loses l) refl (record { sent = refl; confirmed = refl })
    (λ kept. not_lost kept) (nothing_less (unmet l)) (at_least (wish_given leave.wish))
  where
    not_lost : {A : Type 0} → 1 + 0 ≡ 0 → A
    not_lost e = absurd (omega (arith, e))

    nothing_less : (n : ℕ) → 0 ≤ n
    nothing_less n = omega arith
move_set leave (Makes id) l h = face_set (wish_given leave.wish) l (done (Makes id) l) refl (streams_none l.config.items) refl
move_set leave (Keeps number r) l h =
    face_set (wish_given leave.wish) l (done (Keeps number r) l) (ap modes_put (alive_brings number r l).said) (alive_none number r l)
    (ap face_of (alive_brings number r l).phase)
move_set leave (Brings number values r) l h =
    face_set (wish_given leave.wish) l (done (Brings number values r) l) (ap modes_put (data_brings number values r l).said) (data_none number values r l)
    (ap face_of (data_brings number values r l).phase)
move_set leave (Levels level) l h =
    face_set (wish_given leave.wish) l (done (Levels level) l) refl (record { sent = refl; confirmed = refl }) refl
move_set leave (Probed level) l h =
    unready_set (wish_given leave.wish) l (done (Probed level) l) refl (record { sent = refl; confirmed = refl })
    (sym (ready_face l.phase) ∙ ap sends h.1) refl refl
move_set leave (Answers ready publishes since) l h =
    let next : LinkState = (done (Answers ready publishes since) l).link in
    quiet_set (wish_given leave.wish) l (wish_given leave.wish) (done (Answers ready publishes since) l) refl no_notice
    (λ kept. pending_face next.phase ∙ sym (ap pending_of (at_ready l ready h.0)) ∙ sym (pending_face l.phase))
    (same_least (unmet next) (unmet l) (sym (ap unmet_of (at_ready l ready h.0)))) (at_least (wish_given leave.wish))
move_set leave (Seeks mode ready) l h = seeks_set leave mode ready l h.0 h.1
move_set leave (Sets mode ready id) l h = sets_set leave mode ready id l (wish_given leave.wish) h
move_set leave (Confirms setting ready) l h = confirms_set setting ready l (wish_given leave.wish) h.0 h.1

-- ---- one after another

set_then : (before middle later : ℕ) (l : LinkState) (did next : LinkDid) → IsSet before l middle did → IsSet middle did.link later next
    → IsSet before l later (record { link = next.link; said = did.said ++ next.said; notices = did.notices ++ next.notices })
set_then before middle later l did next one other = record {
  told = put_join did.said next.said ∙ ap (λ (x : List ℤ). x ++ modes_put next.said) one.told
      ∙ ap (λ (x : List ℤ). modes_sent did.notices ++ x) other.told ∙ sym (sent_join did.notices next.notices);
  turns = λ kept.
      let none_lost = parts (losts_told did.notices) (losts_told next.notices) (losts_told (did.notices ++ next.notices)) (losts_join did.notices next.notices) kept in
      ap (λ (x : List ℤ). x ++ pending next.link) (confirmed_join did.notices next.notices)
      ∙ append_assoc (modes_confirmed did.notices) (modes_confirmed next.notices) (pending next.link)
      ∙ ap (λ (x : List ℤ). modes_confirmed did.notices ++ x) (other.turns none_lost.1)
      ∙ sym (append_assoc (modes_confirmed did.notices) (pending did.link) (modes_put next.said))
      ∙ ap (λ (x : List ℤ). x ++ modes_put next.said) (one.turns none_lost.0)
      ∙ append_assoc (pending l) (modes_put did.said) (modes_put next.said)
      ∙ ap (λ (x : List ℤ). pending l ++ x) (sym (put_join did.said next.said));
  few = sum (length (modes_put did.said)) (length (modes_put next.said)) (length (modes_put (did.said ++ next.said))) (unmet l) (unmet did.link) (unmet next.link)
      before middle later (ap length (put_join did.said next.said) ∙ length-append (modes_put did.said) (modes_put next.said)) one.few other.few;
}
  where
    parts : (a b all : ℕ) → all ≡ a + b → all ≡ 0 → (a ≡ 0) × (b ≡ 0)
    parts a b all e z = (omega (arith, e, z), omega (arith, e, z))

    sum : (p q all once now last before middle later : ℕ) → all ≡ p + q → p + now + middle ≤ once + before → q + last + later ≤ now + middle
        → all + last + later ≤ once + before
    sum p q all once now last before middle later e f g = omega (arith, e, f, g)

none_set : (before : ℕ) (l : LinkState) → IsSet before l 0 (nothing l)
none_set before l =
    quiet_set before l 0 (nothing l) refl no_notice (λ kept. refl) (at_least (unmet l)) (nothing_less before)
  where
    nothing_less : (n : ℕ) → 0 ≤ n
    nothing_less n = omega arith

moves_set : (leave : Leave) (moves : List Move) (l : LinkState) → AreFair leave moves l → IsSet (wish_given leave.wish) l 0 (done_all moves l)
moves_set leave [] l h = none_set (wish_given leave.wish) l
moves_set leave (move ∷ moves) l h =
    set_then (wish_given leave.wish) (wish_given (left move leave).wish) 0 l (done move l) (done_all moves (done move l).link) (move_set leave move l h.0)
    (moves_set (left move leave) moves (done move l).link h.1)

-- ---- events

session_wish : (r : SessionReply) → wish_given (leave_in (Some (reply.Session r))).wish ≡ 0
session_wish (session_reply.ServiceFault h) = refl
session_wish (session_reply.Read r) = refl
session_wish other = refl

sub_wish : (r : SubReply) → wish_given (leave_in (Some (reply.Subscription r))).wish ≡ 0
sub_wish (sub_reply.CreateSubscription r) = refl
sub_wish (sub_reply.Publish r) = refl
sub_wish (sub_reply.Republish r) = refl
sub_wish other = refl

read_wish : (result : Result Reply BodyFault) → wish_given (leave_read result).wish ≡ 0
read_wish (Ok (reply.Session r)) = session_wish r
read_wish (Ok (reply.Subscription r)) = sub_wish r
read_wish (Err fault) = refl

heard_wish : (h : Heard) → wish_given (leave_heard h).wish ≡ 0
heard_wish (said_of.Message number body) = read_wish (body_at replies body)
heard_wish other = refl

event_wish : (h : Happening) → wish_given (leave_of h).wish ≡ wish_at h
event_wish (step_rules.Hears heard) = heard_wish heard
event_wish (step_rules.Ticks ms) = refl
event_wish (step_rules.Wants mode) = refl
event_wish step_rules.Dials = refl
event_wish other = refl

event_set : (h : Happening) (l : LinkState) → IsSet (wish_at h) l 0 (after h l)
event_set h l =
    let comes = happens h l in
    subst (λ n. IsSet n l 0 (after h l)) (event_wish h)
    (subst (IsSet (wish_given (leave_of h).wish) l 0) (sym comes.is) (moves_set (leave_of h) comes.moves l comes.fair))

all_set : (happenings : List Happening) (l : LinkState) → IsSet (wishes_in happenings) l 0 (after_all happenings l)
all_set [] l = none_set 0 l
all_set (h ∷ more) l =
    let did : LinkDid = after h l in
    let now : IsSet (wish_at h) l 0 did = event_set h l in
    let one : IsSet (wish_at h + wishes_in more) l (wishes_in more) did =
    record { told = now.told; turns = now.turns; few = more_by (length (modes_put did.said)) (unmet did.link) (unmet l) (wish_at h) (wishes_in more) now.few } in
    set_then (wish_at h + wishes_in more) (wishes_in more) 0 l did (after_all more did.link) one (all_set more did.link)
  where
    more_by : (p r s a b : ℕ) → p + r + 0 ≤ s + a → p + r + b ≤ s + (a + b)
    more_by p r s a b h = omega (arith, h)

pub modes_are_told : (happenings : List Happening) (l : LinkState) → modes_put (after_all happenings l).said ≡ modes_sent (after_all happenings l).notices
modes_are_told happenings l = (all_set happenings l).told

pub modes_are_confirmed : (happenings : List Happening) (l : LinkState) → losts_told (after_all happenings l).notices ≡ 0
    → modes_confirmed (after_all happenings l).notices ++ pending (after_all happenings l).link ≡ pending l ++ modes_put (after_all happenings l).said
modes_are_confirmed happenings l kept = (all_set happenings l).turns kept

pub modes_are_few : (happenings : List Happening) (l : LinkState) → is_ready l ≡ false → length (modes_put (after_all happenings l).said) ≤ wishes_in happenings
modes_are_few happenings l e =
    let was = unready_at l e in
    sum (length (modes_put (after_all happenings l).said)) (unmet (after_all happenings l).link) (unmet l) (wishes_in happenings) was.1 (all_set happenings l).few
  where
    sum : (p r s w : ℕ) → s ≡ 0 → p + r + 0 ≤ s + w → p ≤ w
    sum p r s w e h = omega (arith, e, h)
