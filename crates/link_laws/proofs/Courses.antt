-- What happens to a link's subscription, and what is told of it.
use Rattle.std.proofs.Common.{◌≡◌, ℕ, zero, suc, ◌==◌, ◌||◌, List, [], ◌∷◌, ◌++◌, Bool, true, false, Option, Some, None, Result, Ok, Err, if◌then◌else◌, refl, sym, ap, ◌∙◌, subst, append_assoc, arith, inl, inr}
use Rattle.std.proofs.lemmas.List.{append-nil}
use Rattle.std.proofs.lemmas.Bool.Decides.{nat_tests}
use Rattle.std.specs.List.{find}
use Rattle.ua_base.specs.Number.{after_message}
use Rattle.ua_sub_msgs.specs.declared.notification.MonitoredItemNotification.{MonitoredItemNotification}
use Rattle.ua_sub_msgs.specs.declared.notification.NotificationMessage.{NotificationMessage}
use Rattle.ua_base.specs.declared.modes.Mode.{Mode}
use Rattle.ua_structures.specs.declared.body.BodyFault.{BodyFault}
use Rattle.ua_structures.specs.Body.{body_at}
use Rattle.ua_channel.specs.declared.heard.Heard.{Heard}
use Rattle.ua_channel.specs.declared.heard.Heard.TheVariants as said_of
use Rattle.ua_session_msgs.specs.declared.reply.SessionReply.{SessionReply}
use Rattle.ua_session_msgs.specs.declared.reply.SessionReply.TheVariants as session_reply
use Rattle.ua_sub_msgs.specs.declared.reply.SubReply.{SubReply}
use Rattle.ua_sub_msgs.specs.declared.reply.SubReply.TheVariants as sub_reply
use Rattle.ua_services.specs.declared.reply.Reply.{Reply}
use Rattle.ua_services.specs.declared.reply.Reply.TheVariants as reply
use Rattle.ua_services.specs.Families.{replies}
use Rattle.link_rules.specs.declared.phase.Phase.{Phase}
use Rattle.link_rules.specs.declared.phase.Phase.TheVariants as phase
use Rattle.link_rules.specs.declared.content.Content.{Content}
use Rattle.link_rules.specs.declared.content.Content.TheVariants as content
use Rattle.link_rules.specs.declared.notice.Notice.{Notice}
use Rattle.link_rules.specs.declared.notice.Notice.TheVariants as notice
use Rattle.link_rules.specs.declared.remembered.Monitored.{Monitored}
use Rattle.link_rules.specs.declared.remembered.Remembered.{Remembered}
use Rattle.link_rules.specs.State.{LinkState, is_ready}
use Rattle.link_rules.specs.Said.{LinkDid, nothing, tells}
use Rattle.link_rules.specs.Messages.{acknowledged, all_taken, awaits, content_of, data_taken, has_handle, kept_alive, newest, taken_as, taken_of}
use Rattle.link_rules.specs.Numbers.{is_jump, is_next}
use Rattle.link_rules.specs.Subscribing.{streams}
use Rattle.link_rules.specs.Step as step_rules
use Rattle.link_rules.specs.Step.{Happening, after, after_all}
use Rattle.link_laws.specs.Taken.{heard_reply, id_in, message_in, reply_by, reply_of}
use Rattle.link_laws.specs.Acks.{IsWithin}
use Rattle.link_laws.specs.Course.{AreDoable, AreKnown, IsSomething, IsSteady, Monitors, id_heard, id_of, ids_heard_in, ids_of, monitored_after, monitored_by, Data, Deed, Streams, Takes, Leaps, Passes, Skips, Forgets, IsCourse, data_heard, data_heard_in, data_in, data_of, data_of_all, is_of_values, of_values, remembered_after, remembered_by, told_after, told_by, with_next}
use Rattle.link_laws.proofs.Moves.{AreFair, ArePlain, Asking, Channel, Session, Activation, Probe, Transfer, Again, Subscription, Items, Publish, Modes, Level, Renewal, IsFair, IsLeft, IsPlain, Leave, MayAsk, Rests, Adds, face_of, leave_heard, leave_in, leave_read, Move, Turns, Falls, Ages, Wishes, Greets, Puts, Enters, Completes, Loses, Makes, Keeps, Brings, Levels, Probed, Answers, Seeks, Sets, Confirms, begun, done, done_all, left, left_asked, leave_of, lost_if}
use Rattle.link_laws.proofs.Opening.{happens}
use Rattle.link_laws.proofs.Plain.{alive_brings, data_brings, event_config, move_config}
use Rattle.link_laws.proofs.Within.{all_within, none_within, within_join}
use Rattle.link_laws.proofs.Acknowledging.{event_message}

-- ---- lists

remembered_join : (one other : List Deed) (o : Option Remembered) → remembered_after (one ++ other) o ≡ remembered_after other (remembered_after one o)
remembered_join [] other o = refl
remembered_join (deed ∷ one) other o = remembered_join one other (remembered_by deed o)

doable_join : (one other : List Deed) (o : Option Remembered) → AreDoable one o → AreDoable other (remembered_after one o) → AreDoable (one ++ other) o
doable_join [] other o h rest = rest
doable_join (deed ∷ one) other o h rest = (h.0, doable_join one other (remembered_by deed o) h.1 rest)

told_join : (count : ℕ) (one other : List Deed) (items : List Monitored)
    → told_after count (one ++ other) items ≡ told_after count one items ++ told_after count other (monitored_after one items)
told_join count [] other items = refl
told_join count (deed ∷ one) other items =
    ap (λ (x : List Notice). told_by count deed items ++ x) (told_join count one other (monitored_by deed items))
    ∙ sym (append_assoc (told_by count deed items) (told_after count one (monitored_by deed items))
    (told_after count other (monitored_after one (monitored_by deed items))))

monitored_join : (one other : List Deed) (items : List Monitored) → monitored_after (one ++ other) items ≡ monitored_after other (monitored_after one items)
monitored_join [] other items = refl
monitored_join (deed ∷ one) other items = monitored_join one other (monitored_by deed items)

known_join : (one other : List Deed) (items : List Monitored) → AreKnown one items → AreKnown other (monitored_after one items) → AreKnown (one ++ other) items
known_join [] other items h rest = rest
known_join (deed ∷ one) other items h rest = (h.0, known_join one other (monitored_by deed items) h.1 rest)

ids_join : (one other : List Deed) → ids_of (one ++ other) ≡ ids_of one ++ ids_of other
ids_join [] other = refl
ids_join (deed ∷ one) other =
    ap (λ (x : List ℕ). id_of deed ++ x) (ids_join one other) ∙ sym (append_assoc (id_of deed) (ids_of one) (ids_of other))

data_join : (one other : List Deed) → data_of_all (one ++ other) ≡ data_of_all one ++ data_of_all other
data_join [] other = refl
data_join (deed ∷ one) other =
    ap (λ (x : List Data). data_of deed ++ x) (data_join one other)
    ∙ sym (append_assoc (data_of deed) (data_of_all one) (data_of_all other))

values_by : (b : Bool) (n : Notice) (one other : List Notice) → (if b then n ∷ (one ++ other) else one ++ other) ≡ (if b then n ∷ one else one) ++ other
values_by true n one other = refl
values_by false n one other = refl

values_join : (one other : List Notice) → of_values (one ++ other) ≡ of_values one ++ of_values other
values_join [] other = refl
values_join (n ∷ one) other =
    ap (λ (x : List Notice). if is_of_values n then n ∷ x else x) (values_join one other)
    ∙ values_by (is_of_values n) n (of_values one) (of_values other)

plain_one : (n : Notice) → IsPlain n → is_of_values n ≡ false
plain_one notice.Unsupported h = refl
plain_one (notice.Sent mode) h = refl
plain_one (notice.Confirmed mode) h = refl
plain_one notice.Ready h = absurd h
plain_one notice.Lost h = absurd h
plain_one (notice.Level level) h = absurd h
plain_one (notice.Stream item) h = absurd h
plain_one notice.Jump h = absurd h
plain_one (notice.Taken item value) h = absurd h

plain_values : (notices : List Notice) → ArePlain notices → of_values notices ≡ []
plain_values [] h = refl
plain_values (n ∷ more) h =
    ap (λ b. if b then n ∷ of_values more else of_values more) (plain_one n h.0) ∙ plain_values more h.1

lost_values : (b : Bool) → of_values (lost_if b) ≡ []
lost_values true = refl
lost_values false = refl

taken_values : (o : Option Monitored) (one : MonitoredItemNotification) → of_values (taken_as o one.value) ≡ taken_as o one.value
taken_values None one = refl
taken_values (Some monitored) one = refl

all_values : (items : List Monitored) (values : List MonitoredItemNotification) → of_values (all_taken items values) ≡ all_taken items values
all_values items [] = refl
all_values items (one ∷ values) =
    values_join (taken_of items one) (all_taken items values)
    ∙ ap (λ (x : List Notice). x ++ of_values (all_taken items values)) (taken_values (find (has_handle one.client_handle) items) one)
    ∙ ap (λ (x : List Notice). taken_of items one ++ x) (all_values items values)

streams_values : (count : ℕ) → of_values (streams count) ≡ streams count
streams_values zero = refl
streams_values (suc count) =
    values_join (streams count) (notice.Stream (suc count) ∷ [])
    ∙ ap (λ (x : List Notice). x ++ notice.Stream (suc count) ∷ []) (streams_values count)

-- ---- messages

within_one : (one : Data) → IsWithin (one ∷ []) (one ∷ [])
within_one one = inr ([], refl, refl)

or_none : (a b : Bool) → a ≡ false → b ≡ false → (a || b) ≡ false
or_none a b e f = ap (λ x. x || b) e ∙ f

number_is : (number next : ℕ) → (number == next) ≡ true → number ≡ next
number_is number next e = grind (arith, nat_tests)

-- what a message does
record IsGiven (count : ℕ) (l : LinkState) (messages : List Data) (did : LinkDid) : Type 0 where
  pub deeds : List Deed
  pub doable : AreDoable deeds l.remembered
  pub known : AreKnown deeds l.monitored
  pub leads : did.link.remembered ≡ remembered_after deeds l.remembered
  pub items : did.link.monitored ≡ monitored_after deeds l.monitored
  pub told : of_values did.notices ≡ told_after count deeds l.monitored
  pub heard : IsWithin (data_of_all deeds) messages
  pub unnamed : ids_of deeds ≡ []

alive_given : (count number : ℕ) (r : Remembered) (l : LinkState) → l.remembered ≡ Some r → IsGiven count l [] (kept_alive number r l)
unfolding kept_alive
alive_given count number r l e = by_test (is_jump r.next number) refl
  where
    by_test : (b : Bool) → is_jump r.next number ≡ b
        → IsGiven count l [] (if b then tells (notice.Jump ∷ []) (awaits number r l) else nothing l)
    by_test true is = record {
      deeds = Skips number ∷ [];
      doable = ((r, e, is), tt);
      known = (tt, tt);
      leads = sym (ap (with_next number) e);
      items = refl;
      told = refl;
      heard = refl;
      unnamed = refl;
    }
    by_test false is =
        record { deeds = []; doable = tt; known = tt; leads = refl; items = refl; told = refl; heard = refl; unnamed = refl }

data_given : (count number : ℕ) (values : List MonitoredItemNotification) (r : Remembered) (l : LinkState) → l.remembered ≡ Some r
    → IsGiven count l (record { number = number; values = values } ∷ []) (data_taken number values r l)
unfolding data_taken
data_given count number values r l e = by_tests (is_next r.next number) (is_jump r.next number) refl refl
  where
    by_tests : (a b : Bool) → is_next r.next number ≡ a → is_jump r.next number ≡ b
        → IsGiven count l (record { number = number; values = values } ∷ [])
        (if a then tells (all_taken l.monitored values) (newest number r l)
        else if b then tells (notice.Jump ∷ all_taken l.monitored values) (newest number r l)
        else nothing (acknowledged number l))
    by_tests true b next jump = record {
      deeds = Takes number values ∷ [];
      doable = ((r, e, number_is number r.next next), tt);
      known = (tt, tt);
      leads = sym (ap (with_next (after_message number)) e);
      items = refl;
      told = all_values l.monitored values ∙ sym (append-nil (all_taken l.monitored values));
      heard = within_one (record { number = number; values = values });
      unnamed = refl;
    }
    by_tests false true next jump = record {
      deeds = Leaps number values ∷ [];
      doable = ((r, e, jump), tt);
      known = (tt, tt);
      leads = sym (ap (with_next (after_message number)) e);
      items = refl;
      told = ap (λ (x : List Notice). notice.Jump ∷ x) (all_values l.monitored values ∙ sym (append-nil (all_taken l.monitored values)));
      heard = within_one (record { number = number; values = values });
      unnamed = refl;
    }
    by_tests false false next jump = record {
      deeds = Passes number values ∷ [];
      doable = ((r, e, or_none (is_next r.next number) (is_jump r.next number) next jump), tt);
      known = (tt, tt);
      leads = refl;
      items = refl;
      told = refl;
      heard = within_one (record { number = number; values = values });
      unnamed = refl;
    }

-- ---- moves

abbrev Follows : {A : Type 0} → List A → List A → List A → Type 0
Follows {A} now rest all = (more : List A) → IsWithin more rest → IsWithin (now ++ more) all

-- what a move does, and what may come after it
record IsMoved (leave rest : Leave) (l : LinkState) (did : LinkDid) : Type 0 where
  pub deeds : List Deed
  pub doable : AreDoable deeds l.remembered
  pub known : AreKnown deeds l.monitored
  pub leads : did.link.remembered ≡ remembered_after deeds l.remembered
  pub items : did.link.monitored ≡ monitored_after deeds l.monitored
  pub told : of_values did.notices ≡ told_after l.config.items deeds l.monitored
  pub heard : Follows (data_of_all deeds) (data_heard rest.brought) (data_heard leave.brought)
  pub named : Follows (ids_of deeds) (id_heard rest.born) (id_heard leave.born)

same_messages : (one other : Option NotificationMessage) → other ≡ one → Follows [] (data_heard other) (data_heard one)
same_messages one other e = λ more h. subst (λ m. IsWithin more (data_heard m)) e h

same_ids : (one other : Option ℕ) → other ≡ one → Follows [] (id_heard other) (id_heard one)
same_ids one other e = λ more h. subst (λ m. IsWithin more (id_heard m)) e h

untouched : (leave rest : Leave) (l : LinkState) (did : LinkDid) → did.link.remembered ≡ l.remembered → did.link.monitored ≡ l.monitored
    → of_values did.notices ≡ [] → rest.brought ≡ leave.brought → rest.born ≡ leave.born → IsMoved leave rest l did
untouched leave rest l did same items told brought born = record {
  deeds = [];
  doable = tt;
  known = tt;
  leads = same;
  items = items;
  told = told;
  heard = same_messages leave.brought rest.brought brought;
  named = same_ids leave.born rest.born born;
}

forgets : (leave rest : Leave) (l : LinkState) (did : LinkDid) → did.link.remembered ≡ None → did.link.monitored ≡ []
    → of_values did.notices ≡ [] → rest.brought ≡ leave.brought → rest.born ≡ leave.born → IsMoved leave rest l did
forgets leave rest l did none_is items told brought born = record {
  deeds = Forgets ∷ [];
  doable = (tt, tt);
  known = (tt, tt);
  leads = none_is;
  items = items;
  told = told;
  heard = same_messages leave.brought rest.brought brought;
  named = same_ids leave.born rest.born born;
}

left_moved : (leave : Leave) (l : LinkState) (did : LinkDid) → of_values did.notices ≡ [] → IsLeft l did.link → IsMoved leave leave l did
left_moved leave l did told (inl h) = untouched leave leave l did h.0 h.2 told refl refl
left_moved leave l did told (inr (inl h)) = untouched leave leave l did h.0 h.2 told refl refl
left_moved leave l did told (inr (inr h)) = forgets leave leave l did h.0 h.2 told refl refl

puts_moved : (leave : Leave) (a : Asking) (l : LinkState) → IsMoved leave (left_asked a leave) l (done (Puts a) l)
puts_moved leave Subscription l = forgets leave leave l (done (Puts Subscription) l) refl refl refl refl refl
puts_moved leave Channel l = untouched leave leave l (done (Puts Channel) l) refl refl refl refl refl
puts_moved leave Session l = untouched leave leave l (done (Puts Session) l) refl refl refl refl refl
puts_moved leave Activation l = untouched leave leave l (done (Puts Activation) l) refl refl refl refl refl
puts_moved leave Probe l = untouched leave leave l (done (Puts Probe) l) refl refl refl refl refl
puts_moved leave (Transfer id) l = untouched leave leave l (done (Puts (Transfer id)) l) refl refl refl refl refl
puts_moved leave (Again id number wanted) l = untouched leave leave l (done (Puts (Again id number wanted)) l) refl refl refl refl refl
puts_moved leave (Items id) l = untouched leave (left_asked (Items id) leave) l (done (Puts (Items id)) l) refl refl refl refl refl
puts_moved leave (Publish ready remembered) l = untouched leave leave l (done (Puts (Publish ready remembered)) l) refl refl refl refl refl
puts_moved leave (Modes mode ready id) l = untouched leave leave l (done (Puts (Modes mode ready id)) l) refl refl refl refl refl
puts_moved leave Level l = untouched leave leave l (done (Puts Level) l) refl refl refl refl refl
puts_moved leave Renewal l = untouched leave leave l (done (Puts Renewal) l) refl refl refl refl refl

-- where nothing more may come
spent_follows : {A : Type 0} (now all : List A) → IsWithin now all → Follows now [] all
spent_follows now all h = λ more none_more.
    subst (λ x. IsWithin (now ++ x) all) (sym none_more) (subst (λ x. IsWithin x all) (sym (append-nil now)) h)

-- a message that is brought is the only one
brought_moved : (leave rest : Leave) (l : LinkState) (did : LinkDid) (messages : List Data) → IsGiven l.config.items l messages did
    → messages ≡ data_heard leave.brought → rest.brought ≡ None → rest.born ≡ leave.born → IsMoved leave rest l did
brought_moved leave rest l did messages given is spent born = record {
  deeds = given.deeds;
  doable = given.doable;
  known = given.known;
  leads = given.leads;
  items = given.items;
  told = given.told;
  heard = subst (λ m. Follows (data_of_all given.deeds) (data_heard m) (data_heard leave.brought)) (sym spent)
      (spent_follows (data_of_all given.deeds) (data_heard leave.brought) (subst (IsWithin (data_of_all given.deeds)) is given.heard));
  named = subst (λ (x : List ℕ). Follows x (id_heard rest.born) (id_heard leave.born)) (sym given.unnamed) (same_ids leave.born rest.born born);
}

heard_is : (m : Option NotificationMessage) (message : NotificationMessage) (c : Content) (number : ℕ) → m ≡ Some message
    → content_of message.notification_data ≡ c → message.sequence_number ≡ number → data_in number c ≡ data_heard m
heard_is m message c number b e n =
    sym (ap data_heard b ∙ ap (data_in message.sequence_number) e ∙ ap (λ x. data_in x c) n)

makes_moved : (leave : Leave) (id : ℕ) (l : LinkState) → leave.born ≡ Some id → IsMoved leave (left (Makes id) leave) l (done (Makes id) l)
makes_moved leave id l born = record {
  deeds = Streams id ∷ [];
  doable = (tt, tt);
  known = (tt, tt);
  leads = refl;
  items = refl;
  told = streams_values l.config.items ∙ sym (append-nil (streams l.config.items));
  heard = same_messages leave.brought leave.brought refl;
  named = subst (λ m. Follows (id ∷ []) [] (id_heard m)) (sym born) (spent_follows (id ∷ []) (id ∷ []) (all_within (id ∷ [])));
}

completes_moved : (leave : Leave) (confirmed : Option Mode) (items : List Monitored) (l : LinkState) → l.monitored ≡ [] → IsSomething items
    → IsMoved leave leave l (done (Completes confirmed items) l)
completes_moved leave confirmed items l none_known some = record {
  deeds = Monitors items ∷ [];
  doable = (tt, tt);
  known = ((none_known, some), tt);
  leads = refl;
  items = refl;
  told = refl;
  heard = same_messages leave.brought leave.brought refl;
  named = same_ids leave.born leave.born refl;
}

abbrev KnowsNone : LinkState → Type 0
KnowsNone l = face_of l.phase ≡ Adds → l.monitored ≡ []

same_monitored : (number : ℕ) (values : List MonitoredItemNotification) (r : Remembered) (l : LinkState) → (data_taken number values r l).link.monitored ≡ l.monitored
unfolding data_taken
same_monitored number values r l = by_tests (is_next r.next number) (is_jump r.next number)
  where
    by_tests : (a b : Bool) → (if a then tells (all_taken l.monitored values) (newest number r l)
        else if b then tells (notice.Jump ∷ all_taken l.monitored values) (newest number r l)
        else nothing (acknowledged number l)).link.monitored ≡ l.monitored
    by_tests true b = refl
    by_tests false true = refl
    by_tests false false = refl

alive_monitored : (number : ℕ) (r : Remembered) (l : LinkState) → (kept_alive number r l).link.monitored ≡ l.monitored
unfolding kept_alive
alive_monitored number r l = by_test (is_jump r.next number)
  where
    by_test : (b : Bool) → (if b then tells (notice.Jump ∷ []) (awaits number r l) else nothing l).link.monitored ≡ l.monitored
    by_test true = refl
    by_test false = refl

begun_none : (leave : Leave) (a : Asking) (l : LinkState) → MayAsk leave a l → KnowsNone l → KnowsNone (begun a l)
begun_none leave (Items id) l h none_known = λ e. h.2
begun_none leave Level l h none_known = none_known
begun_none leave Renewal l h none_known = none_known
begun_none leave Channel l h none_known = λ e. absurd cc
begun_none leave Session l h none_known = λ e. absurd cc
begun_none leave Activation l h none_known = λ e. absurd cc
begun_none leave Probe l h none_known = λ e. absurd cc
begun_none leave (Transfer id) l h none_known = λ e. absurd cc
begun_none leave (Again id number wanted) l h none_known = λ e. absurd cc
begun_none leave Subscription l h none_known = λ e. absurd cc
begun_none leave (Publish ready remembered) l h none_known = λ e. absurd cc
begun_none leave (Modes mode ready id) l h none_known = λ e. absurd cc

idle_none : (l : LinkState) → l.phase ≡ phase.Idle → KnowsNone l
idle_none l is = λ e. let bad : Rests ≡ Adds = sym (ap face_of is) ∙ e in absurd cc

move_none : (leave : Leave) (move : Move) (l : LinkState) → IsFair leave move l → KnowsNone l → KnowsNone (done move l).link
move_none leave (Turns did) l h none_known = λ e. h.same.monitored ∙ none_known (sym h.same.face ∙ e)
move_none leave (Falls did) l h none_known = idle_none did.link h.rests
move_none leave (Ages ms) l h none_known = none_known
move_none leave Wishes l h none_known = λ e. absurd cc
move_none leave (Greets url) l h none_known = λ e. absurd cc
move_none leave (Puts a) l h none_known = begun_none leave a l h.0 none_known
move_none leave (Sets mode ready id) l h none_known = λ e. absurd cc
move_none leave (Confirms setting ready) l h none_known = λ e. absurd cc
move_none leave (Enters confirmed) l h none_known = λ e. absurd cc
move_none leave (Completes confirmed items) l h none_known = λ e. absurd cc
move_none leave Loses l h none_known = λ e. absurd cc
move_none leave (Makes id) l h none_known = λ e. refl
move_none leave (Keeps number r) l h none_known = λ e.
    alive_monitored number r l ∙ none_known (sym (ap face_of (alive_brings number r l).phase) ∙ e)
move_none leave (Brings number values r) l h none_known = λ e.
    same_monitored number values r l ∙ none_known (sym (ap face_of (data_brings number values r l).phase) ∙ e)
move_none leave (Levels level) l h none_known = none_known
move_none leave (Probed level) l h none_known = λ e. absurd cc
move_none leave (Answers ready publishes since) l h none_known = λ e. absurd cc
move_none leave (Seeks mode ready) l h none_known = λ e. absurd cc

move_moved : (leave : Leave) (move : Move) (l : LinkState) → IsFair leave move l → KnowsNone l → IsMoved leave (left move leave) l (done move l)
move_moved leave (Turns did) l h none_known =
    untouched leave leave l did h.same.remembered h.same.monitored (plain_values did.notices h.plain) refl refl
move_moved leave (Falls did) l h none_known = left_moved leave l did (ap of_values h.told ∙ lost_values (is_ready l)) h.left
move_moved leave (Ages ms) l h none_known = untouched leave (left (Ages ms) leave) l (done (Ages ms) l) refl refl refl refl refl
move_moved leave Wishes l h none_known = untouched leave (left Wishes leave) l (done Wishes l) refl refl refl refl refl
move_moved leave (Greets url) l h none_known = untouched leave leave l (done (Greets url) l) refl refl refl refl refl
move_moved leave (Puts a) l h none_known = puts_moved leave a l
move_moved leave (Sets mode ready id) l h none_known = untouched leave leave l (done (Sets mode ready id) l) refl refl refl refl refl
move_moved leave (Confirms setting ready) l h none_known = untouched leave leave l (done (Confirms setting ready) l) refl refl refl refl refl
move_moved leave (Enters confirmed) l h none_known = untouched leave leave l (done (Enters confirmed) l) refl refl refl refl refl
move_moved leave (Completes confirmed items) l h none_known = completes_moved leave confirmed items l (none_known h.0) h.1
move_moved leave Loses l h none_known = forgets leave leave l (done Loses l) refl refl refl refl refl
move_moved leave (Makes id) l h none_known = makes_moved leave id l h.0
move_moved leave (Keeps number r) l h none_known =
    brought_moved leave (left (Keeps number r) leave) l (done (Keeps number r) l) [] (alive_given l.config.items number r l h.1.remembers)
    (heard_is leave.brought h.0 content.Alive number h.1.brings h.2 h.1.numbers) refl refl
move_moved leave (Brings number values r) l h none_known =
    brought_moved leave (left (Brings number values r) leave) l (done (Brings number values r) l) (record { number = number; values = values } ∷ [])
    (data_given l.config.items number values r l h.1.remembers)
    (heard_is leave.brought h.0 (content.Values values) number h.1.brings h.2 h.1.numbers) refl refl
move_moved leave (Levels level) l h none_known = untouched leave (left (Levels level) leave) l (done (Levels level) l) refl refl refl refl refl
move_moved leave (Probed level) l h none_known = untouched leave (left (Probed level) leave) l (done (Probed level) l) refl refl refl refl refl
move_moved leave (Answers ready publishes since) l h none_known =
    untouched leave (left (Answers ready publishes since) leave) l (done (Answers ready publishes since) l) refl refl refl refl refl
move_moved leave (Seeks mode ready) l h none_known = untouched leave (left (Seeks mode ready) leave) l (done (Seeks mode ready) l) refl refl refl refl refl

-- ---- one after another

-- what was done, as it goes on
record IsFirst (l : LinkState) (did : LinkDid) (deeds : List Deed) : Type 0 where
  pub doable : AreDoable deeds l.remembered
  pub known : AreKnown deeds l.monitored
  pub leads : did.link.remembered ≡ remembered_after deeds l.remembered
  pub items : did.link.monitored ≡ monitored_after deeds l.monitored
  pub told : of_values did.notices ≡ told_after l.config.items deeds l.monitored
  pub config : did.link.config ≡ l.config

course_then : (l : LinkState) (messages more : List Data) (ids rest : List ℕ) (did next : LinkDid) (one : List Deed) → IsFirst l did one
    → (other : IsCourse did.link more rest next) → IsWithin (data_of_all one ++ data_of_all other.deeds) messages
    → IsWithin (ids_of one ++ ids_of other.deeds) ids
    → IsCourse l messages ids (record { link = next.link; said = did.said ++ next.said; notices = did.notices ++ next.notices })
course_then l messages more ids rest did next one first other heard named = record {
  deeds = one ++ other.deeds;
  doable = doable_join one other.deeds l.remembered first.doable (subst (AreDoable other.deeds) first.leads other.doable);
  known = known_join one other.deeds l.monitored first.known (subst (AreKnown other.deeds) first.items other.known);
  leads = other.leads ∙ ap (remembered_after other.deeds) first.leads ∙ sym (remembered_join one other.deeds l.remembered);
  items = other.items ∙ ap (monitored_after other.deeds) first.items ∙ sym (monitored_join one other.deeds l.monitored);
  told = values_join did.notices next.notices
      ∙ ap (λ (x : List Notice). x ++ of_values next.notices) first.told
      ∙ ap (λ (x : List Notice). told_after l.config.items one l.monitored ++ x)
      (other.told ∙ ap (λ c. told_after c.items other.deeds did.link.monitored) first.config
      ∙ ap (λ (x : List Monitored). told_after l.config.items other.deeds x) first.items)
      ∙ sym (told_join l.config.items one other.deeds l.monitored);
  heard = subst (λ (x : List Data). IsWithin x messages) (sym (data_join one other.deeds)) heard;
  named = subst (λ (x : List ℕ). IsWithin x ids) (sym (ids_join one other.deeds)) named;
}

moves_none : (leave : Leave) (moves : List Move) (l : LinkState) → AreFair leave moves l → KnowsNone l → KnowsNone (done_all moves l).link
moves_none leave [] l h none_known = none_known
moves_none leave (move ∷ moves) l h none_known =
    moves_none (left move leave) moves (done move l).link h.1 (move_none leave move l h.0 none_known)

moves_course : (leave : Leave) (moves : List Move) (l : LinkState) → AreFair leave moves l → KnowsNone l
    → IsCourse l (data_heard leave.brought) (id_heard leave.born) (done_all moves l)
moves_course leave [] l h none_known = record {
  deeds = [];
  doable = tt;
  known = tt;
  leads = refl;
  items = refl;
  told = refl;
  heard = none_within (data_heard leave.brought);
  named = none_within (id_heard leave.born);
}
moves_course leave (move ∷ moves) l h none_known =
    let did : LinkDid = done move l in
    let one : IsMoved leave (left move leave) l did = move_moved leave move l h.0 none_known in
    let next : LinkDid = done_all moves did.link in
    let rest : IsCourse did.link (data_heard (left move leave).brought) (id_heard (left move leave).born) next =
    moves_course (left move leave) moves did.link h.1 (move_none leave move l h.0 none_known) in
    course_then l (data_heard leave.brought) (data_heard (left move leave).brought) (id_heard leave.born) (id_heard (left move leave).born) did next one.deeds
    (record { doable = one.doable; known = one.known; leads = one.leads; items = one.items; told = one.told; config = move_config leave move l h.0 })
    rest (one.heard (data_of_all rest.deeds) rest.heard) (one.named (ids_of rest.deeds) rest.named)

-- ---- events

adding_face : (p : Phase) → face_of p ≡ Adds → p ≡ phase.Adding
adding_face phase.Adding e = refl
adding_face phase.Idle e = absurd cc
adding_face (phase.Dialing taken) e = absurd cc
adding_face phase.Hello e = absurd cc
adding_face phase.Opening e = absurd cc
adding_face phase.Creating e = absurd cc
adding_face phase.Activating e = absurd cc
adding_face phase.Probing e = absurd cc
adding_face phase.Transferring e = absurd cc
adding_face (phase.Republishing wanted) e = absurd cc
adding_face phase.Subscribing e = absurd cc
adding_face (phase.Ready ready) e = absurd cc

steady_none : (l : LinkState) → IsSteady l → KnowsNone l
steady_none l h = λ e. h (adding_face l.phase e)

none_steady : (l : LinkState) → KnowsNone l → IsSteady l
none_steady l h = λ e. h (ap face_of e)

session_born : (r : SessionReply) → (leave_in (Some (reply.Session r))).born ≡ id_in (Some (reply.Session r))
session_born (session_reply.ServiceFault h) = refl
session_born (session_reply.Read r) = refl
session_born other = refl

sub_born : (r : SubReply) → (leave_in (Some (reply.Subscription r))).born ≡ id_in (Some (reply.Subscription r))
sub_born (sub_reply.CreateSubscription r) = refl
sub_born (sub_reply.Publish r) = refl
sub_born (sub_reply.Republish r) = refl
sub_born other = refl

read_born : (result : Result Reply BodyFault) → (leave_read result).born ≡ id_in (reply_by result)
read_born (Ok (reply.Session r)) = session_born r
read_born (Ok (reply.Subscription r)) = sub_born r
read_born (Err fault) = refl

heard_born : (h : Heard) → (leave_heard h).born ≡ id_in (heard_reply h)
heard_born (said_of.Message number body) = read_born (body_at replies body)
heard_born other = refl

event_born : (h : Happening) → (leave_of h).born ≡ id_in (reply_of h)
event_born (step_rules.Hears heard) = heard_born heard
event_born (step_rules.Ticks ms) = refl
event_born (step_rules.Wants mode) = refl
event_born step_rules.Dials = refl
event_born other = refl

event_course : (h : Happening) (l : LinkState) → IsSteady l → IsCourse l (data_heard (message_in (reply_of h))) (id_heard (id_in (reply_of h))) (after h l)
event_course h l steady =
    let comes = happens h l in
    subst (λ m. IsCourse l (data_heard m) (id_heard (id_in (reply_of h))) (after h l)) (event_message h)
    (subst (λ m. IsCourse l (data_heard (leave_of h).brought) (id_heard m) (after h l)) (event_born h)
    (subst (IsCourse l (data_heard (leave_of h).brought) (id_heard (leave_of h).born)) (sym comes.is)
    (moves_course (leave_of h) comes.moves l comes.fair (steady_none l steady))))

pub event_steady : (h : Happening) (l : LinkState) → IsSteady l → IsSteady (after h l).link
event_steady h l steady =
    let comes = happens h l in
    subst (λ (d : LinkDid). IsSteady d.link) (sym comes.is)
    (none_steady (done_all comes.moves l).link (moves_none (leave_of h) comes.moves l comes.fair (steady_none l steady)))

pub subscriptions_have_courses : (happenings : List Happening) (l : LinkState) → IsSteady l
    → IsCourse l (data_heard_in happenings) (ids_heard_in happenings) (after_all happenings l)
subscriptions_have_courses [] l steady =
    record { deeds = []; doable = tt; known = tt; leads = refl; items = refl; told = refl; heard = refl; named = refl }
subscriptions_have_courses (h ∷ more) l steady =
    let did : LinkDid = after h l in
    let next : LinkDid = after_all more did.link in
    let one : IsCourse l (data_heard (message_in (reply_of h))) (id_heard (id_in (reply_of h))) did = event_course h l steady in
    let rest : IsCourse did.link (data_heard_in more) (ids_heard_in more) next =
    subscriptions_have_courses more did.link (event_steady h l steady) in
    course_then l (data_heard (message_in (reply_of h)) ++ data_heard_in more) (data_heard_in more)
    (id_heard (id_in (reply_of h)) ++ ids_heard_in more) (ids_heard_in more) did next one.deeds
    (record { doable = one.doable; known = one.known; leads = one.leads; items = one.items; told = one.told; config = event_config h l })
    rest
    (within_join (data_of_all one.deeds) (data_heard (message_in (reply_of h))) (data_of_all rest.deeds) (data_heard_in more) one.heard rest.heard)
    (within_join (ids_of one.deeds) (id_heard (id_in (reply_of h))) (ids_of rest.deeds) (ids_heard_in more) one.named rest.named)
