-- Each level that is told was read.
use Rattle.std.proofs.Common.{◌≡◌, ℕ, ◌+◌, ◌≤◌, zero, suc, List, [], ◌∷◌, ◌++◌, Bool, true, false, Option, Some, None, if◌then◌else◌, refl, sym, ap, ◌∙◌, subst, arith}
use Rattle.ua_sub_msgs.specs.declared.notification.MonitoredItemNotification.{MonitoredItemNotification}
use Rattle.link_rules.specs.declared.config.LinkConfig.{LinkConfig}
use Rattle.link_rules.specs.declared.conversation.Asked.{Asked}
use Rattle.link_rules.specs.declared.conversation.Conversation.{Conversation}
use Rattle.link_rules.specs.declared.notice.Notice.{Notice}
use Rattle.link_rules.specs.declared.notice.Notice.TheVariants as notice
use Rattle.link_rules.specs.declared.remembered.Monitored.{Monitored}
use Rattle.link_rules.specs.declared.remembered.Remembered.{Remembered}
use Rattle.link_rules.specs.State.{LinkState, is_ready, new_link}
use Rattle.link_rules.specs.Said.{LinkDid, Said, Told, Limited, Renewed, Greeted, Opens, Asks, nothing, tells}
use Rattle.link_rules.specs.Requests.{activation_request, channel_request, items_request, level_request, mode_request, probe_request, publish_request, republish_request, session_request_of, subscription_request, transfer_request}
use Rattle.link_rules.specs.Messages.{acknowledged, all_taken, awaits, data_taken, has_handle, kept_alive, newest, taken_as, taken_of}
use Rattle.std.specs.List.{find}
use Rattle.link_rules.specs.Numbers.{is_jump, is_next}
use Rattle.link_rules.specs.Subscribing.{streams}
use Rattle.link_rules.specs.Step.{Happening, after, after_all}
use Rattle.link_laws.specs.Counted.{level_told, levels_told, read_told, reads_put}
use Rattle.link_laws.proofs.Moves.{AreFair, ArePlain, AreSilent, Asking, Channel, Session, Activation, Probe, Transfer, Again, Subscription, Items, Publish, Modes, Level, Renewal, Face, Probes, IsFair, IsPlain, IsSilent, Leave, MayAsk, Move, Turns, Falls, Ages, Wishes, Greets, Puts, Enters, Completes, Loses, Makes, Keeps, Brings, Levels, Probed, Answers, Seeks, Sets, Confirms, begins, begun, done, done_all, face_of, left, leave_of, lost_if, stands, told_of}
use Rattle.link_laws.proofs.Opening.{happens, is_ready_at}
use Rattle.link_laws.proofs.Plain.{alive_brings, data_brings}
use Rattle.link_laws.proofs.Numbering.{asks_stand, begun_stands, ready_stands}

-- ---- counts of lists

reads_join : (one other : List Said) → reads_put (one ++ other) ≡ reads_put one + reads_put other
reads_join [] other = omega arith
reads_join (said ∷ one) other =
    let rest : reads_put (one ++ other) ≡ reads_put one + reads_put other = reads_join one other in omega (arith, rest)

levels_join : (one other : List Notice) → levels_told (one ++ other) ≡ levels_told one + levels_told other
levels_join [] other = omega arith
levels_join (n ∷ one) other =
    let rest : levels_told (one ++ other) ≡ levels_told one + levels_told other = levels_join one other in omega (arith, rest)

plain_none : (n : Notice) → IsPlain n → level_told n ≡ 0
plain_none (notice.Level level) h = absurd h
plain_none notice.Ready h = refl
plain_none other h = refl

plain_levels : (notices : List Notice) → ArePlain notices → levels_told notices ≡ 0
plain_levels [] h = refl
plain_levels (n ∷ more) h =
    let one : level_told n ≡ 0 = plain_none n h.0 in
    let rest : levels_told more ≡ 0 = plain_levels more h.1 in
    omega (arith, one, rest)

lost_levels : (b : Bool) → levels_told (lost_if b) ≡ 0
lost_levels true = refl
lost_levels false = refl

taken_levels : (o : Option Monitored) (one : MonitoredItemNotification) → levels_told (taken_as o one.value) ≡ 0
taken_levels None one = refl
taken_levels (Some monitored) one = refl

none_both : (one other : ℕ) → one ≡ 0 → other ≡ 0 → one + other ≡ 0
none_both one other e f = omega (arith, e, f)

all_levels : (items : List Monitored) (values : List MonitoredItemNotification) → levels_told (all_taken items values) ≡ 0
all_levels items [] = refl
all_levels items (one ∷ values) =
    levels_join (taken_of items one) (all_taken items values)
    ∙ none_both (levels_told (taken_of items one)) (levels_told (all_taken items values))
    (taken_levels (find (has_handle one.client_handle) items) one) (all_levels items values)

streams_levels : (count : ℕ) → levels_told (streams count) ≡ 0
streams_levels zero = refl
streams_levels (suc count) =
    let rest : levels_told (streams count) ≡ 0 = streams_levels count in
    levels_join (streams count) (notice.Stream (suc count) ∷ []) ∙ ap (λ n. n + 0) rest

alive_levels : (number : ℕ) (remembered : Remembered) (l : LinkState) → levels_told (kept_alive number remembered l).notices ≡ 0
unfolding kept_alive
alive_levels number remembered l = by_test (is_jump remembered.next number)
  where
    by_test : (b : Bool) → levels_told (if b then tells (notice.Jump ∷ []) (awaits number remembered l) else nothing l).notices ≡ 0
    by_test true = refl
    by_test false = refl

data_levels : (number : ℕ) (values : List MonitoredItemNotification) (remembered : Remembered) (l : LinkState)
    → levels_told (data_taken number values remembered l).notices ≡ 0
unfolding data_taken
data_levels number values remembered l = by_tests (is_next remembered.next number) (is_jump remembered.next number)
  where
    by_tests : (a b : Bool) → levels_told (if a then tells (all_taken l.monitored values) (newest number remembered l)
        else if b then tells (notice.Jump ∷ all_taken l.monitored values) (newest number remembered l)
        else nothing (acknowledged number l)).notices ≡ 0
    by_tests true b = all_levels l.monitored values
    by_tests false true = let rest : levels_told (all_taken l.monitored values) ≡ 0 = all_levels l.monitored values in ap (λ n. 0 + n) rest
    by_tests false false = refl

-- ---- Reads that aren't answered

abbrev probing : Face → ℕ
probing Probes = 1
probing other = 0

abbrev reading : Option Asked → ℕ
reading None = 0
reading (Some asked) = 1

abbrev waiting : LinkState → ℕ
waiting l = probing (face_of l.phase) + reading l.conversation.reading

-- so many were told, and so many read
record IsRead (told put : ℕ) (l : LinkState) : Type 0 where
  pub most : told ≤ put
  pub rest : stands (face_of l.phase) ≡ true → told + waiting l ≤ put

abbrev reads_of : Asking → ℕ
reads_of Probe = 1
reads_of Level = 1
reads_of other = 0

asks_reads : (a : Asking) (l : LinkState) → read_told (told_of a l) ≡ reads_of a
unfolding activation_request channel_request items_request level_request mode_request probe_request publish_request republish_request session_request_of subscription_request transfer_request
asks_reads Channel l = refl
asks_reads Session l = refl
asks_reads Activation l = refl
asks_reads Probe l = refl
asks_reads (Transfer id) l = refl
asks_reads (Again id number wanted) l = refl
asks_reads Subscription l = refl
asks_reads (Items id) l = refl
asks_reads (Publish ready remembered) l = refl
asks_reads (Modes mode ready id) l = refl
asks_reads Level l = refl
asks_reads Renewal l = refl

silent_read : (told : Told) → IsSilent told → read_told told ≡ 0
silent_read (Greeted greeting url) h = refl
silent_read (Opens number r) h = refl
silent_read (Asks number r) h = absurd h
silent_read (Limited limits) h = refl
silent_read (Renewed channel token) h = refl

silent_reads : (said : List Said) → AreSilent said → reads_put said ≡ 0
silent_reads [] h = refl
silent_reads (one ∷ more) h =
    let first : read_told one.told ≡ 0 = silent_read one.told h.0 in
    let rest : reads_put more ≡ 0 = silent_reads more h.1 in
    omega (arith, first, rest)

-- what one is read more, and what is told
record IsReading (told put : ℕ) (l : LinkState) (did : LinkDid) : Type 0 where
  pub reads : IsRead (told + levels_told did.notices) (put + reads_put did.said) did.link

at_most : (x : Option Asked) → reading x ≤ 1
at_most None = omega arith
at_most (Some a) = omega arith

-- where none is read, and none told
quiet_reading : (told put : ℕ) (l : LinkState) (did : LinkDid) → levels_told did.notices ≡ 0 → reads_put did.said ≡ 0
    → (stands (face_of did.link.phase) ≡ true → (stands (face_of l.phase) ≡ true) × (waiting did.link ≤ waiting l)) → IsRead told put l → IsReading told put l did
quiet_reading told put l did levels reads rest h =
    let same_told : told + levels_told did.notices ≡ told = omega (arith, levels) in
    let same_put : put + reads_put did.said ≡ put = omega (arith, reads) in
    record {
      reads = subst (λ n. IsRead n (put + reads_put did.said) did.link) (sym same_told) (subst (λ n. IsRead told n did.link) (sym same_put)
          (record { most = h.most; rest = λ there. less told put (waiting did.link) (waiting l) (rest there).1 (h.rest (rest there).0) }));
    }
  where
    less : (told put one other : ℕ) → one ≤ other → told + other ≤ put → told + one ≤ put
    less told put one other few h = omega (arith, few, h)

-- a fall
fallen_reading : (told put : ℕ) (l : LinkState) (did : LinkDid) → levels_told did.notices ≡ 0 → reads_put did.said ≡ 0 → stands (face_of did.link.phase) ≡ false
    → IsRead told put l → IsReading told put l did
fallen_reading told put l did levels reads rests h =
    quiet_reading told put l did levels reads (λ there. let bad : false ≡ true = sym rests ∙ there in absurd cc) h

-- as many wait as before, or fewer
fewer : (face now : Face) (o : Option Asked) → probing now ≤ probing face → probing now + reading o ≤ probing face + reading o
fewer face now o h = omega (arith, h)

none_probing : (face : Face) → probing face ≡ 0 → (other : Face) → probing face ≤ probing other
none_probing face e other = omega (arith, e)

-- ---- requests

least : (face : Face) (o : Option Asked) → 0 + reading o ≤ probing face + reading o + 0
least face o = omega arith

begun_waits : (a : Asking) (l : LinkState) → waiting (begun a l) ≤ waiting l + reads_of a
begun_waits Channel l = least (face_of l.phase) l.conversation.reading
begun_waits Session l = least (face_of l.phase) l.conversation.reading
begun_waits Activation l = least (face_of l.phase) l.conversation.reading
begun_waits Probe l = one_more (probing (face_of l.phase)) (reading l.conversation.reading)
  where
    one_more : (n r : ℕ) → 1 + r ≤ n + r + 1
    one_more n r = omega arith
begun_waits (Transfer id) l = least (face_of l.phase) l.conversation.reading
begun_waits (Again id number wanted) l = least (face_of l.phase) l.conversation.reading
begun_waits Subscription l = least (face_of l.phase) l.conversation.reading
begun_waits (Items id) l = least (face_of l.phase) l.conversation.reading
begun_waits (Publish ready remembered) l = least (face_of l.phase) l.conversation.reading
begun_waits (Modes mode ready id) l = least (face_of l.phase) l.conversation.reading
begun_waits Level l = one_more (probing (face_of l.phase)) (reading l.conversation.reading)
  where
    one_more : (n r : ℕ) → n + 1 ≤ n + r + 1
    one_more n r = omega arith
begun_waits Renewal l = same (probing (face_of l.phase)) (reading l.conversation.reading)
  where
    same : (n r : ℕ) → n + r ≤ n + r + 0
    same n r = omega arith

put_reading : (leave : Leave) (a : Asking) (l : LinkState) (told put : ℕ) → MayAsk leave a l → IsRead told put l → IsReading told put l (done (Puts a) l)
put_reading leave a l told put may h =
    let is : read_told (told_of a l) ≡ reads_of a = asks_reads a l in
    let waits : waiting (begun a l) ≤ waiting l + reads_of a = begun_waits a l in
    let before : told + waiting l ≤ put = h.rest (asks_stand leave a l may) in
    let few : told ≤ put = h.most in
    record {
      reads = record {
        most = most_by told put (read_told (told_of a l)) few;
        rest = λ there. rest_by told put (waiting l) (waiting (begun a l)) (reads_of a) (read_told (told_of a l)) is waits before;
      };
    }
  where
    most_by : (told put more : ℕ) → told ≤ put → told + 0 ≤ put + (more + 0)
    most_by told put more few = omega (arith, few)

    rest_by : (told put before after one more : ℕ) → more ≡ one → after ≤ before + one → told + before ≤ put → told + 0 + after ≤ put + (more + 0)
    rest_by told put before after one more is waits h = omega (arith, is, waits, h)

-- ---- moves

same_rest : (l next : LinkState) → face_of next.phase ≡ face_of l.phase → next.conversation.reading ≡ l.conversation.reading
    → stands (face_of next.phase) ≡ true → (stands (face_of l.phase) ≡ true) × (waiting next ≤ waiting l)
same_rest l next f r there =
    let one : probing (face_of next.phase) ≡ probing (face_of l.phase) = ap probing f in
    let other : reading next.conversation.reading ≡ reading l.conversation.reading = ap reading r in
    (sym (ap stands f) ∙ there, omega (arith, one, other))

sends_rest : (l : LinkState) (o : Option Asked) → l.conversation.reading ≡ o → 0 + reading l.conversation.reading ≤ waiting l
sends_rest l o e = lesser (probing (face_of l.phase)) (reading l.conversation.reading)
  where
    lesser : (n r : ℕ) → 0 + r ≤ n + r
    lesser n r = omega arith

move_reading : (leave : Leave) (move : Move) (l : LinkState) (told put : ℕ) → IsFair leave move l → IsRead told put l → IsReading told put l (done move l)
move_reading leave (Turns did) l told put h read =
    quiet_reading told put l did (plain_levels did.notices h.plain) (silent_reads did.said h.silent)
    (λ there. same_rest l did.link h.same.face h.same.reading there) read
move_reading leave (Falls did) l told put h read =
    fallen_reading told put l did (ap levels_told h.told ∙ lost_levels (is_ready l)) (ap reads_put h.said)
    (ap (λ p. stands (face_of p)) h.rests) read
move_reading leave (Ages ms) l told put h read =
    quiet_reading told put l (done (Ages ms) l) refl refl (λ there. same_rest l (done (Ages ms) l).link refl refl there) read
move_reading leave Wishes l told put h read = fallen_reading told put l (done Wishes l) refl refl refl read
move_reading leave (Greets url) l told put h read =
    record { reads = record { most = more told put read.most; rest = λ there. more_zero told put read.most } }
  where
    more : (told put : ℕ) → told ≤ put → told + 0 ≤ put + (0 + 0)
    more told put few = omega (arith, few)

    more_zero : (told put : ℕ) → told ≤ put → told + 0 + (0 + 0) ≤ put + (0 + 0)
    more_zero told put few = omega (arith, few)
move_reading leave (Puts a) l told put h read = put_reading leave a l told put h.0 read
move_reading leave (Sets mode ready id) l told put h read =
    let reading_is : IsReading told put l (done (Puts (Modes mode ready id)) l) = put_reading leave (Modes mode ready id) l told put h read in
    record { reads = reading_is.reads }
move_reading leave (Confirms setting ready) l told put h read =
    quiet_reading told put l (done (Confirms setting ready) l) refl refl
    (λ there. (ready_stands l (is_ready_at l ready h.0), sends_rest l l.conversation.reading refl)) read
move_reading leave (Enters confirmed) l told put h read =
    quiet_reading told put l (done (Enters confirmed) l) refl refl (λ there. (begun_stands l h, sends_rest l l.conversation.reading refl)) read
move_reading leave (Completes confirmed items) l told put h read =
    quiet_reading told put l (done (Completes confirmed items) l) refl refl (λ there. (begun_stands l (ap begins h.0), sends_rest l l.conversation.reading refl)) read
move_reading leave Loses l told put h read =
    quiet_reading told put l (done Loses l) refl refl (λ there. (ready_stands l h, sends_rest l l.conversation.reading refl)) read
move_reading leave (Makes id) l told put h read =
    quiet_reading told put l (done (Makes id) l) (streams_levels l.config.items) refl (λ there. same_rest l (done (Makes id) l).link refl refl there) read
move_reading leave (Keeps number remembered) l told put h read =
    let brings = alive_brings number remembered l in
    quiet_reading told put l (done (Keeps number remembered) l) (alive_levels number remembered l) (ap reads_put brings.said)
    (λ there. same_rest l (done (Keeps number remembered) l).link (ap face_of brings.phase) (ap (λ (c : Conversation). c.reading) brings.talk) there) read
move_reading leave (Brings number values remembered) l told put h read =
    let brings = data_brings number values remembered l in
    quiet_reading told put l (done (Brings number values remembered) l) (data_levels number values remembered l) (ap reads_put brings.said)
    (λ there. same_rest l (done (Brings number values remembered) l).link (ap face_of brings.phase) (ap (λ (c : Conversation). c.reading) brings.talk) there) read
move_reading leave (Levels level) l told put h read =
    let before : told + waiting l ≤ put = read.rest (ready_stands l h.1) in
    let one : reading l.conversation.reading ≡ 1 = ap reading h.2.1 in
    let most : told + 1 ≤ put = gives told put (probing (face_of l.phase)) (reading l.conversation.reading) one before in
    record {
      reads = record {
        most = most_by told put most;
        rest = λ there. rest_by told put (probing (face_of l.phase)) (reading l.conversation.reading) one before;
      };
    }
  where
    gives : (told put n r : ℕ) → r ≡ 1 → told + (n + r) ≤ put → told + 1 ≤ put
    gives told put n r one h = omega (arith, one, h)

    most_by : (told put : ℕ) → told + 1 ≤ put → told + (1 + 0) ≤ put + 0
    most_by told put h = omega (arith, h)

    rest_by : (told put n r : ℕ) → r ≡ 1 → told + (n + r) ≤ put → told + (1 + 0) + (n + 0) ≤ put + 0
    rest_by told put n r one h = omega (arith, one, h)
move_reading leave (Probed level) l told put h read =
    let before : told + waiting l ≤ put = read.rest (ap stands h.1) in
    let one : probing (face_of l.phase) ≡ 1 = ap probing h.1 in
    record {
      reads = record {
        most = most_by told put (probing (face_of l.phase)) (reading l.conversation.reading) one before;
        rest = λ there. rest_by told put (probing (face_of l.phase)) (reading l.conversation.reading) one before;
      };
    }
  where
    most_by : (told put n r : ℕ) → n ≡ 1 → told + (n + r) ≤ put → told + (1 + 0) ≤ put + 0
    most_by told put n r one h = omega (arith, one, h)

    rest_by : (told put n r : ℕ) → n ≡ 1 → told + (n + r) ≤ put → told + (1 + 0) + (0 + r) ≤ put + 0
    rest_by told put n r one h = omega (arith, one, h)
move_reading leave (Answers ready publishes since) l told put h read =
    quiet_reading told put l (done (Answers ready publishes since) l) refl refl
    (λ there. (ready_stands l (is_ready_at l ready h.0), sends_rest l l.conversation.reading refl)) read
move_reading leave (Seeks mode ready) l told put h read =
    quiet_reading told put l (done (Seeks mode ready) l) refl refl
    (λ there. (ready_stands l (is_ready_at l ready h.0), sends_rest l l.conversation.reading refl)) read

reading_then : (told put : ℕ) (l : LinkState) (did next : LinkDid)
    → IsReading (told + levels_told did.notices) (put + reads_put did.said) did.link next
    → IsReading told put l (record { link = next.link; said = did.said ++ next.said; notices = did.notices ++ next.notices })
reading_then told put l did next h =
    let levels : levels_told (did.notices ++ next.notices) ≡ levels_told did.notices + levels_told next.notices = levels_join did.notices next.notices in
    let reads : reads_put (did.said ++ next.said) ≡ reads_put did.said + reads_put next.said = reads_join did.said next.said in
    let one : told + levels_told (did.notices ++ next.notices) ≡ told + levels_told did.notices + levels_told next.notices =
    sum told (levels_told did.notices) (levels_told next.notices) (levels_told (did.notices ++ next.notices)) levels in
    let other : put + reads_put (did.said ++ next.said) ≡ put + reads_put did.said + reads_put next.said =
    sum put (reads_put did.said) (reads_put next.said) (reads_put (did.said ++ next.said)) reads in
    record {
      reads = subst (λ n. IsRead n (put + reads_put (did.said ++ next.said)) next.link) (sym one)
          (subst (λ n. IsRead (told + levels_told did.notices + levels_told next.notices) n next.link) (sym other) h.reads);
    }
  where
    sum : (a b c all : ℕ) → all ≡ b + c → a + all ≡ a + b + c
    sum a b c all e = omega (arith, e)

none_reading : (told put : ℕ) (l : LinkState) → IsRead told put l → IsReading told put l (nothing l)
none_reading told put l read = quiet_reading told put l (nothing l) refl refl (λ there. same_rest l l refl refl there) read

moves_reading : (leave : Leave) (moves : List Move) (l : LinkState) (told put : ℕ) → AreFair leave moves l → IsRead told put l
    → IsReading told put l (done_all moves l)
moves_reading leave [] l told put h read = none_reading told put l read
moves_reading leave (move ∷ moves) l told put h read =
    let did : LinkDid = done move l in
    let one : IsReading told put l did = move_reading leave move l told put h.0 read in
    reading_then told put l did (done_all moves did.link)
    (moves_reading (left move leave) moves did.link (told + levels_told did.notices) (put + reads_put did.said) h.1 one.reads)

event_reading : (h : Happening) (l : LinkState) (told put : ℕ) → IsRead told put l → IsReading told put l (after h l)
event_reading h l told put read =
    let comes = happens h l in
    subst (IsReading told put l) (sym comes.is) (moves_reading (leave_of h) comes.moves l told put comes.fair read)

all_reading : (happenings : List Happening) (l : LinkState) (told put : ℕ) → IsRead told put l → IsReading told put l (after_all happenings l)
all_reading [] l told put read = none_reading told put l read
all_reading (h ∷ more) l told put read =
    let did : LinkDid = after h l in
    let one : IsReading told put l did = event_reading h l told put read in
    reading_then told put l did (after_all more did.link)
    (all_reading more did.link (told + levels_told did.notices) (put + reads_put did.said) one.reads)

pub levels_are_read : (config : LinkConfig) (happenings : List Happening)
    → levels_told (after_all happenings (new_link config)).notices ≤ reads_put (after_all happenings (new_link config)).said
levels_are_read config happenings =
    let did : LinkDid = after_all happenings (new_link config) in
    let most : 0 + levels_told did.notices ≤ 0 + reads_put did.said =
    (all_reading happenings (new_link config) 0 0 (record { most = omega arith; rest = λ there. absurd cc })).reads.most in
    omega (arith, most)
