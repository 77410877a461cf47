-- One connection is watched: whatever the rules of a server do, it stays as it is to be, and nothing is told on it that may not be.
use Rattle.std.proofs.Common.{◌≡◌, ◌⊎◌, inl, inr, ℕ, zero, suc, ◌==◌, ◌||◌, ◌≤◌, List, [], ◌∷◌, ◌++◌, Bool, true, false, not, cond, Option, Some, None, IfSome, filter, map, length, nat_lt, refl, sym, ap, ◌∙◌, subst, arith}
use Rattle.std.specs.Prelude.{Result, Ok, Err}
use Rattle.std.specs.List.{AllByRecursion}
use Rattle.ua_base.specs.Status.{bad_response_too_large, bad_tcp_message_too_large, bad_no_subscription, bad_timeout, good_subscription_transferred, bad_too_many_operations, bad_too_many_publish_requests}
use Rattle.subscription.specs.State.{SubState}
use Rattle.ua_services.specs.declared.reply.Reply.{Reply}
use Rattle.server_rules.specs.declared.conn.Asker.{Asker}
use Rattle.server_rules.specs.declared.conn.Conn.{Conn}
use Rattle.server_rules.specs.declared.waiting.Waiting.{Waiting}
use Rattle.server_rules.specs.State.{NoticeState, ServerState, conn_at, is_conn, renewed_conn, server_time, sub_at, with_sub}
use Rattle.server_rules.specs.Said.{Did, Said, Told, Refused, Replied, and_then, each, nothing, Opened, Renewed}
use Rattle.server_rules.specs.Answering.{deafened, fault_reply, faulted, refused_on, replied, replied_on, replied_to, replied_within, takes}
use Rattle.server_rules.specs.Operations.{after_each, done}
use Rattle.sessions.specs.Table.{conn_of, may_transfer, session_at, driven_out_of, parked}
use Rattle.subscription.specs.Calls.{acknowledged, published}
use Rattle.server_rules.specs.Moves.{answered_by, answered_queued, answered_within, deleted, expired_sub, given_sub, gone, has_notice, has_subs, left, left_by, notice_of, notice_response, noticed, noticed_of, oldest_notice, oldest_waiting, other_than, owner, publish_reply, queued, released, served, served_by, served_if, served_within, told, told_notice, told_why, transferred_sub, unqueued, waiting_of, without_oldest_notice, owns}
use Rattle.ua_sub_msgs.specs.declared.publish.PublishRequest.{PublishRequest}
use Rattle.ua_sub_msgs.specs.declared.publish.SubscriptionAcknowledgement.{SubscriptionAcknowledgement}
use Rattle.server_rules.specs.Publishing.{ack_results, acked, all_acked, driven_out, enqueued, first_of, has_more, late_sub, parked_of, publish, queued_on, sends, sent, sent_by, sent_if, sent_on, sent_with, sent_within, sub_response, taken, taken_by, turned, used, waiting_with}
use Rattle.std.proofs.lemmas.Bool.Decides.{nat_tests}
use Rattle.server_rules.specs.Opening.{opening_reply, with_channel}
use Rattle.ua_session_msgs.specs.declared.channel.OpenSecureChannelResponse.{OpenSecureChannelResponse}
use Rattle.ua_services.specs.Families.{written_reply}
use Rattle.server_keeps.proofs.Lists.{all_join, choice}
use Rattle.ua_channel.specs.State.{is_deaf}

-- what is found has the number
found_by : (b : Bool) (number : ℕ) (one found : Conn) (rest : Option Conn) → is_conn number one ≡ b → (rest ≡ Some found → found.number ≡ number)
    → cond b (Some one) rest ≡ Some found → found.number ≡ number
found_by true number one found rest test on is =
    let same : one ≡ found = cc in
    let own : one.number ≡ number = grind (arith, nat_tests) in
    sym (ap (λ (c : Conn). c.number) same) ∙ own
found_by false number one found rest test on is = on is

pub found_number : (number : ℕ) (conns : List Conn) (found : Conn) → conn_at number conns ≡ Some found → found.number ≡ number
found_number number [] found is = absurd cc
found_number number (one ∷ conns) found is = found_by (is_conn number one) number one found (conn_at number conns) refl (found_number number conns found) is

-- numbers of connections, as they are compared
other_number : (a b c : ℕ) → (b == a) ≡ true → (a == c) ≡ false → (b == c) ≡ false
other_number a b c one other = grind (arith, nat_tests)

none_left : (number : ℕ) (conns : List Conn) → conn_at number (filter (λ conn. not (is_conn number conn)) conns) ≡ None
none_left number [] = refl
none_left number (one ∷ conns) = by_test (is_conn number one) refl (none_left number conns)
  where
    by_test : (b : Bool) → is_conn number one ≡ b → conn_at number (filter (λ conn. not (is_conn number conn)) conns) ≡ None
        → conn_at number (cond (not b) (one ∷ filter (λ conn. not (is_conn number conn)) conns) (filter (λ conn. not (is_conn number conn)) conns)) ≡ None
    by_test true test rest = rest
    by_test false test rest = ap (λ b. cond b (Some one) (conn_at number (filter (λ conn. not (is_conn number conn)) conns))) test ∙ rest

same_goes : (n number : ℕ) (one : Conn) (conns : List Conn) → is_conn n one ≡ true → is_conn number one ≡ true
    → conn_at number (filter (λ conn. not (is_conn n conn)) conns) ≡ None
same_goes n number one conns x y =
    let same : number ≡ n = grind (arith, nat_tests) in
    subst (λ m. conn_at m (filter (λ conn. not (is_conn n conn)) conns) ≡ None) (sym same) (none_left n conns)

-- what is watched of one connection: how it is to be, and what may be told on it
pub record Watch : Type 1 where
  pub number : ℕ
  pub Good : Conn → Type 0
  pub May : Told → Type 0
  pub deaf : (conn : Conn) → (conn.number ≡ number → Good conn) → conn.number ≡ number → Good (deafened conn)
  pub channelled : (channel token : ℕ) (conn : Conn) → is_deaf conn.ear ≡ false → (conn.number ≡ number → Good conn)
      → conn.number ≡ number → Good (with_channel channel token conn)
  pub replies : (conn : Conn) (request : ℕ) (answer : Reply) → (conn.number ≡ number → Good conn) → takes conn answer ≡ true
      → conn.number ≡ number → May (Replied request answer)
  pub opens : (conn : Conn) (request : ℕ) (response : OpenSecureChannelResponse) → (conn.number ≡ number → Good conn)
      → takes conn (opening_reply response) ≡ true → length (written_reply (opening_reply response)) ≤ 4096
      → conn.number ≡ number → May (Opened request response)
  pub renews : (channel token : ℕ) → May (Renewed channel token)
  pub refuses : (code : ℕ) → May (Refused code)

module _ (watch : Watch) where
  -- a connection that is found is as it is to be
  abbrev pub AtConn : Option Conn → Type 0
  AtConn found = IfSome found watch.Good

  abbrev pub Has : ServerState → Type 0
  Has s = AtConn (conn_at watch.number s.conns)

  -- if it is this connection, it is so
  abbrev pub Is : Conn → Type 0
  Is conn = conn.number ≡ watch.number → watch.Good conn

  -- if it is said there, it may be
  abbrev pub MaySay : Said → Type 0
  MaySay said = said.conn ≡ watch.number → watch.May said.told

  -- the connection is still so, and nothing else was said on it
  pub record Keeps (did : Did) : Type 0 where
    pub known : Has did.state
    pub said : AllByRecursion MaySay did.said

  -- ---- rules put together

  abbrev pub AlwaysKeeps : (ServerState → Did) → Type 0
  AlwaysKeeps rule = (t : ServerState) → Has t → Keeps (rule t)

  pub quiet : (s : ServerState) → Has s → Keeps (nothing s)
  quiet s h = record { known = h; said = tt }

  pub in_turn : (rule : ServerState → Did) (did : Did) → Keeps did → AlwaysKeeps rule → Keeps (and_then rule did)
  in_turn rule did h rest =
      let later = rest did.state h.known in
      record { known = later.known; said = all_join MaySay did.said (rule did.state).said h.said later.said }

  pub each_in_turn : {A : Type 0} (rule : A → ServerState → Did) → ((one : A) (t : ServerState) → Has t → Keeps (rule one t)) → (all : List A) (s : ServerState)
      → Has s → Keeps (each rule all s)
  each_in_turn rule step [] s h = quiet s h
  each_in_turn rule step (one ∷ more) s h = in_turn (each rule more) (rule one s) (step one s h) (each_in_turn rule step more)

  -- ---- on a connection

  pub of_found : (n : ℕ) (conns : List Conn) (s : ServerState) → conns ≡ s.conns → Has s → (conn : Conn) → conn_at n conns ≡ Some conn → Is conn
  of_found n conns s same h conn is own =
      let there : conn.number ≡ n = found_number n conns conn is in
      let at : conn_at watch.number s.conns ≡ Some conn = subst (λ m. conn_at m s.conns ≡ Some conn) (sym there ∙ own) (ap (conn_at n) (sym same) ∙ is) in
      subst (λ o. IfSome o watch.Good) at h

  pub renewed_has : (conn : Conn) → Is conn → (conns : List Conn) → IfSome (conn_at watch.number conns) watch.Good
      → IfSome (conn_at watch.number (map (renewed_conn conn) conns)) watch.Good
  renewed_has conn own [] h = tt
  renewed_has conn own (one ∷ conns) h =
      by_test (is_conn conn.number one) (is_conn watch.number conn) (is_conn watch.number one) refl refl refl (renewed_has conn own conns)
    where
      by_test : (a b c : Bool) → is_conn conn.number one ≡ a → is_conn watch.number conn ≡ b → is_conn watch.number one ≡ c
          → (AtConn (conn_at watch.number conns) → AtConn (conn_at watch.number (map (renewed_conn conn) conns)))
          → AtConn (conn_at watch.number (cond a conn one ∷ map (renewed_conn conn) conns))
      by_test true true c x y z rest =
          let same : conn.number ≡ watch.number = grind (arith, nat_tests) in
          subst (λ b. AtConn (cond b (Some conn) (conn_at watch.number (map (renewed_conn conn) conns)))) (sym y) (own same)
      by_test true false c x y z rest =
          let none : is_conn watch.number one ≡ false = other_number conn.number one.number watch.number x y in
          subst (λ b. AtConn (cond b (Some conn) (conn_at watch.number (map (renewed_conn conn) conns)))) (sym y)
          (rest (subst (λ b. AtConn (cond b (Some one) (conn_at watch.number conns))) none h))
      by_test false b true x y z rest =
          subst (λ b. AtConn (cond b (Some one) (conn_at watch.number (map (renewed_conn conn) conns)))) (sym z)
          (subst (λ b. AtConn (cond b (Some one) (conn_at watch.number conns))) z h)
      by_test false b false x y z rest =
          subst (λ b. AtConn (cond b (Some one) (conn_at watch.number (map (renewed_conn conn) conns)))) (sym z)
          (rest (subst (λ b. AtConn (cond b (Some one) (conn_at watch.number conns))) z h))

  -- without some connections
  pub filtered_has : (n : ℕ) (conns : List Conn) → IfSome (conn_at watch.number conns) watch.Good
      → IfSome (conn_at watch.number (filter (λ conn. not (is_conn n conn)) conns)) watch.Good
  filtered_has n [] h = tt
  filtered_has n (one ∷ conns) h = by_test (is_conn n one) (is_conn watch.number one) refl refl (filtered_has n conns) (same_goes n watch.number one conns)
    where
      by_test : (a b : Bool) → is_conn n one ≡ a → is_conn watch.number one ≡ b
          → (AtConn (conn_at watch.number conns) → AtConn (conn_at watch.number (filter (λ conn. not (is_conn n conn)) conns)))
          → (is_conn n one ≡ true → is_conn watch.number one ≡ true → conn_at watch.number (filter (λ conn. not (is_conn n conn)) conns) ≡ None)
          → AtConn (conn_at watch.number (cond (not a) (one ∷ filter (λ conn. not (is_conn n conn)) conns) (filter (λ conn. not (is_conn n conn)) conns)))
      by_test true true x y rest goes = subst AtConn (sym (goes x y)) tt
      by_test true false x y rest goes = rest (subst (λ b. AtConn (cond b (Some one) (conn_at watch.number conns))) y h)
      by_test false true x y rest goes =
          subst (λ b. AtConn (cond b (Some one) (conn_at watch.number (filter (λ conn. not (is_conn n conn)) conns)))) (sym y)
          (subst (λ b. AtConn (cond b (Some one) (conn_at watch.number conns))) y h)
      by_test false false x y rest goes =
          subst (λ b. AtConn (cond b (Some one) (conn_at watch.number (filter (λ conn. not (is_conn n conn)) conns)))) (sym y)
          (rest (subst (λ b. AtConn (cond b (Some one) (conn_at watch.number conns))) y h))

  -- with a connection behind the others
  pub appended_has : (new : Conn) → (is_conn watch.number new ≡ false) ⊎ watch.Good new → (conns : List Conn) → IfSome (conn_at watch.number conns) watch.Good
      → IfSome (conn_at watch.number (conns ++ new ∷ [])) watch.Good
  appended_has new (inl other) [] h = subst (λ b. IfSome (cond b (Some new) None) watch.Good) (sym other) tt
  appended_has new (inr own) [] h = choice (λ o. IfSome o watch.Good) (is_conn watch.number new) (Some new) None own tt
  appended_has new which (one ∷ conns) h = by_test (is_conn watch.number one) refl (appended_has new which conns)
    where
      by_test : (b : Bool) → is_conn watch.number one ≡ b → (AtConn (conn_at watch.number conns) → AtConn (conn_at watch.number (conns ++ new ∷ [])))
          → AtConn (cond b (Some one) (conn_at watch.number (conns ++ new ∷ [])))
      by_test true test rest = subst (λ b. AtConn (cond b (Some one) (conn_at watch.number conns))) test h
      by_test false test rest = rest (subst (λ b. AtConn (cond b (Some one) (conn_at watch.number conns))) test h)

  pub refused_keeps : (conn : Conn) (code : ℕ) (s : ServerState) → Has s → Is conn → Keeps (refused_on conn code s)
  unfolding refused_on
  refused_keeps conn code s h own = record {
    known = renewed_has (deafened conn) (watch.deaf conn own) s.conns h;
    said = (λ same. watch.refuses code, tt);
  }

  within_keeps : (conn : Conn) (request : ℕ) (answer : Reply) (s : ServerState) → Has s → Is conn → takes conn answer ≡ true
      → Keeps (replied_within conn request answer s)
  unfolding replied_within
  within_keeps conn request answer s h own test = record { known = h; said = (watch.replies conn request answer own test, tt) }

  on_keeps : (conn : Conn) (request handle : ℕ) (answer : Reply) (s : ServerState) → Has s → Is conn → Keeps (replied_on conn request handle answer s)
  unfolding replied_on
  on_keeps conn request handle answer s h own =
      by_test (takes conn answer) (takes conn (fault_reply handle bad_response_too_large s)) refl refl
    where
      by_test : (a b : Bool) → takes conn answer ≡ a → takes conn (fault_reply handle bad_response_too_large s) ≡ b
          → Keeps (cond a (replied_within conn request answer s) (cond b (replied_within conn request (fault_reply handle bad_response_too_large s) s) (refused_on conn bad_tcp_message_too_large s)))
      by_test true b x y = within_keeps conn request answer s h own x
      by_test false true x y = within_keeps conn request (fault_reply handle bad_response_too_large s) s h own y
      by_test false false x y = refused_keeps conn bad_tcp_message_too_large s h own

  to_keeps : (to : Option Conn) (request handle : ℕ) (answer : Reply) (s : ServerState) → Has s → ((conn : Conn) → to ≡ Some conn → Is conn)
      → Keeps (replied_to to request handle answer s)
  to_keeps None request handle answer s h own = quiet s h
  to_keeps (Some conn) request handle answer s h own = on_keeps conn request handle answer s h (own conn refl)

  pub replied_keeps : (asker : Asker) (answer : Reply) (s : ServerState) → Has s → Keeps (replied asker answer s)
  unfolding replied
  replied_keeps asker answer s h =
      to_keeps (conn_at asker.conn s.conns) asker.request asker.handle answer s h (of_found asker.conn s.conns s refl h)

  pub faulted_keeps : (asker : Asker) (code : ℕ) (s : ServerState) → Has s → Keeps (faulted asker code s)
  faulted_keeps asker code s h = replied_keeps asker (fault_reply asker.handle code s) s h

  pub done_keeps : {A : Type 0} (asker : Asker) (rule : A → ServerState → Did) (r : Result A ℕ) (s : ServerState) → Has s → ((a : A) → Keeps (rule a s))
      → Keeps (done asker rule r s)
  done_keeps asker rule (Ok a) s h kept = kept a
  done_keeps asker rule (Err code) s h kept = faulted_keeps asker code s h

  pub after_each_has : {A : Type 0} (step : A → ServerState → ServerState) → ((one : A) (t : ServerState) → Has t → Has (step one t)) → (all : List A) (s : ServerState)
      → Has s → Has (after_each step all s)
  after_each_has step keeps [] s h = h
  after_each_has step keeps (one ∷ more) s h = after_each_has step keeps more (step one s) (keeps one s h)

  -- ---- notices and queued Publishes

  told_by_keeps : (waiting : Waiting) (notice : Option NoticeState) (session : ℕ) (s : ServerState) → Has s → Keeps (told_notice waiting notice session s)
  told_by_keeps waiting None session s h = quiet s h
  told_by_keeps waiting (Some notice) session s h =
      replied_keeps waiting.asker (publish_reply (notice_response waiting notice s)) (record s { notices = without_oldest_notice session s.notices }) h

  told_keeps : (waiting : Waiting) (session : ℕ) (s : ServerState) → Has s → Keeps (told waiting session s)
  unfolding told
  told_keeps waiting session s h = told_by_keeps waiting (oldest_notice session s.notices) session s h

  served_by_keeps : (more : ServerState → Did) (waiting : Option Waiting) (session : ℕ) (s : ServerState) → Has s → AlwaysKeeps more
      → Keeps (served_by more waiting session s)
  served_by_keeps more None session s h rest = quiet s h
  served_by_keeps more (Some waiting) session s h rest =
      in_turn more (told waiting session (unqueued session s)) (told_keeps waiting session (unqueued session s) h) rest

  served_if_keeps : (b : Bool) (more : ServerState → Did) (session : ℕ) (s : ServerState) → Has s → AlwaysKeeps more → Keeps (served_if b more session s)
  served_if_keeps false more session s h rest = quiet s h
  served_if_keeps true more session s h rest = served_by_keeps more (oldest_waiting session s) session s h rest

  served_within_keeps : (most session : ℕ) (s : ServerState) → Has s → Keeps (served_within most session s)
  unfolding served_within
  served_within_keeps zero session s h = quiet s h
  served_within_keeps (suc most) session s h =
      served_if_keeps (has_notice session s) (served_within most session) session s h (served_within_keeps most session)

  answered_by_keeps : (more : ServerState → Did) (code : ℕ) (waiting : Option Waiting) (session : ℕ) (s : ServerState) → Has s → AlwaysKeeps more
      → Keeps (answered_by more code waiting session s)
  answered_by_keeps more code None session s h rest = quiet s h
  answered_by_keeps more code (Some waiting) session s h rest =
      in_turn more (faulted waiting.asker code (unqueued session s)) (faulted_keeps waiting.asker code (unqueued session s) h) rest

  answered_within_keeps : (most code session : ℕ) (s : ServerState) → Has s → Keeps (answered_within most code session s)
  unfolding answered_within
  answered_within_keeps zero code session s h = quiet s h
  answered_within_keeps (suc most) code session s h =
      answered_by_keeps (answered_within most code session) code (oldest_waiting session s) session s h (answered_within_keeps most code session)

  pub answered_queued_keeps : (code session : ℕ) (s : ServerState) → Has s → Keeps (answered_queued code session s)
  answered_queued_keeps code session s h = answered_within_keeps (queued session s) code session s h

  released_keeps : (session : ℕ) (s : ServerState) → Has s → Keeps (released session s)
  released_keeps session s h =
      choice Keeps (has_subs session s || has_notice session s) (nothing s) (answered_queued bad_no_subscription session s)
      (quiet s h) (answered_queued_keeps bad_no_subscription session s h)

  left_keeps : (session : ℕ) (s : ServerState) → Has s → Keeps (left session s)
  unfolding left
  left_keeps session s h = in_turn (released session) (served session s) (served_within_keeps (queued session s) session s h) (released_keeps session)

  -- ---- subscriptions leave a session

  left_by_keeps : (session : Option ℕ) (s : ServerState) → Has s → Keeps (left_by session s)
  left_by_keeps None s h = quiet s h
  left_by_keeps (Some session) s h = left_keeps session s h

  pub deleted_keeps : (id : ℕ) (s : ServerState) → Has s → Keeps (deleted id s)
  unfolding deleted
  deleted_keeps id s h = left_by_keeps (owner id s) (gone id s) h

  noticed_has : (notice : NoticeState) (s : ServerState) → Has s → Has (noticed notice s)
  unfolding noticed
  noticed_has notice s h = h

  noticed_of_has : (sub : Option SubState) (session code : ℕ) (s : ServerState) → Has s → Has (noticed_of sub session code s)
  noticed_of_has None session code s h = h
  noticed_of_has (Some sub) session code s h = noticed_has (notice_of session code sub) s h

  told_why_keeps : (session : Option ℕ) (code : ℕ) (sub : Option SubState) (s : ServerState) → Has s → Keeps (told_why session code sub s)
  told_why_keeps None code sub s h = quiet s h
  told_why_keeps (Some session) code sub s h = left_keeps session (noticed_of sub session code s) (noticed_of_has sub session code s h)

  pub expired_sub_keeps : (id : ℕ) (s : ServerState) → Has s → Keeps (expired_sub id s)
  unfolding expired_sub
  expired_sub_keeps id s h = told_why_keeps (owner id s) bad_timeout (sub_at id s.subs) (gone id s) h

  pub transferred_keeps : (id to : ℕ) (s : ServerState) → Has s → Keeps (transferred_sub id to s)
  unfolding transferred_sub
  transferred_keeps id to s h =
      choice Keeps (may_transfer id to s.sessions)
      (told_why (other_than to (owner id s)) good_subscription_transferred (sub_at id s.subs) (given_sub id to s)) (nothing s)
      (told_why_keeps (other_than to (owner id s)) good_subscription_transferred (sub_at id s.subs) (given_sub id to s) h) (quiet s h)

  -- ---- sending

  acked_has : (session : ℕ) (ack : SubscriptionAcknowledgement) (s : ServerState) → Has s → Has (acked session ack s)
  acked_has session ack s h =
      choice Has (owns session ack.subscription_id s) (with_sub ack.subscription_id (acknowledged ack.sequence_number) s) s h h

  all_acked_has : (session : ℕ) (acks : List SubscriptionAcknowledgement) (s : ServerState) → Has s → Has (all_acked session acks s)
  all_acked_has session [] s h = h
  all_acked_has session (ack ∷ acks) s h = all_acked_has session acks (acked session ack s) (acked_has session ack s h)

  sent_by_keeps : (waiting : Waiting) (id : ℕ) (sub : Option SubState) (s : ServerState) → Has s → Keeps (sent_by waiting id sub s)
  sent_by_keeps waiting id None s h = quiet s h
  sent_by_keeps waiting id (Some sub) s h =
      replied_keeps waiting.asker (publish_reply (sub_response waiting sub (published (server_time s) sub) s)) (with_sub id (published (server_time s)) s) h

  sent_keeps : (waiting : Waiting) (id : ℕ) (s : ServerState) → Has s → Keeps (sent waiting id s)
  unfolding sent
  sent_keeps waiting id s h = sent_by_keeps waiting id (sub_at id s.subs) s h

  sent_with_keeps : (more : ServerState → Did) (waiting : Option Waiting) (id session : ℕ) (s : ServerState) → Has s → AlwaysKeeps more
      → Keeps (sent_with more waiting id session s)
  sent_with_keeps more None id session s h rest = quiet s h
  sent_with_keeps more (Some waiting) id session s h rest =
      in_turn more (sent waiting id (unqueued session s)) (sent_keeps waiting id (unqueued session s) h) rest

  sent_if_keeps : (b : Bool) (more : ServerState → Did) (id session : ℕ) (s : ServerState) → Has s → AlwaysKeeps more → Keeps (sent_if b more id session s)
  sent_if_keeps false more id session s h rest = quiet s h
  sent_if_keeps true more id session s h rest = sent_with_keeps more (oldest_waiting session s) id session s h rest

  sent_within_keeps : (most id session : ℕ) (s : ServerState) → Has s → Keeps (sent_within most id session s)
  unfolding sent_within
  sent_within_keeps zero id session s h = quiet s h
  sent_within_keeps (suc most) id session s h =
      sent_if_keeps (has_more id s) (sent_within most id session) id session s h (sent_within_keeps most id session)

  sent_on_keeps : (id session : ℕ) (s : ServerState) → Has s → Keeps (sent_on id session s)
  sent_on_keeps id session s h = sent_within_keeps (queued session s) id session s h

  pub sends_keeps : (id session : ℕ) (s : ServerState) → Has s → Keeps (sends id session s)
  unfolding sends
  sends_keeps id session s h = sent_with_keeps (sent_on id session) (oldest_waiting session s) id session s h (sent_on_keeps id session)

  -- ---- a Publish

  driven_out_keeps : (waiting : Option Waiting) (s : ServerState) → Has s → Keeps (driven_out waiting s)
  driven_out_keeps None s h = quiet s h
  driven_out_keeps (Some waiting) s h = faulted_keeps waiting.asker bad_too_many_publish_requests s h

  queued_on_keeps : (conn : Option ℕ) (waiting : Waiting) (session : ℕ) (s : ServerState) → Has s → Keeps (queued_on conn waiting session s)
  queued_on_keeps None waiting session s h = quiet s h
  queued_on_keeps (Some conn) waiting session s h =
      driven_out_keeps (waiting_of (Some conn) (driven_out_of (session_at session s.sessions.sessions)))
      (record s { sessions = parked session (parked_of waiting) s.sessions }) h

  enqueued_keeps : (waiting : Waiting) (session : ℕ) (s : ServerState) → Has s → Keeps (enqueued waiting session s)
  unfolding enqueued
  enqueued_keeps waiting session s h = queued_on_keeps (conn_of (session_at session s.sessions.sessions)) waiting session s h

  turned_has : (oldest : Option Waiting) (waiting : Waiting) (session : ℕ) (s : ServerState) → Has s → Has (turned oldest waiting session s)
  turned_has None waiting session s h = h
  turned_has (Some oldest) waiting session s h = h

  used_keeps : (waiting : Waiting) (id session : ℕ) (s : ServerState) → Has s → Keeps (used waiting id session s)
  unfolding used
  used_keeps waiting id session s h =
      let first : Waiting = first_of (oldest_waiting session s) waiting in
      let queue : ServerState = turned (oldest_waiting session s) waiting session s in
      in_turn (sent_on id session) (sent first id queue) (sent_keeps first id queue (turned_has (oldest_waiting session s) waiting session s h))
      (sent_on_keeps id session)

  taken_by_keeps : (sub : Option SubState) (waiting : Waiting) (session : ℕ) (s : ServerState) → Has s → Keeps (taken_by sub waiting session s)
  taken_by_keeps None waiting session s h = enqueued_keeps waiting session s h
  taken_by_keeps (Some sub) waiting session s h = used_keeps waiting sub.spec.id session s h

  taken_keeps : (waiting : Waiting) (session : ℕ) (s : ServerState) → Has s → Keeps (taken waiting session s)
  unfolding taken
  taken_keeps waiting session s h =
      choice Keeps (has_notice session s) (told waiting session s)
      (cond (has_subs session s) (taken_by (late_sub session s) waiting session s) (faulted waiting.asker bad_no_subscription s))
      (told_keeps waiting session s h)
      (choice Keeps (has_subs session s) (taken_by (late_sub session s) waiting session s) (faulted waiting.asker bad_no_subscription s)
      (taken_by_keeps (late_sub session s) waiting session s h) (faulted_keeps waiting.asker bad_no_subscription s h))

  pub publish_keeps : (asker : Asker) (session : ℕ) (r : PublishRequest) (s : ServerState) → Has s → Keeps (publish asker session r s)
  unfolding publish
  publish_keeps asker session r s h =
      let acks : List SubscriptionAcknowledgement = r.subscription_acknowledgements in
      let waiting : Waiting = waiting_with asker (ack_results session acks s) in
      choice Keeps (nat_lt 1000 (length acks)) (faulted asker bad_too_many_operations s) (taken waiting session (all_acked session acks s))
      (faulted_keeps asker bad_too_many_operations s h) (taken_keeps waiting session (all_acked session acks s) (all_acked_has session acks s h))
