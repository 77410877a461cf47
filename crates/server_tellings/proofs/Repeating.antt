-- A message that is said again was kept, and so was sent.
use Rattle.std.proofs.Common.{◌≡◌, ℕ, List, [], ◌∷◌, ◌++◌, map, Option, Some, None, refl, sym, ap, ◌∙◌, subst, append_assoc, ◌⊎◌, inl, inr}
use Rattle.std.specs.Prelude.{Result, Ok, Err}
use Rattle.set_model.specs.declared.source.Change.{Change}
use Rattle.sessions.specs.Calls.{given_by}
use Rattle.sessions.specs.Token.{token_of}
use Rattle.ua_channel.specs.declared.heard.Heard.{Heard}
use Rattle.ua_channel.specs.declared.heard.Heard.TheVariants as heard
use Rattle.ua_session_msgs.specs.declared.request.SessionRequest.{SessionRequest}
use Rattle.ua_session_msgs.specs.declared.request.SessionRequest.TheVariants as session_request
use Rattle.ua_sub_msgs.specs.declared.notification.NotificationMessage.{NotificationMessage}
use Rattle.ua_sub_msgs.specs.declared.publish.RepublishRequest.{RepublishRequest}
use Rattle.ua_sub_msgs.specs.declared.request.SubRequest.{SubRequest}
use Rattle.ua_sub_msgs.specs.declared.request.SubRequest.TheVariants as sub_request
use Rattle.ua_services.specs.declared.request.Request.{Request}
use Rattle.ua_services.specs.declared.request.Request.TheVariants as request
use Rattle.ua_services.specs.declared.request.RequestFault.{RequestFault}
use Rattle.ua_services.specs.Requests.{request_at}
use Rattle.subscription.specs.State.{SubState}
use Rattle.subscription.specs.Sendings.{data_sent}
use Rattle.server_rules.specs.declared.config.ServerConfig.{ServerConfig}
use Rattle.server_rules.specs.State.{ServerState, new_server, sub_at}
use Rattle.server_rules.specs.Said.{Said}
use Rattle.server_rules.specs.Step.{Happening, Hears, after}
use Rattle.server_rules.specs.Acts.{state_after}
use Rattle.server_laws.specs.Course.{Adding, Comes, Feeding, Issuing, Leave, MayMove, MayMoves, Nothing, Reading, Repeating, Setting, Transferring, core_of, leave_of, leave_of_heard, leave_of_request, leave_of_session, leave_of_sub, life_of, said_after}
use Rattle.server_laws.specs.Facts.{IsWithin, facts_said, facts_told, picked}
use Rattle.server_laws.specs.Moves.{Answered, Answers, Asks, Core, Does, Doing, Ends, Enters, Fact, Issues, Makes, Move, Repeated, Repeats, Token, call_of, facts_of, facts_of_all, moved, sent_as, sent_of}
use Rattle.server_tellings.specs.Again.{IsKeptMessage, asks}
use Rattle.server_tellings.proofs.Keeping.{kept_at, kept_then}
use Rattle.server_laws.proofs.Within.{not_within, one_of, within_trans}
use Rattle.server_tellings.proofs.Within.{picked_within}

-- ---- when it was said

said_join : (one other : List Said) → facts_said (one ++ other) ≡ facts_said one ++ facts_said other
said_join [] other = refl
said_join (said ∷ one) other =
    ap (λ l. facts_told said.told ++ l) (said_join one other) ∙ sym (append_assoc (facts_told said.told) (facts_said one) (facts_said other))

record IsMoment (fact : Fact) (happenings : List Happening) (s : ServerState) : Type 0 where
  later : List Happening
  happening : Happening
  earlier : List Happening
  is : happenings ≡ later ++ happening ∷ earlier
  said : IsWithin (fact ∷ []) (facts_said (after happening (state_after earlier s)).said)

moment : (fact : Fact) (happenings : List Happening) (s : ServerState) → IsWithin (fact ∷ []) (facts_said (said_after happenings s)) → IsMoment fact happenings s
moment fact [] s h = absurd (not_within fact [] refl h)
moment fact (happening ∷ earlier) s h =
    by_place (one_of fact (facts_said (said_after earlier s)) (facts_said now)
    (subst (IsWithin (fact ∷ [])) (said_join (said_after earlier s) now) h)) (moment fact earlier s)
  where
    now : List Said
    now = (after happening (state_after earlier s)).said

    by_place : IsWithin (fact ∷ []) (facts_said (said_after earlier s)) ⊎ IsWithin (fact ∷ []) (facts_said now)
        → (IsWithin (fact ∷ []) (facts_said (said_after earlier s)) → IsMoment fact earlier s) → IsMoment fact (happening ∷ earlier) s
    by_place (inl before) rest =
        let one = rest before in
        record { later = happening ∷ one.later; happening = one.happening; earlier = one.earlier; is = ap (λ l. happening ∷ l) one.is; said = one.said }
    by_place (inr last) rest = record { later = []; happening = happening; earlier = earlier; is = refl; said = last }

-- ---- then a Republish was handled

abbrev pub again_in : Fact → List NotificationMessage
again_in (Repeated message) = message ∷ []
again_in other = []

again_sent_as : (id : ℕ) (message : Option NotificationMessage) → picked again_in (sent_as id message) ≡ []
again_sent_as id None = refl
again_sent_as id (Some message) = refl

again_done : (id : ℕ) (doing : Doing) (current : List Change) (found : Option SubState) → picked again_in (sent_of id doing current found) ≡ []
again_done id doing current None = refl
again_done id doing current (Some sub) = again_sent_as id (data_sent (call_of doing current (Some sub)) sub)

again_tokens : (boot : ℕ) (counters : List ℕ) → picked again_in (map (λ counter. Token (token_of boot counter)) counters) ≡ []
again_tokens boot [] = refl
again_tokens boot (counter ∷ counters) = again_tokens boot counters

-- the message of a subscription and a number may be said again
abbrev pub IsRepeating : Leave → Type 0
IsRepeating (Repeating id number) = Unit {0}
IsRepeating other = ⊥

may_repeat : (leave : Leave) (id number : ℕ) → MayMove leave (Repeats id number) → IsRepeating leave
may_repeat (Repeating other that) id number may = tt
may_repeat Nothing id number may = may
may_repeat (Adding other) id number may = may
may_repeat (Setting other mode) id number may = may
may_repeat (Transferring ids) id number may = may
may_repeat Reading id number may = may
may_repeat Issuing id number may = may
may_repeat (Feeding change) id number may = may

not_again : (message : NotificationMessage) (facts : List Fact) → picked again_in facts ≡ [] → IsWithin (Repeated message ∷ []) facts → ⊥
not_again message facts none h = not_within message (picked again_in facts) none (picked_within again_in (Repeated message ∷ []) facts h)

move_repeats : (message : NotificationMessage) (leave : Leave) (move : Move) (c : Core) → MayMove leave move → IsWithin (Repeated message ∷ []) (facts_of move c)
    → IsRepeating leave
move_repeats message leave (Makes spec start) c may h = absurd (not_again message (facts_of (Makes spec start) c) refl h)
move_repeats message leave (Does id doing) c may h =
    absurd (not_again message (facts_of (Does id doing) c) (again_done id doing c.current (sub_at id c.subs)) h)
move_repeats message leave (Enters change) c may h = absurd (not_again message [] refl h)
move_repeats message leave (Ends id) c may h = absurd (not_again message [] refl h)
move_repeats message leave (Asks call) c may h =
    absurd (not_again message (facts_of (Asks call) c) (again_tokens c.boot (given_by call c.sessions)) h)
move_repeats message leave Issues c may h = absurd (not_again message [] refl h)
move_repeats message leave (Repeats id number) c may h = may_repeat leave id number may
move_repeats message leave (Answers answer) c may h = absurd (not_again message (Answered answer ∷ []) refl h)

moves_repeat : (message : NotificationMessage) (leave : Leave) (moves : List Move) (c : Core) → MayMoves leave moves
    → IsWithin (Repeated message ∷ []) (facts_of_all moves c) → IsRepeating leave
moves_repeat message leave [] c may h = absurd (not_again message [] refl h)
moves_repeat message leave (move ∷ moves) c may h =
    by_place (one_of (Repeated message) (facts_of move c) (facts_of_all moves (moved move c)) h) (moves_repeat message leave moves (moved move c) may.1)
  where
    by_place : IsWithin (Repeated message ∷ []) (facts_of move c) ⊎ IsWithin (Repeated message ∷ []) (facts_of_all moves (moved move c))
        → (IsWithin (Repeated message ∷ []) (facts_of_all moves (moved move c)) → IsRepeating leave) → IsRepeating leave
    by_place (inl now) rest = move_repeats message leave move c may.0 now
    by_place (inr later) rest = rest later

-- ---- and so a Republish was taken

pub record IsRepublish (happening : Happening) : Type 0 where
  pub conn : ℕ
  pub number : ℕ
  pub body : List ℕ
  pub is : happening ≡ asks conn number body
  pub asked : RepublishRequest
  pub reads : request_at body ≡ Ok (request.Subscription (sub_request.Republish asked))

by_sub : (conn number : ℕ) (body : List ℕ) (r : SubRequest) → request_at body ≡ Ok (request.Subscription r) → IsRepeating (leave_of_sub r)
    → IsRepublish (asks conn number body)
by_sub conn number body (sub_request.Republish asked) is h =
    record { conn = conn; number = number; body = body; is = refl; asked = asked; reads = is }
by_sub conn number body _ is h = absurd h

by_session : (r : SessionRequest) → IsRepeating (leave_of_session r) → ⊥
by_session (session_request.Read r) h = h
by_session _ h = h

by_request : (conn number : ℕ) (body : List ℕ) (r : Result Request RequestFault) → request_at body ≡ r → IsRepeating (leave_of_request r)
    → IsRepublish (asks conn number body)
by_request conn number body (Ok (request.Subscription r)) is h = by_sub conn number body r is h
by_request conn number body (Ok (request.Session r)) is h = absurd (by_session r h)
by_request conn number body (Err fault) is h = absurd h

by_heard : (conn : ℕ) (h : Heard) → IsRepeating (leave_of_heard h) → IsRepublish (Hears conn h)
by_heard conn (heard.Message number body) may = by_request conn number body (request_at body) refl may
by_heard conn _ may = absurd may

republishes : (happening : Happening) → IsRepeating (leave_of happening) → IsRepublish happening
republishes (Hears conn h) may = by_heard conn h may
republishes _ may = absurd may

-- ---- what other crates say

abbrev pub ComesSo : Type 0
ComesSo = (happening : Happening) (s : ServerState) → Comes (leave_of happening) s (after happening s)

pub republish_then : ComesSo → (happening : Happening) (s : ServerState) (message : NotificationMessage)
    → IsWithin (Repeated message ∷ []) (facts_said (after happening s).said) → IsRepublish happening
republish_then comes happening s message said =
    let step = comes happening s in
    let all : IsWithin (Repeated message ∷ []) (facts_of_all step.moves (core_of s)) =
    within_trans (Repeated message ∷ []) (facts_said (after happening s).said) (facts_of_all step.moves (core_of s)) said step.told in
    republishes happening (moves_repeat message (leave_of happening) step.moves (core_of s) step.may all)

pub kept_so : ComesSo → (config : ServerConfig) (current : List Change) (happenings : List Happening) (message : NotificationMessage)
    → IsWithin (Repeated message ∷ []) (facts_said (said_after happenings (new_server config current)))
    → IsKeptMessage message happenings (new_server config current)
kept_so comes config current happenings message h =
    let s : ServerState = new_server config current in
    let one = moment (Repeated message) happenings s h in
    let t : ServerState = state_after one.earlier s in
    let r = republish_then comes one.happening t message one.said in
    let again : IsWithin (Repeated message ∷ []) (facts_said (after (asks r.conn r.number r.body) t).said) =
    subst (λ happening. IsWithin (Repeated message ∷ []) (facts_said (after happening t).said)) r.is one.said in
    let kept = kept_then r.conn r.number r.body r.asked t r.reads message again in
    record {
      later = one.later;
      conn = r.conn;
      number = r.number;
      body = r.body;
      earlier = one.earlier;
      is = one.is ∙ ap (λ happening. one.later ++ happening ∷ one.earlier) r.is;
      asked = r.asked;
      reads = r.reads;
      repeated = again;
      kept = kept;
      sent = kept_at r.asked.subscription_id r.asked.retransmit_sequence_number message (life_of one.earlier s) kept;
    }
