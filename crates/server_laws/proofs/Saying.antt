-- The messages of a subscription: kept ones, and those said again, were sent.
use Rattle.std.proofs.Common.{◌≡◌, ℕ, zero, suc, ◌+◌, ◌==◌, ◌&&◌, List, [], ◌∷◌, ◌++◌, Bool, true, false, cond, not, nat_lt, map, length, Option, Some, None, refl, sym, ap, ◌∙◌, subst, arith, slice_get, ◌⊎◌, inl, inr}
use Rattle.std.specs.Prelude.{Ok}
use Rattle.std.proofs.lemmas.Bool.Decides.{nat_tests}
use Rattle.set_model.specs.declared.source.Change.{Change}
use Rattle.sessions.specs.Calls.{given_by}
use Rattle.sessions.specs.Token.{token_of}
use Rattle.retransmit.specs.Kept.{message_of}
use Rattle.retransmit.specs.History.{Call as KeptCall, acknowledged, available, last_sent, most_waiting}
use Rattle.ua_sub_msgs.specs.declared.notification.NotificationMessage.{NotificationMessage}
use Rattle.subscription.specs.declared.spec.SubSpec.{SubSpec}
use Rattle.subscription.specs.State.{SubState}
use Rattle.subscription.specs.Calls.{entries_told}
use Rattle.subscription.specs.History.{Call, Add, Remove, SetMode, Feed, Timer, Publish, Acknowledge, Modify, SetEnabled, Moved, state_of}
use Rattle.subscription.specs.Sendings.{data_count, data_of, data_sent, kept_with, number_of, sendings}
use Rattle.ua_channel.specs.declared.heard.Heard.TheVariants as heard
use Rattle.ua_sub_msgs.specs.declared.publish.RepublishRequest.{RepublishRequest}
use Rattle.ua_sub_msgs.specs.declared.request.SubRequest.TheVariants as sub_request
use Rattle.ua_services.specs.declared.request.Request.TheVariants as request
use Rattle.ua_services.specs.Requests.{request_at}
use Rattle.server_rules.specs.declared.config.ServerConfig.{ServerConfig}
use Rattle.server_rules.specs.State.{ServerState, new_server, sub_at}
use Rattle.server_rules.specs.Step.{Happening, Hears, after}
use Rattle.server_rules.specs.Acts.{state_after}
use Rattle.server_rules.specs.Said.{Did}
use Rattle.server_laws.specs.Moves.{AreFair, Core, Doing, Fact, Repeated, Token, Move, Makes, Does, Enters, Ends, Asks, Issues, Repeats, Answers, call_of, facts_of, facts_of_all, moved, moved_all, repeated, repeated_of, sent_as, sent_of}
use Rattle.server_laws.specs.Facts.{IsWithin, facts_said, picked}
use Rattle.server_laws.specs.Course.{Comes, MayMove, MayMoves, Repeating, core_of, leave_of_request, life_of}
use Rattle.server_laws.specs.Lives.{AreNumbered, IsSent, Life, Unborn, Lives, Over, Stands, life_after, life_with, message_for, messages_for, messages_in, messages_sent, with_message}
use Rattle.server_laws.specs.Messages.{AreMessages}
use Rattle.server_laws.proofs.Within.{not_within, one_is, one_of, within_trans}
use Rattle.server_laws.proofs.Given.{picked_join, picked_within}
use Rattle.server_laws.proofs.Hearing.{after_comes}
use Rattle.server_laws.proofs.Living.{course, joined}
use Rattle.server_laws.proofs.Standing.{stands_all, stands_with}
use Rattle.server_laws.proofs.Telling.{NumbersData, count_is, numbered, told_all}

-- ---- one of some messages

get_before : (messages more : List NotificationMessage) (k : ℕ) (message : NotificationMessage) → slice_get messages k ≡ Some message
    → slice_get (messages ++ more) k ≡ Some message
get_before [] more k message is = absurd cc
get_before (first ∷ messages) more zero message is = is
get_before (first ∷ messages) more (suc k) message is = get_before messages more k message is

get_last : (messages : List NotificationMessage) (message : NotificationMessage) → slice_get (messages ++ message ∷ []) (length messages) ≡ Some message
get_last [] message = refl
get_last (first ∷ messages) message = get_last messages message

pub sent_before : (number : ℕ) (message : NotificationMessage) (messages more : List NotificationMessage) → IsSent number message messages
    → IsSent number message (messages ++ more)
sent_before number message messages more h =
    record { place = h.place; is = get_before messages more h.place message h.is; has_number = h.has_number }

-- ---- kept messages were sent

-- what the crate of the subscription says of them
abbrev pub KeepsSent : Type 0
KeepsSent = (spec : SubSpec) (start : ℕ) (calls : List Call) (number : ℕ)
    → message_of number (state_of spec start calls).kept ≡ available number (sendings spec start calls)

available_sent : (few gone : Bool) (sent : Option NotificationMessage) (message : NotificationMessage) → cond (few && not gone) sent None ≡ Some message
    → sent ≡ Some message
available_sent true false sent message is = is
available_sent true true sent message is = absurd cc
available_sent false gone sent message is = absurd cc

sent_now : (number : ℕ) (new : Option NotificationMessage) (message : NotificationMessage) (messages : List NotificationMessage)
    (calls : List (KeptCall NotificationMessage)) → (last_sent number calls ≡ Some message → IsSent number message messages)
    → last_sent number (kept_with new calls) ≡ Some message → IsSent number message (with_message messages new)
sent_now number None message messages calls rest is = rest is
sent_now number (Some one) message messages calls rest is = by_number (one.sequence_number == number) refl is
  where
    by_number : (b : Bool) → (one.sequence_number == number) ≡ b → cond b (Some one) (last_sent number calls) ≡ Some message
        → IsSent number message (messages ++ one ∷ [])
    by_number true test is =
        let same : one ≡ message = cc in
        let own : one.sequence_number ≡ number = grind (arith, nat_tests) in
        record {
          place = length messages;
          is = get_last messages one ∙ ap Some same;
          has_number = sym (ap (λ (m : NotificationMessage). m.sequence_number) same) ∙ own;
        }
    by_number false test is = sent_before number message messages (one ∷ []) (rest is)

last_was_sent : (spec : SubSpec) (start : ℕ) (calls : List Call) (number : ℕ) (message : NotificationMessage)
    → last_sent number (sendings spec start calls) ≡ Some message → IsSent number message (messages_sent spec start calls)
last_was_sent spec start [] number message is = absurd cc
last_was_sent spec start (Add item current ∷ earlier) number message is = last_was_sent spec start earlier number message is
last_was_sent spec start (Remove id ∷ earlier) number message is = last_was_sent spec start earlier number message is
last_was_sent spec start (SetMode id mode current ∷ earlier) number message is = last_was_sent spec start earlier number message is
last_was_sent spec start (Feed change ∷ earlier) number message is = last_was_sent spec start earlier number message is
last_was_sent spec start (Timer queued ∷ earlier) number message is = last_was_sent spec start earlier number message is
last_was_sent spec start (Publish now ∷ earlier) number message is =
    let s : SubState = state_of spec start earlier in
    sent_now number (data_of s.next now (entries_told s)) message (messages_sent spec start earlier) (sendings spec start earlier)
    (last_was_sent spec start earlier number message) is
last_was_sent spec start (Acknowledge other ∷ earlier) number message is = last_was_sent spec start earlier number message is
last_was_sent spec start (Modify changed now ∷ earlier) number message is = last_was_sent spec start earlier number message is
last_was_sent spec start (SetEnabled enabled ∷ earlier) number message is = last_was_sent spec start earlier number message is
last_was_sent spec start (Moved ∷ earlier) number message is = last_was_sent spec start earlier number message is

pub kept_sent : KeepsSent → (spec : SubSpec) (start : ℕ) (calls : List Call) (number : ℕ) (message : NotificationMessage)
    → message_of number (state_of spec start calls).kept ≡ Some message → IsSent number message (messages_sent spec start calls)
kept_sent law spec start calls number message is =
    let calls_kept : List (KeptCall NotificationMessage) = sendings spec start calls in
    last_was_sent spec start calls number message
    (available_sent (nat_lt (most_waiting number calls_kept) 64) (acknowledged number calls_kept) (last_sent number calls_kept) message
    (sym (law spec start calls number) ∙ is))

-- ---- of a life

abbrev pub NumbersNext : Type 0
NumbersNext = (spec : SubSpec) (start : ℕ) (calls : List Call) → (state_of spec start calls).next ≡ number_of (data_count spec start calls + 1)

numbered_in : NumbersData → (life : Life) → AreNumbered 1 (messages_in life)
numbered_in law Unborn = tt
numbered_in law (Lives spec start calls) = numbered law spec start calls
numbered_in law (Over spec start calls) = numbered law spec start calls

next_in : NumbersNext → (id : ℕ) (life : Life) (c : Core) → Stands id life c → (sub : SubState) → sub_at id c.subs ≡ Some sub
    → sub.next ≡ number_of (length (messages_in life) + 1)
next_in law id Unborn c h sub found = let both : ◌≡◌ {A = Option SubState} None (Some sub) = sym h ∙ found in absurd cc
next_in law id (Lives spec start calls) c h sub found =
    let both : Some (state_of spec start calls) ≡ Some sub = sym h.0 ∙ found in
    let same : state_of spec start calls ≡ sub = cc in
    sym (ap (λ (s : SubState). s.next) same) ∙ law spec start calls ∙ ap (λ n. number_of (n + 1)) (count_is spec start calls)
next_in law id (Over spec start calls) c h sub found = let both : ◌≡◌ {A = Option SubState} None (Some sub) = sym h.0 ∙ found in absurd cc

kept_in : KeepsSent → (id : ℕ) (life : Life) (c : Core) → Stands id life c → (sub : SubState) (number : ℕ) (message : NotificationMessage)
    → sub_at id c.subs ≡ Some sub → message_of number sub.kept ≡ Some message → IsSent number message (messages_in life)
kept_in law id Unborn c h sub number message found is = let both : ◌≡◌ {A = Option SubState} None (Some sub) = sym h ∙ found in absurd cc
kept_in law id (Lives spec start calls) c h sub number message found is =
    let both : Some (state_of spec start calls) ≡ Some sub = sym h.0 ∙ found in
    let same : state_of spec start calls ≡ sub = cc in
    kept_sent law spec start calls number message (ap (λ (s : SubState). message_of number s.kept) same ∙ is)
kept_in law id (Over spec start calls) c h sub number message found is = let both : ◌≡◌ {A = Option SubState} None (Some sub) = sym h.0 ∙ found in absurd cc

-- what the laws of the crate of the subscription say
pub record Knows : Type 0 where
  pub numbers : NumbersData
  pub next : NumbersNext
  pub keeps : KeepsSent

pub are_messages : Knows → (id : ℕ) (did : Did) (c : Core) (moves : List Move) → AreFair moves c → sub_at id c.subs ≡ None
    → core_of did.state ≡ moved_all moves c → IsWithin (facts_said did.said) (facts_of_all moves c)
    → AreMessages id (messages_in (life_after id moves c Unborn)) did
are_messages law id did c moves fair none leads told =
    let life : Life = life_after id moves c Unborn in
    let stands : Stands id life (core_of did.state) = subst (Stands id life) (sym leads) (stands_all id moves Unborn c fair none) in
    record {
      numbered = numbered_in law.numbers life;
      told = subst (IsWithin (messages_for id (facts_said did.said))) (sym (told_all id moves Unborn c fair none))
          (picked_within (message_for id) (facts_said did.said) (facts_of_all moves c) told);
      next = next_in law.next id life (core_of did.state) stands;
      kept = kept_in law.keeps id life (core_of did.state) stands;
    }

-- ---- what is said again

abbrev pub again_in : Fact → List NotificationMessage
again_in (Repeated message) = message ∷ []
again_in other = []

again_sent_as : (id : ℕ) (message : Option NotificationMessage) → picked again_in (sent_as id message) ≡ []
again_sent_as id None = refl
again_sent_as id (Some message) = refl

again_done : (id : ℕ) (doing : Doing) (current : List Change) (found : Option SubState) → picked again_in (sent_of id doing current found) ≡ []
again_done id doing current None = refl
again_done id doing current (Some sub) = again_sent_as id (data_sent (call_of doing current (Some sub)) sub)

again_tokens : (boot : ℕ) (counters : List ℕ) → picked again_in (map (λ counter. Token (token_of boot counter)) counters) ≡ []
again_tokens boot [] = refl
again_tokens boot (counter ∷ counters) = again_tokens boot counters

again_kept : (number : ℕ) (message : NotificationMessage) (found : Option NotificationMessage) → IsWithin (message ∷ []) (picked again_in (repeated found))
    → found ≡ Some message
again_kept number message None h = absurd (not_within message [] refl h)
again_kept number message (Some one) h = ap Some (one_is message one h)

-- the message is what the subscription keeps
again_found : KeepsSent → (id number : ℕ) (message : NotificationMessage) (life : Life) (c : Core) → Stands id life c
    → IsWithin (message ∷ []) (picked again_in (repeated_of number (sub_at id c.subs))) → IsSent number message (messages_in life)
again_found law id number message life c h within = by_found (sub_at id c.subs) refl within
  where
    by_found : (found : Option SubState) → sub_at id c.subs ≡ found → IsWithin (message ∷ []) (picked again_in (repeated_of number found))
        → IsSent number message (messages_in life)
    by_found None is within = absurd (not_within message [] refl within)
    by_found (Some sub) is within = kept_in law id life c h sub number message is (again_kept number message (message_of number sub.kept) within)

again_now : KeepsSent → (id number : ℕ) (message : NotificationMessage) (move : Move) (life : Life) (c : Core) → MayMove (Repeating id number) move
    → Stands id life c → IsWithin (message ∷ []) (picked again_in (facts_of move c)) → IsSent number message (messages_in life)
again_now law id number message (Makes spec start) life c may h within = absurd (not_within message [] refl within)
again_now law id number message (Does other doing) life c may h within = absurd (not_within message _ (again_done other doing c.current (sub_at other c.subs)) within)
again_now law id number message (Enters change) life c may h within = absurd (not_within message [] refl within)
again_now law id number message (Ends other) life c may h within = absurd (not_within message [] refl within)
again_now law id number message (Asks call) life c may h within = absurd (not_within message _ (again_tokens c.boot (given_by call c.sessions)) within)
again_now law id number message Issues life c may h within = absurd (not_within message [] refl within)
again_now law id number message (Repeats other that) life c may h within =
    again_found law id number message life c h
    (subst (λ n. IsWithin (message ∷ []) (picked again_in (repeated_of n (sub_at id c.subs)))) (sym may.1)
    (subst (λ n. IsWithin (message ∷ []) (picked again_in (repeated_of that (sub_at n c.subs)))) (sym may.0) within))
again_now law id number message (Answers answer) life c may h within = absurd (not_within message [] refl within)

pub again_sent : KeepsSent → (id number : ℕ) (message : NotificationMessage) (moves : List Move) (life : Life) (c : Core) → AreFair moves c
    → MayMoves (Repeating id number) moves → Stands id life c → IsWithin (message ∷ []) (picked again_in (facts_of_all moves c))
    → IsSent number message (messages_in (life_after id moves c life))
again_sent law id number message [] life c fair may h within = absurd (not_within message [] refl within)
again_sent law id number message (move ∷ moves) life c fair may h within =
    by_place (one_of message (picked again_in (facts_of move c)) (picked again_in (facts_of_all moves (moved move c)))
    (subst (IsWithin (message ∷ [])) (picked_join again_in (facts_of move c) (facts_of_all moves (moved move c))) within))
    (again_sent law id number message moves (life_with id move c life) (moved move c) fair.1 may.1 (stands_with id move life c fair.0 h))
  where
    by_place : IsWithin (message ∷ []) (picked again_in (facts_of move c)) ⊎ IsWithin (message ∷ []) (picked again_in (facts_of_all moves (moved move c)))
        → (IsWithin (message ∷ []) (picked again_in (facts_of_all moves (moved move c))) → IsSent number message (messages_in (life_after id moves (moved move c) (life_with id move c life))))
        → IsSent number message (messages_in (life_after id moves (moved move c) (life_with id move c life)))
    by_place (inl now) rest =
        subst (IsSent number message) (sym (told_all id (move ∷ moves) life c fair h))
        (sent_before number message (messages_in life) (messages_for id (facts_of_all (move ∷ moves) c)) (again_now law id number message move life c may.0 h now))
    by_place (inr later) rest = rest later

-- ---- of a server's life

abbrev pub HasMessages : ℕ → Did → Type 0
HasMessages id did = (messages : List NotificationMessage) × AreMessages id messages did

pub messages_of : Knows → (config : ServerConfig) (current : List Change) (happenings : List Happening) (id : ℕ)
    → HasMessages id (life_of happenings (new_server config current))
messages_of law config current happenings id =
    let s : ServerState = new_server config current in
    let h = course happenings s in
    (messages_in (life_after id h.moves (core_of s) Unborn), are_messages law id (life_of happenings s) (core_of s) h.moves h.fair refl h.leads h.told)

life_join : (id : ℕ) (one other : List Move) (c : Core) (life : Life) → life_after id (one ++ other) c life ≡ life_after id other (moved_all one c) (life_after id one c life)
life_join id [] other c life = refl
life_join id (move ∷ one) other c life = life_join id one other (moved move c) (life_with id move c life)

pub repeats_of : Knows → (config : ServerConfig) (current : List Change) (earlier : List Happening) (conn number : ℕ) (body : List ℕ)
    (asked : RepublishRequest) (message : NotificationMessage)
    → request_at body ≡ Ok (request.Subscription (sub_request.Republish asked))
    → IsWithin (Repeated message ∷ []) (facts_said (after (Hears conn (heard.Message number body)) (state_after earlier (new_server config current))).said)
    → (messages : List NotificationMessage)
    × AreMessages asked.subscription_id messages (life_of (Hears conn (heard.Message number body) ∷ earlier) (new_server config current))
    × IsSent asked.retransmit_sequence_number message messages
repeats_of law config current earlier conn number body asked message is within =
    let s : ServerState = new_server config current in
    let happening : Happening = Hears conn (heard.Message number body) in
    let t : ServerState = state_after earlier s in
    let h = course earlier s in
    let step : Comes (Repeating asked.subscription_id asked.retransmit_sequence_number) t (after happening t) =
    subst (λ leave. Comes leave t (after happening t)) (ap leave_of_request is) (after_comes happening t) in
    let whole = joined happening earlier s h.moves step.moves h.fair step.fair h.leads step.leads h.told step.told in
    let life : Life = life_after asked.subscription_id h.moves (core_of s) Unborn in
    let stands : Stands asked.subscription_id life (core_of t) =
    subst (Stands asked.subscription_id life) (sym h.leads) (stands_all asked.subscription_id h.moves Unborn (core_of s) h.fair refl) in
    let again : IsWithin (message ∷ []) (picked again_in (facts_of_all step.moves (core_of t))) =
    picked_within again_in (Repeated message ∷ []) (facts_of_all step.moves (core_of t))
    (within_trans (Repeated message ∷ []) (facts_said (after happening t).said) (facts_of_all step.moves (core_of t)) within step.told) in
    let sent : IsSent asked.retransmit_sequence_number message (messages_in (life_after asked.subscription_id step.moves (core_of t) life)) =
    again_sent law.keeps asked.subscription_id asked.retransmit_sequence_number message step.moves life (core_of t) step.fair step.may stands again in (
      messages_in (life_after asked.subscription_id (h.moves ++ step.moves) (core_of s) Unborn),
      are_messages law asked.subscription_id (life_of (happening ∷ earlier) s) (core_of s) (h.moves ++ step.moves) whole.fair refl whole.leads whole.told,
      subst (IsSent asked.retransmit_sequence_number message)
          (ap (λ c. messages_in (life_after asked.subscription_id step.moves c life)) h.leads
          ∙ ap messages_in (sym (life_join asked.subscription_id h.moves step.moves (core_of s) Unborn))) sent,
    )
