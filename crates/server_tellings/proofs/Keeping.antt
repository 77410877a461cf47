-- What a Republish is answered is what is kept.
use Rattle.std.proofs.Common.{◌≡◌, ℕ, ◌+◌, zero, suc, List, [], ◌∷◌, Bool, true, false, cond, Option, Some, None, refl, sym, ap, ◌∙◌, subst, arith, slice_get}
use Rattle.std.specs.Prelude.{Result, Ok, Err}
use Rattle.std.proofs.lemmas.List.{append-nil}
use Rattle.ua_base.specs.Status.{bad_message_not_available, bad_subscription_id_invalid, bad_response_too_large, bad_tcp_message_too_large}
use Rattle.retransmit.specs.Kept.{message_of}
use Rattle.sessions.specs.Table.{check_answer}
use Rattle.ua_channel.specs.declared.heard.Heard.TheVariants as heard_as
use Rattle.ua_channel.specs.State.{is_deaf}
use Rattle.ua_sub_msgs.specs.declared.notification.NotificationMessage.{NotificationMessage}
use Rattle.ua_sub_msgs.specs.declared.publish.RepublishRequest.{RepublishRequest}
use Rattle.ua_sub_msgs.specs.declared.request.SubRequest.TheVariants as sub_request
use Rattle.ua_services.specs.declared.reply.Reply.{Reply}
use Rattle.ua_services.specs.declared.request.Request.{Request}
use Rattle.ua_services.specs.declared.request.Request.TheVariants as request
use Rattle.ua_services.specs.declared.request.RequestFault.{RequestFault}
use Rattle.ua_services.specs.Requests.{header_of, request_at, sub_header}
use Rattle.subscription.specs.Sendings.{number_of}
use Rattle.subscription.specs.State.{SubState}
use Rattle.server_rules.specs.declared.conn.Asker.{Asker}
use Rattle.server_rules.specs.declared.conn.Conn.{Conn}
use Rattle.server_rules.specs.State.{ServerState, conn_at, sub_at}
use Rattle.server_rules.specs.Said.{Did, nothing}
use Rattle.server_rules.specs.Answering.{fault_reply, faulted, good_header, refused_on, replied, replied_on, replied_to, replied_within, takes}
use Rattle.server_rules.specs.Connecting.{hears, hears_by}
use Rattle.server_rules.specs.Moves.{owns}
use Rattle.server_rules.specs.Operations.{◌>>=◌, done, wanted}
use Rattle.server_rules.specs.Requests.{asked, asker_of, done_for, noted, requested, served, sub_served, token_in}
use Rattle.server_rules.specs.Subscriptions.{republish, republish_one, republished_reply}
use Rattle.server_rules.specs.Step.{after, ears, heard}
use Rattle.server_laws.specs.Beginning.{KeptUnder}
use Rattle.server_laws.specs.Facts.{IsWithin, facts_of_reply, facts_said}
use Rattle.server_laws.specs.Lives.{AreNumbered, IsSent}
use Rattle.server_laws.specs.Messages.{AreMessages}
use Rattle.server_laws.specs.Moves.{Fact, Repeated}
use Rattle.server_tellings.specs.Again.{asks}
use Rattle.server_tellings.specs.Heard.{IsAtPlace}
use Rattle.server_laws.proofs.Within.{all_within, none_within, not_within, one_is, within_trans}

-- ---- facts of an answer

abbrev pub TellsOnly : List Fact → Did → Type 0
TellsOnly facts did = IsWithin (facts_said did.said) facts

either : (b : Bool) (facts : List Fact) (one other : Did) → TellsOnly facts one → TellsOnly facts other → TellsOnly facts (cond b one other)
either true facts one other h rest = h
either false facts one other h rest = rest

refused_tells : (facts : List Fact) (conn : Conn) (code : ℕ) (s : ServerState) → TellsOnly facts (refused_on conn code s)
unfolding refused_on
refused_tells facts conn code s = none_within facts

within_tells : (conn : Conn) (number : ℕ) (answer : Reply) (s : ServerState) → TellsOnly (facts_of_reply answer) (replied_within conn number answer s)
unfolding replied_within
within_tells conn number answer s =
    let facts : List Fact = facts_of_reply answer in
    subst (λ l. IsWithin l facts) (sym (append-nil facts)) (all_within facts)

fault_tells : (facts : List Fact) (conn : Conn) (number handle code : ℕ) (s t : ServerState)
    → TellsOnly facts (replied_within conn number (fault_reply handle code s) t)
unfolding replied_within
fault_tells facts conn number handle code s t = none_within facts

on_tells : (conn : Conn) (number handle : ℕ) (answer : Reply) (s : ServerState) → TellsOnly (facts_of_reply answer) (replied_on conn number handle answer s)
unfolding replied_on
on_tells conn number handle answer s =
    let facts : List Fact = facts_of_reply answer in
    either (takes conn answer) facts _ _ (within_tells conn number answer s)
    (either (takes conn (fault_reply handle bad_response_too_large s)) facts _ _ (fault_tells facts conn number handle bad_response_too_large s s)
    (refused_tells facts conn bad_tcp_message_too_large s))

to_tells : (found : Option Conn) (number handle : ℕ) (answer : Reply) (s : ServerState)
    → TellsOnly (facts_of_reply answer) (replied_to found number handle answer s)
to_tells None number handle answer s = none_within (facts_of_reply answer)
to_tells (Some conn) number handle answer s = on_tells conn number handle answer s

replied_tells : (asker : Asker) (answer : Reply) (s : ServerState) → TellsOnly (facts_of_reply answer) (replied asker answer s)
unfolding replied
replied_tells asker answer s = to_tells (conn_at asker.conn s.conns) asker.request asker.handle answer s

-- ---- a Republish

-- each message that is said again is kept in this state, under the id and the number of the request
abbrev pub RepeatsOnly : RepublishRequest → ServerState → Did → Type 0
RepeatsOnly r s did = (message : NotificationMessage) → IsWithin (Repeated message ∷ []) (facts_said did.said)
    → KeptUnder r.subscription_id r.retransmit_sequence_number message s

silent : (r : RepublishRequest) (s : ServerState) (did : Did) → TellsOnly [] did → RepeatsOnly r s did
silent r s did none message h = absurd (not_within (Repeated message) [] refl (within_trans (Repeated message ∷ []) (facts_said did.said) [] h none))

fault_silent : (r : RepublishRequest) (s : ServerState) (asker : Asker) (code : ℕ) (t : ServerState) → RepeatsOnly r s (faulted asker code t)
fault_silent r s asker code t = silent r s (faulted asker code t) (replied_tells asker (fault_reply asker.handle code t) t)

one_repeated : (asker : Asker) (r : RepublishRequest) (message : NotificationMessage) (s : ServerState)
    → KeptUnder r.subscription_id r.retransmit_sequence_number message s → RepeatsOnly r s (republish_one asker message s)
one_repeated asker r message s kept other h =
    let answer : Reply = republished_reply message (good_header asker.handle s) in
    let is : Repeated message ≡ Repeated other =
    one_is (Repeated other) (Repeated message)
    (within_trans (Repeated other ∷ []) (facts_said (replied asker answer s).said) (Repeated message ∷ []) h (replied_tells asker answer s)) in
    let same : message ≡ other = cc in
    subst (λ m. KeptUnder r.subscription_id r.retransmit_sequence_number m s) same kept

found_repeated : (asker : Asker) (r : RepublishRequest) (s : ServerState) (sub : SubState) (found : Option NotificationMessage)
    → sub_at r.subscription_id s.subs ≡ Some sub → message_of r.retransmit_sequence_number sub.kept ≡ found
    → RepeatsOnly r s (done asker (republish_one asker) (wanted bad_message_not_available found) s)
found_repeated asker r s sub None there is = fault_silent r s asker bad_message_not_available s
found_repeated asker r s sub (Some message) there is = one_repeated asker r message s (sub, there, is)

own_repeated : (asker : Asker) (session : ℕ) (r : RepublishRequest) (s : ServerState) (b : Bool) (found : Option SubState)
    → sub_at r.subscription_id s.subs ≡ found
    → RepeatsOnly r s (done asker (republish_one asker)
    (wanted bad_subscription_id_invalid (cond b found None) >>= λ sub. wanted bad_message_not_available (message_of r.retransmit_sequence_number sub.kept)) s)
own_repeated asker session r s false found is = fault_silent r s asker bad_subscription_id_invalid s
own_repeated asker session r s true None is = fault_silent r s asker bad_subscription_id_invalid s
own_repeated asker session r s true (Some sub) is =
    found_repeated asker r s sub (message_of r.retransmit_sequence_number sub.kept) is refl

republish_repeats : (asker : Asker) (session : ℕ) (r : RepublishRequest) (s : ServerState) → RepeatsOnly r s (republish asker session r s)
unfolding republish
republish_repeats asker session r s =
    own_repeated asker session r s (owns session r.subscription_id s) (sub_at r.subscription_id s.subs) refl

sub_repeats : (asker : Asker) (session : ℕ) (r : RepublishRequest) (s : ServerState)
    → RepeatsOnly r s (sub_served asker (sub_request.Republish r) session s)
unfolding sub_served
sub_repeats asker session r s = republish_repeats asker session r s

done_repeats : (asker : Asker) (r : RepublishRequest) (answer : Result ℕ ℕ) (s : ServerState)
    → RepeatsOnly r s (done_for (sub_served asker (sub_request.Republish r)) asker answer s)
done_repeats asker r (Ok session) s = sub_repeats asker session r s
done_repeats asker r (Err code) s = fault_silent r s asker code s

served_repeats : (asker : Asker) (r : RepublishRequest) (s : ServerState)
    → RepeatsOnly r s (served asker (request.Subscription (sub_request.Republish r)) s)
unfolding served
served_repeats asker r s =
    let token : Option (List ℕ) = token_in (sub_header (sub_request.Republish r)) in
    done_repeats asker r (check_answer token asker.conn s.sessions) (noted asker token s)

asked_repeats : (conn number : ℕ) (r : RepublishRequest) (found : Result Request RequestFault) (s : ServerState)
    → found ≡ Ok (request.Subscription (sub_request.Republish r)) → RepeatsOnly r s (asked conn number found s)
asked_repeats conn number r found s is =
    subst (λ found. RepeatsOnly r s (asked conn number found s)) (sym is)
    (served_repeats (asker_of conn number (header_of (request.Subscription (sub_request.Republish r))).request_handle) r s)

requested_repeats : (conn number : ℕ) (body : List ℕ) (r : RepublishRequest) (s : ServerState)
    → request_at body ≡ Ok (request.Subscription (sub_request.Republish r)) → RepeatsOnly r s (requested conn number body s)
unfolding requested
requested_repeats conn number body r s is = asked_repeats conn number r (request_at body) s is

by_conn : (found : Option Conn) (number : ℕ) (body : List ℕ) (r : RepublishRequest) (s : ServerState)
    → request_at body ≡ Ok (request.Subscription (sub_request.Republish r)) → RepeatsOnly r s (hears_by found (heard_as.Message number body) s)
by_conn None number body r s is = silent r s (nothing s) refl
by_conn (Some conn) number body r s is = requested_repeats conn.number number body r s is

hears_repeats : (conn number : ℕ) (body : List ℕ) (r : RepublishRequest) (s : ServerState)
    → request_at body ≡ Ok (request.Subscription (sub_request.Republish r)) → RepeatsOnly r s (hears conn (heard_as.Message number body) s)
unfolding hears
hears_repeats conn number body r s is = by_conn (conn_at conn s.conns) number body r s is

unless_deaf : (b : Bool) (r : RepublishRequest) (s : ServerState) (did : Did) → RepeatsOnly r s did → RepeatsOnly r s (cond b (nothing s) did)
unless_deaf true r s did h = silent r s (nothing s) refl
unless_deaf false r s did h = h

pub kept_then : (conn number : ℕ) (body : List ℕ) (r : RepublishRequest) (s : ServerState)
    → request_at body ≡ Ok (request.Subscription (sub_request.Republish r)) → RepeatsOnly r s (after (asks conn number body) s)
unfolding heard
kept_then conn number body r s is = unless_deaf (is_deaf (ears conn s)) r s _ (hears_repeats conn number body r s is)

-- ---- and so it was sent

numbered_at : (k place : ℕ) (message : NotificationMessage) (messages : List NotificationMessage) → AreNumbered k messages
    → slice_get messages place ≡ Some message → message.sequence_number ≡ number_of (k + place)
numbered_at k place message [] numbers is = absurd cc
numbered_at k zero message (first ∷ messages) numbers is =
    let same : first ≡ message = cc in
    let first_number : k ≡ k + 0 = omega arith in
    ap (λ (m : NotificationMessage). m.sequence_number) (sym same) ∙ numbers.0 ∙ ap number_of first_number
numbered_at k (suc place) message (first ∷ messages) numbers is =
    let same : k + 1 + place ≡ k + suc place = omega arith in
    numbered_at (k + 1) place message messages numbers.1 is ∙ ap number_of same

sent_at : (number : ℕ) (message : NotificationMessage) (messages : List NotificationMessage) → AreNumbered 1 messages → IsSent number message messages
    → IsAtPlace number message messages
sent_at number message messages numbers h =
    let same : 1 + h.place ≡ h.place + 1 = omega arith in
    record {
      place = h.place;
      is = h.is;
      numbered = sym h.has_number ∙ numbered_at 1 h.place message messages numbers h.is ∙ ap number_of same;
    }

pub kept_at : (id number : ℕ) (message : NotificationMessage) (did : Did) → KeptUnder id number message did.state
    → (messages : List NotificationMessage) → AreMessages id messages did → IsAtPlace number message messages
kept_at id number message did kept messages h =
    sent_at number message messages h.numbered (h.kept kept.0 number message kept.1 kept.2)
