-- From the beginning of a connection until a Publish is taken.
use Rattle.std.proofs.Common.{◌≡◌, ℕ, ◌+◌, ◌*◌, ◌==◌, ◌<◌, ◌≤◌, List, [], ◌∷◌, ◌++◌, Bool, true, false, cond, not, filter, Option, Some, None, refl, sym, ap, ◌∙◌, subst, arith, ◌⊎◌, inl, inr}
use Rattle.std.specs.Prelude.{Result, Ok, Err}
use Rattle.std.proofs.lemmas.Bool.Decides.{nat_tests}
use Rattle.ua_base.specs.Status.{bad_decoding_error, bad_message_not_available, bad_response_too_large, bad_secure_channel_id_invalid, bad_session_id_invalid, bad_session_not_activated, bad_subscription_id_invalid, bad_tcp_message_too_large, good}
use Rattle.set_model.specs.declared.source.Change.{Change}
use Rattle.retransmit.specs.Kept.{message_of, numbers_of}
use Rattle.sessions.specs.declared.session.Session.{Session}
use Rattle.sessions.specs.Session as one
use Rattle.sessions.specs.Table.{check_answer, session_of}
use Rattle.sessions.specs.Table as table
use Rattle.ua_values.specs.declared.node.NodeId.{NodeId}
use Rattle.ua_values.specs.declared.node.NodeId.TheVariants as node
use Rattle.ua_values.specs.Reading.{Fault, input}
use Rattle.ua_chunks.specs.Bodies.{hello_at, value_of, whole_at}
use Rattle.ua_chunks.specs.declared.greeting.Greeting.{Greeting}
use Rattle.ua_channel.specs.declared.heard.Heard.{Heard}
use Rattle.ua_channel.specs.declared.heard.Heard.TheVariants as heard_as
use Rattle.ua_channel.specs.State.{is_deaf}
use Rattle.ua_session_msgs.specs.declared.reply.SessionReply.{SessionReply}
use Rattle.ua_session_msgs.specs.declared.reply.SessionReply.TheVariants as session_reply
use Rattle.ua_session_msgs.specs.declared.request.SessionRequest.TheVariants as session_request
use Rattle.ua_sub_msgs.specs.declared.notification.NotificationMessage.{NotificationMessage}
use Rattle.ua_sub_msgs.specs.declared.publish.PublishResponse.{PublishResponse}
use Rattle.ua_sub_msgs.specs.declared.publish.RepublishRequest.{RepublishRequest}
use Rattle.ua_sub_msgs.specs.declared.reply.SubReply.{SubReply}
use Rattle.ua_sub_msgs.specs.declared.reply.SubReply.TheVariants as sub_reply
use Rattle.ua_sub_msgs.specs.declared.request.SubRequest.TheVariants as sub_request
use Rattle.ua_sub_msgs.specs.declared.subscription.TransferResult.{TransferResult}
use Rattle.ua_sub_msgs.specs.declared.subscription.TransferSubscriptionsRequest.{TransferSubscriptionsRequest}
use Rattle.ua_sub_msgs.specs.declared.subscription.TransferSubscriptionsResponse.{TransferSubscriptionsResponse}
use Rattle.ua_services.specs.declared.reply.Reply.{Reply}
use Rattle.ua_services.specs.declared.reply.Reply.TheVariants as reply
use Rattle.ua_services.specs.declared.request.Request.{Request}
use Rattle.ua_services.specs.declared.request.Request.TheVariants as request
use Rattle.ua_services.specs.declared.request.RequestFault.{RequestFault}
use Rattle.ua_services.specs.Requests.{header_of, request_at}
use Rattle.subscription.specs.State.{SubState}
use Rattle.server_rules.specs.declared.config.ServerConfig.{ServerConfig}
use Rattle.server_rules.specs.declared.conn.Asker.{Asker}
use Rattle.server_rules.specs.declared.conn.Conn.{Conn}
use Rattle.server_rules.specs.State.{ServerState, conn_at, is_conn, new_server, sub_at}
use Rattle.server_rules.specs.Said.{Acknowledged, Did, Limited, Opened, Refused, Renewed, Replied, Said, Told, nothing}
use Rattle.server_rules.specs.Answering.{fault_reply, faulted, good_header, refused_on, replied, replied_on, replied_to, replied_within, takes}
use Rattle.server_rules.specs.Connecting.{acknowledged as welcomed, closed, closed_by, closing, greeted_by, greeting, hears, hears_by, is_above, is_small, new_conn, first_ear, opened, with_new_conn, without_conn}
use Rattle.server_rules.specs.Operations.{◌>>=◌, done, own_sub, wanted}
use Rattle.server_rules.specs.Moves.{owns}
use Rattle.server_rules.specs.Requests.{asked, asker_of, done_for, noted, requested, served, sub_served, token_in}
use Rattle.server_rules.specs.Subscriptions.{republish, republish_one, republished_reply}
use Rattle.server_rules.specs.Step.{Happening, Opens, Hears, Closes, Feeds, Ticks, Levels, after, ear_of, ears, fed, heard, leveled}
use Rattle.server_rules.specs.Acts.{state_after}
use Rattle.server_laws.specs.Facts.{facts_of_session, facts_of_sub, facts_said, facts_told, token_in as token_facts}
use Rattle.server_laws.specs.Course.{core_of, life_of, said_after}
use Rattle.server_laws.specs.Lives.{Life, Lives, Over, Stands, Unborn, message_for, messages_for}
use Rattle.server_laws.specs.Lockstep.{AllTellKept, AllWait, Fits, IsAtOnce, IsAtOnceOf, IsFault, IsGoodFor, IsNoPublish, IsReplied, Never, NoneWaits, Other, TellsKept}
use Rattle.server_laws.specs.Moves.{Core, Move, Makes, Does, Enters, Ends, Asks, Issues, Repeats, Answers, id_of, moved, moved_all}
use Rattle.server_laws.specs.Beginning.{AllTellFrom, AreNoSendings, HearNoPublish, HearsNoPublish, IsAnsweredBy, IsKeptFrom, IsNoSending, IsOfSession, IsQuietSince, KeepsAll, KeptUnder, RepeatsKept, TellsKeptFrom, TransfersKept}
use Rattle.server_laws.proofs.Given.{picked_join}
use Rattle.server_laws.proofs.Granting.{IsGranted, SaysNothing, opening_heard}
use Rattle.server_laws.proofs.Hearing.{after_comes}
use Rattle.server_laws.proofs.Keeping.{ends_quiet, never_says, nothing_said, own_waits}
use Rattle.server_laws.proofs.Lasting.{AllLast, IsLasting, fed_same, last_same, requested_last, ticked_lasts}
use Rattle.server_laws.proofs.Kept.{same_now}
use Rattle.server_laws.proofs.Living.{life_stands, state_is}
use Rattle.server_laws.proofs.Quieting.{after_tells, fed_tells, heard_tells, leveled_tells, replied_at_once, there}
use Rattle.server_laws.proofs.Serving.{Row, from_row, noted_waits, single}
use Rattle.server_laws.proofs.Silent.{found_conn, numbers_of as numbers_in, ticked_tells}

-- ---- no Publish response

joined : (one other : List Said) → AreNoSendings one → AreNoSendings other → AreNoSendings (one ++ other)
joined [] other h rest = rest
joined (said ∷ one) other h rest = (h.0, joined one other h.1 rest)

either_none : (b : Bool) (one other : Did) → AreNoSendings one.said → AreNoSendings other.said → AreNoSendings (cond b one other).said
either_none true one other h rest = h
either_none false one other h rest = rest

refused_none : (conn : Conn) (code : ℕ) (s : ServerState) → AreNoSendings (refused_on conn code s).said
unfolding refused_on
refused_none conn code s = (tt, tt)

within_none : (conn : Conn) (number : ℕ) (answer : Reply) (s : ServerState) → IsNoSending (Replied number answer) → AreNoSendings (replied_within conn number answer s).said
unfolding replied_within
within_none conn number answer s h = (h, tt)

on_none : (conn : Conn) (number handle : ℕ) (answer : Reply) (s : ServerState) → IsNoSending (Replied number answer) → AreNoSendings (replied_on conn number handle answer s).said
unfolding replied_on
on_none conn number handle answer s h =
    let fault : Reply = fault_reply handle bad_response_too_large s in
    either_none (takes conn answer) _ _ (within_none conn number answer s h)
    (either_none (takes conn fault) _ _ (within_none conn number fault s tt) (refused_none conn bad_tcp_message_too_large s))

to_none : (found : Option Conn) (number handle : ℕ) (answer : Reply) (s : ServerState) → IsNoSending (Replied number answer) → AreNoSendings (replied_to found number handle answer s).said
to_none None number handle answer s h = tt
to_none (Some conn) number handle answer s h = on_none conn number handle answer s h

replied_none : (asker : Asker) (answer : Reply) (s : ServerState) → IsNoSending (Replied asker.request answer) → AreNoSendings (replied asker answer s).said
unfolding replied
replied_none asker answer s h = to_none (conn_at asker.conn s.conns) asker.request asker.handle answer s h

differ : (a b : ℕ) → (a == b) ≡ false → a ≡ b → ⊥
differ a b test same = absurd (grind (arith, nat_tests))

-- a Publish response answers a Publish alone
unfit : (r : Request) (response : PublishResponse) → IsAtOnce r → Fits r (reply.Subscription (sub_reply.Publish response)) → ⊥
unfit (request.Session (session_request.OpenSecureChannel r)) response at_once (inl h) = differ 829 449 refl h
unfit (request.Session (session_request.CloseSecureChannel r)) response at_once (inl h) = differ 829 455 refl h
unfit (request.Session (session_request.FindServers r)) response at_once (inl h) = differ 829 425 refl h
unfit (request.Session (session_request.GetEndpoints r)) response at_once (inl h) = differ 829 431 refl h
unfit (request.Session (session_request.CreateSession r)) response at_once (inl h) = differ 829 464 refl h
unfit (request.Session (session_request.ActivateSession r)) response at_once (inl h) = differ 829 470 refl h
unfit (request.Session (session_request.CloseSession r)) response at_once (inl h) = differ 829 476 refl h
unfit (request.Session (session_request.Read r)) response at_once (inl h) = differ 829 634 refl h
unfit (request.Session (session_request.Call r)) response at_once (inl h) = differ 829 715 refl h
unfit (request.Subscription (sub_request.CreateMonitoredItems r)) response at_once (inl h) = differ 829 754 refl h
unfit (request.Subscription (sub_request.SetMonitoringMode r)) response at_once (inl h) = differ 829 772 refl h
unfit (request.Subscription (sub_request.DeleteMonitoredItems r)) response at_once (inl h) = differ 829 784 refl h
unfit (request.Subscription (sub_request.CreateSubscription r)) response at_once (inl h) = differ 829 790 refl h
unfit (request.Subscription (sub_request.ModifySubscription r)) response at_once (inl h) = differ 829 796 refl h
unfit (request.Subscription (sub_request.SetPublishingMode r)) response at_once (inl h) = differ 829 802 refl h
unfit (request.Subscription (sub_request.Publish r)) response at_once (inl h) = at_once
unfit (request.Subscription (sub_request.Republish r)) response at_once (inl h) = differ 829 835 refl h
unfit (request.Subscription (sub_request.TransferSubscriptions r)) response at_once (inl h) = differ 829 844 refl h
unfit (request.Subscription (sub_request.DeleteSubscriptions r)) response at_once (inl h) = differ 829 850 refl h
unfit r response at_once (inr h) = differ 829 397 refl h

fits_none : (r : Request) (number : ℕ) (answer : Reply) → IsAtOnce r → Fits r answer → IsNoSending (Replied number answer)
fits_none r number (reply.Subscription (sub_reply.Publish response)) at_once fits = unfit r response at_once fits
fits_none r number (reply.Subscription other) at_once fits = tt
fits_none r number (reply.Session other) at_once fits = tt

fault_none : (number : ℕ) (answer : Reply) → IsFault answer → IsNoSending (Replied number answer)
fault_none number (reply.Subscription (sub_reply.Publish response)) is = differ 829 397 refl is
fault_none number (reply.Subscription other) is = tt
fault_none number (reply.Session other) is = tt

good_none : (r : Result Request RequestFault) (subs : List SubState) (number : ℕ) (answer : Reply) → IsAtOnceOf r → IsGoodFor r subs answer → IsNoSending (Replied number answer)
good_none (Ok r) subs number answer at_once is = fits_none r number answer at_once is.0
good_none (Err fault) subs number answer at_once is = fault_none number answer is

answered_none : (conn number : ℕ) (r : Result Request RequestFault) (s : ServerState) (did : Did) → IsAtOnceOf r → IsReplied Never conn number r s did → AreNoSendings did.said
answered_none conn number r s did at_once h =
    let one = h.answered in
    subst AreNoSendings (sym (one.said ∙ ap (λ l. l ++ (replied (asker_of conn number h.handle) one.answer one.from).said) (never_says one.front one.on)))
    (replied_none (asker_of conn number h.handle) one.answer one.from (good_none r s.subs number one.answer at_once one.good))

-- ---- then no message of a subscription

none_of_node : (id : ℕ) (n : NodeId) → messages_for id (token_facts n) ≡ []
none_of_node id (node.Numeric namespace number) = refl
none_of_node id (node.Text namespace name) = refl
none_of_node id (node.Guid namespace name) = refl
none_of_node id (node.Opaque namespace None) = refl
none_of_node id (node.Opaque namespace (Some token)) = refl

none_of_session : (id : ℕ) (r : SessionReply) → messages_for id (facts_of_session r) ≡ []
none_of_session id (session_reply.CreateSession r) = none_of_node id r.authentication_token
none_of_session id (session_reply.Read r) = refl
none_of_session id _ = refl

none_of_sub : (id number : ℕ) (r : SubReply) → IsNoSending (Replied number (reply.Subscription r)) → messages_for id (facts_of_sub r) ≡ []
none_of_sub id number (sub_reply.Publish r) h = absurd h
none_of_sub id number (sub_reply.CreateSubscription r) h = refl
none_of_sub id number (sub_reply.Republish r) h = refl
none_of_sub id number (sub_reply.SetMonitoringMode r) h = refl
none_of_sub id number _ h = refl

none_told : (id : ℕ) (told : Told) → IsNoSending told → messages_for id (facts_told told) ≡ []
none_told id (Replied number (reply.Subscription r)) h = none_of_sub id number r h
none_told id (Replied number (reply.Session r)) h = none_of_session id r
none_told id (Opened number r) h = refl
none_told id (Acknowledged hello) h = refl
none_told id (Refused code) h = refl
none_told id (Limited limits) h = refl
none_told id (Renewed channel token) h = refl

none_sent : (id : ℕ) (said : List Said) → AreNoSendings said → messages_for id (facts_said said) ≡ []
none_sent id [] h = refl
none_sent id (first ∷ said) h =
    picked_join (message_for id) (facts_told first.told) (facts_said said)
    ∙ ap (λ l. l ++ messages_for id (facts_said said)) (none_told id first.told h.0) ∙ none_sent id said h.1

-- ---- what happens, where no Publish waits

-- no Publish response is said, and what is kept lasts
pub record Calms (s : ServerState) (did : Did) : Type 0 where
  pub none : AreNoSendings did.said
  pub lasts : AllLast s did.state

same_calms : (s : ServerState) (did : Did) → AreNoSendings did.said → did.state.subs ≡ s.subs → Calms s did
same_calms s did none same = record { none = none; lasts = last_same s did.state (same_now s did.state same) }

nothing_calms : (s : ServerState) → Calms s (nothing s)
nothing_calms s = same_calms s (nothing s) tt refl

either_calms : (b : Bool) (s : ServerState) (one other : Did) → Calms s one → Calms s other → Calms s (cond b one other)
either_calms true s one other h rest = h
either_calms false s one other h rest = rest

refused_calms : (conn : Conn) (code : ℕ) (s : ServerState) → Calms s (refused_on conn code s)
unfolding refused_on
refused_calms conn code s = same_calms s (refused_on conn code s) (tt, tt) refl

welcomed_calms : (hello : Greeting) (conn : Conn) (s : ServerState) → Calms s (welcomed hello conn s)
unfolding welcomed
welcomed_calms hello conn s = same_calms s (welcomed hello conn s) (tt, (tt, tt)) refl

greeted_calms : (read : Result (Greeting × Option (List ℕ)) Fault) (conn : Conn) (s : ServerState) → Calms s (greeted_by read conn s)
greeted_calms (Ok hello) conn s = either_calms (is_small hello.0) s _ _ (refused_calms conn bad_decoding_error s) (welcomed_calms hello.0 conn s)
greeted_calms (Err fault) conn s = refused_calms conn bad_decoding_error s

greeting_calms : (body : List ℕ) (conn : Conn) (s : ServerState) → Calms s (greeting body conn s)
unfolding greeting
greeting_calms body conn s = greeted_calms (value_of (whole_at hello_at (input 0 body))) conn s

closing_calms : (conn : Conn) (s : ServerState) → Calms s (closing conn s)
unfolding closing
closing_calms conn s = same_calms s (closing conn s) tt refl

greeting_by : (found : Option Conn) (body : List ℕ) (s : ServerState) → Calms s (hears_by found (heard_as.Greeting body) s)
greeting_by None body s = nothing_calms s
greeting_by (Some conn) body s = greeting_calms body conn s

closing_by : (found : Option Conn) (s : ServerState) → Calms s (hears_by found heard_as.Close s)
closing_by None s = nothing_calms s
closing_by (Some conn) s = closing_calms conn s

fault_by : (found : Option Conn) (code : ℕ) (s : ServerState) → Calms s (hears_by found (heard_as.Fault code) s)
fault_by None code s = nothing_calms s
fault_by (Some conn) code s = refused_calms conn code s

message_by : (found : Option Conn) (number : ℕ) (body : List ℕ) (s : ServerState) → IsAtOnceOf (request_at body) → AllLast s (hears_by found (heard_as.Message number body) s).state
message_by None number body s at_once = last_same s s (same_now s s refl)
message_by (Some conn) number body s at_once = requested_last conn.number number body s at_once

message_lasts : (conn number : ℕ) (body : List ℕ) (s : ServerState) → IsAtOnceOf (request_at body) → AllLast s (after (Hears conn (heard_as.Message number body)) s).state
unfolding heard hears
message_lasts conn number body s at_once = by_deaf (is_deaf (ears conn s)) (message_by (conn_at conn s.conns) number body s at_once)
  where
    by_deaf : (b : Bool) → AllLast s (hears_by (conn_at conn s.conns) (heard_as.Message number body) s).state
        → AllLast s (cond b (nothing s) (hears_by (conn_at conn s.conns) (heard_as.Message number body) s)).state
    by_deaf true h = last_same s s (same_now s s refl)
    by_deaf false h = h

message_none : (b : Bool) (conn number : ℕ) (body : List ℕ) (s : ServerState) → is_deaf (ears conn s) ≡ b → IsAtOnceOf (request_at body) → NoneWaits s
    → AreNoSendings (after (Hears conn (heard_as.Message number body)) s).said
unfolding heard
message_none true conn number body s is at_once h =
    subst (λ b. AreNoSendings (cond b (nothing s) (hears conn (heard_as.Message number body) s)).said) (sym is) tt
message_none false conn number body s is at_once h =
    answered_none conn number (request_at body) s (after (Hears conn (heard_as.Message number body)) s) at_once (replied_at_once Never conn number body s is at_once h)

opening_none : (number : ℕ) (s : ServerState) (did : Did) → SaysNothing did ⊎ IsGranted number s did → AreNoSendings did.said
opening_none number s did (inl none) = none.1
opening_none number s did (inr g) = subst AreNoSendings (sym g.grant.said) (tt, (tt, tt))

heard_calms : (conn : ℕ) (h : Heard) (s : ServerState) → IsNoPublish h → NoneWaits s → Calms s (after (Hears conn h) s)
unfolding heard hears
heard_calms conn (heard_as.Greeting body) s quiet waits =
    either_calms (is_deaf (ears conn s)) s (nothing s) (hears_by (conn_at conn s.conns) (heard_as.Greeting body) s) (nothing_calms s) (greeting_by (conn_at conn s.conns) body s)
heard_calms conn (heard_as.Opening channel follows number body) s quiet waits =
    let h = opening_heard conn channel follows number body s in
    same_calms s (after (Hears conn (heard_as.Opening channel follows number body)) s) (opening_none conn s (after (Hears conn (heard_as.Opening channel follows number body)) s) h.either) h.subs
heard_calms conn (heard_as.Message number body) s quiet waits =
    record { none = message_none (is_deaf (ears conn s)) conn number body s refl quiet waits; lasts = message_lasts conn number body s quiet }
heard_calms conn heard_as.Close s quiet waits =
    either_calms (is_deaf (ears conn s)) s (nothing s) (hears_by (conn_at conn s.conns) heard_as.Close s) (nothing_calms s) (closing_by (conn_at conn s.conns) s)
heard_calms conn (heard_as.Fault code) s quiet waits =
    either_calms (is_deaf (ears conn s)) s (nothing s) (hears_by (conn_at conn s.conns) (heard_as.Fault code) s) (nothing_calms s) (fault_by (conn_at conn s.conns) code s)

opened_calms : (number : ℕ) (s : ServerState) → Calms s (opened number s)
unfolding opened
opened_calms number s =
    either_calms (is_above s.highest number) s (nothing (with_new_conn number s)) (nothing s) (same_calms s (nothing (with_new_conn number s)) tt refl) (nothing_calms s)

closed_by_calms : (found : Option Conn) (number : ℕ) (s : ServerState) → Calms s (closed_by found number s)
closed_by_calms None number s = nothing_calms s
closed_by_calms (Some conn) number s = same_calms s (closed_by (Some conn) number s) tt refl

closed_calms : (number : ℕ) (s : ServerState) → Calms s (closed number s)
unfolding closed
closed_calms number s = closed_by_calms (conn_at number s.conns) number s

fed_calms : (change : Change) (s : ServerState) → Calms s (fed change s)
unfolding fed
fed_calms change s = record { none = tt; lasts = last_same s (fed change s).state (fed_same change s (fed change s).state refl) }

leveled_calms : (level : ℕ) (s : ServerState) → Calms s (leveled level s)
unfolding leveled
leveled_calms level s = same_calms s (leveled level s) tt refl

ticked_calms : (ms : ℕ) (s : ServerState) → NoneWaits s → Calms s (after (Ticks ms) s)
ticked_calms ms s waits = record {
  none = subst AreNoSendings (sym (nothing_said (Ticks ms) s tt waits).0) tt;
  lasts = last_same s (after (Ticks ms) s).state (ticked_lasts ms s waits);
}

step_calms : (happening : Happening) (s : ServerState) → HearsNoPublish happening → NoneWaits s → Calms s (after happening s)
step_calms (Opens number) s quiet waits = opened_calms number s
step_calms (Hears conn h) s quiet waits = heard_calms conn h s quiet waits
step_calms (Closes number) s quiet waits = closed_calms number s
step_calms (Feeds change) s quiet waits = fed_calms change s
step_calms (Ticks ms) s quiet waits = ticked_calms ms s waits
step_calms (Levels level) s quiet waits = leveled_calms level s

step_waits : (happening : Happening) (s : ServerState) → HearsNoPublish happening → NoneWaits s → NoneWaits (after happening s).state
step_waits (Opens number) s quiet waits = (after_tells Never (Opens number) s tt waits).waits
step_waits (Hears conn h) s quiet waits = own_waits Never conn h s quiet waits
step_waits (Closes number) s quiet waits = (after_tells Never (Closes number) s tt waits).waits
step_waits (Feeds change) s quiet waits = (after_tells Never (Feeds change) s tt waits).waits
step_waits (Ticks ms) s quiet waits = (after_tells Never (Ticks ms) s tt waits).waits
step_waits (Levels level) s quiet waits = (after_tells Never (Levels level) s tt waits).waits

-- ---- one after another

pub boot_kept : (moves : List Move) (c : Core) → (moved_all moves c).boot ≡ c.boot
boot_kept [] c = refl
boot_kept (Makes spec start ∷ moves) c = boot_kept moves (moved (Makes spec start) c)
boot_kept (Does id doing ∷ moves) c = boot_kept moves (moved (Does id doing) c)
boot_kept (Enters change ∷ moves) c = boot_kept moves (moved (Enters change) c)
boot_kept (Ends id ∷ moves) c = boot_kept moves (moved (Ends id) c)
boot_kept (Asks call ∷ moves) c = boot_kept moves (moved (Asks call) c)
boot_kept (Issues ∷ moves) c = boot_kept moves (moved Issues c)
boot_kept (Repeats id number ∷ moves) c = boot_kept moves c
boot_kept (Answers answer ∷ moves) c = boot_kept moves c

pub made_more : (moves : List Move) (c : Core) → c.made ≤ (moved_all moves c).made
made_more [] c = omega arith
made_more (Makes spec start ∷ moves) c = let rest = made_more moves (moved (Makes spec start) c) in omega (arith, rest)
made_more (Does id doing ∷ moves) c = made_more moves (moved (Does id doing) c)
made_more (Enters change ∷ moves) c = made_more moves (moved (Enters change) c)
made_more (Ends id ∷ moves) c = made_more moves (moved (Ends id) c)
made_more (Asks call ∷ moves) c = made_more moves (moved (Asks call) c)
made_more (Issues ∷ moves) c = made_more moves (moved Issues c)
made_more (Repeats id number ∷ moves) c = made_more moves c
made_more (Answers answer ∷ moves) c = made_more moves c

-- what was given stays given
pub record Grows (s after : ServerState) : Type 0 where
  pub boot : after.config.boot ≡ s.config.boot
  pub made : s.made ≤ after.made

step_grows : (happening : Happening) (s : ServerState) → Grows s (after happening s).state
step_grows happening s =
    let h = after_comes happening s in
    let same : (after happening s).state.made ≡ (moved_all h.moves (core_of s)).made = ap (λ (c : Core). c.made) h.leads in
    let more : s.made ≤ (moved_all h.moves (core_of s)).made = made_more h.moves (core_of s) in
    record { boot = ap (λ (c : Core). c.boot) h.leads ∙ boot_kept h.moves (core_of s); made = omega (arith, same, more) }

last_then : (id : ℕ) (sub : SubState) (s middle : ServerState) → Grows s middle → AllLast s middle → IsLasting id sub middle → IsLasting id sub s
last_then id sub s middle grows first (inl (before, found, kept)) = by_before (first id before found)
  where
    by_before : IsLasting id before s → IsLasting id sub s
    by_before (inl (old, there_then, same)) = inl (old, there_then, same ∙ kept)
    by_before (inr (new, none)) = inr (new, sym kept ∙ none)
last_then id sub s middle grows first (inr (new, none)) =
    let boot : middle.config.boot ≡ s.config.boot = grows.boot in
    let made : s.made ≤ middle.made = grows.made in
    let above : middle.config.boot * 65536 + middle.made < id = new in
    inr (omega (arith, boot, made, above), none)

-- a span
pub record Spans (s : ServerState) (did : Did) : Type 0 where
  pub calms : Calms s did
  pub waits : NoneWaits did.state
  pub grows : Grows s did.state

then_spans : (s : ServerState) (did : Did) (happening : Happening) → HearsNoPublish happening → Spans s did
    → Spans s (record { state = (after happening did.state).state; said = did.said ++ (after happening did.state).said })
then_spans s did happening quiet h =
    let t : ServerState = did.state in
    let next = step_calms happening t quiet h.waits in
    let grows = step_grows happening t in
    let one : t.config.boot ≡ s.config.boot = h.grows.boot in
    let low : s.made ≤ t.made = h.grows.made in
    let high : t.made ≤ (after happening t).state.made = grows.made in
    record {
      calms = record {
        none = joined did.said (after happening t).said h.calms.none next.none;
        lasts = λ id sub found. last_then id sub s t h.grows h.calms.lasts (next.lasts id sub found);
      };
      waits = step_waits happening t quiet h.waits;
      grows = record { boot = grows.boot ∙ one; made = omega (arith, low, high) };
    }

none_spans : (s : ServerState) → NoneWaits s → Spans s (life_of [] s)
unfolding state_after
none_spans s waits = record { calms = nothing_calms s; waits = waits; grows = record { boot = refl; made = omega arith } }

pub all_spans : (later : List Happening) (s : ServerState) → HearNoPublish later → NoneWaits s → Spans s (life_of later s)
all_spans [] s quiet waits = none_spans s waits
all_spans (happening ∷ later) s quiet waits =
    subst (λ (t : ServerState). Spans s (record { state = t; said = said_after (happening ∷ later) s })) (sym (state_is happening later s))
    (then_spans s (life_of later s) happening quiet.0 (all_spans later s quiet.1 waits))

-- ---- of a life

-- ids are given once
abbrev pub Bounded : ServerState → Type 0
Bounded s = (id : ℕ) (sub : SubState) → sub_at id s.subs ≡ Some sub → id ≤ id_of s.config.boot s.made

bounded_by : (id : ℕ) (life : Life) (s : ServerState) (sub : SubState) → Stands id life (core_of s) → sub_at id s.subs ≡ Some sub → id ≤ id_of s.config.boot s.made
bounded_by id Unborn s sub h found = let both : ◌≡◌ {A = Option SubState} None (Some sub) = sym h ∙ found in absurd cc
bounded_by id (Lives spec start calls) s sub h found = h.2
bounded_by id (Over spec start calls) s sub h found = let both : ◌≡◌ {A = Option SubState} None (Some sub) = sym h.0 ∙ found in absurd cc

pub bounded : (config : ServerConfig) (current : List Change) (earlier : List Happening) → Bounded (state_after earlier (new_server config current))
bounded config current earlier id sub found =
    let h = life_stands config current earlier in
    bounded_by id _ (state_after earlier (new_server config current)) sub (h.1 id) found

none_above : (id : ℕ) (s : ServerState) (found : Option SubState) → Bounded s → id_of s.config.boot s.made < id → sub_at id s.subs ≡ found → sub_at id s.subs ≡ None
none_above id s None low above is = is
none_above id s (Some sub) low above is =
    let under : id ≤ s.config.boot * 65536 + s.made = low id sub is in
    let over : s.config.boot * 65536 + s.made < id = above in
    absurd (omega (arith, under, over))

kept_from : (id : ℕ) (sub : SubState) (s : ServerState) → Bounded s → IsLasting id sub s → IsKeptFrom id sub s
kept_from id sub s low (inl was) = inl was
kept_from id sub s low (inr (above, none)) = inr (none_above id s (sub_at id s.subs) low above refl, none)

keeps_all : (s t : ServerState) → Bounded s → AllLast s t → KeepsAll s t
keeps_all s t low h id sub found = kept_from id sub s low (h id sub found)

pub quiet_since : (config : ServerConfig) (current : List Change) (earlier later : List Happening) → NoneWaits (state_after earlier (new_server config current))
    → HearNoPublish later → IsQuietSince (state_after earlier (new_server config current)) (life_of later (state_after earlier (new_server config current)))
quiet_since config current earlier later waits quiet =
    let s : ServerState = state_after earlier (new_server config current) in
    let h = all_spans later s quiet waits in
    record {
      none = h.calms.none;
      unsent = λ id. none_sent id (said_after later s) h.calms.none;
      waits = h.waits;
      kept = keeps_all s (state_after later s) (bounded config current earlier) h.calms.lasts;
    }

none_join : (earlier : List Happening) (s : ServerState) → state_after ([] ++ earlier) s ≡ state_after [] (state_after earlier s)
unfolding state_after
none_join earlier s = refl

pub state_join : (later earlier : List Happening) (s : ServerState) → state_after (later ++ earlier) s ≡ state_after later (state_after earlier s)
state_join [] earlier s = none_join earlier s
state_join (happening ∷ later) earlier s =
    state_is happening (later ++ earlier) s ∙ ap (λ (t : ServerState). (after happening t).state) (state_join later earlier s)
    ∙ sym (state_is happening later (state_after earlier s))

-- ---- a Publish waits on a connection that is there

abbrev pub IsHere : ServerState → ℕ → Type 0
IsHere s number = (c : Conn) × (conn_at number s.conns ≡ Some c)

-- all wait on such connections
waits_on : (P Q : ℕ → Type 0) (sessions : List Session) → ((number : ℕ) → P number → Q number) → AllWait P sessions → AllWait Q sessions
waits_on P Q [] on h = tt
waits_on P Q (x ∷ sessions) on h = (λ number bound. by_queue number (h.0 number bound), waits_on P Q sessions on h.1)
  where
    by_queue : (number : ℕ) → (x.queued ≡ []) ⊎ P number → (x.queued ≡ []) ⊎ Q number
    by_queue number (inl none) = inl none
    by_queue number (inr p) = inr (on number p)

both_wait : (P Q : ℕ → Type 0) (sessions : List Session) → AllWait P sessions → AllWait Q sessions → AllWait (λ number. P number × Q number) sessions
both_wait P Q [] h rest = tt
both_wait P Q (x ∷ sessions) h rest = (λ number bound. by_queue number (h.0 number bound) (rest.0 number bound), both_wait P Q sessions h.1 rest.1)
  where
    by_queue : (number : ℕ) → (x.queued ≡ []) ⊎ P number → (x.queued ≡ []) ⊎ Q number → (x.queued ≡ []) ⊎ (P number × Q number)
    by_queue number (inl none) other = inl none
    by_queue number (inr p) (inl none) = inl none
    by_queue number (inr p) (inr q) = inr (p, q)

abbrev pub Here : ServerState → Type 0
Here s = AllWait (IsHere s) s.sessions.sessions

-- the same connections
here_by : (s t : ServerState) → numbers_in t ≡ numbers_in s → AllWait (IsHere s) t.sessions.sessions → Here t
here_by s t same h = waits_on (IsHere s) (IsHere t) t.sessions.sessions (λ number is. there number t.conns s.conns is.0 (ap (λ (numbers : Option ℕ × List ℕ). numbers.1) same) is.1) h

none_heard : (found : Option Conn) (conn : ℕ) (h : Heard) (s : ServerState) → conn_at conn s.conns ≡ found → Here s → Here (after (Hears conn h) s).state
unfolding heard hears
none_heard None conn h s is here =
    subst (λ (did : Did). Here did.state)
    (sym (ap (λ e. cond (is_deaf (ear_of e)) (nothing s) (hears_by e h s)) is)) here
none_heard (Some c) conn h s is here =
    let kept = heard_tells (IsHere s) conn h s (c, is) here in
    here_by s (heard conn h s).state kept.numbers kept.told.waits

-- one more
more_by : (b : Bool) (x c : Conn) (found rest : Option Conn) → (rest ≡ Some c → found ≡ Some c) → cond b (Some x) rest ≡ Some c → cond b (Some x) found ≡ Some c
more_by true x c found rest on is = is
more_by false x c found rest on is = on is

found_still : (number : ℕ) (conns more : List Conn) (c : Conn) → conn_at number conns ≡ Some c → conn_at number (conns ++ more) ≡ Some c
found_still number [] more c is = absurd cc
found_still number (x ∷ conns) more c is =
    more_by (is_conn number x) x c (conn_at number (conns ++ more)) (conn_at number conns) (found_still number conns more c) is

begun_here : (b : Bool) (number : ℕ) (s : ServerState) → Here s → Here (cond b (nothing (with_new_conn number s)) (nothing s)).state
begun_here true number s here =
    waits_on (IsHere s) (IsHere (with_new_conn number s)) s.sessions.sessions
    (λ other is. (is.0, found_still other s.conns (new_conn number (first_ear s.conns) ∷ []) is.0 is.1)) here
begun_here false number s here = here

opened_here : (number : ℕ) (s : ServerState) → Here s → Here (after (Opens number) s).state
unfolding opened
opened_here number s here = begun_here (is_above s.highest number) number s here

-- one less
less_by : (out here : Bool) (number other : ℕ) (x c : Conn) (kept rest : Option Conn) (left : List Conn) → conn_at number left ≡ kept → (x.number == other) ≡ out → (x.number == number) ≡ here
    → (number ≡ other → ⊥) → (rest ≡ Some c → kept ≡ Some c) → cond here (Some x) rest ≡ Some c → conn_at number (cond (not out) (x ∷ left) left) ≡ Some c
less_by true true number other x c kept rest left own out test apart on is = absurd (apart (grind (arith, nat_tests)))
less_by true false number other x c kept rest left own out test apart on is = own ∙ on is
less_by false true number other x c kept rest left own out test apart on is = ap (λ b. cond b (Some x) (conn_at number left)) test ∙ is
less_by false false number other x c kept rest left own out test apart on is = ap (λ b. cond b (Some x) (conn_at number left)) test ∙ own ∙ on is

found_apart : (number other : ℕ) (conns : List Conn) (c : Conn) → (number ≡ other → ⊥) → conn_at number conns ≡ Some c
    → conn_at number (filter (λ conn. not (is_conn other conn)) conns) ≡ Some c
found_apart number other [] c apart is = absurd cc
found_apart number other (x ∷ conns) c apart is =
    less_by (x.number == other) (x.number == number) number other x c (conn_at number (filter (λ conn. not (is_conn other conn)) conns)) (conn_at number conns)
    (filter (λ conn. not (is_conn other conn)) conns) refl refl refl apart (found_apart number other conns c apart) is

closed_here_by : (found : Option Conn) (number : ℕ) (s : ServerState) → AllWait (IsHere s) (closed_by found number s).state.sessions.sessions
    → ((c : Conn) → found ≡ Some c → AllWait (Other number) (closed_by found number s).state.sessions.sessions) → Here (closed_by found number s).state
closed_here_by None number s here other = here
closed_here_by (Some conn) number s here other =
    let t : ServerState = without_conn number s in
    waits_on (λ n. IsHere s n × Other number n) (IsHere t) t.sessions.sessions
    (λ n is. (is.0.0, found_apart n number s.conns is.0.0 is.1 is.0.1))
    (both_wait (IsHere s) (Other number) t.sessions.sessions here (other conn refl))

closed_here : (number : ℕ) (s : ServerState) → Here s → Here (after (Closes number) s).state
unfolding closed
closed_here number s here =
    closed_here_by (conn_at number s.conns) number s (after_tells (IsHere s) (Closes number) s tt here).waits
    (λ c is. ends_quiet number c s is)

step_here : (happening : Happening) (s : ServerState) → Here s → Here (after happening s).state
step_here (Opens number) s here = opened_here number s here
step_here (Hears conn h) s here = none_heard (conn_at conn s.conns) conn h s refl here
step_here (Closes number) s here = closed_here number s here
step_here (Feeds change) s here = let kept = fed_tells (IsHere s) change s here in here_by s (fed change s).state kept.numbers kept.told.waits
step_here (Ticks ms) s here = let kept = ticked_tells (IsHere s) ms s here in here_by s (after (Ticks ms) s).state kept.numbers kept.told.waits
step_here (Levels level) s here = let kept = leveled_tells (IsHere s) level s here in here_by s (leveled level s).state kept.numbers kept.told.waits

first_here : (config : ServerConfig) (current : List Change) → Here (state_after [] (new_server config current))
unfolding state_after
first_here config current = tt

all_here : (config : ServerConfig) (current : List Change) (happenings : List Happening) → Here (state_after happenings (new_server config current))
all_here config current [] = first_here config current
all_here config current (happening ∷ earlier) =
    subst Here (sym (state_is happening earlier (new_server config current)))
    (step_here happening (state_after earlier (new_server config current)) (all_here config current earlier))

pub none_waits : (config : ServerConfig) (current : List Change) (happenings : List Happening) → (state_after happenings (new_server config current)).conns ≡ []
    → NoneWaits (state_after happenings (new_server config current))
none_waits config current happenings none =
    let s : ServerState = state_after happenings (new_server config current) in
    waits_on (IsHere s) Never s.sessions.sessions (λ number is. not_here number s.conns is.0 none is.1) (all_here config current happenings)
  where
    not_here : (number : ℕ) (conns : List Conn) (c : Conn) → conns ≡ [] → conn_at number conns ≡ Some c → ⊥
    not_here number [] c none is = absurd cc
    not_here number (x ∷ conns) c none is = absurd cc

-- ---- what is answered

-- a request of this kind, whose answers are such
rows_now : (P : ℕ → Type 0) (Good : Reply → Type 0) (conn number : ℕ) (body : List ℕ) (r : Request) (s : ServerState) (found : Option Conn) → conn_at conn s.conns ≡ found
    → is_deaf (ear_of found) ≡ false → request_at body ≡ Ok r → AllWait P s.sessions.sessions
    → Row P (asker_of conn number (header_of r).request_handle) Good s (served (asker_of conn number (header_of r).request_handle) r s)
    → IsAnsweredBy P Good conn number (hears_by found (heard_as.Message number body) s)
unfolding requested
rows_now P Good conn number body r s None is hears asks waits row = absurd cc
rows_now P Good conn number body r s (Some c) is hears asks waits row =
    let kept = row waits in
    let own : c.number ≡ conn = found_conn conn s.conns c is in
    subst (λ (q : Result Request RequestFault). IsAnsweredBy P Good conn number (asked c.number number q s)) (sym asks)
    (subst (λ n. IsAnsweredBy P Good conn number (asked n number (Ok r) s)) (sym own)
    (record { handle = (header_of r).request_handle; answered = kept.answered; there = there conn kept.answered.from.conns s.conns c (ap (λ (numbers : Option ℕ × List ℕ). numbers.1) kept.from_numbers) is }))

heard_now : (P : ℕ → Type 0) (Good : Reply → Type 0) (conn number : ℕ) (s : ServerState) (b : Bool) (did : Did) → b ≡ false → IsAnsweredBy P Good conn number did
    → IsAnsweredBy P Good conn number (cond b (nothing s) did)
heard_now P Good conn number s true did is h = absurd cc
heard_now P Good conn number s false did is h = h

pub answers_now : (P : ℕ → Type 0) (Good : Reply → Type 0) (conn number : ℕ) (body : List ℕ) (r : Request) (s : ServerState) → is_deaf (ears conn s) ≡ false
    → request_at body ≡ Ok r → AllWait P s.sessions.sessions
    → Row P (asker_of conn number (header_of r).request_handle) Good s (served (asker_of conn number (header_of r).request_handle) r s)
    → IsAnsweredBy P Good conn number (after (Hears conn (heard_as.Message number body)) s)
unfolding heard hears
answers_now P Good conn number body r s hears asks waits row =
    heard_now P Good conn number s (is_deaf (ears conn s)) _ hears (rows_now P Good conn number body r s (conn_at conn s.conns) refl hears asks waits row)

-- ---- Republish

pub faulted_row : (P : ℕ → Type 0) (asker : Asker) (Good : Reply → Type 0) (code : ℕ) (s : ServerState) → Good (fault_reply asker.handle code s)
    → Row P asker Good s (faulted asker code s)
faulted_row P asker Good code s good = single P asker Good s s (fault_reply asker.handle code s) refl (λ h. h) good

-- what was kept at the beginning, and what is kept now
abbrev pub Tracks : RepublishRequest → ServerState → ServerState → Type 0
Tracks r s now = (sub : SubState) → sub_at r.subscription_id now.subs ≡ Some sub → IsKeptFrom r.subscription_id sub s

found_own : (owned : Bool) (found : Option SubState) (sub : SubState) → cond owned found None ≡ Some sub → found ≡ Some sub
found_own true found sub is = is
found_own false found sub is = absurd cc

kept_then : (r : RepublishRequest) (s : ServerState) (sub : SubState) (message : NotificationMessage) → IsKeptFrom r.subscription_id sub s
    → message_of r.retransmit_sequence_number sub.kept ≡ Some message → KeptUnder r.subscription_id r.retransmit_sequence_number message s
kept_then r s sub message (inl (before, found, kept)) is = (before, found, ap (message_of r.retransmit_sequence_number) kept ∙ is)
kept_then r s sub message (inr (gone, none)) is =
    let both : ◌≡◌ {A = Option NotificationMessage} None (Some message) = sym (ap (message_of r.retransmit_sequence_number) none) ∙ is in absurd cc

none_then : (r : RepublishRequest) (s : ServerState) (sub : SubState) (message : NotificationMessage) → IsKeptFrom r.subscription_id sub s
    → message_of r.retransmit_sequence_number sub.kept ≡ None → KeptUnder r.subscription_id r.retransmit_sequence_number message s → ⊥
none_then r s sub message (inl (before, found, kept)) is (other, there_then, under) =
    let both : Some before ≡ Some other = sym found ∙ there_then in
    let same : before ≡ other = cc in
    let wrong : ◌≡◌ {A = Option NotificationMessage} None (Some message) =
    sym (ap (λ (x : SubState). message_of r.retransmit_sequence_number x.kept) (sym same) ∙ ap (message_of r.retransmit_sequence_number) kept ∙ is) ∙ under in
    absurd cc
none_then r s sub message (inr (gone, none)) is (other, there_then, under) =
    let both : ◌≡◌ {A = Option SubState} None (Some other) = sym gone ∙ there_then in absurd cc

message_row : (P : ℕ → Type 0) (conn number : ℕ) (asker : Asker) (r : RepublishRequest) (sub : SubState) (s now at : ServerState) (found : Option NotificationMessage)
    → message_of r.retransmit_sequence_number sub.kept ≡ found → IsKeptFrom r.subscription_id sub s
    → Row P asker (RepeatsKept conn r s now) at (done asker (republish_one asker) (wanted bad_message_not_available found) at)
message_row P conn number asker r sub s now at None is from =
    faulted_row P asker (RepeatsKept conn r s now) bad_message_not_available at
    (inr (bad_message_not_available, (asker.handle, at, refl), inr (inr (refl, λ message. none_then r s sub message from is))))
message_row P conn number asker r sub s now at (Some message) is from =
    single P asker (RepeatsKept conn r s now) at at (republished_reply message (good_header asker.handle at)) refl (λ h. h)
    (inl (message, kept_then r s sub message from is, (good_header asker.handle at, refl)))

own_row : (P : ℕ → Type 0) (conn number session : ℕ) (asker : Asker) (r : RepublishRequest) (s now at : ServerState) (found : Option SubState)
    → check_answer (token_in r.request_header) conn now.sessions ≡ Ok session → own_sub session r.subscription_id now ≡ found → Tracks r s now
    → Row P asker (RepeatsKept conn r s now) at
    (done asker (republish_one asker) (wanted bad_subscription_id_invalid found >>= (λ sub. wanted bad_message_not_available (message_of r.retransmit_sequence_number sub.kept))) at)
own_row P conn number session asker r s now at None checks is tracks =
    faulted_row P asker (RepeatsKept conn r s now) bad_subscription_id_invalid at
    (inr (bad_subscription_id_invalid, (asker.handle, at, refl), inr (inl (refl, (session, checks, is)))))
own_row P conn number session asker r s now at (Some sub) checks is tracks =
    message_row P conn number asker r sub s now at (message_of r.retransmit_sequence_number sub.kept) refl
    (tracks sub (found_own (owns session r.subscription_id now) (sub_at r.subscription_id now.subs) sub is))

republish_row : (P : ℕ → Type 0) (conn number session : ℕ) (asker : Asker) (r : RepublishRequest) (s now : ServerState)
    → check_answer (token_in r.request_header) conn now.sessions ≡ Ok session → Tracks r s now
    → Row P asker (RepeatsKept conn r s now) (noted asker (token_in r.request_header) now) (republish asker session r (noted asker (token_in r.request_header) now))
unfolding republish
republish_row P conn number session asker r s now checks tracks =
    own_row P conn number session asker r s now (noted asker (token_in r.request_header) now) (own_sub session r.subscription_id now) checks refl tracks

session_code : (bound activated : Bool) (counter code : ℕ)
    → cond bound (cond activated (Ok counter) (Err bad_session_not_activated)) (Err bad_secure_channel_id_invalid) ≡ Err code → IsOfSession code
session_code true true counter code is = absurd cc
session_code true false counter code is = let same : bad_session_not_activated ≡ code = cc in inr (inr (sym same))
session_code false activated counter code is = let same : bad_secure_channel_id_invalid ≡ code = cc in inr (inl (sym same))

check_code : (conn : ℕ) (found : Option Session) (code : ℕ) → table.answer_of bad_session_id_invalid (one.check_answer conn) found ≡ Err code → IsOfSession code
check_code conn None code is = let same : bad_session_id_invalid ≡ code = cc in inl (sym same)
check_code conn (Some x) code is = session_code (one.is_bound_to conn x) x.activated x.counter code is

checked_row : (P : ℕ → Type 0) (conn number : ℕ) (asker : Asker) (r : RepublishRequest) (s now : ServerState) (answer : Result ℕ ℕ)
    → check_answer (token_in r.request_header) conn now.sessions ≡ answer → Tracks r s now
    → Row P asker (RepeatsKept conn r s now) (noted asker (token_in r.request_header) now)
    (done_for (sub_served asker (sub_request.Republish r)) asker answer (noted asker (token_in r.request_header) now))
unfolding sub_served
checked_row P conn number asker r s now (Ok session) is tracks = republish_row P conn number session asker r s now is tracks
checked_row P conn number asker r s now (Err code) is tracks =
    let at : ServerState = noted asker (token_in r.request_header) now in
    faulted_row P asker (RepeatsKept conn r s now) code at
    (inr (code, (asker.handle, at, refl), inl (check_code conn (session_of (token_in r.request_header) now.sessions) code is)))

served_republish : (P : ℕ → Type 0) (conn number handle : ℕ) (r : RepublishRequest) (s now : ServerState) → Tracks r s now
    → Row P (asker_of conn number handle) (RepeatsKept conn r s now) now (served (asker_of conn number handle) (request.Subscription (sub_request.Republish r)) now)
unfolding served
served_republish P conn number handle r s now tracks =
    let asker : Asker = asker_of conn number handle in
    from_row P asker (RepeatsKept conn r s now) now (noted asker (token_in r.request_header) now) _ refl (noted_waits P asker (token_in r.request_header) now)
    (checked_row P conn number asker r s now (check_answer (token_in r.request_header) conn now.sessions) refl tracks)

pub republishes_kept : (config : ServerConfig) (current : List Change) (earlier later : List Happening) (conn number : ℕ) (body : List ℕ) (r : RepublishRequest)
    → NoneWaits (state_after earlier (new_server config current)) → HearNoPublish later
    → is_deaf (ears conn (state_after later (state_after earlier (new_server config current)))) ≡ false
    → request_at body ≡ Ok (request.Subscription (sub_request.Republish r))
    → IsAnsweredBy Never (RepeatsKept conn r (state_after earlier (new_server config current)) (state_after later (state_after earlier (new_server config current)))) conn number
    (after (Hears conn (heard_as.Message number body)) (state_after later (state_after earlier (new_server config current))))
republishes_kept config current earlier later conn number body r waits quiet hears asks =
    let s : ServerState = state_after earlier (new_server config current) in
    let now : ServerState = state_after later s in
    let h = quiet_since config current earlier later waits quiet in
    answers_now Never (RepeatsKept conn r s now) conn number body (request.Subscription (sub_request.Republish r)) now hears asks h.waits
    (served_republish Never conn number (header_of (request.Subscription (sub_request.Republish r))).request_handle r s now (h.kept r.subscription_id))

-- ---- TransferSubscriptions

tells_from : (id : ℕ) (result : TransferResult) (s now : ServerState) → KeepsAll s now → TellsKept id result now.subs → TellsKeptFrom id result s
tells_from id result s now keeps h is = let told = h is in by_kept told.0 told.2 (keeps id told.0 told.1)
  where
    by_kept : (sub : SubState) → result.available_sequence_numbers ≡ numbers_of sub.kept → IsKeptFrom id sub s
        → ((sub : SubState) × (sub_at id s.subs ≡ Some sub) × (result.available_sequence_numbers ≡ numbers_of sub.kept))
        ⊎ ((sub_at id s.subs ≡ None) × (result.available_sequence_numbers ≡ []))
    by_kept sub told (inl (before, found, kept)) = inl (before, found, told ∙ ap numbers_of (sym kept))
    by_kept sub told (inr (gone, none)) = inr (gone, told ∙ ap numbers_of none)

all_from : (ids : List ℕ) (results : List TransferResult) (s now : ServerState) → KeepsAll s now → AllTellKept ids results now.subs → AllTellFrom ids results s
all_from [] [] s now keeps h = tt
all_from [] (result ∷ results) s now keeps h = absurd h
all_from (id ∷ ids) [] s now keeps h = absurd h
all_from (id ∷ ids) (result ∷ results) s now keeps h = (tells_from id result s now keeps h.0, all_from ids results s now keeps h.1)

transfers_from : (r : TransferSubscriptionsRequest) (s now : ServerState) (answer : Reply) → KeepsAll s now
    → IsGoodFor (Ok (request.Subscription (sub_request.TransferSubscriptions r))) now.subs answer → TransfersKept r s answer
transfers_from r s now (reply.Subscription (sub_reply.TransferSubscriptions told)) keeps good_now response is =
    let same : told ≡ response = cc in
    subst (λ (x : TransferSubscriptionsResponse). AllTellFrom r.subscription_ids x.results s) same
    (all_from r.subscription_ids told.results s now keeps good_now.1)
transfers_from r s now (reply.Subscription other) keeps good_now response is = absurd cc
transfers_from r s now (reply.Session other) keeps good_now response is = absurd cc

pub transfers_kept : (config : ServerConfig) (current : List Change) (earlier later : List Happening) (conn number : ℕ) (body : List ℕ) (r : TransferSubscriptionsRequest)
    → NoneWaits (state_after earlier (new_server config current)) → HearNoPublish later
    → is_deaf (ears conn (state_after later (state_after earlier (new_server config current)))) ≡ false
    → request_at body ≡ Ok (request.Subscription (sub_request.TransferSubscriptions r))
    → IsAnsweredBy Never (TransfersKept r (state_after earlier (new_server config current))) conn number
    (after (Hears conn (heard_as.Message number body)) (state_after later (state_after earlier (new_server config current))))
transfers_kept config current earlier later conn number body r waits quiet hears asks =
    let s : ServerState = state_after earlier (new_server config current) in
    let now : ServerState = state_after later s in
    let did : Did = after (Hears conn (heard_as.Message number body)) now in
    let h = quiet_since config current earlier later waits quiet in
    let replied_now : IsReplied Never conn number (Ok (request.Subscription (sub_request.TransferSubscriptions r))) now did =
    subst (λ q. IsReplied Never conn number q now did) asks (replied_at_once Never conn number body now hears (subst IsAtOnceOf (sym asks) tt) h.waits) in
    let told = replied_now.answered in
    record {
      handle = replied_now.handle;
      answered = record {
        front = told.front;
        answer = told.answer;
        from = told.from;
        said = told.said;
        on = told.on;
        good = transfers_from r s now told.answer h.kept told.good;
        waits = told.waits;
      };
      there = replied_now.there;
    }
