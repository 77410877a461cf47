-- The messages that a life sends, and those that it keeps, keep the limits of the wire.
use Rattle.std.proofs.Common.{◌≡◌, inl, inr, ℕ, ◌==◌, Bool, true, false, cond, List, [], ◌∷◌, ◌++◌, Some, None, sym, subst}
use Rattle.std.proofs.lemmas.Option.{same_Some}
use Rattle.std.specs.List.{AllByRecursion, find}
use Rattle.set_model.specs.declared.source.Change.{Change}
use Rattle.retransmit.specs.Kept.{message_of}
use Rattle.retransmit.specs.declared.retransmission.Sent.{Sent as KeptMessage}
use Rattle.ua_values.specs.declared.extension.ExtensionObject.{ExtensionObject}
use Rattle.ua_values.specs.declared.node.NodeId.{NodeId}
use Rattle.ua_values.specs.declared.node.NodeId.TheVariants as node
use Rattle.ua_session_msgs.specs.declared.reply.SessionReply.{SessionReply}
use Rattle.ua_session_msgs.specs.declared.reply.SessionReply.TheVariants as session_reply
use Rattle.ua_sub_msgs.specs.declared.notification.NotificationMessage.{NotificationMessage}
use Rattle.ua_sub_msgs.specs.declared.reply.SubReply.{SubReply}
use Rattle.ua_sub_msgs.specs.declared.reply.SubReply.TheVariants as sub_reply
use Rattle.ua_services.specs.declared.reply.Reply.{Reply}
use Rattle.ua_services.specs.declared.reply.Reply.TheVariants as reply
use Rattle.subscription.specs.State.{SubState}
use Rattle.server_rules.specs.declared.config.ServerConfig.{ServerConfig}
use Rattle.server_rules.specs.State.{ServerState, is_sub, new_server, sub_at}
use Rattle.server_rules.specs.Said.{Acknowledged, Limited, Opened, Refused, Renewed, Replied, Said, Told}
use Rattle.server_rules.specs.Step.{Happening, after}
use Rattle.server_rules.specs.Acts.{state_after}
use Rattle.server_laws.specs.Beginning.{KeptUnder}
use Rattle.server_laws.specs.Course.{said_after}
use Rattle.server_laws.specs.Facts.{IsWithin, data_in, facts_of_reply, facts_of_session, facts_of_sub, facts_said, facts_told, has_number, token_in}
use Rattle.server_laws.specs.Moves.{Answered, Fact, Repeated, Sent, Subscribed, Token}
use Rattle.server_keeps.specs.Fitting.{Brings, FitsChange, FitsConfig, FitsHappening, FitsMessage, FitsSent, FitsServer, FitsSub, KeepsDid, KeepsSaid, KeepsTold}

-- what the crate of the limits says
pub record Limits : Type 0 where
  pub first : (config : ServerConfig) (current : List Change) → FitsConfig config → AllByRecursion FitsChange current
      → FitsServer (new_server config current)
  pub step : (happening : Happening) (s : ServerState) → FitsServer s → FitsHappening happening → KeepsDid (after happening s)

-- ---- lists

both_all : {A : Type 0} (P : A → Type 0) (first more : List A) → AllByRecursion P first → AllByRecursion P more → AllByRecursion P (first ++ more)
both_all P [] more one other = other
both_all P (x ∷ first) more one other = (one.0, both_all P first more one.1 other)

later_all : {A : Type 0} (P : A → Type 0) (first more : List A) → AllByRecursion P (first ++ more) → AllByRecursion P more
later_all P [] more all = all
later_all P (x ∷ first) more all = later_all P first more all.1

within_all : {A : Type 0} (P : A → Type 0) (x : A) (xs : List A) → IsWithin (x ∷ []) xs → AllByRecursion P xs → P x
within_all P x [] h all = absurd (some_none x h)
  where
    some_none : {A : Type 0} (x : A) → x ∷ [] ≡ [] → ⊥
    some_none x same = cc
within_all P x (y ∷ ys) (inl h) all = within_all P x ys h all.1
within_all {A} P x (y ∷ ys) (inr h) all = subst P (sym (first_is x y h.0 h.1)) all.0
  where
    first_is : {A : Type 0} (x y : A) (rest : List A) → x ∷ [] ≡ y ∷ rest → x ≡ y
    first_is x y rest same = cc

-- ---- what was said

abbrev FactKeeps : Fact → Type 0
FactKeeps (Sent id message) = FitsMessage message
FactKeeps (Subscribed id) = Unit {0}
FactKeeps (Token token) = Unit {0}
FactKeeps (Repeated message) = Unit {0}
FactKeeps (Answered answer) = Unit {0}

abbrev AllFacts : List Fact → Type 0
AllFacts facts = AllByRecursion FactKeeps facts

data_keep : (id : ℕ) (message : NotificationMessage) (objects : List ExtensionObject) → FitsMessage message → AllFacts (data_in id message objects)
data_keep id message [] fits = tt
data_keep id message (object ∷ more) fits = by_test (has_number object.type_id)
  where
    by_test : (b : Bool) → AllFacts (cond b (Sent id message ∷ []) [])
    by_test true = (fits, tt)
    by_test false = tt

tokens_keep : (id : NodeId) → AllFacts (token_in id)
tokens_keep (node.Numeric namespace number) = tt
tokens_keep (node.Text namespace text) = tt
tokens_keep (node.Guid namespace guid) = tt
tokens_keep (node.Opaque namespace None) = tt
tokens_keep (node.Opaque namespace (Some token)) = (tt, tt)

session_keeps : (one : SessionReply) → AllFacts (facts_of_session one)
session_keeps (session_reply.CreateSession r) = tokens_keep r.authentication_token
session_keeps (session_reply.Read r) = (tt, tt)
session_keeps other = tt

sub_keeps : (one : SubReply) → Brings (reply.Subscription one) → AllFacts (facts_of_sub one)
sub_keeps (sub_reply.Publish r) fits = data_keep r.subscription_id r.notification_message r.notification_message.notification_data fits
sub_keeps (sub_reply.CreateSubscription r) fits = (tt, tt)
sub_keeps (sub_reply.Republish r) fits = (tt, tt)
sub_keeps (sub_reply.SetMonitoringMode r) fits = (tt, tt)
sub_keeps other fits = tt

reply_keeps : (answer : Reply) → Brings answer → AllFacts (facts_of_reply answer)
reply_keeps (reply.Session one) fits = session_keeps one
reply_keeps (reply.Subscription one) fits = sub_keeps one fits

told_keeps : (told : Told) → KeepsTold told → AllFacts (facts_told told)
told_keeps (Acknowledged greeting) keeps = tt
told_keeps (Opened request response) keeps = (tt, tt)
told_keeps (Replied request answer) keeps = reply_keeps answer keeps.1.brings
told_keeps (Refused code) keeps = tt
told_keeps (Limited limits) keeps = tt
told_keeps (Renewed channel token) keeps = tt

said_keeps : (all : List Said) → AllByRecursion KeepsSaid all → AllFacts (facts_said all)
said_keeps [] keeps = tt
said_keeps (said ∷ more) keeps = both_all FactKeeps (facts_told said.told) (facts_said more) (told_keeps said.told keeps.0.told) (said_keeps more keeps.1)

-- ---- a message that is kept

found_fits : (id : ℕ) (subs : List SubState) (sub : SubState) → AllByRecursion FitsSub subs → sub_at id subs ≡ Some sub → FitsSub sub
found_fits id [] sub all here = let bad : None ≡ Some sub = here in absurd cc
found_fits id (one ∷ subs) sub all here = by_test (is_sub id one) (λ more. found_fits id subs sub all.1 more) here
  where
    by_test : (b : Bool) → (find (is_sub id) subs ≡ Some sub → FitsSub sub) → cond b (Some one) (find (is_sub id) subs) ≡ Some sub → FitsSub sub
    by_test true more here = subst FitsSub (same_Some one sub here) all.0
    by_test false more here = more here

message_fits : (number : ℕ) (kept : List (KeptMessage NotificationMessage)) (message : NotificationMessage) → AllByRecursion FitsSent kept
    → message_of number kept ≡ Some message → FitsMessage message
message_fits number [] message all here = let bad : None ≡ Some message = here in absurd cc
message_fits number (one ∷ kept) message all here = by_test (one.number == number) (λ more. message_fits number kept message all.1 more) here
  where
    by_test : (b : Bool) → (message_of number kept ≡ Some message → FitsMessage message)
        → cond b (Some one.message) (message_of number kept) ≡ Some message → FitsMessage message
    by_test true more here = subst FitsMessage (same_Some one.message message here) all.0.message
    by_test false more here = more here

-- ---- a life

module _ (limits : Limits) (s : ServerState) (fits : FitsServer s) where
  state_fits : (happenings : List Happening) → AllByRecursion FitsHappening happenings → FitsServer (state_after happenings s)
  unfolding state_after
  state_fits [] all = fits
  state_fits (happening ∷ earlier) all = (limits.step happening (state_after earlier s) (state_fits earlier all.1) all.0).state

  all_keep : (happenings : List Happening) → AllByRecursion FitsHappening happenings → AllByRecursion KeepsSaid (said_after happenings s)
  all_keep [] all = tt
  all_keep (happening ∷ earlier) all =
      both_all KeepsSaid (said_after earlier s) (after happening (state_after earlier s)).said (all_keep earlier all.1)
      (limits.step happening (state_after earlier s) (state_fits earlier all.1) all.0).said

  -- ---- sent, and kept

  pub sent_fits : (happenings : List Happening) (id : ℕ) (message : NotificationMessage) → AllByRecursion FitsHappening happenings
      → IsWithin (Sent id message ∷ []) (facts_said (said_after happenings s)) → FitsMessage message
  sent_fits happenings id message all sent =
      within_all FactKeeps (Sent id message) (facts_said (said_after happenings s)) sent (said_keeps (said_after happenings s) (all_keep happenings all))

  pub kept_fits : (later earlier : List Happening) (id number : ℕ) (message : NotificationMessage) → AllByRecursion FitsHappening (later ++ earlier)
      → KeptUnder id number message (state_after earlier s) → FitsMessage message
  kept_fits later earlier id number message all kept =
      let state = state_fits earlier (later_all FitsHappening later earlier all) in
      let sub : FitsSub kept.0 = found_fits id (state_after earlier s).subs kept.0 state.subs kept.1 in
      message_fits number kept.0.kept message sub.kept kept.2
