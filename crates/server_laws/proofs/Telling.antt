-- The messages of a subscription among all facts are those that the calls of its life sent, and their numbers follow one
-- another.
use Rattle.std.proofs.Common.{◌≡◌, ℕ, ◌+◌, ◌==◌, List, [], ◌∷◌, ◌++◌, Bool, true, false, cond, map, length, Option, Some, None, refl, sym, ap, ◌∙◌, arith, append_assoc, length-append}
use Rattle.std.proofs.lemmas.Bool.Decides.{nat_tests}
use Rattle.std.proofs.lemmas.List.{append-nil}
use Rattle.set_model.specs.declared.source.Change.{Change}
use Rattle.sessions.specs.Calls.{given_by}
use Rattle.sessions.specs.Token.{token_of}
use Rattle.retransmit.specs.Kept.{message_of}
use Rattle.ua_sub_msgs.specs.declared.notification.NotificationMessage.{NotificationMessage}
use Rattle.subscription.specs.declared.spec.SubSpec.{SubSpec}
use Rattle.subscription.specs.State.{SubState}
use Rattle.subscription.specs.History.{Call, state_of}
use Rattle.subscription.specs.Sendings.{counted, data_count, data_sent, number_of}
use Rattle.server_rules.specs.State.{sub_at}
use Rattle.server_laws.specs.Moves.{AreFair, Core, Doing, Fact, Move, Makes, Does, Enters, Ends, Asks, Issues, Repeats, Answers, Token, call_of, facts_of, facts_of_all, moved, repeated, repeated_of, sent_as, sent_of}
use Rattle.server_laws.specs.Lives.{AreNumbered, Life, Unborn, Lives, Over, Stands, born, ended, life_after, life_with, message_for, messages_for, messages_in, messages_sent, with_doing, with_message}
use Rattle.server_laws.proofs.Standing.{stands_with}

pub messages_join : (id : ℕ) (one other : List Fact) → messages_for id (one ++ other) ≡ messages_for id one ++ messages_for id other
messages_join id [] other = refl
messages_join id (fact ∷ one) other =
    ap (λ l. message_for id fact ++ l) (messages_join id one other)
    ∙ sym (append_assoc (message_for id fact) (messages_for id one) (messages_for id other))

-- ---- one move

none_more : (messages more : List NotificationMessage) → more ≡ [] → messages ≡ messages ++ more
none_more messages more none = sym (append-nil messages) ∙ ap (λ l. messages ++ l) (sym none)

sent_here : (id other : ℕ) (messages : List NotificationMessage) (message : Option NotificationMessage) → (other == id) ≡ true
    → with_message messages message ≡ messages ++ messages_for id (sent_as other message)
sent_here id other messages None is = sym (append-nil messages)
sent_here id other messages (Some message) is = sym (ap (λ b. messages ++ (cond b (message ∷ []) [] ++ [])) is)

sent_there : (id other : ℕ) (message : Option NotificationMessage) → (other == id) ≡ false → messages_for id (sent_as other message) ≡ []
sent_there id other None is = refl
sent_there id other (Some message) is = ap (λ b. cond b (message ∷ []) [] ++ []) is

none_there : (id other : ℕ) (doing : Doing) (current : List Change) (found : Option SubState) → (other == id) ≡ false
    → messages_for id (sent_of other doing current found) ≡ []
none_there id other doing current None is = refl
none_there id other doing current (Some sub) is = sent_there id other (data_sent (call_of doing current (Some sub)) sub) is

found_same : (id other : ℕ) (c : Core) (found : Option SubState) → (other == id) ≡ true → sub_at id c.subs ≡ found → sub_at other c.subs ≡ found
found_same id other c found is h = let same : other ≡ id = grind (arith, nat_tests) in ap (λ n. sub_at n c.subs) same ∙ h

told_doing : (id other : ℕ) (doing : Doing) (life : Life) (c : Core) (b : Bool) → (other == id) ≡ b → Stands id life c
    → messages_in (cond b (with_doing doing c.current life) life) ≡ messages_in life ++ messages_for id (sent_of other doing c.current (sub_at other c.subs))
told_doing id other doing Unborn c true is h = none_more [] _ (ap (λ o. messages_for id (sent_of other doing c.current o)) (found_same id other c None is h))
told_doing id other doing (Lives spec start calls) c true is h =
    let s : SubState = state_of spec start calls in
    sent_here id other (messages_sent spec start calls) (data_sent (call_of doing c.current (Some s)) s) is
    ∙ ap (λ o. messages_sent spec start calls ++ messages_for id (sent_of other doing c.current o)) (sym (found_same id other c (Some s) is h.0))
told_doing id other doing (Over spec start calls) c true is h =
    none_more (messages_sent spec start calls) _ (ap (λ o. messages_for id (sent_of other doing c.current o)) (found_same id other c None is h.0))
told_doing id other doing life c false is h = none_more (messages_in life) _ (none_there id other doing c.current (sub_at other c.subs) is)

told_made : (spec : SubSpec) (start : ℕ) (life : Life) (b : Bool) → messages_in (cond b (born spec start life) life) ≡ messages_in life
told_made spec start Unborn true = refl
told_made spec start (Lives old began calls) true = refl
told_made spec start (Over old began calls) true = refl
told_made spec start life false = refl

told_fed : (change : Change) (life : Life) (c : Core) → messages_in (life_with 0 (Enters change) c life) ≡ messages_in life
told_fed change Unborn c = refl
told_fed change (Lives spec start calls) c = refl
told_fed change (Over spec start calls) c = refl

told_ended : (life : Life) (b : Bool) → messages_in (cond b (ended life) life) ≡ messages_in life
told_ended Unborn true = refl
told_ended (Lives spec start calls) true = refl
told_ended (Over spec start calls) true = refl
told_ended life false = refl

no_tokens : (id boot : ℕ) (counters : List ℕ) → messages_for id (map (λ counter. Token (token_of boot counter)) counters) ≡ []
no_tokens id boot [] = refl
no_tokens id boot (counter ∷ counters) = no_tokens id boot counters

none_again : (id : ℕ) (message : Option NotificationMessage) → messages_for id (repeated message) ≡ []
none_again id None = refl
none_again id (Some message) = refl

none_repeated : (id number : ℕ) (found : Option SubState) → messages_for id (repeated_of number found) ≡ []
none_repeated id number None = refl
none_repeated id number (Some sub) = none_again id (message_of number sub.kept)

pub told_with : (id : ℕ) (move : Move) (life : Life) (c : Core) → Stands id life c
    → messages_in (life_with id move c life) ≡ messages_in life ++ messages_for id (facts_of move c)
told_with id (Makes spec start) life c h = told_made spec start life (spec.id == id) ∙ sym (append-nil (messages_in life))
told_with id (Does other doing) life c h = told_doing id other doing life c (other == id) refl h
told_with id (Enters change) life c h = told_fed change life c ∙ sym (append-nil (messages_in life))
told_with id (Ends other) life c h = told_ended life (other == id) ∙ sym (append-nil (messages_in life))
told_with id (Asks call) life c h = none_more (messages_in life) _ (no_tokens id c.boot (given_by call c.sessions))
told_with id Issues life c h = sym (append-nil (messages_in life))
told_with id (Repeats other number) life c h = none_more (messages_in life) _ (none_repeated id number (sub_at other c.subs))
told_with id (Answers answer) life c h = sym (append-nil (messages_in life))

-- ---- all moves

pub told_all : (id : ℕ) (moves : List Move) (life : Life) (c : Core) → AreFair moves c → Stands id life c
    → messages_in (life_after id moves c life) ≡ messages_in life ++ messages_for id (facts_of_all moves c)
told_all id [] life c fair h = sym (append-nil (messages_in life))
told_all id (move ∷ moves) life c fair h =
    told_all id moves (life_with id move c life) (moved move c) fair.1 (stands_with id move life c fair.0 h)
    ∙ ap (λ l. l ++ messages_for id (facts_of_all moves (moved move c))) (told_with id move life c h)
    ∙ append_assoc (messages_in life) (messages_for id (facts_of move c)) (messages_for id (facts_of_all moves (moved move c)))
    ∙ ap (λ l. messages_in life ++ l) (sym (messages_join id (facts_of move c) (facts_of_all moves (moved move c))))

-- ---- numbers

numbered_more : (k : ℕ) (messages : List NotificationMessage) (message : NotificationMessage) → AreNumbered k messages
    → message.sequence_number ≡ number_of (k + length messages) → AreNumbered k (messages ++ message ∷ [])
numbered_more k [] message h is = let same : k + 0 ≡ k = omega arith in (is ∙ ap number_of same, tt)
numbered_more k (first ∷ messages) message h is =
    let same : k + length (first ∷ messages) ≡ k + 1 + length messages = omega arith in
    (h.0, numbered_more (k + 1) messages message h.1 (is ∙ ap number_of same))

count_more : (messages : List NotificationMessage) (message : Option NotificationMessage) (count : ℕ) → count ≡ length messages
    → counted message count ≡ length (with_message messages message)
count_more messages None count h = h
count_more messages (Some message) count h = let long = length-append messages (message ∷ []) in omega (arith, h, long)

pub count_is : (spec : SubSpec) (start : ℕ) (calls : List Call) → data_count spec start calls ≡ length (messages_sent spec start calls)
count_is spec start [] = refl
count_is spec start (call ∷ earlier) =
    count_more (messages_sent spec start earlier) (data_sent call (state_of spec start earlier)) (data_count spec start earlier) (count_is spec start earlier)

numbered_with : (messages : List NotificationMessage) (message : Option NotificationMessage) → AreNumbered 1 messages
    → ((one : NotificationMessage) → message ≡ Some one → one.sequence_number ≡ number_of (1 + length messages)) → AreNumbered 1 (with_message messages message)
numbered_with messages None h is = h
numbered_with messages (Some message) h is = numbered_more 1 messages message h (is message refl)

-- what the crate of the subscription says of numbers
abbrev pub NumbersData : Type 0
NumbersData = (spec : SubSpec) (start : ℕ) (calls : List Call) (call : Call) (message : NotificationMessage)
    → data_sent call (state_of spec start calls) ≡ Some message → message.sequence_number ≡ number_of (data_count spec start calls + 1)

pub numbered : NumbersData → (spec : SubSpec) (start : ℕ) (calls : List Call) → AreNumbered 1 (messages_sent spec start calls)
numbered law spec start [] = tt
numbered law spec start (call ∷ earlier) =
    numbered_with (messages_sent spec start earlier) (data_sent call (state_of spec start earlier)) (numbered law spec start earlier)
    (λ one is.
    let count = count_is spec start earlier in
    let same : data_count spec start earlier + 1 ≡ 1 + length (messages_sent spec start earlier) = omega (arith, count) in
    law spec start earlier call one is ∙ ap number_of same)
