-- The ids and tokens that a life gives rise.
use Rattle.std.proofs.Common.{◌≡◌, ℕ, ◌+◌, ◌-◌, ◌^◌, ◌<◌, ◌≤◌, ◌==◌, ◌&&◌, ◌||◌, List, [], ◌∷◌, ◌++◌, Bool, true, false, cond, not, nat_lt, length, map, Option, Some, None, refl, sym, ap, ◌∙◌, subst, arith, append_assoc, inl, inr}
use Rattle.std.proofs.lemmas.Bool.Decides.{nat_tests}
use Rattle.std.proofs.lemmas.List.{map-append}
use Rattle.set_model.specs.declared.source.Change.{Change}
use Rattle.retransmit.specs.Kept.{message_of}
use Rattle.sessions.specs.Calls.{Call as SessionCall, Create, Activate, Check, Bound, Unbind, Close, Expire, Park, Unpark, Own, Disown, Transfer, after_call, after_create, counters_given, given_by, given_by_create}
use Rattle.sessions.specs.State.{SessionsState}
use Rattle.sessions.specs.Table.{are_bound, given_to, is_full, may_transfer, session_at, transferred}
use Rattle.sessions.proofs.Counters.{last_owned}
use Rattle.sessions.specs.Token.{token_of}
use Rattle.ua_sub_msgs.specs.declared.notification.NotificationMessage.{NotificationMessage}
use Rattle.subscription.specs.State.{SubState}
use Rattle.subscription.specs.Sendings.{data_sent}
use Rattle.server_rules.specs.State.{sub_at}
use Rattle.server_laws.specs.Moves.{AreFair, Core, Doing, Fact, Token, Move, Makes, Does, Enters, Ends, Asks, Issues, Repeats, Answers, call_of, facts_of, facts_of_all, id_of, moved, repeated, repeated_of, sent_as, sent_of}
use Rattle.server_laws.specs.Facts.{IsWithin, RiseBetween, id_in, ids_in, picked, token_of_fact, tokens_in}
use Rattle.server_laws.proofs.Within.{all_within, none_within, within_join}

-- ---- what is picked

pub picked_join : {A : Type 0} (pick : Fact → List A) (one other : List Fact) → picked pick (one ++ other) ≡ picked pick one ++ picked pick other
picked_join pick [] other = refl
picked_join pick (fact ∷ one) other = ap (λ l. pick fact ++ l) (picked_join pick one other) ∙ sym (append_assoc (pick fact) (picked pick one) (picked pick other))

pub picked_within : {A : Type 0} (pick : Fact → List A) (some all : List Fact) → IsWithin some all → IsWithin (picked pick some) (picked pick all)
picked_within pick some [] h = ap (picked pick) h
picked_within pick some (fact ∷ all) (inl h) =
    within_join [] (pick fact) (picked pick some) (picked pick all) (none_within (pick fact)) (picked_within pick some all h)
picked_within pick some (fact ∷ all) (inr h) =
    subst (λ l. IsWithin (picked pick l) (pick fact ++ picked pick all)) (sym h.1)
    (within_join (pick fact) (pick fact) (picked pick h.0) (picked pick all) (all_within (pick fact)) (picked_within pick h.0 all h.2))

-- ---- rising

rise_lower : (low lower high : ℕ) (numbers : List ℕ) → lower ≤ low → RiseBetween low high numbers → RiseBetween lower high numbers
rise_lower low lower high [] under h = tt
rise_lower low lower high (number ∷ numbers) under h = let above = h.0 in (omega arith, h.1, h.2)

pub rise_within : (low high : ℕ) (some all : List ℕ) → IsWithin some all → RiseBetween low high all → RiseBetween low high some
rise_within low high some [] h rise = subst (RiseBetween low high) (sym h) tt
rise_within low high some (number ∷ all) (inl h) rise =
    let above = rise.0 in rise_lower number low high some (omega arith) (rise_within number high some all h rise.2)
rise_within low high some (number ∷ all) (inr h) rise =
    subst (RiseBetween low high) (sym h.1) (rise.0, rise.1, rise_within number high h.0 all h.2 rise.2)

-- ---- ids of subscriptions

sent_ids : (id : ℕ) (message : Option NotificationMessage) → ids_in (sent_as id message) ≡ []
sent_ids id None = refl
sent_ids id (Some message) = refl

done_ids : (id : ℕ) (doing : Doing) (current : List Change) (found : Option SubState) → ids_in (sent_of id doing current found) ≡ []
done_ids id doing current None = refl
done_ids id doing current (Some sub) = sent_ids id (data_sent (call_of doing current (Some sub)) sub)

token_ids : (boot : ℕ) (counters : List ℕ) → ids_in (map (λ counter. Token (token_of boot counter)) counters) ≡ []
token_ids boot [] = refl
token_ids boot (counter ∷ counters) = token_ids boot counters

again_ids : (message : Option NotificationMessage) → ids_in (repeated message) ≡ []
again_ids None = refl
again_ids (Some message) = refl

repeated_ids : (number : ℕ) (found : Option SubState) → ids_in (repeated_of number found) ≡ []
repeated_ids number None = refl
repeated_ids number (Some sub) = again_ids (message_of number sub.kept)

-- facts without ids before others
behind : {A : Type 0} (pick : Fact → List A) (none rest : List Fact) → picked pick none ≡ [] → picked pick (none ++ rest) ≡ picked pick rest
behind pick none rest is = picked_join pick none rest ∙ ap (λ l. l ++ picked pick rest) is

pub ids_rise : (moves : List Move) (c : Core) → AreFair moves c → c.made ≤ 65535
    → RiseBetween (id_of c.boot c.made) (id_of c.boot 65535) (ids_in (facts_of_all moves c))
ids_rise [] c fair most = tt
ids_rise (Makes spec start ∷ moves) c fair most =
    let new = fair.0.0 in
    let room = fair.0.1 in (
      omega (arith, new),
      omega (arith, new, room),
      subst (λ id. RiseBetween id (id_of c.boot 65535) (ids_in (facts_of_all moves (moved (Makes spec start) c)))) (sym new)
          (ids_rise moves (moved (Makes spec start) c) fair.1 (omega (arith, room))),
    )
ids_rise (Does id doing ∷ moves) c fair most =
    subst (RiseBetween (id_of c.boot c.made) (id_of c.boot 65535)) (sym (behind id_in (facts_of (Does id doing) c) _ (done_ids id doing c.current (sub_at id c.subs))))
    (ids_rise moves (moved (Does id doing) c) fair.1 most)
ids_rise (Enters change ∷ moves) c fair most = ids_rise moves (moved (Enters change) c) fair.1 most
ids_rise (Ends id ∷ moves) c fair most = ids_rise moves (moved (Ends id) c) fair.1 most
ids_rise (Asks call ∷ moves) c fair most =
    subst (RiseBetween (id_of c.boot c.made) (id_of c.boot 65535)) (sym (behind id_in (facts_of (Asks call) c) _ (token_ids c.boot (given_by call c.sessions))))
    (ids_rise moves (moved (Asks call) c) fair.1 most)
ids_rise (Issues ∷ moves) c fair most = ids_rise moves (moved Issues c) fair.1 most
ids_rise (Repeats id number ∷ moves) c fair most =
    subst (RiseBetween (id_of c.boot c.made) (id_of c.boot 65535)) (sym (behind id_in (facts_of (Repeats id number) c) _ (repeated_ids number (sub_at id c.subs))))
    (ids_rise moves (moved (Repeats id number) c) fair.1 most)
ids_rise (Answers answer ∷ moves) c fair most = ids_rise moves (moved (Answers answer) c) fair.1 most

-- ---- tokens of sessions

sent_tokens : (id : ℕ) (message : Option NotificationMessage) → tokens_in (sent_as id message) ≡ []
sent_tokens id None = refl
sent_tokens id (Some message) = refl

done_tokens : (id : ℕ) (doing : Doing) (current : List Change) (found : Option SubState) → tokens_in (sent_of id doing current found) ≡ []
done_tokens id doing current None = refl
done_tokens id doing current (Some sub) = sent_tokens id (data_sent (call_of doing current (Some sub)) sub)

again_tokens : (message : Option NotificationMessage) → tokens_in (repeated message) ≡ []
again_tokens None = refl
again_tokens (Some message) = refl

repeated_tokens : (number : ℕ) (found : Option SubState) → tokens_in (repeated_of number found) ≡ []
repeated_tokens number None = refl
repeated_tokens number (Some sub) = again_tokens (message_of number sub.kept)

token_tokens : (boot : ℕ) (counters : List ℕ) → tokens_in (map (λ counter. Token (token_of boot counter)) counters) ≡ map (token_of boot) counters
token_tokens boot [] = refl
token_tokens boot (counter ∷ counters) = ap (λ l. token_of boot counter ∷ l) (token_tokens boot counters)

-- the calls on the sessions
abbrev pub call_in : Move → List SessionCall
call_in (Asks call) = call ∷ []
call_in other = []

abbrev pub calls_in : List Move → List SessionCall
calls_in [] = []
calls_in (move ∷ moves) = call_in move ++ calls_in moves

pub tokens_are : (moves : List Move) (c : Core) → tokens_in (facts_of_all moves c) ≡ map (token_of c.boot) (counters_given (calls_in moves) c.sessions)
tokens_are [] c = refl
tokens_are (Makes spec start ∷ moves) c = tokens_are moves (moved (Makes spec start) c)
tokens_are (Does id doing ∷ moves) c =
    behind token_of_fact (facts_of (Does id doing) c) _ (done_tokens id doing c.current (sub_at id c.subs)) ∙ tokens_are moves (moved (Does id doing) c)
tokens_are (Enters change ∷ moves) c = tokens_are moves (moved (Enters change) c)
tokens_are (Ends id ∷ moves) c = tokens_are moves (moved (Ends id) c)
tokens_are (Asks call ∷ moves) c =
    let rest : List ℕ = counters_given (calls_in moves) (after_call call c.sessions) in
    picked_join token_of_fact (facts_of (Asks call) c) (facts_of_all moves (moved (Asks call) c))
    ∙ ap (λ l. l ++ tokens_in (facts_of_all moves (moved (Asks call) c))) (token_tokens c.boot (given_by call c.sessions))
    ∙ ap (λ l. map (token_of c.boot) (given_by call c.sessions) ++ l) (tokens_are moves (moved (Asks call) c))
    ∙ sym (map-append (token_of c.boot) (given_by call c.sessions) rest)
tokens_are (Issues ∷ moves) c = tokens_are moves (moved Issues c)
tokens_are (Repeats id number ∷ moves) c =
    behind token_of_fact (facts_of (Repeats id number) c) _ (repeated_tokens number (sub_at id c.subs)) ∙ tokens_are moves (moved (Repeats id number) c)
tokens_are (Answers answer ∷ moves) c = tokens_are moves (moved (Answers answer) c)

last_transferred : (id to : ℕ) (state : SessionsState) → (transferred id to state).last_counter ≡ state.last_counter
last_transferred id to state = by_test (may_transfer id to state)
  where
    by_test : (b : Bool) → (cond b (record state { owned = map (given_to id to) state.owned }) state).last_counter ≡ state.last_counter
    by_test true = refl
    by_test false = refl

not_last : (a : Bool) (last : ℕ) → (a || (last == 2 ^ 32 - 1)) ≡ false → last < 2 ^ 32 → last + 1 ≤ 2 ^ 32 - 1
not_last true last is under = absurd cc
not_last false last is under = grind (arith, nat_tests)

pub counters_rise : (calls : List SessionCall) (state : SessionsState) (low : ℕ) → low ≤ state.last_counter → state.last_counter < 2 ^ 32
    → RiseBetween low (2 ^ 32 - 1) (counters_given calls state)
counters_rise [] state low under most = tt
counters_rise (Create conn uri timeout now ∷ calls) state low under most = by_refusal (is_full state) refl (counters_rise calls)
  where
    by_refusal : (b : Bool) → is_full state ≡ b
        → ((after : SessionsState) (low : ℕ) → low ≤ after.last_counter → after.last_counter < 2 ^ 32 → RiseBetween low (2 ^ 32 - 1) (counters_given calls after))
        → RiseBetween low (2 ^ 32 - 1) (given_by_create b state ++ counters_given calls (after_create b conn uri timeout now state))
    by_refusal true is rest = rest state low under most
    by_refusal false is rest =
        let room = not_last (not (nat_lt (length state.sessions) 16) && are_bound state.sessions) state.last_counter is most in
        (omega arith, room, rest (after_create false conn uri timeout now state) (state.last_counter + 1) (omega arith) (omega (arith, room)))
counters_rise (Activate token conn now ∷ calls) state low under most = counters_rise calls (after_call (Activate token conn now) state) low under most
counters_rise (Check token conn now ∷ calls) state low under most = counters_rise calls (after_call (Check token conn now) state) low under most
counters_rise (Bound token conn now ∷ calls) state low under most = counters_rise calls (after_call (Bound token conn now) state) low under most
counters_rise (Unbind conn ∷ calls) state low under most = counters_rise calls (after_call (Unbind conn) state) low under most
counters_rise (Close session ∷ calls) state low under most = counters_rise calls (after_call (Close session) state) low under most
counters_rise (Expire now ∷ calls) state low under most = counters_rise calls (after_call (Expire now) state) low under most
counters_rise (Park session publish ∷ calls) state low under most = counters_rise calls (after_call (Park session publish) state) low under most
counters_rise (Unpark session ∷ calls) state low under most = counters_rise calls (after_call (Unpark session) state) low under most
counters_rise (Own id session ∷ calls) state low under most =
    let same = last_owned id (session_at session state.sessions) state in
    counters_rise calls (after_call (Own id session) state) low (omega (arith, same)) (omega (arith, same))
counters_rise (Disown id ∷ calls) state low under most = counters_rise calls (after_call (Disown id) state) low under most
counters_rise (Transfer id to ∷ calls) state low under most =
    let same = last_transferred id to state in
    counters_rise calls (after_call (Transfer id to) state) low (omega (arith, same)) (omega (arith, same))

-- what is within the images is the image of what is within
pub record Within {A : Type 0} (f : ℕ → A) (some : List A) (all : List ℕ) : Type 0 where
  pub numbers : List ℕ
  pub within : IsWithin numbers all
  pub are : some ≡ map f numbers

pub within_map : {A : Type 0} (f : ℕ → A) (some : List A) (all : List ℕ) → IsWithin some (map f all) → Within f some all
within_map f some [] h = record { numbers = []; within = refl; are = h }
within_map f some (number ∷ all) (inl h) =
    let rest = within_map f some all h in
    record { numbers = rest.numbers; within = inl rest.within; are = rest.are }
within_map f some (number ∷ all) (inr h) =
    let rest = within_map f h.0 all h.2 in
    record {
      numbers = number ∷ rest.numbers;
      within = inr (rest.numbers, refl, rest.within);
      are = h.1 ∙ ap (λ l. f number ∷ l) rest.are;
    }
