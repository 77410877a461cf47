-- Which responses may be put when.
use Rattle.std.proofs.Common.{◌≡◌, ℕ, List, [], ◌∷◌, map, Option, Some, None, refl, subst, ◌⊎◌, inl, inr}
use Rattle.set_model.specs.declared.source.Change.{Change}
use Rattle.sessions.specs.Calls.{given_by}
use Rattle.sessions.specs.Token.{token_of}
use Rattle.retransmit.specs.Kept.{message_of}
use Rattle.ua_sub_msgs.specs.declared.notification.NotificationMessage.{NotificationMessage}
use Rattle.subscription.specs.State.{SubState}
use Rattle.subscription.specs.Sendings.{data_sent}
use Rattle.server_rules.specs.State.{ServerState, sub_at}
use Rattle.server_rules.specs.Step.{Happening, after}
use Rattle.server_laws.specs.Moves.{Answer, Answered, Core, Doing, Fact, Token, Move, Makes, Does, Enters, Ends, Asks, Issues, Repeats, Answers, call_of, facts_of, facts_of_all, moved, repeated, repeated_of, sent_as, sent_of}
use Rattle.server_laws.specs.Facts.{IsWithin, facts_said, picked}
use Rattle.server_laws.specs.Course.{Leave, MayAnswer, MayMove, MayMoves, core_of, leave_of}
use Rattle.server_laws.proofs.Given.{picked_join, picked_within}
use Rattle.server_laws.proofs.Hearing.{after_comes}
use Rattle.server_laws.proofs.Within.{not_within, one_is, one_of, within_trans}

abbrev pub answer_in : Fact → List Answer
answer_in (Answered answer) = answer ∷ []
answer_in other = []

sent_none : (id : ℕ) (message : Option NotificationMessage) → picked answer_in (sent_as id message) ≡ []
sent_none id None = refl
sent_none id (Some message) = refl

done_none : (id : ℕ) (doing : Doing) (current : List Change) (found : Option SubState) → picked answer_in (sent_of id doing current found) ≡ []
done_none id doing current None = refl
done_none id doing current (Some sub) = sent_none id (data_sent (call_of doing current (Some sub)) sub)

tokens_none : (boot : ℕ) (counters : List ℕ) → picked answer_in (map (λ counter. Token (token_of boot counter)) counters) ≡ []
tokens_none boot [] = refl
tokens_none boot (counter ∷ counters) = tokens_none boot counters

again_none : (message : Option NotificationMessage) → picked answer_in (repeated message) ≡ []
again_none None = refl
again_none (Some message) = refl

repeated_none : (number : ℕ) (found : Option SubState) → picked answer_in (repeated_of number found) ≡ []
repeated_none number None = refl
repeated_none number (Some sub) = again_none (message_of number sub.kept)

may_now : (leave : Leave) (answer : Answer) (move : Move) (c : Core) → MayMove leave move → IsWithin (answer ∷ []) (picked answer_in (facts_of move c)) → MayAnswer leave answer
may_now leave answer (Makes spec start) c may h = absurd (not_within answer [] refl h)
may_now leave answer (Does id doing) c may h = absurd (not_within answer _ (done_none id doing c.current (sub_at id c.subs)) h)
may_now leave answer (Enters change) c may h = absurd (not_within answer [] refl h)
may_now leave answer (Ends id) c may h = absurd (not_within answer [] refl h)
may_now leave answer (Asks call) c may h = absurd (not_within answer _ (tokens_none c.boot (given_by call c.sessions)) h)
may_now leave answer Issues c may h = absurd (not_within answer [] refl h)
may_now leave answer (Repeats id number) c may h = absurd (not_within answer _ (repeated_none number (sub_at id c.subs)) h)
may_now leave answer (Answers other) c may h = subst (MayAnswer leave) (one_is answer other h) may

may_all : (leave : Leave) (answer : Answer) (moves : List Move) (c : Core) → MayMoves leave moves
    → IsWithin (answer ∷ []) (picked answer_in (facts_of_all moves c)) → MayAnswer leave answer
may_all leave answer [] c may h = absurd (not_within answer [] refl h)
may_all leave answer (move ∷ moves) c may h =
    by_place (one_of answer (picked answer_in (facts_of move c)) (picked answer_in (facts_of_all moves (moved move c)))
    (subst (IsWithin (answer ∷ [])) (picked_join answer_in (facts_of move c) (facts_of_all moves (moved move c))) h))
    (may_all leave answer moves (moved move c) may.1)
  where
    by_place : IsWithin (answer ∷ []) (picked answer_in (facts_of move c)) ⊎ IsWithin (answer ∷ []) (picked answer_in (facts_of_all moves (moved move c)))
        → (IsWithin (answer ∷ []) (picked answer_in (facts_of_all moves (moved move c))) → MayAnswer leave answer) → MayAnswer leave answer
    by_place (inl now) rest = may_now leave answer move c may.0 now
    by_place (inr later) rest = rest later

pub answers_asked : (happening : Happening) (s : ServerState) (answer : Answer) → IsWithin (Answered answer ∷ []) (facts_said (after happening s).said)
    → MayAnswer (leave_of happening) answer
answers_asked happening s answer h =
    let step = after_comes happening s in
    may_all (leave_of happening) answer step.moves (core_of s) step.may
    (picked_within answer_in (Answered answer ∷ []) (facts_of_all step.moves (core_of s))
    (within_trans (Answered answer ∷ []) (facts_said (after happening s).said) (facts_of_all step.moves (core_of s)) h step.told))
