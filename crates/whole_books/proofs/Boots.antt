-- The ids of a life's subscriptions are those of its boot number.
use Rattle.std.proofs.Common.{◌≡◌, ◌≤◌, ℕ, ◌+◌, ◌==◌, List, [], ◌∷◌, Bool, true, false, cond, map, Option, Some, None, refl, sym, ap, ◌∙◌, subst, arith, ◌⊎◌, inl, inr}
use Rattle.std.specs.Option.{option_map}
use Rattle.std.proofs.lemmas.Bool.Decides.{nat_tests}
use Rattle.set_model.specs.declared.source.Change.{Change}
use Rattle.ua_sub_msgs.specs.declared.notification.NotificationMessage.{NotificationMessage}
use Rattle.subscription.specs.declared.spec.SubSpec.{SubSpec}
use Rattle.subscription.specs.State.{SubState}
use Rattle.subscription.specs.Calls.{new_sub}
use Rattle.subscription.specs.History.{Feed, after}
use Rattle.subscription.specs.Sendings.{data_sent}
use Rattle.server_rules.specs.declared.config.ServerConfig.{ServerConfig}
use Rattle.server_rules.specs.State.{ServerState, new_server, sub_at, without_sub}
use Rattle.server_rules.specs.Step.{Happening}
use Rattle.server_laws.specs.Course.{IsCourse, core_of, life_of}
use Rattle.server_laws.specs.Facts.{IsWithin, facts_said}
use Rattle.server_laws.specs.Moves.{Answered, Answers, AreFair, Asks, Core, Does, Doing, Ends, Enters, Fact, IsFair, Issues, Makes, Move, Repeated, Repeats, Sent, Subscribed, Token, call_of, called, facts_of, facts_of_all, id_of, moved, moved_all, repeated, repeated_of, sent_as, sent_of}
use Rattle.server_laws.proofs.Finding.{called_here, called_there, fed_each, found_more, gone_here, gone_there, or_else}
use Rattle.server_laws.proofs.Within.{not_within, one_is, one_of, within_trans}
use Rattle.whole_books.specs.Whole.{AreOfBoot, IsOfBoot}

abbrev IsThere : Option SubState → Type 0
IsThere found = (sub : SubState) × (found ≡ Some sub)

-- each subscription that is there has an id of this boot number, and no more ids were given than it has
record AllOfBoot (boot : ℕ) (c : Core) : Type 0 where
  of : c.boot ≡ boot
  few : c.made ≤ 65535
  all : (id : ℕ) → IsThere (sub_at id c.subs) → IsOfBoot boot id

-- ---- what is there after a move was there before, or is new

was_there : (change : SubState → SubState) (found : Option SubState) → IsThere (option_map change found) → IsThere found
was_there change None there = let none : None ≡ Some there.0 = there.1 in absurd cc
was_there change (Some sub) there = (sub, refl)

called_was : (id other : ℕ) (doing : Doing) (c : Core) (b : Bool) → (other == id) ≡ b → IsThere (sub_at id (moved (Does other doing) c).subs)
    → IsThere (sub_at id c.subs)
called_was id other doing c true is there =
    let same : other ≡ id = grind (arith, nat_tests) in
    let call = call_of doing c.current (sub_at other c.subs) in
    was_there (after call) (sub_at id c.subs)
    (subst IsThere (ap (λ n. sub_at id (called n call c.subs)) same ∙ called_here id call c.subs) there)
called_was id other doing c false is there =
    subst IsThere (called_there id other (call_of doing c.current (sub_at other c.subs)) c.subs is) there

ended_was : (id other : ℕ) (c : Core) (b : Bool) → (other == id) ≡ b → IsThere (sub_at id (without_sub other c.subs)) → IsThere (sub_at id c.subs)
ended_was id other c true is there =
    let same : other ≡ id = grind (arith, nat_tests) in
    let gone : sub_at id (without_sub other c.subs) ≡ None = ap (λ n. sub_at id (without_sub n c.subs)) same ∙ gone_here id c.subs in
    let found : sub_at id (without_sub other c.subs) ≡ Some there.0 = there.1 in
    absurd cc
ended_was id other c false is there = subst IsThere (gone_there id other c.subs is) there

or_new : (id : ℕ) (new : SubState) (found : Option SubState) (b : Bool) → (new.spec.id == id) ≡ b
    → IsThere (or_else found (cond (new.spec.id == id) (Some new) None)) → IsThere found ⊎ (new.spec.id ≡ id)
or_new id new (Some sub) b is there = inl (sub, refl)
or_new id new None true is there = inr grind (arith, nat_tests)
or_new id new None false is there =
    let same : cond (new.spec.id == id) (Some new) None ≡ None = ap (λ t. cond t (Some new) None) is in
    let found : cond (new.spec.id == id) (Some new) None ≡ Some there.0 = there.1 in
    absurd cc

made_of_boot : (boot : ℕ) (spec : SubSpec) (start : ℕ) (c : Core) → IsFair (Makes spec start) c → AllOfBoot boot c
    → (id : ℕ) → IsThere (sub_at id c.subs) ⊎ (spec.id ≡ id) → IsOfBoot boot id
made_of_boot boot spec start c fair h id (inl there) = h.all id there
made_of_boot boot spec start c fair h id (inr is) =
    let new : spec.id ≡ id_of c.boot (c.made + 1) = fair.0 in
    let room = fair.1 in
    let own : c.boot ≡ boot = h.of in
    record { above = omega (arith, new, is, own); most = omega (arith, new, is, own, room) }

-- ---- moves

with_move : (boot : ℕ) (move : Move) (c : Core) → IsFair move c → AllOfBoot boot c → AllOfBoot boot (moved move c)
with_move boot (Makes spec start) c fair h =
    let room = fair.1 in
    record {
      of = h.of;
      few = omega (arith, room);
      all = λ id there. made_of_boot boot spec start c fair h id
          (or_new id (new_sub spec start) (sub_at id c.subs) (spec.id == id) refl (subst IsThere (found_more id c.subs (new_sub spec start)) there));
    }
with_move boot (Does other doing) c fair h =
    record { of = h.of; few = h.few; all = λ id there. h.all id (called_was id other doing c (other == id) refl there) }
with_move boot (Enters change) c fair h =
    record { of = h.of; few = h.few; all = λ id there. h.all id (was_there (after (Feed change)) (sub_at id c.subs) (subst IsThere (fed_each id change c.subs) there)) }
with_move boot (Ends other) c fair h =
    record { of = h.of; few = h.few; all = λ id there. h.all id (ended_was id other c (other == id) refl there) }
with_move boot (Asks call) c fair h = record { of = h.of; few = h.few; all = h.all }
with_move boot Issues c fair h = record { of = h.of; few = h.few; all = h.all }
with_move boot (Repeats id number) c fair h = h
with_move boot (Answers answer) c fair h = h

with_moves : (boot : ℕ) (moves : List Move) (c : Core) → AreFair moves c → AllOfBoot boot c → AllOfBoot boot (moved_all moves c)
with_moves boot [] c fair h = h
with_moves boot (move ∷ moves) c fair h = with_moves boot moves (moved move c) fair.1 (with_move boot move c fair.0 h)

-- ---- what they tell

sent_is : (id other : ℕ) (message : NotificationMessage) (sent : Option NotificationMessage) → IsWithin (Sent id message ∷ []) (sent_as other sent) → other ≡ id
sent_is id other message None h = absurd (not_within (Sent id message) [] refl h)
sent_is id other message (Some one) h =
    let is : Sent other one ≡ Sent id message = one_is (Sent id message) (Sent other one) h in
    cc

done_of_boot : (boot id other : ℕ) (message : NotificationMessage) (doing : Doing) (current : List Change) (found : Option SubState)
    → (IsThere found → IsOfBoot boot other) → IsWithin (Sent id message ∷ []) (sent_of other doing current found) → IsOfBoot boot id
done_of_boot boot id other message doing current None own h = absurd (not_within (Sent id message) [] refl h)
done_of_boot boot id other message doing current (Some sub) own h =
    subst (IsOfBoot boot) (sent_is id other message (data_sent (call_of doing current (Some sub)) sub) h) (own (sub, refl))

not_again : (id : ℕ) (message : NotificationMessage) (again : Option NotificationMessage) → IsWithin (Sent id message ∷ []) (repeated again) → ⊥
not_again id message None h = not_within (Sent id message) [] refl h
not_again id message (Some one) h =
    let is : Repeated one ≡ Sent id message = one_is (Sent id message) (Repeated one) h in
    absurd cc

not_repeated : (id number : ℕ) (message : NotificationMessage) (found : Option SubState)
    → IsWithin (Sent id message ∷ []) (repeated_of number found) → ⊥
not_repeated id number message None h = not_within (Sent id message) [] refl h
not_repeated id number message (Some sub) h = not_again id message _ h

not_token : (token : ℕ → List ℕ) (id : ℕ) (message : NotificationMessage) (counters : List ℕ)
    → IsWithin (Sent id message ∷ []) (map (λ counter. Token (token counter)) counters) → ⊥
not_token token id message [] h = not_within (Sent id message) [] refl h
not_token token id message (counter ∷ counters) (inl h) = not_token token id message counters h
not_token token id message (counter ∷ counters) (inr h) =
    let is : Sent id message ∷ [] ≡ Token (token counter) ∷ h.0 = h.1 in
    absurd cc

told_of_boot : (boot id : ℕ) (message : NotificationMessage) (move : Move) (c : Core) → AllOfBoot boot c
    → IsWithin (Sent id message ∷ []) (facts_of move c) → IsOfBoot boot id
told_of_boot boot id message (Makes spec start) c all h =
    let is : Subscribed spec.id ≡ Sent id message = one_is (Sent id message) (Subscribed spec.id) h in
    absurd cc
told_of_boot boot id message (Does other doing) c all h = done_of_boot boot id other message doing c.current (sub_at other c.subs) (all.all other) h
told_of_boot boot id message (Enters change) c all h = absurd (not_within (Sent id message) [] refl h)
told_of_boot boot id message (Ends other) c all h = absurd (not_within (Sent id message) [] refl h)
told_of_boot boot id message (Asks call) c all h = absurd (not_token _ id message _ h)
told_of_boot boot id message Issues c all h = absurd (not_within (Sent id message) [] refl h)
told_of_boot boot id message (Repeats other number) c all h = absurd (not_repeated id number message (sub_at other c.subs) h)
told_of_boot boot id message (Answers answer) c all h =
    let is : Answered answer ≡ Sent id message = one_is (Sent id message) (Answered answer) h in
    absurd cc

by_part : (boot id : ℕ) (message : NotificationMessage) (move : Move) (c : Core) (rest : List Fact) → AllOfBoot boot c
    → (IsWithin (Sent id message ∷ []) rest → IsOfBoot boot id)
    → IsWithin (Sent id message ∷ []) (facts_of move c) ⊎ IsWithin (Sent id message ∷ []) rest → IsOfBoot boot id
by_part boot id message move c rest all later (inl h) = told_of_boot boot id message move c all h
by_part boot id message move c rest all later (inr h) = later h

sent_of_boot : (boot id : ℕ) (message : NotificationMessage) (moves : List Move) (c : Core) → AreFair moves c → AllOfBoot boot c
    → IsWithin (Sent id message ∷ []) (facts_of_all moves c) → IsOfBoot boot id
sent_of_boot boot id message [] c fair all h = absurd (not_within (Sent id message) [] refl h)
sent_of_boot boot id message (move ∷ moves) c fair all h =
    by_part boot id message move c (facts_of_all moves (moved move c)) all
    (sent_of_boot boot id message moves (moved move c) fair.1 (with_move boot move c fair.0 all))
    (one_of (Sent id message) (facts_of move c) (facts_of_all moves (moved move c)) h)

-- ---- a life

at_first : (config : ServerConfig) (current : List Change) → AllOfBoot config.boot (core_of (new_server config current))
at_first config current = record {
  of = refl;
  few = omega arith;
  all = λ id there. let none : None ≡ Some there.0 = there.1 in absurd cc;
}

pub ids_of_boot : (config : ServerConfig) (current : List Change) (happenings : List Happening)
    → ((earlier : List Happening) → IsCourse earlier (new_server config current)) → AreOfBoot config.boot happenings (new_server config current)
ids_of_boot config current happenings courses =
    let s : ServerState = new_server config current in
    let course : IsCourse happenings s = courses happenings in
    record {
      sent = λ id number values was.
          sent_of_boot config.boot id was.message course.moves (core_of s) course.fair (at_first config current)
          (within_trans (Sent id was.message ∷ []) (facts_said (life_of happenings s).said) (facts_of_all course.moves (core_of s)) was.sent course.told);
      kept = λ later earlier id asked message are under.
          (subst (AllOfBoot config.boot) (sym (courses earlier).leads)
          (with_moves config.boot (courses earlier).moves (core_of s) (courses earlier).fair (at_first config current))).all id (under.0, under.1);
    }
