-- The loops over a session's queued Publishes.
use Rattle.std.proofs.Common.{◌≡◌, ℕ, ◌+◌, ◌<◌, List, ◌++◌, Option, Some, None, refl, sym, ◌∙◌, ap, arith, subst}
use Rattle.std.specs.Prelude.{IsNone, IsSome}
use Rattle.ua_channel.specs.declared.wire.Order.{Order}
use Rattle.server_rules.specs.declared.waiting.Waiting.{Waiting}
use Rattle.server_rules.specs.State.{ServerState}
use Rattle.server_rules.specs.Said.{Did, orders_of}
use Rattle.server_rules.specs.Answering.{faulted}
use Rattle.server_rules.specs.Moves.{answered_queued, oldest_waiting, queued, served, told, unqueued}
use Rattle.server_rules.specs.Publishing.{sent, sent_on}
use Rattle.server_subs.specs.Continuing.{Continues}
use Rattle.server_subs.specs.Leaving.{next_sending, next_served}
use Rattle.server_subs.proofs.Joining.{continues, ended}
use Rattle.server_subs.proofs.Keeping.{replied_sessions, sent_sessions, told_sessions}
use Rattle.server_subs.proofs.Queues.{answered_last, answered_next, fewer, same_queue, sent_last, sent_next, sent_oldest, served_last, served_next, served_oldest}

pub served_loop : (session : ℕ) (s mid after first : ServerState) (found : Option Waiting) (waiting : Waiting) (to more before : List (ℕ × Order))
    → found ≡ next_served session s → found ≡ Some waiting → (IsSome found → mid ≡ unqueued session s) → after ≡ (told waiting session mid).state
    → more ≡ to ++ orders_of (told waiting session mid).said → Continues (served session s) (served session first) to before
    → Continues (served session after) (served session first) more before
served_loop session s mid after first found waiting to more before is some takes stands said h =
    let next : next_served session s ≡ Some waiting = sym is ∙ some in
    let mid_is : mid ≡ unqueued session s = takes (subst (λ (f : Option Waiting). IsSome f) (sym some) refl) in
    let did_is : told waiting session mid ≡ told waiting session (unqueued session s) = ap (λ (x : ServerState). told waiting session x) mid_is in
    continues (served session) (told waiting session (unqueued session s)) (served session s) (served session first) after to more before
    (served_next session s waiting next) (stands ∙ ap (λ (d : Did). d.state) did_is) (said ∙ ap (λ (d : Did). to ++ orders_of d.said) did_is) h

pub served_less : (session : ℕ) (s mid after : ServerState) (found : Option Waiting) (waiting : Waiting)
    → found ≡ next_served session s → found ≡ Some waiting → (IsSome found → mid ≡ unqueued session s) → after ≡ (told waiting session mid).state
    → queued session after < queued session s
served_less session s mid after found waiting is some takes stands =
    let mid_is : mid ≡ unqueued session s = takes (subst (λ (f : Option Waiting). IsSome f) (sym some) refl) in
    let did : Did = told waiting session (unqueued session s) in
    let after_is : after ≡ did.state = stands ∙ ap (λ (x : ServerState). (told waiting session x).state) mid_is in
    let less : queued session s ≡ queued session (unqueued session s) + 1 = fewer session s waiting (served_oldest session s waiting (sym is ∙ some)) in
    let same : queued session did.state ≡ queued session (unqueued session s) = same_queue session (unqueued session s) did (told_sessions waiting session (unqueued session s)) in
    let same_after : queued session after ≡ queued session did.state = ap (queued session) after_is in
    omega arith

pub served_done : (session : ℕ) (s after first : ServerState) (found : Option Waiting) (to before : List (ℕ × Order))
    → found ≡ next_served session s → found ≡ None → (IsNone found → after ≡ s) → Continues (served session s) (served session first) to before
    → (after ≡ (served session first).state) × (to ≡ before ++ orders_of (served session first).said)
served_done session s after first found to before is none stays h =
    let same : after ≡ s = stays (subst (λ (f : Option Waiting). IsNone f) (sym none) refl) in
    let end = ended (served session s) (served session first) s to before (served_last session s (sym is ∙ none)) h in
    (same ∙ end.0, end.1)

pub answered_loop : (code session : ℕ) (s mid after first : ServerState) (found : Option Waiting) (waiting : Waiting) (to more before : List (ℕ × Order))
    → found ≡ oldest_waiting session s → found ≡ Some waiting → (IsSome found → mid ≡ unqueued session s) → after ≡ (faulted waiting.asker code mid).state
    → more ≡ to ++ orders_of (faulted waiting.asker code mid).said → Continues (answered_queued code session s) (answered_queued code session first) to before
    → Continues (answered_queued code session after) (answered_queued code session first) more before
answered_loop code session s mid after first found waiting to more before is some takes stands said h =
    let next : oldest_waiting session s ≡ Some waiting = sym is ∙ some in
    let mid_is : mid ≡ unqueued session s = takes (subst (λ (f : Option Waiting). IsSome f) (sym some) refl) in
    let did_is : faulted waiting.asker code mid ≡ faulted waiting.asker code (unqueued session s) = ap (λ (x : ServerState). faulted waiting.asker code x) mid_is in
    continues (answered_queued code session) (faulted waiting.asker code (unqueued session s)) (answered_queued code session s) (answered_queued code session first) after to more before
    (answered_next code session s waiting next) (stands ∙ ap (λ (d : Did). d.state) did_is) (said ∙ ap (λ (d : Did). to ++ orders_of d.said) did_is) h

pub answered_less : (code session : ℕ) (s mid after : ServerState) (found : Option Waiting) (waiting : Waiting)
    → found ≡ oldest_waiting session s → found ≡ Some waiting → (IsSome found → mid ≡ unqueued session s) → after ≡ (faulted waiting.asker code mid).state
    → queued session after < queued session s
answered_less code session s mid after found waiting is some takes stands =
    let mid_is : mid ≡ unqueued session s = takes (subst (λ (f : Option Waiting). IsSome f) (sym some) refl) in
    let did : Did = faulted waiting.asker code (unqueued session s) in
    let after_is : after ≡ did.state = stands ∙ ap (λ (x : ServerState). (faulted waiting.asker code x).state) mid_is in
    let less : queued session s ≡ queued session (unqueued session s) + 1 = fewer session s waiting (sym is ∙ some) in
    let same : queued session did.state ≡ queued session (unqueued session s) = same_queue session (unqueued session s) did (replied_sessions waiting.asker _ (unqueued session s)) in
    let same_after : queued session after ≡ queued session did.state = ap (queued session) after_is in
    omega arith

pub answered_done : (code session : ℕ) (s after first : ServerState) (found : Option Waiting) (to before : List (ℕ × Order))
    → found ≡ oldest_waiting session s → found ≡ None → (IsNone found → after ≡ s) → Continues (answered_queued code session s) (answered_queued code session first) to before
    → (after ≡ (answered_queued code session first).state) × (to ≡ before ++ orders_of (answered_queued code session first).said)
answered_done code session s after first found to before is none stays h =
    let same : after ≡ s = stays (subst (λ (f : Option Waiting). IsNone f) (sym none) refl) in
    let end = ended (answered_queued code session s) (answered_queued code session first) s to before (answered_last code session s (sym is ∙ none)) h in
    (same ∙ end.0, end.1)

pub sent_loop : (id session : ℕ) (s mid after first : ServerState) (found : Option Waiting) (waiting : Waiting) (to more before : List (ℕ × Order))
    → found ≡ next_sending id session s → found ≡ Some waiting → (IsSome found → mid ≡ unqueued session s) → after ≡ (sent waiting id mid).state
    → more ≡ to ++ orders_of (sent waiting id mid).said → Continues (sent_on id session s) (sent_on id session first) to before
    → Continues (sent_on id session after) (sent_on id session first) more before
sent_loop id session s mid after first found waiting to more before is some takes stands said h =
    let next : next_sending id session s ≡ Some waiting = sym is ∙ some in
    let mid_is : mid ≡ unqueued session s = takes (subst (λ (f : Option Waiting). IsSome f) (sym some) refl) in
    let did_is : sent waiting id mid ≡ sent waiting id (unqueued session s) = ap (λ (x : ServerState). sent waiting id x) mid_is in
    continues (sent_on id session) (sent waiting id (unqueued session s)) (sent_on id session s) (sent_on id session first) after to more before
    (sent_next id session s waiting next) (stands ∙ ap (λ (d : Did). d.state) did_is) (said ∙ ap (λ (d : Did). to ++ orders_of d.said) did_is) h

pub sent_less : (id session : ℕ) (s mid after : ServerState) (found : Option Waiting) (waiting : Waiting)
    → found ≡ next_sending id session s → found ≡ Some waiting → (IsSome found → mid ≡ unqueued session s) → after ≡ (sent waiting id mid).state
    → queued session after < queued session s
sent_less id session s mid after found waiting is some takes stands =
    let mid_is : mid ≡ unqueued session s = takes (subst (λ (f : Option Waiting). IsSome f) (sym some) refl) in
    let did : Did = sent waiting id (unqueued session s) in
    let after_is : after ≡ did.state = stands ∙ ap (λ (x : ServerState). (sent waiting id x).state) mid_is in
    let less : queued session s ≡ queued session (unqueued session s) + 1 = fewer session s waiting (sent_oldest id session s waiting (sym is ∙ some)) in
    let same : queued session did.state ≡ queued session (unqueued session s) = same_queue session (unqueued session s) did (sent_sessions waiting id (unqueued session s)) in
    let same_after : queued session after ≡ queued session did.state = ap (queued session) after_is in
    omega arith

pub sent_done : (id session : ℕ) (s after first : ServerState) (found : Option Waiting) (to before : List (ℕ × Order))
    → found ≡ next_sending id session s → found ≡ None → (IsNone found → after ≡ s) → Continues (sent_on id session s) (sent_on id session first) to before
    → (after ≡ (sent_on id session first).state) × (to ≡ before ++ orders_of (sent_on id session first).said)
sent_done id session s after first found to before is none stays h =
    let same : after ≡ s = stays (subst (λ (f : Option Waiting). IsNone f) (sym none) refl) in
    let end = ended (sent_on id session s) (sent_on id session first) s to before (sent_last id session s (sym is ∙ none)) h in
    (same ∙ end.0, end.1)
