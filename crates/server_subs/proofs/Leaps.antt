-- Time that goes by with nothing due, at one leap.
use Rattle.std.proofs.Common.{◌≡◌, ℕ, zero, suc, ◌+◌, ◌-◌, ◌^◌, ◌<◌, ◌≤◌, ◌==◌, List, [], ◌∷◌, Bool, true, false, cond, Option, Some, None, min, map, nat_le, refl, sym, ◌∙◌, ap, ap₂, arith, drop, get_or, length}
use Rattle.std.specs.List.{All, filter}
use Rattle.std.specs.Prelude.{IfSome, ◌++◌}
use Rattle.std.proofs.lemmas.Bool.Decides.{nat_tests}
use Rattle.std.proofs.lemmas.List.Elements.{All-head, All-tail}
use Rattle.std.proofs.Math.Seq.{drop-cons}
use Rattle.sessions.specs.declared.ownership.Ownership.{Ownership}
use Rattle.sessions.specs.declared.session.Session.{Session}
use Rattle.sessions.specs.Session.{lasts_past}
use Rattle.sessions.specs.Sound.{IsOwned, IsSound}
use Rattle.sessions.specs.State.{SessionsState}
use Rattle.sessions.specs.Table.{due_of, expired, lives, owned_among, owner_among}
use Rattle.sessions.proofs.Moments.{before_due}
use Rattle.subscription.specs.State.{SubState}
use Rattle.server_rules.specs.State.{ServerState}
use Rattle.server_rules.specs.Said.{Did, and_then, nothing}
use Rattle.server_rules.specs.Timer.{has_come, ids_due, millisecond, moment, ticked}
use Rattle.server_subs.specs.Due.{advanced, due_or_last, next_age, next_due, subs_due}
use Rattle.server_subs.proofs.Keeping.{moment_age}

-- ---- nothing is due

none_test : (age : ℕ) (due : Option ℕ) (rest : ℕ) → age < min (due_or_last due) rest → (has_come age due ≡ false) × (age < rest)
none_test age None rest before = (refl, omega arith)
none_test age (Some due) rest before =
    let later : age < due = omega arith in
    (grind (arith, nat_tests), omega arith)

none_due : (age : ℕ) (subs : List SubState) → age < subs_due subs → filter (λ sub. has_come age sub.due) subs ≡ []
none_due age [] before = refl
none_due age (sub ∷ subs) before =
    let h = none_test age sub.due (subs_due subs) before in
    rw h.0 (none_due age subs h.1)

owner_same : (sessions : List Session) (owner : Option ℕ) → IfSome owner (λ one. lives one sessions ≡ true) → owner_among sessions owner ≡ owner
owner_same sessions None exists = refl
owner_same sessions (Some owner) exists = rw exists refl

owners_same : (sessions : List Session) (owned : List Ownership) → All (IsOwned sessions) owned → map (owned_among sessions) owned ≡ owned
owners_same sessions [] all = refl
owners_same sessions (ownership ∷ owned) all =
    let exists = owner_same sessions ownership.owner (All-head (IsOwned sessions) ownership owned all) in
    ap (λ (owner : Option ℕ). record ownership { owner = owner } ∷ map (owned_among sessions) owned) exists
    ∙ ap (λ more. ownership ∷ more) (owners_same sessions owned (All-tail (IsOwned sessions) ownership owned all))

expired_same : (now : ℕ) (state : SessionsState) → now < due_of state.sessions → IsSound state → expired now state ≡ state
expired_same now state before sound =
    let same : filter (lasts_past now) state.sessions ≡ state.sessions = before_due now state.sessions before in
    ap (λ (sessions : List Session). record state { sessions = sessions; owned = map (owned_among sessions) state.owned }) same
    ∙ ap (λ (owned : List Ownership). record state { owned = owned }) (owners_same state.sessions state.owned sound.owners)

quiet_moment : (s : ServerState) → s.age < next_due s → IsSound s.sessions → moment s ≡ nothing s
unfolding moment
quiet_moment s before sound =
    let ids : ids_due s ≡ [] = ap (map (λ (sub : SubState). sub.spec.id)) (none_due s.age s.subs (omega arith)) in
    rw (ids, expired_same s.age s.sessions (omega arith) sound) refl

not_last : (age : ℕ) → age < 2 ^ 64 - 1 → (age == 2 ^ 64 - 1) ≡ false
not_last age early = grind (arith, nat_tests)

-- the next subscription's cycle is taken in
pub due_more : (subs : List SubState) (place : ℕ) (sub : SubState) → place < length subs → sub ≡ get_or subs place sub
    → subs_due (drop place subs) ≡ min (due_or_last sub.due) (subs_due (drop (place + 1) subs))
due_more subs place sub within reads =
    let next : suc place ≡ place + 1 = omega arith in
    ap subs_due (drop-cons subs place sub within)
    ∙ ap₂ (λ (first : SubState) (n : ℕ). min (due_or_last first.due) (subs_due (drop n subs))) (sym reads) next

-- no cycle is known past the last age
pub last_due : (subs : List SubState) → subs_due subs ≤ 2 ^ 64 - 1
last_due [] = omega arith
last_due (sub ∷ subs) = let rest = last_due subs in omega arith

quiet_ms : (s : ServerState) → s.age + 1 < next_due s → IsSound s.sessions → millisecond s ≡ nothing (record s { age = s.age + 1 })
unfolding millisecond
quiet_ms s before sound =
    let most = last_due s.subs in
    let early : (s.age == 2 ^ 64 - 1) ≡ false = not_last s.age (omega arith) in
    rw early (quiet_moment (record s { age = s.age + 1 }) before sound)

quiet_one : (more : ℕ) (s : ServerState) → s.age + 1 < next_due s → IsSound s.sessions
    → ticked (suc more) s ≡ ticked more (record s { age = s.age + 1 })
unfolding ticked
quiet_one more s before sound = ap (and_then (ticked more)) (quiet_ms s before sound)

quiet : (count more : ℕ) (s : ServerState) → (0 < count → s.age + count < next_due s) → IsSound s.sessions
    → ticked (count + more) s ≡ ticked more (record s { age = s.age + count })
quiet zero more s before sound =
    let none : 0 + more ≡ more = omega arith in
    let same : s.age + 0 ≡ s.age = omega arith in
    ap (λ n. ticked n s) none ∙ ap (λ (age : ℕ). ticked more (record s { age = age })) (sym same)
quiet (suc count) more s before sound =
    let due : s.age + suc count < next_due s = before (omega arith) in
    let one : s.age + 1 < next_due s = omega arith in
    let later : 0 < count → s.age + 1 + count < next_due s = λ h. omega arith in
    let same : s.age + 1 + count ≡ s.age + suc count = omega arith in
    let all : suc count + more ≡ suc (count + more) = omega arith in
    ap (λ n. ticked n s) all ∙ quiet_one (count + more) s one sound ∙ quiet count more (record s { age = s.age + 1 }) later sound
    ∙ ap (λ (age : ℕ). ticked more (record s { age = age })) same

-- ---- the next age

due_one : (more : ℕ) (s : ServerState) → s.age + 1 < 2 ^ 64 → ticked (suc more) s ≡ and_then (ticked more) (moment (record s { age = s.age + 1 }))
unfolding ticked millisecond
due_one more s last =
    let early : (s.age == 2 ^ 64 - 1) ≡ false = not_last s.age (omega arith) in
    rw early refl

-- another rule that comes to the same
same_rest : (rule other : ServerState → Did) (did : Did) → rule did.state ≡ other did.state → and_then rule did ≡ and_then other did
same_rest rule other did is = ap (λ (rest : Did). record { state = rest.state; said = did.said ++ rest.said }) is

-- something is due at an age up to the end
due_leap : (end age : ℕ) (s : ServerState) → s.age < age → age ≤ end → end < 2 ^ 64 → (s.age + 1 < age → age ≤ next_due s) → IsSound s.sessions
    → ticked (end - s.age) s ≡ and_then (λ after. ticked (end - after.age) after) (moment (record s { age = age }))
due_leap end age s later early last before sound =
    let count : ℕ = age - 1 - s.age in
    let more : ℕ = end - age in
    let all : end - s.age ≡ count + suc more = omega arith in
    let quietly : 0 < count → s.age + count < next_due s = λ h. let far : s.age + 1 < age = omega arith in let due : age ≤ next_due s = before far in omega arith in
    let now : s.age + count + 1 ≡ age = omega arith in
    let within : s.age + count + 1 < 2 ^ 64 = omega arith in
    let at : (moment (record s { age = age })).state.age ≡ age = moment_age (record s { age = age }) in
    ap (λ n. ticked n s) all ∙ quiet count (suc more) s quietly sound ∙ due_one more (record s { age = s.age + count }) within
    ∙ ap (λ (n : ℕ). and_then (ticked more) (moment (record s { age = n }))) now
    ∙ same_rest (ticked more) (λ after. ticked (end - after.age) after) (moment (record s { age = age }))
    (ap (λ n. ticked (end - n) (moment (record s { age = age })).state) (sym at))

-- nothing is
quiet_leap : (end : ℕ) (s : ServerState) → s.age < end → end < next_due s → IsSound s.sessions
    → ticked (end - s.age) s ≡ and_then (λ after. ticked (end - after.age) after) (nothing (record s { age = end }))
quiet_leap end s early before sound =
    let count : ℕ = end - s.age in
    let all : end - s.age ≡ count + 0 = omega arith in
    let at : s.age + count ≡ end = omega arith in
    let none : end - end ≡ 0 = omega arith in
    let quietly : 0 < count → s.age + count < next_due s = λ h. omega arith in
    ap (λ n. ticked n s) all ∙ quiet count 0 s quietly sound ∙ ap (λ (n : ℕ). ticked 0 (record s { age = n })) at
    ∙ ap (λ n. ticked n (record s { age = end })) (sym none)

by_test : (end : ℕ) (s : ServerState) (b : Bool) → nat_le (next_age s) end ≡ b → s.age < end → end < 2 ^ 64 → IsSound s.sessions
    → ticked (end - s.age) s ≡ and_then (λ after. ticked (end - after.age) after)
    (cond b (moment (record s { age = next_age s })) (nothing (record s { age = end })))
by_test end s true is early last sound =
    let reached : next_age s ≤ end = grind (arith, nat_tests) in
    due_leap end (next_age s) s (omega arith) reached last (λ far. omega arith) sound
by_test end s false is early last sound =
    let missed : end < next_age s = grind (arith, nat_tests) in
    quiet_leap end s early (omega arith) sound

pub leaps : (end : ℕ) (s : ServerState) → s.age < end → end < 2 ^ 64 → IsSound s.sessions
    → ticked (end - s.age) s ≡ and_then (λ after. ticked (end - after.age) after) (advanced end s)
leaps end s early last sound = by_test end s _ refl early last sound

-- where it comes to
age_test : (end : ℕ) (s : ServerState) (b : Bool) → nat_le (next_age s) end ≡ b → s.age < end
    → (s.age < (cond b (moment (record s { age = next_age s })) (nothing (record s { age = end }))).state.age)
    × ((cond b (moment (record s { age = next_age s })) (nothing (record s { age = end }))).state.age ≤ end)
age_test end s true is early =
    let reached : next_age s ≤ end = grind (arith, nat_tests) in
    let at : (moment (record s { age = next_age s })).state.age ≡ next_age s = moment_age (record s { age = next_age s }) in
    (omega arith, omega arith)
age_test end s false is early = (early, omega arith)

pub ages : (end : ℕ) (s : ServerState) → s.age < end → (s.age < (advanced end s).state.age) × ((advanced end s).state.age ≤ end)
ages end s early = age_test end s _ refl early
