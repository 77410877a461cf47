-- The earliest moment at which a session expires.
use Rattle.std.proofs.Common.{◌≡◌, ℕ, suc, ◌+◌, ◌-◌, ◌<◌, ◌≤◌, ◌^◌, List, [], ◌∷◌, Bool, true, false, cond, nat_lt, length, drop, min, refl, sym, ◌∙◌, ap, ap₂, arith, get_or}
use Rattle.std.specs.List.{filter}
use Rattle.std.proofs.lemmas.Bool.Decides.{nat_tests}
use Rattle.std.proofs.Math.Seq.{drop-cons}
use Rattle.sessions.specs.declared.session.Session.{Session}
use Rattle.sessions.specs.Session.{lasts_past, moment}
use Rattle.sessions.specs.Table.{due_of}

-- no moment is known past the last age
pub due_most : (sessions : List Session) → due_of sessions ≤ 2 ^ 64 - 1
due_most [] = omega arith
due_most (session ∷ sessions) = let most = due_most sessions in omega arith

-- the next session's moment is taken in
pub due_more : (sessions : List Session) (place : ℕ) (session : Session) → place < length sessions → session ≡ get_or sessions place session
    → due_of (drop place sessions) ≡ min (moment session) (due_of (drop (place + 1) sessions))
due_more sessions place session within reads =
    let next : suc place ≡ place + 1 = omega arith in
    ap due_of (drop-cons sessions place session within)
    ∙ ap₂ (λ first n. min (moment first) (due_of (drop n sessions))) (sym reads) next

-- what is kept is no longer than what was there
pub length_kept : (p : Session → Bool) (sessions : List Session) → length (filter p sessions) ≤ length sessions
length_kept p [] = omega arith
length_kept p (session ∷ sessions) = by_test (p session) (length_kept p sessions)
  where
    by_test : (b : Bool) → length (filter p sessions) ≤ length sessions → length (cond b (session ∷ filter p sessions) (filter p sessions)) ≤ suc (length sessions)
    by_test true h = omega arith
    by_test false h = omega arith

-- before the earliest moment none goes
kept_before : (now : ℕ) (session : Session) (sessions : List Session) (b : Bool) → nat_lt now (moment session) ≡ b → now < moment session
    → filter (lasts_past now) sessions ≡ sessions → cond b (session ∷ filter (lasts_past now) sessions) (filter (lasts_past now) sessions) ≡ session ∷ sessions
kept_before now session sessions true test later rest = ap (λ more. session ∷ more) rest
kept_before now session sessions false test later rest = absurd (let not_later : moment session ≤ now = grind (arith, nat_tests) in omega arith)

pub before_due : (now : ℕ) (sessions : List Session) → now < due_of sessions → filter (lasts_past now) sessions ≡ sessions
before_due now [] h = refl
before_due now (session ∷ sessions) h =
    kept_before now session sessions _ refl (omega arith) (before_due now sessions (omega arith))

-- at the earliest moment one goes
gone_when : (now : ℕ) (session : Session) (sessions : List Session) (b : Bool) → nat_lt now (moment session) ≡ b
    → due_of (session ∷ sessions) ≤ now → (due_of sessions ≤ now → length (filter (lasts_past now) sessions) < length sessions)
    → length (cond b (session ∷ filter (lasts_past now) sessions) (filter (lasts_past now) sessions)) < suc (length sessions)
gone_when now session sessions true test due rest =
    let later : now < moment session = grind (arith, nat_tests) in
    let fewer : length (filter (lasts_past now) sessions) < length sessions = rest (omega arith) in
    omega arith
gone_when now session sessions false test due rest =
    let most = length_kept (lasts_past now) sessions in
    omega arith

pub when_due : (now : ℕ) (sessions : List Session) → due_of sessions ≤ now → now < 2 ^ 64 - 1 → length (filter (lasts_past now) sessions) < length sessions
when_due now [] due within = absurd (omega arith)
when_due now (session ∷ sessions) due within = gone_when now session sessions _ refl due (λ rest. when_due now sessions rest within)

-- what is left is due later
left_after : (now : ℕ) (session : Session) (sessions : List Session) (b : Bool) → nat_lt now (moment session) ≡ b
    → now < due_of (filter (lasts_past now) sessions)
    → now < due_of (cond b (session ∷ filter (lasts_past now) sessions) (filter (lasts_past now) sessions))
left_after now session sessions true test rest = let later : now < moment session = grind (arith, nat_tests) in omega arith
left_after now session sessions false test rest = rest

pub after_due : (now : ℕ) (sessions : List Session) → now < 2 ^ 64 - 1 → now < due_of (filter (lasts_past now) sessions)
after_due now [] within = omega arith
after_due now (session ∷ sessions) within = left_after now session sessions _ refl (after_due now sessions within)
