-- The first session that passes a test, by its place.
use Rattle.std.proofs.Common.{◌≡◌, ℕ, suc, ◌<◌, ◌≤◌, List, [], ◌∷◌, ◌++◌, Bool, true, false, cond, nat_lt, Option, Some, None, length, refl, sym, ◌∙◌, ap, arith, get_or, set, subst}
use Rattle.std.specs.List.{position_or_len, position, find, remove}
use Rattle.std.proofs.lemmas.Bool.Decides.{nat_tests}
use Rattle.std.proofs.lemmas.List.{get_or_default}
use Rattle.std.proofs.lemmas.List.Edits.{remove-append_left}
use Rattle.sessions.specs.declared.session.Session.{Session}
use Rattle.sessions.specs.Session.{is_unbound}
use Rattle.sessions.specs.Table.{at_first, without_first, place_to_leave, with_room}

-- what a session at this place, which is the first to pass, says of its list
pub record IsFirst (test : Session → Bool) (sessions : List Session) (place : ℕ) (session : Session) : Type 0 where
  pub within : place < length sessions
  pub found : find test sessions ≡ Some session
  pub changes : (change : Session → Session) → at_first test change sessions ≡ set sessions place (change session)
  pub leaves : without_first test sessions ≡ remove sessions place

-- none passes
pub record IsNone (test : Session → Bool) (sessions : List Session) : Type 0 where
  pub found : find test sessions ≡ None
  pub changes : (change : Session → Session) → at_first test change sessions ≡ sessions
  pub leaves : without_first test sessions ≡ sessions

first_here : (test : Session → Bool) (first : Session) (sessions : List Session) → test first ≡ true → IsFirst test (first ∷ sessions) 0 first
first_here test first sessions passes = record {
  within = omega arith;
  found = rw passes refl;
  changes = λ change. rw passes refl;
  leaves = rw passes refl;
}

first_later : (test : Session → Bool) (first : Session) (sessions : List Session) (place : ℕ) (session : Session) → test first ≡ false
    → IsFirst test sessions place session → IsFirst test (first ∷ sessions) (suc place) session
first_later test first sessions place session fails h =
    let within : place < length sessions = h.within in
    record {
      within = omega arith;
      found = rw fails h.found;
      changes = λ change. rw fails (ap (λ more. first ∷ more) (h.changes change));
      leaves = rw fails (ap (λ more. first ∷ more) h.leaves);
    }

none_here : (test : Session → Bool) (first : Session) (sessions : List Session) → test first ≡ false → IsNone test sessions → IsNone test (first ∷ sessions)
none_here test first sessions fails h = record {
  found = rw fails h.found;
  changes = λ change. rw fails (ap (λ more. first ∷ more) (h.changes change));
  leaves = rw fails (ap (λ more. first ∷ more) h.leaves);
}

place_here : (test : Session → Bool) (first : Session) (sessions : List Session) → test first ≡ true → position_or_len test (first ∷ sessions) ≡ 0
place_here test first sessions passes = rw passes refl

place_later : (test : Session → Bool) (first : Session) (sessions : List Session) → test first ≡ false
    → position_or_len test (first ∷ sessions) ≡ suc (position_or_len test sessions)
place_later test first sessions fails = rw fails (omega arith)

first_test : (test : Session → Bool) (first : Session) (sessions : List Session) (place : ℕ) (session : Session) (passes : Bool) → test first ≡ passes
    → ((place : ℕ) → place ≡ position_or_len test sessions → place < length sessions → session ≡ get_or sessions place session → IsFirst test sessions place session)
    → place ≡ position_or_len test (first ∷ sessions) → place < length (first ∷ sessions)
    → session ≡ get_or (first ∷ sessions) place session → IsFirst test (first ∷ sessions) place session
first_test test first sessions place session true is rest at within reads =
    let here : place ≡ 0 = at ∙ place_here test first sessions is in
    let same : session ≡ first = reads ∙ ap (λ k. get_or (first ∷ sessions) k session) here in
    let P : Session → Type 0 = λ s. IsFirst test (first ∷ sessions) place s in
    let Q : ℕ → Type 0 = λ k. IsFirst test (first ∷ sessions) k first in
    subst P (sym same) (subst Q (sym here) (first_here test first sessions is))
first_test test first sessions place session false is rest at within reads =
    let later : place ≡ suc (position_or_len test sessions) = at ∙ place_later test first sessions is in
    let Q : ℕ → Type 0 = λ k. IsFirst test (first ∷ sessions) k session in
    subst Q (sym later)
    (first_later test first sessions (position_or_len test sessions) session is
    (rest (position_or_len test sessions) refl (omega arith) (reads ∙ ap (λ k. get_or (first ∷ sessions) k session) later)))

-- the session at the place where the test passes first
first_by : (test : Session → Bool) (sessions : List Session) (place : ℕ) (session : Session) → place ≡ position_or_len test sessions → place < length sessions
    → session ≡ get_or sessions place session → IsFirst test sessions place session
first_by test [] place session at within reads = absurd (omega arith)
first_by test (first ∷ sessions) place session at within reads =
    first_test test first sessions place session _ refl (λ k. first_by test sessions k session) at within reads

none_test : (test : Session → Bool) (first : Session) (sessions : List Session) (passes : Bool) → test first ≡ passes
    → (length sessions ≤ position_or_len test sessions → IsNone test sessions)
    → length (first ∷ sessions) ≤ position_or_len test (first ∷ sessions) → IsNone test (first ∷ sessions)
none_test test first sessions true is rest past =
    let here = place_here test first sessions is in
    absurd (omega arith)
none_test test first sessions false is rest past =
    let later = place_later test first sessions is in
    none_here test first sessions is (rest (omega arith))

-- no place where the test passes
none_by : (test : Session → Bool) (sessions : List Session) → length sessions ≤ position_or_len test sessions → IsNone test sessions
none_by test [] past = record { found = refl; changes = λ change. refl; leaves = refl }
none_by test (first ∷ sessions) past = none_test test first sessions _ refl (none_by test sessions) past

-- by what `position` gives
chosen : (place count : ℕ) (b : Bool) (at : ℕ) → nat_lt place count ≡ b → cond b (Some place) None ≡ Some at → (at ≡ place) × (place < count)
chosen place count true at is e = (cc, grind (arith, nat_tests))
chosen place count false at is e = absurd cc

missed : (place count : ℕ) (b : Bool) → nat_lt place count ≡ b → ◌≡◌ {A = Option ℕ} (cond b (Some place) None) None → count ≤ place
missed place count true is e = absurd cc
missed place count false is e = grind (arith, nat_tests)

-- the session at the place that `position` found in a list
pub first_of : (test : Session → Bool) (found : Option ℕ) (read sessions : List Session) (place : ℕ) (session : Session) → found ≡ position test read
    → read ≡ sessions → found ≡ Some place → session ≡ get_or sessions place session → IsFirst test sessions place session
first_of test found read sessions place session finds same is reads =
    let at : position test sessions ≡ Some place = ap (position test) (sym same) ∙ sym finds ∙ is in
    let chose = chosen (position_or_len test sessions) (length sessions) _ place refl at in
    first_by test sessions place session chose.0 (rw chose.0 chose.1) reads

-- where it found none
pub none_of : (test : Session → Bool) (found : Option ℕ) (read sessions : List Session) → found ≡ position test read → read ≡ sessions → found ≡ None
    → IsNone test sessions
none_of test found read sessions finds same is =
    let at : position test sessions ≡ None = ap (position test) (sym same) ∙ sym finds ∙ is in
    none_by test sessions (missed (position_or_len test sessions) (length sessions) _ refl at)

-- the one that leaves a list that is given one more
left_by : (sessions : List Session) (place : ℕ) (session : Session) (room : Bool) → nat_lt (length sessions) 16 ≡ room
    → cond room None (position is_unbound sessions) ≡ Some place
    → remove (sessions ++ session ∷ []) place ≡ cond room sessions (without_first is_unbound sessions) ++ session ∷ []
left_by sessions place session true test is = absurd cc
left_by sessions place session false test is =
    let chose = chosen (position_or_len is_unbound sessions) (length sessions) _ place refl is in
    let within : place < length sessions = rw chose.0 chose.1 in
    let h = first_by is_unbound sessions place (get_or sessions place session) chose.0 within (get_or_default sessions place session _ within) in
    remove-append_left sessions (session ∷ []) place within ∙ ap (λ left. left ++ session ∷ []) (sym h.leaves)

pub gives_room : (leaves : Option ℕ) (read sessions : List Session) (place : ℕ) (session : Session) → leaves ≡ place_to_leave read → read ≡ sessions
    → leaves ≡ Some place → remove (sessions ++ session ∷ []) place ≡ with_room sessions ++ session ∷ []
gives_room leaves read sessions place session finds same is =
    left_by sessions place session _ refl (ap place_to_leave (sym same) ∙ sym finds ∙ is)

-- none leaves
none_left : (sessions : List Session) (room : Bool) → cond room None (position is_unbound sessions) ≡ None
    → cond room sessions (without_first is_unbound sessions) ≡ sessions
none_left sessions true is = refl
none_left sessions false is = (none_by is_unbound sessions (missed (position_or_len is_unbound sessions) (length sessions) _ refl is)).leaves

pub has_room : (leaves : Option ℕ) (read sessions : List Session) → leaves ≡ place_to_leave read → read ≡ sessions → leaves ≡ None → with_room sessions ≡ sessions
has_room leaves read sessions finds same is = none_left sessions _ (ap place_to_leave (sym same) ∙ sym finds ∙ is)
