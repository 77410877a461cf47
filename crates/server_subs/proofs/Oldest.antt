-- The oldest notice of a session, by its place.
use Rattle.std.proofs.Common.{◌≡◌, ℕ, suc, ◌<◌, ◌≤◌, List, [], ◌∷◌, ◌++◌, Bool, true, false, cond, nat_lt, Option, Some, None, length, refl, sym, ◌∙◌, ap, arith, get_or, subst}
use Rattle.std.specs.List.{list_any, position_or_len, position, remove}
use Rattle.std.specs.Prelude.{is_some}
use Rattle.std.proofs.lemmas.Bool.Decides.{nat_tests}
use Rattle.std.proofs.lemmas.List.{get_or_default}
use Rattle.std.proofs.lemmas.List.Edits.{remove-append_left}
use Rattle.server_rules.specs.State.{NoticeState}
use Rattle.server_rules.specs.Moves.{is_told, notices_of, oldest_notice, with_room, without_oldest_notice}
use Rattle.server_subs.specs.Leaving.{place_to_leave}

pub record IsOldest (session : ℕ) (notices : List NoticeState) (place : ℕ) (notice : NoticeState) : Type 0 where
  pub within : place < length notices
  pub found : oldest_notice session notices ≡ Some notice
  pub leaves : without_oldest_notice session notices ≡ remove notices place

pub record HasNone (session : ℕ) (notices : List NoticeState) : Type 0 where
  pub found : oldest_notice session notices ≡ None
  pub leaves : without_oldest_notice session notices ≡ notices

here : (session : ℕ) (first : NoticeState) (notices : List NoticeState) → is_told session first ≡ true → IsOldest session (first ∷ notices) 0 first
here session first notices passes = record { within = omega arith; found = rw passes refl; leaves = rw passes refl }

later : (session : ℕ) (first : NoticeState) (notices : List NoticeState) (place : ℕ) (notice : NoticeState) → is_told session first ≡ false
    → IsOldest session notices place notice → IsOldest session (first ∷ notices) (suc place) notice
later session first notices place notice fails h =
    let within : place < length notices = h.within in
    record { within = omega arith; found = rw fails h.found; leaves = rw fails (ap (λ more. first ∷ more) h.leaves) }

none_here : (session : ℕ) (first : NoticeState) (notices : List NoticeState) → is_told session first ≡ false → HasNone session notices
    → HasNone session (first ∷ notices)
none_here session first notices fails h = record { found = rw fails h.found; leaves = rw fails (ap (λ more. first ∷ more) h.leaves) }

place_here : (session : ℕ) (first : NoticeState) (notices : List NoticeState) → is_told session first ≡ true
    → position_or_len (is_told session) (first ∷ notices) ≡ 0
place_here session first notices passes = rw passes refl

place_later : (session : ℕ) (first : NoticeState) (notices : List NoticeState) → is_told session first ≡ false
    → position_or_len (is_told session) (first ∷ notices) ≡ suc (position_or_len (is_told session) notices)
place_later session first notices fails = rw fails (omega arith)

first_test : (session : ℕ) (first : NoticeState) (notices : List NoticeState) (place : ℕ) (notice : NoticeState) (passes : Bool) → is_told session first ≡ passes
    → ((place : ℕ) → place ≡ position_or_len (is_told session) notices → place < length notices → notice ≡ get_or notices place notice → IsOldest session notices place notice)
    → place ≡ position_or_len (is_told session) (first ∷ notices) → place < length (first ∷ notices)
    → notice ≡ get_or (first ∷ notices) place notice → IsOldest session (first ∷ notices) place notice
first_test session first notices place notice true is rest at within reads =
    let zero_is : place ≡ 0 = at ∙ place_here session first notices is in
    let same : notice ≡ first = reads ∙ ap (λ k. get_or (first ∷ notices) k notice) zero_is in
    let P : NoticeState → Type 0 = λ n. IsOldest session (first ∷ notices) place n in
    let Q : ℕ → Type 0 = λ k. IsOldest session (first ∷ notices) k first in
    subst P (sym same) (subst Q (sym zero_is) (here session first notices is))
first_test session first notices place notice false is rest at within reads =
    let more : place ≡ suc (position_or_len (is_told session) notices) = at ∙ place_later session first notices is in
    let Q : ℕ → Type 0 = λ k. IsOldest session (first ∷ notices) k notice in
    subst Q (sym more)
    (later session first notices (position_or_len (is_told session) notices) notice is
    (rest (position_or_len (is_told session) notices) refl (omega arith) (reads ∙ ap (λ k. get_or (first ∷ notices) k notice) more)))

first_by : (session : ℕ) (notices : List NoticeState) (place : ℕ) (notice : NoticeState) → place ≡ position_or_len (is_told session) notices
    → place < length notices → notice ≡ get_or notices place notice → IsOldest session notices place notice
first_by session [] place notice at within reads = absurd (omega arith)
first_by session (first ∷ notices) place notice at within reads =
    first_test session first notices place notice _ refl (λ k. first_by session notices k notice) at within reads

none_test : (session : ℕ) (first : NoticeState) (notices : List NoticeState) (passes : Bool) → is_told session first ≡ passes
    → (length notices ≤ position_or_len (is_told session) notices → HasNone session notices)
    → length (first ∷ notices) ≤ position_or_len (is_told session) (first ∷ notices) → HasNone session (first ∷ notices)
none_test session first notices true is rest past =
    let at = place_here session first notices is in
    absurd (omega arith)
none_test session first notices false is rest past =
    let more = place_later session first notices is in
    none_here session first notices is (rest (omega arith))

none_by : (session : ℕ) (notices : List NoticeState) → length notices ≤ position_or_len (is_told session) notices → HasNone session notices
none_by session [] past = record { found = refl; leaves = refl }
none_by session (first ∷ notices) past = none_test session first notices _ refl (none_by session notices) past

chosen : (place count : ℕ) (b : Bool) (at : ℕ) → nat_lt place count ≡ b → cond b (Some place) None ≡ Some at → (at ≡ place) × (place < count)
chosen place count true at is e = (cc, grind (arith, nat_tests))
chosen place count false at is e = absurd cc

missed : (place count : ℕ) (b : Bool) → nat_lt place count ≡ b → ◌≡◌ {A = Option ℕ} (cond b (Some place) None) None → count ≤ place
missed place count true is e = absurd cc
missed place count false is e = grind (arith, nat_tests)

-- the notice at the place that `position` found in a list
pub oldest_at : (session : ℕ) (found : Option ℕ) (read notices : List NoticeState) (place : ℕ) (notice : NoticeState)
    → found ≡ position (is_told session) read → read ≡ notices → found ≡ Some place → notice ≡ get_or notices place notice
    → IsOldest session notices place notice
oldest_at session found read notices place notice finds same is reads =
    let at : position (is_told session) notices ≡ Some place = ap (position (is_told session)) (sym same) ∙ sym finds ∙ is in
    let chose = chosen (position_or_len (is_told session) notices) (length notices) _ place refl at in
    first_by session notices place notice chose.0 (rw chose.0 chose.1) reads

pub none_at : (session : ℕ) (found : Option ℕ) (read notices : List NoticeState) → found ≡ position (is_told session) read → read ≡ notices
    → found ≡ None → HasNone session notices
none_at session found read notices finds same is =
    let at : position (is_told session) notices ≡ None = ap (position (is_told session)) (sym same) ∙ sym finds ∙ is in
    none_by session notices (missed (position_or_len (is_told session) notices) (length notices) _ refl at)

-- the one that leaves a list that is given one more
left_by : (session : ℕ) (notices : List NoticeState) (place : ℕ) (notice : NoticeState) (room : Bool)
    → nat_lt (length (notices_of session notices)) 64 ≡ room → cond room None (position (is_told session) notices) ≡ Some place
    → remove (notices ++ notice ∷ []) place ≡ cond room notices (without_oldest_notice session notices) ++ notice ∷ []
left_by session notices place notice true test is = absurd cc
left_by session notices place notice false test is =
    let chose = chosen (position_or_len (is_told session) notices) (length notices) _ place refl is in
    let within : place < length notices = rw chose.0 chose.1 in
    let h = first_by session notices place (get_or notices place notice) chose.0 within (get_or_default notices place notice _ within) in
    remove-append_left notices (notice ∷ []) place within ∙ ap (λ left. left ++ notice ∷ []) (sym h.leaves)

pub gives_room : (session number : ℕ) (leaves : Option ℕ) (read notices : List NoticeState) (place : ℕ) (notice : NoticeState)
    → leaves ≡ place_to_leave number read → read ≡ notices → leaves ≡ Some place → number ≡ session
    → remove (notices ++ notice ∷ []) place ≡ with_room session notices ++ notice ∷ []
gives_room session number leaves read notices place notice finds same is named =
    left_by session notices place notice _ refl
    (ap (place_to_leave session) (sym same) ∙ ap (λ n. place_to_leave n read) (sym named) ∙ sym finds ∙ is)

none_left : (session : ℕ) (notices : List NoticeState) (room : Bool) → cond room None (position (is_told session) notices) ≡ None
    → cond room notices (without_oldest_notice session notices) ≡ notices
none_left session notices true is = refl
none_left session notices false is =
    (none_by session notices (missed (position_or_len (is_told session) notices) (length notices) _ refl is)).leaves

pub has_room : (session number : ℕ) (leaves : Option ℕ) (read notices : List NoticeState) → leaves ≡ place_to_leave number read
    → read ≡ notices → leaves ≡ None → number ≡ session → with_room session notices ≡ notices
has_room session number leaves read notices finds same is named =
    none_left session notices _ (ap (place_to_leave session) (sym same) ∙ ap (λ n. place_to_leave n read) (sym named) ∙ sym finds ∙ is)

-- a session has a notice where one of them is its own
has_test : (session : ℕ) (first : NoticeState) (notices : List NoticeState) (b : Bool) → is_told session first ≡ b
    → is_some (oldest_notice session notices) ≡ list_any (is_told session) notices
    → is_some (oldest_notice session (first ∷ notices)) ≡ list_any (is_told session) (first ∷ notices)
has_test session first notices true is rest = rw is refl
has_test session first notices false is rest = rw is rest

pub has_by : (session : ℕ) (notices : List NoticeState) → is_some (oldest_notice session notices) ≡ list_any (is_told session) notices
has_by session [] = refl
has_by session (first ∷ notices) = has_test session first notices _ refl (has_by session notices)
