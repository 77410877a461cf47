-- Each change leaves a session with at most so many queued Publishes, and with none where it is unbound.
use Rattle.std.proofs.Common.{◌≡◌, ℕ, ◌<◌, ◌≤◌, List, [], ◌∷◌, ◌++◌, Bool, true, false, cond, nat_lt, Option, Some, None, length, drop, refl, ◌∙◌, ap, subst, arith, length-append, length-drop}
use Rattle.std.specs.List.{All, find}
use Rattle.std.specs.Prelude.{IsSome}
use Rattle.std.proofs.lemmas.Bool.Decides.{nat_tests}
use Rattle.std.proofs.lemmas.List.Elements.{All-head, All-tail, All-cons}
use Rattle.sessions.specs.declared.session.Parked.{Parked}
use Rattle.sessions.specs.declared.session.Session.{Session}
use Rattle.sessions.specs.Session.{activated, activated_on, is_bound_to, may_activate, new_session, requested, unbound, unbound_from, with_parked, without_oldest}
use Rattle.sessions.specs.Sound.{IsTidy}
use Rattle.sessions.specs.Table.{at_first, conn_of, without_first}

chosen : (b : Bool) (first second : Session) → IsTidy first → IsTidy second → IsTidy (cond b first second)
chosen true first second one other = one
chosen false first second one other = other

pub tidy_new : (counter conn : ℕ) (uri : Option (List ℕ)) (timeout now : ℕ) → IsTidy (new_session counter conn uri timeout now)
tidy_new counter conn uri timeout now = record { queued = omega arith; bound = λ none. refl }

pub tidy_requested : (conn now : ℕ) (session : Session) → IsTidy session → IsTidy (requested conn now session)
tidy_requested conn now session h =
    chosen (is_bound_to conn session) (record session { last = now }) session (record { queued = h.queued; bound = h.bound }) h

queued_test : (b : Bool) (queued : List Parked) → length queued ≤ 16 → length (cond b queued []) ≤ 16
queued_test true queued most = most
queued_test false queued most = omega arith

pub tidy_activated : (conn now : ℕ) (session : Session) → IsTidy session → IsTidy (activated conn now session)
tidy_activated conn now session h =
    chosen (may_activate conn session) (activated_on conn now session) session
    (record { queued = queued_test (is_bound_to conn session) session.queued h.queued; bound = λ none. absurd cc }) h

pub tidy_unbound : (conn : ℕ) (session : Session) → IsTidy session → IsTidy (unbound_from conn session)
tidy_unbound conn session h =
    chosen (is_bound_to conn session) (unbound session) session (record { queued = omega arith; bound = λ none. refl }) h

parked_test : (publish : Parked) (queued : List Parked) (b : Bool) → nat_lt (length queued) 16 ≡ b → length queued ≤ 16
    → length (cond b (queued ++ publish ∷ []) (drop 1 queued ++ publish ∷ [])) ≤ 16
parked_test publish queued true test most =
    let room : length queued < 16 = grind (arith, nat_tests) in
    let long = length-append queued (publish ∷ []) in
    omega arith
parked_test publish queued false test most =
    let left = length-drop 1 queued in
    let long = length-append (drop 1 queued) (publish ∷ []) in
    omega arith

is_bound : (conn : Option ℕ) → IsSome conn → conn ≡ None → ⊥
is_bound None some none = absurd cc
is_bound (Some conn) some none = absurd cc

pub tidy_parked : (publish : Parked) (session : Session) → IsSome session.conn → IsTidy session → IsTidy (with_parked publish session)
tidy_parked publish session some h = record {
  queued = parked_test publish session.queued _ refl h.queued;
  bound = λ none. absurd (is_bound session.conn some none);
}

pub tidy_unparked : (session : Session) → IsTidy session → IsTidy (without_oldest session)
tidy_unparked session h =
    let left = length-drop 1 session.queued in
    let most = h.queued in
    record { queued = omega arith; bound = λ none. ap (drop 1) (h.bound none) }

-- one session of a list changes
first_test : (change : Session → Session) (session : Session) (sessions changed : List Session) (b : Bool) → All IsTidy (session ∷ sessions)
    → (b ≡ true → IsTidy (change session)) → (b ≡ false → All IsTidy changed)
    → All IsTidy (cond b (change session ∷ sessions) (session ∷ changed))
first_test change session sessions changed true tidy first rest =
    All-cons IsTidy (change session) sessions (first refl) (All-tail IsTidy session sessions tidy)
first_test change session sessions changed false tidy first rest =
    All-cons IsTidy session changed (All-head IsTidy session sessions tidy) (rest refl)

pub tidy_first : (test : Session → Bool) (change : Session → Session) (sessions : List Session) → All IsTidy sessions
    → ((session : Session) → find test sessions ≡ Some session → IsTidy session → IsTidy (change session))
    → All IsTidy (at_first test change sessions)
tidy_first test change [] tidy keeps = tidy
tidy_first test change (session ∷ sessions) tidy keeps =
    first_test change session sessions (at_first test change sessions) (test session) tidy
    (λ passes. keeps session (ap (λ b. cond b (Some session) (find test sessions)) passes) (All-head IsTidy session sessions tidy))
    (λ fails. tidy_first test change sessions (All-tail IsTidy session sessions tidy)
    (λ other is. keeps other (ap (λ b. cond b (Some session) (find test sessions)) fails ∙ is)))

-- one session of a list leaves
left_test : (session : Session) (sessions left : List Session) (b : Bool) → All IsTidy (session ∷ sessions) → All IsTidy left
    → All IsTidy (cond b sessions (session ∷ left))
left_test session sessions left true tidy rest = All-tail IsTidy session sessions tidy
left_test session sessions left false tidy rest = All-cons IsTidy session left (All-head IsTidy session sessions tidy) rest

pub tidy_without : (test : Session → Bool) (sessions : List Session) → All IsTidy sessions → All IsTidy (without_first test sessions)
tidy_without test [] tidy = tidy
tidy_without test (session ∷ sessions) tidy =
    left_test session sessions (without_first test sessions) (test session) tidy
    (tidy_without test sessions (All-tail IsTidy session sessions tidy))

-- a session that is found bound is bound
pub bound_found : (found : Option Session) (session : Session) → IsSome (conn_of found) → found ≡ Some session → IsSome session.conn
bound_found found session some is = let P : Option Session → Type 0 = λ kept. IsSome (conn_of kept) in subst P is some
