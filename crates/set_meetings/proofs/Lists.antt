-- What acts tell of the connections to a server, one list behind another.
use Rattle.std.proofs.Common.{◌≡◌, ℕ, ◌==◌, List, [], ◌∷◌, ◌++◌, map, true, false, cond, refl, sym, ◌∙◌, ap, ap₂}
use Rattle.std.proofs.lemmas.List.{append_assoc}
use Rattle.link_rules.specs.declared.notice.Notice.{Notice}
use Rattle.link_rules.specs.Said.{Said}
use Rattle.client_rules.specs.Acts.{ClientAct, Tells, Says}
use Rattle.client_links.specs.Links.{Passing, Put, passed_in, passing_in}

pub passed_append : (server : ℕ) (acts more : List ClientAct)
    → passed_in server (acts ++ more) ≡ passed_in server acts ++ passed_in server more
passed_append server [] more = refl
passed_append server (act ∷ acts) more =
    ap (λ (l : List Passing). passing_in server act ++ l) (passed_append server acts more)
    ∙ sym (append_assoc (passing_in server act) (passed_in server acts) (passed_in server more))

tells_pass : (s server : ℕ) (notices : List Notice) → passed_in server (map (Tells s) notices) ≡ []
tells_pass s server [] = refl
tells_pass s server (n ∷ notices) = tells_pass s server notices

says_own : (s server : ℕ) (said : List Said) → (s == server) ≡ true → passed_in server (map (Says s) said) ≡ map Put said
says_own s server [] test = refl
says_own s server (one ∷ said) test =
    ap (λ b. cond b (Put one ∷ []) [] ++ passed_in server (map (Says s) said)) test
    ∙ ap (λ (l : List Passing). Put one ∷ l) (says_own s server said test)

says_other : (s server : ℕ) (said : List Said) → (s == server) ≡ false → passed_in server (map (Says s) said) ≡ []
says_other s server [] test = refl
says_other s server (one ∷ said) test =
    ap (λ b. cond b (Put one ∷ []) [] ++ passed_in server (map (Says s) said)) test ∙ says_other s server said test

-- the acts of a link, of its own server and of another one

pub passed_own : (s server : ℕ) (notices : List Notice) (said : List Said) → (s == server) ≡ true
    → passed_in server (map (Tells s) notices ++ map (Says s) said) ≡ map Put said
passed_own s server notices said test =
    passed_append server (map (Tells s) notices) (map (Says s) said)
    ∙ ap₂ (λ (a b : List Passing). a ++ b) (tells_pass s server notices) (says_own s server said test)

pub passed_other : (s server : ℕ) (notices : List Notice) (said : List Said) → (s == server) ≡ false
    → passed_in server (map (Tells s) notices ++ map (Says s) said) ≡ []
passed_other s server notices said test =
    passed_append server (map (Tells s) notices) (map (Says s) said)
    ∙ ap₂ (λ (a b : List Passing). a ++ b) (tells_pass s server notices) (says_other s server said test)
