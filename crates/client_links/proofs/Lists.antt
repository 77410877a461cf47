-- What acts and happenings come to, one list behind another.
use Rattle.std.proofs.Common.{◌≡◌, ℕ, ◌+◌, ◌==◌, List, [], ◌∷◌, ◌++◌, map, true, false, cond, refl, sym, ◌∙◌, ap, ap₂, arith}
use Rattle.std.proofs.lemmas.List.{append-nil, append_assoc}
use Rattle.ua_base.specs.declared.modes.Mode.{Mode}
use Rattle.link_rules.specs.declared.notice.Notice.{Notice}
use Rattle.link_rules.specs.Said.{Said}
use Rattle.link_rules.specs.State.{LinkState}
use Rattle.link_rules.specs.Step as alone
use Rattle.link_laws.specs.Asked.{NeverWants}
use Rattle.link_laws.specs.Counted.{ticks_in}
use Rattle.client_rules.specs.Acts.{ClientAct, Tells, Says}
use Rattle.client_links.specs.Awaited.{AllAwaited}
use Rattle.client_links.specs.Links.{Passing, Put, begun_by, passed_by, passed_in, passing_in, told_in, told_of}

-- ---- acts

pub told_append : (server : ℕ) (acts more : List ClientAct)
    → told_of server (acts ++ more) ≡ told_of server acts ++ told_of server more
told_append server [] more = refl
told_append server (act ∷ acts) more =
    ap (λ (l : List Notice). told_in server act ++ l) (told_append server acts more)
    ∙ sym (append_assoc (told_in server act) (told_of server acts) (told_of server more))

pub passed_append : (server : ℕ) (acts more : List ClientAct)
    → passed_in server (acts ++ more) ≡ passed_in server acts ++ passed_in server more
passed_append server [] more = refl
passed_append server (act ∷ acts) more =
    ap (λ (l : List Passing). passing_in server act ++ l) (passed_append server acts more)
    ∙ sym (append_assoc (passing_in server act) (passed_in server acts) (passed_in server more))

-- ---- what a link tells and says

tells_own : (s server : ℕ) (notices : List Notice) → (s == server) ≡ true → told_of server (map (Tells s) notices) ≡ notices
tells_own s server [] test = refl
tells_own s server (n ∷ notices) test =
    ap (λ b. cond b (n ∷ []) [] ++ told_of server (map (Tells s) notices)) test
    ∙ ap (λ (l : List Notice). n ∷ l) (tells_own s server notices test)

tells_other : (s server : ℕ) (notices : List Notice) → (s == server) ≡ false → told_of server (map (Tells s) notices) ≡ []
tells_other s server [] test = refl
tells_other s server (n ∷ notices) test =
    ap (λ b. cond b (n ∷ []) [] ++ told_of server (map (Tells s) notices)) test ∙ tells_other s server notices test

says_nothing : (s server : ℕ) (said : List Said) → told_of server (map (Says s) said) ≡ []
says_nothing s server [] = refl
says_nothing s server (one ∷ said) = says_nothing s server said

says_own : (s server : ℕ) (said : List Said) → (s == server) ≡ true → passed_in server (map (Says s) said) ≡ map Put said
says_own s server [] test = refl
says_own s server (one ∷ said) test =
    ap (λ b. cond b (Put one ∷ []) [] ++ passed_in server (map (Says s) said)) test
    ∙ ap (λ (l : List Passing). Put one ∷ l) (says_own s server said test)

says_other : (s server : ℕ) (said : List Said) → (s == server) ≡ false → passed_in server (map (Says s) said) ≡ []
says_other s server [] test = refl
says_other s server (one ∷ said) test =
    ap (λ b. cond b (Put one ∷ []) [] ++ passed_in server (map (Says s) said)) test ∙ says_other s server said test

tells_pass : (s server : ℕ) (notices : List Notice) → passed_in server (map (Tells s) notices) ≡ []
tells_pass s server [] = refl
tells_pass s server (n ∷ notices) = tells_pass s server notices

-- the acts of a link, of its own server and of another one

pub told_own : (s server : ℕ) (notices : List Notice) (said : List Said) → (s == server) ≡ true
    → told_of server (map (Tells s) notices ++ map (Says s) said) ≡ notices
told_own s server notices said test =
    told_append server (map (Tells s) notices) (map (Says s) said)
    ∙ ap₂ (λ (a b : List Notice). a ++ b) (tells_own s server notices test) (says_nothing s server said) ∙ append-nil notices

pub told_other : (s server : ℕ) (notices : List Notice) (said : List Said) → (s == server) ≡ false
    → told_of server (map (Tells s) notices ++ map (Says s) said) ≡ []
told_other s server notices said test =
    told_append server (map (Tells s) notices) (map (Says s) said)
    ∙ ap₂ (λ (a b : List Notice). a ++ b) (tells_other s server notices test) (says_nothing s server said)

pub passed_own : (s server : ℕ) (notices : List Notice) (said : List Said) → (s == server) ≡ true
    → passed_in server (map (Tells s) notices ++ map (Says s) said) ≡ map Put said
passed_own s server notices said test =
    passed_append server (map (Tells s) notices) (map (Says s) said)
    ∙ ap₂ (λ (a b : List Passing). a ++ b) (tells_pass s server notices) (says_own s server said test)

pub passed_other : (s server : ℕ) (notices : List Notice) (said : List Said) → (s == server) ≡ false
    → passed_in server (map (Tells s) notices ++ map (Says s) said) ≡ []
passed_other s server notices said test =
    passed_append server (map (Tells s) notices) (map (Says s) said)
    ∙ ap₂ (λ (a b : List Passing). a ++ b) (tells_pass s server notices) (says_other s server said test)

-- ---- happenings of a link

pub link_append : (first more : List alone.Happening) (l : LinkState)
    → (alone.after_all (first ++ more) l).link ≡ (alone.after_all more (alone.after_all first l).link).link
link_append [] more l = refl
link_append (h ∷ first) more l = link_append first more (alone.after h l).link

pub awaited_append : (first more : List alone.Happening) (l : LinkState) → AllAwaited first l
    → AllAwaited more (alone.after_all first l).link → AllAwaited (first ++ more) l
awaited_append [] more l one other = other
awaited_append (h ∷ first) more l one other = (one.0, awaited_append first more (alone.after h l).link one.1 other)

pub notices_append : (first more : List alone.Happening) (l : LinkState)
    → (alone.after_all (first ++ more) l).notices
    ≡ (alone.after_all first l).notices ++ (alone.after_all more (alone.after_all first l).link).notices
notices_append [] more l = refl
notices_append (h ∷ first) more l =
    let next : LinkState = (alone.after h l).link in
    ap (λ (ns : List Notice). (alone.after h l).notices ++ ns) (notices_append first more next)
    ∙ sym (append_assoc (alone.after h l).notices (alone.after_all first next).notices
    (alone.after_all more (alone.after_all first next).link).notices)

pub passed_by_append : (first more : List alone.Happening) (l : LinkState)
    → passed_by (first ++ more) l ≡ passed_by first l ++ passed_by more (alone.after_all first l).link
passed_by_append [] more l = refl
passed_by_append (h ∷ first) more l =
    let next : LinkState = (alone.after h l).link in
    ap (λ (ps : List Passing). begun_by h ++ map Put (alone.after h l).said ++ ps) (passed_by_append first more next)
    ∙ sym (append_assoc (begun_by h ++ map Put (alone.after h l).said) (passed_by first next)
    (passed_by more (alone.after_all first next).link))

pub never_append : (mode : Mode) (first more : List alone.Happening) → NeverWants mode first → NeverWants mode more
    → NeverWants mode (first ++ more)
never_append mode [] more none never = never
never_append mode (h ∷ first) more none never = (none.0, never_append mode first more none.1 never)

pub ticks_append : (first more : List alone.Happening) → ticks_in (first ++ more) ≡ ticks_in first + ticks_in more
ticks_append [] more = omega arith
ticks_append (h ∷ first) more =
    let rest : ticks_in (first ++ more) ≡ ticks_in first + ticks_in more = ticks_append first more in
    omega (arith, rest)
