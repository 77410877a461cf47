-- What is given for a number, by the calls so far.
use Rattle.std.proofs.Common.{◌≡◌, ℕ, zero, suc, ◌+◌, ◌-◌, ◌≤◌, ◌<◌, max, List, [], ◌∷◌, ◌++◌, Bool, true, false, not, ◌&&◌, ◌==◌, nat_lt, length, take, drop, filter, Option, Some, None, refl, sym, ◌∙◌, ap, ap₂, subst, arith, cond}
use Rattle.std.specs.Prelude.{reverse, if◌then◌else◌}
use Rattle.std.proofs.lemmas.List.{reverse-append, drop-append-le, length_push, length-reverse}
use Rattle.std.proofs.lemmas.Bool.Decides.{nat_tests}
use Rattle.retransmit.specs.declared.retransmission.Sent.{Sent}
use Rattle.retransmit.specs.Kept.{without, message_of, with_sent}
use Rattle.retransmit.specs.History.{Call, Send, Acknowledge, others, kept_after, last_sent, acknowledged, waiting_since, most_waiting, available, sendings_since}
use Rattle.retransmit.proofs.Newest.{newest, kept-newest, filter-reverse}

-- the numbers that stand before this one
abbrev pub before : {M : Type 0} → ℕ → List (Sent M) → List ℕ
before number [] = []
before number (sent ∷ kept) = if sent.number == number then [] else sent.number ∷ before number kept

-- each number is there once
pub record Once {M : Type 0} (sent : Sent M) (kept : List (Sent M)) : Type 0 where
  pub here : message_of sent.number kept ≡ None

abbrev pub AreOnce : {M : Type 0} → List (Sent M) → Type 0
AreOnce [] = Unit {0}
AreOnce (sent ∷ kept) = Once sent kept × AreOnce kept

-- without the number itself nothing is given for it
gone_by : {M : Type 0} (b : Bool) (number : ℕ) (sent : Sent M) (kept : List (Sent M)) → (sent.number == number) ≡ b
    → message_of number (without number kept) ≡ None → message_of number (without number (sent ∷ kept)) ≡ None
gone_by true number sent kept is h = rw is h
gone_by false number sent kept is h = rw (is, is) h

pub gone : {M : Type 0} (number : ℕ) (kept : List (Sent M)) → message_of number (without number kept) ≡ None
gone number [] = refl
gone number (sent ∷ kept) = gone_by _ number sent kept refl (gone number kept)

-- two numbers, one of them taken out
pub record Apart {M : Type 0} (number other : ℕ) (kept : List (Sent M)) : Type 0 where
  pub given : message_of number (without other kept) ≡ message_of number kept
  pub before_it : before number (without other kept) ≡ others other (before number kept)

apart_by : {M : Type 0} (out here : Bool) (number other : ℕ) (sent : Sent M) (kept : List (Sent M)) → (sent.number == other) ≡ out → (sent.number == number) ≡ here
    → (other == number) ≡ false → Apart number other kept → Apart number other (sent ∷ kept)
apart_by true true number other sent kept out here apart h = absurd (grind (arith, nat_tests))
apart_by true false number other sent kept out here apart h = record { given = rw (out, here) h.given; before_it = rw (out, here, out) h.before_it }
apart_by false true number other sent kept out here apart h = record { given = rw (out, here) refl; before_it = rw (out, here) refl }
apart_by false false number other sent kept out here apart h =
    record { given = rw (out, here) h.given; before_it = rw (out, here, out) (ap (λ ns. sent.number ∷ ns) h.before_it) }

apart : {M : Type 0} (number other : ℕ) (kept : List (Sent M)) → (other == number) ≡ false → Apart number other kept
apart number other [] away = record { given = refl; before_it = refl }
apart number other (sent ∷ kept) away = apart_by _ _ number other sent kept refl refl away (apart number other kept away)

-- the first ones of a list
pub record Cut {M : Type 0} (number count : ℕ) (kept : List (Sent M)) : Type 0 where
  pub given : message_of number (take count kept) ≡ cond (nat_lt (length (before number kept)) count) (message_of number kept) None
  pub before_it : length (before number kept) < count → before number (take count kept) ≡ before number kept

-- the tests
cut_within : {A : Type 0} (n count : ℕ) (o : Option A) → o ≡ cond (nat_lt 0 (suc count)) o None
cut_within n count o = grind (arith, nat_tests)

cut_none : {A : Type 0} (n : ℕ) (o : Option A) → None ≡ cond (nat_lt n 0) o None
cut_none n o = grind (arith, nat_tests)

cut_next : {A : Type 0} (n count : ℕ) (o : Option A) → cond (nat_lt n count) o None ≡ cond (nat_lt (suc n) (suc count)) o None
cut_next n count o = grind (arith, nat_tests)

cut_by : {M : Type 0} (here : Bool) (number count : ℕ) (sent : Sent M) (kept : List (Sent M)) → (sent.number == number) ≡ here
    → Cut number count kept → Cut number (suc count) (sent ∷ kept)
cut_by true number count sent kept here h = record { given = rw here (cut_within 0 count (Some sent.message)); before_it = λ _. rw here refl }
cut_by false number count sent kept here h =
    record {
      given = rw here (h.given ∙ cut_next (length (before number kept)) count (message_of number kept));
      before_it = λ within.
          let long : length (before number (sent ∷ kept)) ≡ suc (length (before number kept)) = rw here refl in
          rw here (ap (λ ns. sent.number ∷ ns) (h.before_it (omega arith)));
    }

pub cut : {M : Type 0} (number count : ℕ) (kept : List (Sent M)) → Cut number count kept
cut number zero kept = record { given = cut_none (length (before number kept)) (message_of number kept); before_it = λ within. absurd (omega arith) }
cut number (suc count) [] = record { given = cut_within 0 count None; before_it = λ _. refl }
cut number (suc count) (sent ∷ kept) = cut_by _ number count sent kept refl (cut number count kept)

gone_same : {M : Type 0} (number other : ℕ) (kept : List (Sent M)) → (other == number) ≡ true → message_of number (without other kept) ≡ None
gone_same number other kept is =
    let same : other ≡ number = grind (arith, nat_tests) in
    ap (λ n. message_of number (without n kept)) same ∙ gone number kept

-- each number is there once
none_without_by : {M : Type 0} (b : Bool) (number other : ℕ) (kept : List (Sent M)) → (other == number) ≡ b
    → message_of number kept ≡ None → message_of number (without other kept) ≡ None
none_without_by true number other kept is none = gone_same number other kept is
none_without_by false number other kept is none = (apart number other kept is).given ∙ none

none_cut : {A : Type 0} (b : Bool) (o : Option A) → o ≡ None → cond b o None ≡ None
none_cut true o none = none
none_cut false o none = refl

once_without_by : {M : Type 0} (b : Bool) (other : ℕ) (sent : Sent M) (kept : List (Sent M)) → (sent.number == other) ≡ b
    → Once sent kept → AreOnce (without other kept) → AreOnce (without other (sent ∷ kept))
once_without_by true other sent kept is once each = rw is each
once_without_by false other sent kept is once each = rw is (record { here = none_without_by _ sent.number other kept refl once.here }, each)

once_without : {M : Type 0} (other : ℕ) (kept : List (Sent M)) → AreOnce kept → AreOnce (without other kept)
once_without other [] each = tt
once_without other (sent ∷ kept) each = once_without_by _ other sent kept refl each.0 (once_without other kept each.1)

once_take : {M : Type 0} (count : ℕ) (kept : List (Sent M)) → AreOnce kept → AreOnce (take count kept)
once_take zero kept each = tt
once_take (suc count) [] each = tt
once_take (suc count) (sent ∷ kept) each =
    (record { here = (cut sent.number count kept).given ∙ none_cut _ _ each.0.here }, once_take count kept each.1)

once_newest : {M : Type 0} (history : List (Call M)) → AreOnce (newest history)
once_newest [] = tt
once_newest (Send number message ∷ earlier) =
    once_take 64 (record { number = number; message = message } ∷ without number (newest earlier))
    (record { here = gone number (newest earlier) }, once_without number (newest earlier) (once_newest earlier))
once_newest (Acknowledge number ∷ earlier) = once_without number (newest earlier) (once_newest earlier)

-- the first message is given, or the one that is given of the rest
first_given : {M : Type 0} (number : ℕ) (sent : Sent M) (kept : List (Sent M)) → (sent.number == number) ≡ true → message_of number (sent ∷ kept) ≡ Some sent.message
first_given number sent kept is = rw is refl

rest_given : {M : Type 0} (number : ℕ) (sent : Sent M) (kept : List (Sent M)) → (sent.number == number) ≡ false → message_of number (sent ∷ kept) ≡ message_of number kept
rest_given number sent kept is = rw is refl

-- one message more at the end
last_other_by : {M : Type 0} (b : Bool) (number : ℕ) (first sent : Sent M) (kept : List (Sent M)) → (first.number == number) ≡ b
    → message_of number (kept ++ sent ∷ []) ≡ message_of number kept → message_of number (first ∷ kept ++ sent ∷ []) ≡ message_of number (first ∷ kept)
last_other_by true number first sent kept is h = rw is refl
last_other_by false number first sent kept is h = rw is h

last_other : {M : Type 0} (number : ℕ) (sent : Sent M) (kept : List (Sent M)) → (sent.number == number) ≡ false
    → message_of number (kept ++ sent ∷ []) ≡ message_of number kept
last_other number sent [] away = rw away refl
last_other number sent (first ∷ kept) away = last_other_by _ number first sent kept refl (last_other number sent kept away)

last_here_by : {M : Type 0} (b : Bool) (number : ℕ) (first sent : Sent M) (kept : List (Sent M)) → (first.number == number) ≡ b
    → (message_of number kept ≡ None → message_of number (kept ++ sent ∷ []) ≡ Some sent.message)
    → message_of number (first ∷ kept) ≡ None → message_of number (first ∷ kept ++ sent ∷ []) ≡ Some sent.message
last_here_by true number first sent kept is h none = let some : Some first.message ≡ None = sym (first_given number first kept is) ∙ none in absurd cc
last_here_by false number first sent kept is h none = rw is (h (sym (rest_given number first kept is) ∙ none))

last_here : {M : Type 0} (number : ℕ) (sent : Sent M) (kept : List (Sent M)) → (sent.number == number) ≡ true → message_of number kept ≡ None
    → message_of number (kept ++ sent ∷ []) ≡ Some sent.message
last_here number sent [] here none = rw here refl
last_here number sent (first ∷ kept) here none = last_here_by _ number first sent kept refl (last_here number sent kept here) none

-- a message that is sent is given
none_drop_by : {M : Type 0} (b : Bool) (number : ℕ) (first : Sent M) (kept rest : List (Sent M)) → (first.number == number) ≡ b
    → (message_of number kept ≡ None → message_of number rest ≡ None) → message_of number (first ∷ kept) ≡ None → message_of number rest ≡ None
none_drop_by true number first kept rest is h none = let some : Some first.message ≡ None = sym (first_given number first kept is) ∙ none in absurd cc
none_drop_by false number first kept rest is h none = h (sym (rest_given number first kept is) ∙ none)

none_drop : {M : Type 0} (number count : ℕ) (kept : List (Sent M)) → message_of number kept ≡ None → message_of number (drop count kept) ≡ None
none_drop number zero kept none = none
none_drop number (suc count) [] none = refl
none_drop number (suc count) (first ∷ kept) none = none_drop_by _ number first kept (drop count kept) refl (none_drop number count kept) none

pub sent_given : {M : Type 0} (number : ℕ) (message : M) (kept : List (Sent M)) → message_of number (with_sent number message kept) ≡ Some message
sent_given number message kept =
    let sent : Sent _ = record { number = number; message = message } in
    let rest = without number kept in
    let long : length (rest ++ sent ∷ []) ≡ length rest + 1 = length_push rest sent in
    let same : (number == number) ≡ true = grind (arith, nat_tests) in
    ap (message_of number) (drop-append-le (length (rest ++ sent ∷ []) - 64) rest (sent ∷ []) (omega arith))
    ∙ last_here number sent (drop (length (rest ++ sent ∷ []) - 64) rest) same (none_drop number (length (rest ++ sent ∷ []) - 64) rest (gone number kept))

given-reverse_by : {M : Type 0} (b : Bool) (number : ℕ) (sent : Sent M) (kept : List (Sent M)) → (sent.number == number) ≡ b → Once sent kept
    → message_of number (reverse kept) ≡ message_of number kept → message_of number (reverse kept ++ sent ∷ []) ≡ message_of number (sent ∷ kept)
given-reverse_by true number sent kept is once h =
    let same : sent.number ≡ number = grind (arith, nat_tests) in
    let none : message_of number kept ≡ None = ap (λ n. message_of n kept) (sym same) ∙ once.here in
    last_here number sent (reverse kept) is (h ∙ none) ∙ rw is refl
given-reverse_by false number sent kept is once h = last_other number sent (reverse kept) is ∙ h ∙ rw is refl

given-reverse : {M : Type 0} (number : ℕ) (kept : List (Sent M)) → AreOnce kept → message_of number (reverse kept) ≡ message_of number kept
given-reverse number [] each = refl
given-reverse number (sent ∷ kept) each =
    ap (message_of number) (reverse-append (sent ∷ []) kept) ∙ given-reverse_by _ number sent kept refl each.0 (given-reverse number kept each.1)

-- of each number there is one message at the most
none_of_by : {M : Type 0} (b : Bool) (number : ℕ) (sent : Sent M) (kept : List (Sent M)) → (sent.number == number) ≡ b
    → (message_of number kept ≡ None → length (filter (λ other. other.number == number) kept) ≡ 0)
    → message_of number (sent ∷ kept) ≡ None → length (filter (λ other. other.number == number) (sent ∷ kept)) ≡ 0
none_of_by true number sent kept is h none = let some : Some sent.message ≡ None = sym (first_given number sent kept is) ∙ none in absurd cc
none_of_by false number sent kept is h none = rw is (h (sym (rest_given number sent kept is) ∙ none))

none_of : {M : Type 0} (number : ℕ) (kept : List (Sent M)) → message_of number kept ≡ None → length (filter (λ sent. sent.number == number) kept) ≡ 0
none_of number [] none = refl
none_of number (sent ∷ kept) none = none_of_by _ number sent kept refl (none_of number kept) none

one_of_by : {M : Type 0} (b : Bool) (number : ℕ) (sent : Sent M) (kept : List (Sent M)) → (sent.number == number) ≡ b → Once sent kept
    → length (filter (λ other. other.number == number) kept) ≤ 1 → length (filter (λ other. other.number == number) (sent ∷ kept)) ≤ 1
one_of_by true number sent kept is once h =
    let same : sent.number ≡ number = grind (arith, nat_tests) in
    let none = none_of number kept (ap (λ n. message_of n kept) (sym same) ∙ once.here) in
    rw is (omega arith)
one_of_by false number sent kept is once h = rw is h

one_of : {M : Type 0} (number : ℕ) (kept : List (Sent M)) → AreOnce kept → length (filter (λ sent. sent.number == number) kept) ≤ 1
one_of number [] each = omega arith
one_of number (sent ∷ kept) each = one_of_by _ number sent kept refl each.0 (one_of number kept each.1)

pub one_kept : {M : Type 0} (number : ℕ) (history : List (Call M)) → length (filter (λ sent. sent.number == number) (kept_after history)) ≤ 1
one_kept number history =
    let same : length (filter (λ sent. sent.number == number) (kept_after history)) ≡ length (filter (λ sent. sent.number == number) (newest history)) =
    ap (λ kept. length (filter (λ sent. sent.number == number) kept)) (kept-newest history)
    ∙ ap length (filter-reverse (λ sent. sent.number == number) (newest history))
    ∙ length-reverse (filter (λ sent. sent.number == number) (newest history)) in
    let one = one_of number (newest history) (once_newest history) in
    omega arith

-- the newest messages give what the calls say, and before a number that is kept stand those that wait since
pub record Tells {M : Type 0} (number : ℕ) (history : List (Call M)) : Type 0 where
  pub given : message_of number (newest history) ≡ available number history
  pub waits : (message : M) → message_of number (newest history) ≡ Some message → before number (newest history) ≡ waiting_since number history

-- what is acknowledged is not available
not_chosen : {A : Type 0} (b : Bool) (o : Option A) → None ≡ cond (b && false) o None
not_chosen true o = refl
not_chosen false o = refl

-- only what is given matters
same_cut : {A : Type 0} (m n : ℕ) (o : Option A) → ((x : A) → o ≡ Some x → m ≡ n) → cond (nat_lt m 64) o None ≡ cond (nat_lt n 64) o None
same_cut m n None same = grind (arith, nat_tests)
same_cut m n (Some x) same = ap (λ k. cond (nat_lt k 64) (Some x) None) (same x refl)

-- what is cut off now, or was before
cut_now : {A : Type 0} (now former : ℕ) (gone : Bool) (o : Option A)
    → cond (nat_lt now 64) (cond (nat_lt former 64 && not gone) o None) None ≡ cond (nat_lt (max now former) 64 && not gone) o None
cut_now now former gone o = grind (arith, nat_tests)

cut_some_by : {A : Type 0} (b : Bool) (n : ℕ) (o : Option A) (x : A) → nat_lt n 64 ≡ b → cond (nat_lt n 64) o None ≡ Some x → (n < 64) × (o ≡ Some x)
cut_some_by true n o x within is = (grind (arith, nat_tests), sym (rw within refl) ∙ is)
cut_some_by false n o x within is = let none : None ≡ Some x = sym (rw within refl) ∙ is in absurd cc

cut_some : {A : Type 0} (n : ℕ) (o : Option A) (x : A) → cond (nat_lt n 64) o None ≡ Some x → (n < 64) × (o ≡ Some x)
cut_some n o x is = cut_some_by _ n o x refl is

tells_acknowledged : {M : Type 0} (b : Bool) (number other : ℕ) (earlier : List (Call M)) → (other == number) ≡ b
    → Tells number earlier → Tells number (Acknowledge other ∷ earlier)
tells_acknowledged true number other earlier is h =
    let none : message_of number (without other (newest earlier)) ≡ None = gone_same number other (newest earlier) is in
    record {
      given = none ∙ rw is (not_chosen _ _);
      waits = λ message some. let no : None ≡ Some message = sym none ∙ some in absurd cc;
    }
tells_acknowledged false number other earlier is h =
    let away = apart number other (newest earlier) is in
    record {
      given = away.given ∙ h.given ∙ rw is refl;
      waits = λ message some. away.before_it ∙ ap (others other) (h.waits message (sym away.given ∙ some));
    }

tells_sent : {M : Type 0} (b : Bool) (number other : ℕ) (message : M) (earlier : List (Call M)) → (other == number) ≡ b
    → Tells number earlier → Tells number (Send other message ∷ earlier)
tells_sent true number other message earlier is h = record { given = rw is refl; waits = λ m some. rw is refl }
tells_sent false number other message earlier is h =
    let kept = newest earlier in
    let sent : Sent _ = record { number = other; message = message } in
    let away = apart number other kept is in
    let behind = cut number 64 (sent ∷ without other kept) in
    let stand : before number (sent ∷ without other kept) ≡ other ∷ others other (before number kept) = rw is (ap (λ ns. other ∷ ns) away.before_it) in
    let same : message_of number (sent ∷ without other kept) ≡ message_of number kept = rest_given number sent (without other kept) is ∙ away.given in
    let now : message_of number (newest (Send other message ∷ earlier))
    ≡ cond (nat_lt (length (other ∷ others other (before number kept))) 64) (message_of number kept) None =
    behind.given ∙ ap₂ (λ ns o. cond (nat_lt (length ns) 64) o None) stand same in
    record {
      given =
          now
          ∙ same_cut _ (length (other ∷ others other (waiting_since number earlier))) (message_of number kept)
          (λ x some. ap (λ ns. length (other ∷ others other ns)) (h.waits x some))
          ∙ ap (λ o. cond (nat_lt (length (other ∷ others other (waiting_since number earlier))) 64) o None) h.given
          ∙ cut_now (length (other ∷ others other (waiting_since number earlier))) (most_waiting number earlier) (acknowledged number earlier) (last_sent number earlier)
          ∙ rw is refl;
      waits = λ x some.
          let shown = cut_some _ (message_of number kept) x (sym now ∙ some) in
          let within : length (before number (sent ∷ without other kept)) < 64 = subst (λ ns. length ns < 64) (sym stand) shown.0 in
          behind.before_it within ∙ stand ∙ ap (λ ns. other ∷ others other ns) (h.waits x shown.1) ∙ rw is refl;
    }

tells : {M : Type 0} (number : ℕ) (history : List (Call M)) → Tells number history
tells number [] = record { given = refl; waits = λ m some. refl }
tells number (Send other message ∷ earlier) = tells_sent _ number other message earlier refl (tells number earlier)
tells number (Acknowledge other ∷ earlier) = tells_acknowledged _ number other earlier refl (tells number earlier)

pub given_available : {M : Type 0} (number : ℕ) (history : List (Call M)) → message_of number (kept_after history) ≡ available number history
given_available number history =
    ap (message_of number) (kept-newest history) ∙ given-reverse number (newest history) (once_newest history) ∙ (tells number history).given

-- no more wait than were sent
pub record Fewer {M : Type 0} (number : ℕ) (history : List (Call M)) : Type 0 where
  pub waiting : length (waiting_since number history) ≤ sendings_since number history
  pub most : most_waiting number history ≤ sendings_since number history

fewer_others : (number : ℕ) (numbers : List ℕ) → length (others number numbers) ≤ length numbers
fewer_others number [] = omega arith
fewer_others number (other ∷ numbers) = fewer_others_by _ number other numbers refl (fewer_others number numbers)
  where
    fewer_others_by : (b : Bool) (number other : ℕ) (numbers : List ℕ) → (other == number) ≡ b → length (others number numbers) ≤ length numbers
        → length (others number (other ∷ numbers)) ≤ length (other ∷ numbers)
    fewer_others_by true number other numbers is h = rw is (omega arith)
    fewer_others_by false number other numbers is h = rw is (omega arith)

fewer_sent : {M : Type 0} (b : Bool) (number other : ℕ) (message : M) (earlier : List (Call M)) → (other == number) ≡ b
    → Fewer number earlier → Fewer number (Send other message ∷ earlier)
fewer_sent true number other message earlier is h = record { waiting = rw is (omega arith); most = rw is (omega arith) }
fewer_sent false number other message earlier is h =
    let out = fewer_others other (waiting_since number earlier) in
    let waiting = h.waiting in
    let most = h.most in
    record { waiting = rw is (omega arith); most = rw is (omega arith) }

fewer : {M : Type 0} (number : ℕ) (history : List (Call M)) → Fewer number history
fewer number [] = record { waiting = omega arith; most = omega arith }
fewer number (Send other message ∷ earlier) = fewer_sent _ number other message earlier refl (fewer number earlier)
fewer number (Acknowledge other ∷ earlier) =
    let h = fewer number earlier in
    let out = fewer_others other (waiting_since number earlier) in
    record { waiting = omega (arith, h.waiting); most = h.most }

recent_cut : {A : Type 0} (most : ℕ) (gone : Bool) (o : Option A) → most < 64 → cond (nat_lt most 64 && not gone) o None ≡ (if gone then None else o)
recent_cut most gone o within = grind (arith, nat_tests)

pub recent_available : {M : Type 0} (number : ℕ) (history : List (Call M)) → sendings_since number history < 64
    → message_of number (kept_after history) ≡ (if acknowledged number history then None else last_sent number history)
recent_available number history few =
    let most = (fewer number history).most in
    given_available number history ∙ recent_cut (most_waiting number history) (acknowledged number history) (last_sent number history) (omega arith)
