-- What is read by a row is what the row spells, and the place of a fault is where the words cease to fit.
use Rattle.std.proofs.Common.{◌≡◌, ◌≤◌, ◌+◌, ◌⊎◌, inl, inr, ℕ, zero, suc, max, take, List, [], ◌∷◌, codes, Bool, true, false, ◌&&◌, cond, Option, Some, None, Result, Ok, Err, refl, sym, ap, ◌∙◌, subst, arith}
use Rattle.std.specs.Prelude.{nat_le}
use Rattle.std.specs.Str.{bytes_eq}
use Rattle.std.proofs.lemmas.Slice.Eq.{bytes_eq-Decides}
use Rattle.std.proofs.lemmas.Bool.Decides.{nat_tests}
use Rattle.std.proofs.lemmas.Bool.{cases_lt}
use Rattle.scenario.specs.Words.{number_of, numeral}
use Rattle.scenario.proofs.NumeralLemmas.{number_of-numeral, numeral-number_of}
use Rattle.uaset.specs.Words.{◌>>=◌, Row, Ends, Word, Number, behind, before, in_bounds, number_before, no_more, read_row, farther, read_rows, command_of, rows}
use Rattle.uaset.specs.Spelling.{Spells, Fits, SpellsAny, FitsAny, IsPlace, words_of}
use Rattle.uaset.specs.declared.words.Command.{Command}
use Rattle.uaset.specs.declared.words.Command.TheVariants as command

ok_is : {A : Type 0} (x y : A) → ◌≡◌ {A = Result A ℕ} (Ok x) (Ok y) → y ≡ x
ok_is x y e = cc

some_is : (m n : ℕ) → ◌≡◌ {A = Option ℕ} (Some m) (Some n) → n ≡ m
some_is m n e = cc

no_bool : false ≡ true → ⊥
no_bool e = absurd cc

no_number : (n : ℕ) → ◌≡◌ {A = Option ℕ} None (Some n) → ⊥
no_number n e = absurd cc

-- a number is within its bounds exactly where it passes the test
within : (low high n : ℕ) → (nat_le low n && nat_le n high) ≡ true → (low ≤ n) × (n ≤ high)
within low high n h = (low_fits (nat_le low n) refl, high_fits (nat_le n high) refl) where
  low_fits : (b : Bool) → nat_le low n ≡ b → low ≤ n
  low_fits true e = grind (arith, nat_tests)
  low_fits false e = absurd cc

  high_fits : (b : Bool) → nat_le n high ≡ b → n ≤ high
  high_fits true e = grind (arith, nat_tests)
  high_fits false e = absurd (grind (arith, nat_tests))

passes : (low high n : ℕ) → low ≤ n → n ≤ high → (nat_le low n && nat_le n high) ≡ true
passes low high n l h = grind (arith, nat_tests)

-- what is read is spelled
pub read-spelled : {A : Type 0} (row : Row A) (place : ℕ) (words : List (List ℕ)) (said : A) → read_row row place words ≡ Ok said → Spells row words said
read-spelled (Ends x) place [] said e = (refl, ok_is x said e)
read-spelled (Ends x) place (word ∷ words) said e = absurd cc
read-spelled (Word fixed row) place [] said e = absurd cc
read-spelled (Word fixed row) place (word ∷ words) said e =
    behind_it (bytes_eq word fixed) refl e (read-spelled row (place + 1) words said)
  where
    behind_it : (b : Bool) → bytes_eq word fixed ≡ b → (cond b (Ok words) (Err place) >>= λ rest. read_row row (place + 1) rest) ≡ Ok said
        → (read_row row (place + 1) words ≡ Ok said → Spells row words said) → Spells (Word fixed row) (word ∷ words) said
    behind_it true is h next = (words, ap (λ w. w ∷ words) ((bytes_eq-Decides word fixed).0 is), next h)
    behind_it false is h next = absurd cc
read-spelled (Number low high row) place [] said e = absurd cc
read-spelled (Number low high row) place (word ∷ words) said e =
    number_it (number_of word) refl e (λ n. read-spelled (row n) (place + 1) words said)
  where
    bound_it : (n : ℕ) → number_of word ≡ Some n → (b : Bool) → (nat_le low n && nat_le n high) ≡ b
        → ((cond b (Ok n) (Err place) >>= before words) >>= λ found. read_row (row found.0) (place + 1) found.1) ≡ Ok said
        → ((m : ℕ) → read_row (row m) (place + 1) words ≡ Ok said → Spells (row m) words said) → Spells (Number low high row) (word ∷ words) said
    bound_it n is true passed h next =
        (n, words, (within low high n passed).0, (within low high n passed).1, ap (λ w. w ∷ words) (sym (numeral-number_of word n is)), next n h)
    bound_it n is false passed h next = absurd cc

    number_it : (o : Option ℕ) → number_of word ≡ o
        → ((in_bounds low high place o >>= before words) >>= λ found. read_row (row found.0) (place + 1) found.1) ≡ Ok said
        → ((m : ℕ) → read_row (row m) (place + 1) words ≡ Ok said → Spells (row m) words said) → Spells (Number low high row) (word ∷ words) said
    number_it None is h next = absurd cc
    number_it (Some n) is h next = bound_it n is (nat_le low n && nat_le n high) refl h next

-- what is spelled is read
pub spelled-read : {A : Type 0} (row : Row A) (place : ℕ) (words : List (List ℕ)) (said : A) → Spells row words said → read_row row place words ≡ Ok said
spelled-read (Ends x) place words said s = ap (λ ws. no_more x place ws) s.0 ∙ ap (λ y. Ok y) (sym s.1)
spelled-read (Word fixed row) place words said s =
    ap (λ ws. behind fixed place ws >>= λ rest. read_row row (place + 1) rest) s.1
    ∙ ap (λ (b : Bool). cond b (Ok s.0) (Err place) >>= λ rest. read_row row (place + 1) rest) ((bytes_eq-Decides fixed fixed).1 refl)
    ∙ spelled-read row (place + 1) s.0 said s.2
spelled-read (Number low high row) place words said s =
    ap (λ ws. number_before low high place ws >>= λ found. read_row (row found.0) (place + 1) found.1) s.4
    ∙ ap (λ (o : Option ℕ). (in_bounds low high place o >>= before s.1) >>= λ found. read_row (row found.0) (place + 1) found.1) (number_of-numeral s.0)
    ∙ ap (λ (b : Bool). (cond b (Ok s.0) (Err place) >>= before s.1) >>= λ found. read_row (row found.0) (place + 1) found.1) (passes low high s.0 s.2 s.3)
    ∙ spelled-read (row s.0) (place + 1) s.1 said s.5

-- the place of a fault in what is read from a place on
pub record IsFault {A : Type 0} (row : Row A) (start : ℕ) (words : List (List ℕ)) (place : ℕ) : Type 0 where
  pub count : ℕ
  pub is : place ≡ start + count
  pub here : IsPlace (λ front. Fits front row) words count

err_is : {A : Type 0} (m n : ℕ) → ◌≡◌ {A = Result A ℕ} (Err m) (Err n) → n ≡ m
err_is m n e = cc

-- the first word doesn't fit
at_once : {A : Type 0} (row : Row A) (start place : ℕ) (word : List ℕ) (words : List (List ℕ)) → place ≡ start
    → ¬ Fits (word ∷ []) row → IsFault row start (word ∷ words) place
at_once row start place word words is never =
    record { count = 0; is = omega (arith, is); here = record { within = omega arith; before = tt; here = λ _ f. never f } }

-- there is no word
at_end : {A : Type 0} (row : Row A) (start place : ℕ) → place ≡ start → IsFault row start [] place
at_end row start place is =
    record { count = 0; is = omega (arith, is); here = record { within = omega arith; before = tt; here = λ l _. absurd (omega (arith, l)) } }

-- the fault is behind a word that fits
later : {A : Type 0} (row next : Row A) (start place : ℕ) (word : List ℕ) (words : List (List ℕ))
    → ((front : List (List ℕ)) → Fits front next → Fits (word ∷ front) row) → ((front : List (List ℕ)) → Fits (word ∷ front) row → Fits front next)
    → IsFault next (start + 1) words place → IsFault row start (word ∷ words) place
later row next start place word words into back f = record {
  count = suc f.count;
  is = omega (arith, f.is);
  here = record {
    within = omega (arith, f.here.within);
    before = into (take f.count words) f.here.before;
    here = λ l g. f.here.here (omega (arith, l)) (back (take (suc f.count) words) g);
  };
}

-- the place that is told is the one of the first word that doesn't fit, or the count of the words
pub fault-place : {A : Type 0} (row : Row A) (start : ℕ) (words : List (List ℕ)) (place : ℕ) → read_row row start words ≡ Err place → IsFault row start words place
fault-place (Ends x) start [] place e = absurd cc
fault-place (Ends x) start (word ∷ words) place e = at_once (Ends x) start place word words (err_is start place e) (λ f. f)
fault-place (Word fixed row) start [] place e = at_end (Word fixed row) start place (err_is start place e)
fault-place (Word fixed row) start (word ∷ words) place e =
    behind_it (bytes_eq word fixed) refl e (fault-place row (start + 1) words place)
  where
    behind_it : (b : Bool) → bytes_eq word fixed ≡ b → (cond b (Ok words) (Err start) >>= λ rest. read_row row (start + 1) rest) ≡ Err place
        → (read_row row (start + 1) words ≡ Err place → IsFault row (start + 1) words place) → IsFault (Word fixed row) start (word ∷ words) place
    behind_it true is h next =
        later (Word fixed row) row start place word words (λ front f. ((bytes_eq-Decides word fixed).0 is, f)) (λ front f. f.1) (next h)
    behind_it false is h next =
        at_once (Word fixed row) start place word words (err_is start place h) (λ f. no_bool (sym is ∙ (bytes_eq-Decides word fixed).1 f.0))
fault-place (Number low high row) start [] place e = at_end (Number low high row) start place (err_is start place e)
fault-place (Number low high row) start (word ∷ words) place e =
    number_it (number_of word) refl e (λ n. fault-place (row n) (start + 1) words place)
  where
    same : (n m : ℕ) → number_of word ≡ Some n → word ≡ numeral m → m ≡ n
    same n m is e = some_is n m (sym is ∙ ap number_of e ∙ number_of-numeral m)

    bound_it : (n : ℕ) → number_of word ≡ Some n → (b : Bool) → (nat_le low n && nat_le n high) ≡ b
        → ((cond b (Ok n) (Err start) >>= before words) >>= λ found. read_row (row found.0) (start + 1) found.1) ≡ Err place
        → ((m : ℕ) → read_row (row m) (start + 1) words ≡ Err place → IsFault (row m) (start + 1) words place) → IsFault (Number low high row) start (word ∷ words) place
    bound_it n is true passed h next =
        later (Number low high row) (row n) start place word words
        (λ front f. (n, (within low high n passed).0, (within low high n passed).1, sym (numeral-number_of word n is), f))
        (λ front f. subst (λ m. Fits front (row m)) (same n f.0 is f.3) f.4) (next n h)
    bound_it n is false passed h next =
        at_once (Number low high row) start place word words (err_is start place h)
        (λ f. let e : f.0 ≡ n = same n f.0 is f.3 in no_bool (sym passed ∙ ap (λ m. nat_le low m && nat_le m high) (sym e) ∙ passes low high f.0 f.1 f.2))

    number_it : (o : Option ℕ) → number_of word ≡ o
        → ((in_bounds low high start o >>= before words) >>= λ found. read_row (row found.0) (start + 1) found.1) ≡ Err place
        → ((m : ℕ) → read_row (row m) (start + 1) words ≡ Err place → IsFault (row m) (start + 1) words place) → IsFault (Number low high row) start (word ∷ words) place
    number_it None is h next =
        at_once (Number low high row) start place word words (err_is start place h)
        (λ f. no_number f.0 (sym is ∙ ap number_of f.3 ∙ number_of-numeral f.0))
    number_it (Some n) is h next = bound_it n is (nat_le low n && nat_le n high) refl h next

-- a front of words that fit fits
front_fits : {A : Type 0} (row : Row A) (words : List (List ℕ)) (few many : ℕ) → few ≤ many → Fits (take many words) row → Fits (take few words) row
front_fits row words zero many l f = tt
front_fits row words (suc few) zero l f = absurd (omega (arith, l))
front_fits row [] (suc few) (suc many) l f = tt
front_fits (Ends x) (word ∷ words) (suc few) (suc many) l f = f
front_fits (Word fixed row) (word ∷ words) (suc few) (suc many) l f = (f.0, front_fits row words few many (omega (arith, l)) f.1)
front_fits (Number low high row) (word ∷ words) (suc few) (suc many) l f =
    (f.0, f.1, f.2, f.3, front_fits (row f.0) words few many (omega (arith, l)) f.4)

-- ---- all rows

-- what is read is spelled by one of the rows
pub any-spelled : {A : Type 0} (table : List (Row A)) (words : List (List ℕ)) (said : A) → read_rows table words ≡ Ok said → SpellsAny table words said
any-spelled [] words said e = absurd cc
any-spelled (row ∷ []) words said e = inl (read-spelled row 0 words said e)
any-spelled (row ∷ (next ∷ table)) words said e =
    either_it (read_row row 0 words) (read_rows (next ∷ table) words) e (read-spelled row 0 words said) (any-spelled (next ∷ table) words said)
  where
    either_it : {A : Type 0} {P Q : Type 0} {said : A} (first other : Result A ℕ) → farther first other ≡ Ok said
        → (first ≡ Ok said → P) → (other ≡ Ok said → Q) → P ⊎ Q
    either_it (Ok x) other h p q = inl (p h)
    either_it (Err m) (Ok x) h p q = inr (q h)
    either_it (Err m) (Err n) h p q = absurd cc

-- two readings of which none says anything
pub record AreFaults {A : Type 0} (first other : Result A ℕ) (place : ℕ) : Type 0 where
  pub one : ℕ
  pub two : ℕ
  pub first_is : first ≡ Err one
  pub other_is : other ≡ Err two
  pub place_is : place ≡ max one two

both_fail : {A : Type 0} (first other : Result A ℕ) (place : ℕ) → farther first other ≡ Err place → AreFaults first other place
both_fail (Ok x) other place e = absurd cc
both_fail (Err m) (Ok x) place e = absurd cc
both_fail (Err m) (Err n) place e = record { one = m; two = n; first_is = refl; other_is = refl; place_is = err_is (max m n) place e }

differ : {A : Type 0} (said : A) (place : ℕ) (read : Result A ℕ) → read ≡ Ok said → read ≡ Err place → ⊥
differ said place read e f = absurd cc

-- where nothing is read, nothing is spelled
pub none-spelled : {A : Type 0} (table : List (Row A)) (words : List (List ℕ)) (place : ℕ) (said : A) → read_rows table words ≡ Err place → SpellsAny table words said → ⊥
none-spelled [] words place said e s = s
none-spelled (row ∷ []) words place said e (inl s) = differ said place (read_row row 0 words) (spelled-read row 0 words said s) e
none-spelled (row ∷ []) words place said e (inr s) = s
none-spelled (row ∷ (next ∷ table)) words place said e (inl s) =
    let both = both_fail (read_row row 0 words) (read_rows (next ∷ table) words) place e in
    differ said both.one (read_row row 0 words) (spelled-read row 0 words said s) both.first_is
none-spelled (row ∷ (next ∷ table)) words place said e (inr s) =
    let both = both_fail (read_row row 0 words) (read_rows (next ∷ table) words) place e in
    none-spelled (next ∷ table) words both.two said both.other_is s

any_front_fits : {A : Type 0} (table : List (Row A)) (words : List (List ℕ)) (few many : ℕ) → few ≤ many → FitsAny (take many words) table → FitsAny (take few words) table
any_front_fits [] words few many l f = f
any_front_fits (row ∷ table) words few many l (inl f) = inl (front_fits row words few many l f)
any_front_fits (row ∷ table) words few many l (inr f) = inr (any_front_fits table words few many l f)

-- of two forms that keep fronts, the farther place is the one of both
joined : (F G : List (List ℕ) → Type 0) (words : List (List ℕ)) (p q place : ℕ) → place ≡ max p q → IsPlace F words p → IsPlace G words q
    → ((few many : ℕ) → few ≤ many → F (take many words) → F (take few words))
    → ((few many : ℕ) → few ≤ many → G (take many words) → G (take few words))
    → IsPlace (λ front. F front ⊎ G front) words place
joined F G words p q place is f g ff gg = record {
  within = omega (arith, is, f.within, g.within);
  before = elim (cases_lt p q) [
    | inl l ↦ let e : q ≡ place = omega (arith, is, l) in inr (subst (λ n. G (take n words)) e g.before)
    | inr l ↦ let e : p ≡ place = omega (arith, is, l) in inl (subst (λ n. F (take n words)) e f.before)
  ];
  here = λ l s. elim s [
    | inl x ↦ f.here (omega (arith, is, l)) (ff (suc p) (suc place) (omega (arith, is)) x)
    | inr x ↦ g.here (omega (arith, is, l)) (gg (suc q) (suc place) (omega (arith, is)) x)
  ];
}

row_place : {A : Type 0} (row : Row A) (words : List (List ℕ)) (place : ℕ) → read_row row 0 words ≡ Err place → IsPlace (λ front. Fits front row) words place
row_place row words place e =
    let fault = fault-place row 0 words place e in
    let is : fault.count ≡ place = omega (arith, fault.is) in
    subst (λ n. IsPlace (λ front. Fits front row) words n) is fault.here

-- the place is that of the first word that fits none of the rows, or the count of the words
pub any-place : {A : Type 0} (row : Row A) (table : List (Row A)) (words : List (List ℕ)) (place : ℕ) → read_rows (row ∷ table) words ≡ Err place
    → IsPlace (λ front. FitsAny front (row ∷ table)) words place
any-place row [] words place e =
    let here = row_place row words place e in
    record { within = here.within; before = inl here.before; here = λ l s. elim s [ inl f ↦ here.here l f | inr f ↦ f ] }
any-place row (next ∷ table) words place e =
    let both = both_fail (read_row row 0 words) (read_rows (next ∷ table) words) place e in
    joined (λ front. Fits front row) (λ front. FitsAny front (next ∷ table)) words both.one both.two place both.place_is
    (row_place row words both.one both.first_is) (any-place next table words both.two both.other_is)
    (front_fits row words) (any_front_fits (next ∷ table) words)

-- ---- the table

-- the words are a command's exactly where it is read
pub command-words : (words : List (List ℕ)) (c : Command) → command_of words ≡ Ok c → words ≡ words_of c
command-words words c e = spelled (any-spelled rows words c e) where
  spelled : SpellsAny rows words c → words ≡ words_of c
  spelled (inl s) = s.1 ∙ ap (λ ws. codes "replay" ∷ ws) s.2.0 ∙ ap words_of (sym s.2.1)
  spelled (inr (inl s)) = s.1 ∙ ap (λ ws. codes "show" ∷ ws) (s.2.1 ∙ ap (λ ws. codes "value" ∷ ws) s.2.2.0) ∙ ap words_of (sym s.2.2.1)
  spelled (inr (inr (inl s))) = s.1 ∙ ap (λ ws. codes "show" ∷ ws) (s.2.1 ∙ ap (λ ws. codes "stream" ∷ ws) s.2.2.0) ∙ ap words_of (sym s.2.2.1)
  spelled (inr (inr (inr s))) = absurd s

pub words-command : (words : List (List ℕ)) (c : Command) → words ≡ words_of c → command_of words ≡ Ok c
words-command words c is = ap command_of is ∙ read c where
  read : (c : Command) → command_of (words_of c) ≡ Ok c
  read command.Replay = refl
  read command.ShowValue = refl
  read command.ShowStream = refl
