-- A text has a form exactly where it is the form's spelling.
use Rattle.std.proofs.Common.{◌≡◌, ◌==◌, ℕ, ◌≤◌, ◌⊎◌, inl, inr, suc, ℤ, pos, negsuc, List, [], ◌∷◌, ◌++◌, Bool, true, false, cond, Option, Some, None, refl, sym, ◌∙◌, ap, subst, arith, rules}
use Rattle.std.specs.Prelude.{codes, find, nat_le}
use Rattle.std.specs.Str.{bytes_eq}
use Rattle.std.proofs.lemmas.Bool.Decides.{nat_tests}
use Rattle.std.proofs.lemmas.Slice.Eq.{bytes_eq-Decides}
use Rattle.std.proofs.lemmas.List.{append-nil}
use Rattle.ua_base.specs.declared.modes.SetMode.{SetMode}
use Rattle.ua_base.specs.declared.modes.SetMode.TheVariants.{Direct, Hot, Warm, Cold}
use Rattle.scenario.specs.declared.form.Form.{Form}
use Rattle.scenario.specs.declared.form.Form.TheVariants as form
use Rattle.scenario.specs.declared.table.Name.{Name}
use Rattle.scenario.specs.declared.table.Numbers.{Numbers}
use Rattle.scenario.specs.declared.table.Numbers.TheVariants as numbers
use Rattle.scenario.specs.Table.{word_of, names, name_of}
use Rattle.scenario.specs.Texts.{mode_text}
use Rattle.scenario.specs.Words.{◌>>=◌, with_first, words_of, spaced, spaced_after, dotted, numeral, stamp_numeral, signed_numeral, number_by, pico_by, stamp_by, integer_by}
use Rattle.scenario.specs.Grammar.{form_words, form_text, number_words, word_at, none_left, name_at, number_at, numbers_after, numbers_at, stamp_at, integer_at, mode_of, mode_at, one_number, rule_at, rule_words, plain_form, set_form, items_form, change_form, form_after, form_by, form_of}
use Rattle.scenario.proofs.WordLemmas.{dot_step, words_some}
use Rattle.scenario.proofs.TableLemmas.{Solid, is_word}
use Rattle.scenario.proofs.NumeralLemmas.{plain, AreDigits, numeral_digits, number_by-numeral, numeral-number_by, integer_by-numeral, numeral-integer_by}

-- words joined again
spaced-first : (b : ℕ) (ws : List (List ℕ)) → spaced (with_first b ws) ≡ b ∷ spaced ws
spaced-first b [] = refl
spaced-first b (w ∷ ws) = refl

spaced-after : (ws : List (List ℕ)) → none_left ws ≡ None → spaced_after ws ≡ 32 ∷ spaced ws
spaced-after [] h = absurd cc
spaced-after (w ∷ ws) h = refl

spaced_case : (b : ℕ) (rest : List ℕ) (space : Bool) → (b == 32) ≡ space → spaced (words_of rest) ≡ rest
    → spaced (cond space ([] ∷ words_of rest) (with_first b (words_of rest))) ≡ b ∷ rest
spaced_case b rest true e h =
    let is : 32 ≡ b = grind (arith, nat_tests) in
    spaced-after (words_of rest) (words_some rest) ∙ ap (λ t. 32 ∷ t) h ∙ ap (λ k. k ∷ rest) is
spaced_case b rest false e h = spaced-first b (words_of rest) ∙ ap (λ t. b ∷ t) h

pub spaced-words_of : (text : List ℕ) → spaced (words_of text) ≡ text
spaced-words_of [] = refl
spaced-words_of (b ∷ rest) = spaced_case b rest (b == 32) refl (spaced-words_of rest)

abbrev pub AllSolid : List (List ℕ) → Type 0
AllSolid [] = Unit {0}
AllSolid (w ∷ ws) = Solid w × AllSolid ws

no_space : (b : ℕ) → nat_le 45 b ≡ true → (b == 32) ≡ false
no_space b h = grind (arith, nat_tests)

no_feed : (b : ℕ) → nat_le 45 b ≡ true → (b == 10) ≡ false
no_feed b h = grind (arith, nat_tests)

byte_kept : (b : ℕ) (rest : List ℕ) (w : List ℕ) (ws : List (List ℕ)) → (b == 32) ≡ false → words_of rest ≡ w ∷ ws → words_of (b ∷ rest) ≡ (b ∷ w) ∷ ws
byte_kept b rest w ws e h = ap (λ s. cond s ([] ∷ words_of rest) (with_first b (words_of rest))) e ∙ ap (with_first b) h

word_alone : (w : List ℕ) → Solid w → words_of w ≡ w ∷ []
word_alone [] h = refl
word_alone (b ∷ rest) h = byte_kept b rest rest [] (no_space b h.0) (word_alone rest h.1)

word_before : (w t : List ℕ) → Solid w → words_of (w ++ 32 ∷ t) ≡ w ∷ words_of t
word_before [] t h = refl
word_before (b ∷ rest) t h = byte_kept b (rest ++ 32 ∷ t) rest (words_of t) (no_space b h.0) (word_before rest t h.1)

pub words_of-spaced : (w : List ℕ) (ws : List (List ℕ)) → AllSolid (w ∷ ws) → words_of (spaced (w ∷ ws)) ≡ w ∷ ws
words_of-spaced w [] h = ap words_of (append-nil w) ∙ word_alone w h.0
words_of-spaced w (v ∷ vs) h = word_before w (spaced (v ∷ vs)) h.0 ∙ ap (λ more. w ∷ more) (words_of-spaced v vs h.1)

digits_solid : (w : List ℕ) → AreDigits w → Solid w
digits_solid [] h = tt
digits_solid (c ∷ cs) h = (let low : 48 ≤ c = h.0 in grind (arith, nat_tests), digits_solid cs h.2)

numeral_solid : (n : ℕ) → Solid (numeral n)
numeral_solid n = digits_solid (numeral n) (numeral_digits n)

signed_solid : (z : ℤ) → Solid (signed_numeral z)
signed_solid (pos n) = numeral_solid n
signed_solid (negsuc n) = (refl, numeral_solid (suc n))

solid_join : (v w : List ℕ) → Solid v → Solid w → Solid (v ++ w)
solid_join [] w h k = k
solid_join (b ∷ v) w h k = (h.0, solid_join v w h.1 k)

stamp_solid : (time : ℕ) (pico : Option ℕ) → Solid (stamp_numeral time pico)
stamp_solid time None = numeral_solid time
stamp_solid time (Some pico) = solid_join (numeral time) (46 ∷ numeral pico) (numeral_solid time) (refl, numeral_solid pico)

rule_solid : (oldest : Bool) → AllSolid (rule_words oldest)
rule_solid true = tt
rule_solid false = (search rules, (search rules, tt))

mode_solid : (m : SetMode) → Solid (mode_text m)
mode_solid Direct = search rules
mode_solid Hot = search rules
mode_solid Warm = search rules
mode_solid Cold = search rules

numbers_solid : (said : Numbers) → AllSolid (number_words said)
numbers_solid numbers.Nothing = tt
numbers_solid (numbers.One first) = (numeral_solid first, tt)
numbers_solid (numbers.Two first second) = (numeral_solid first, (numeral_solid second, tt))

-- the words of a form: a keyword, and what follows it
abbrev pub keyword_of : Form → List ℕ
keyword_of (form.Set mode servers) = codes "set"
keyword_of (form.Items items queue oldest) = codes "items"
keyword_of (form.Change item time pico value) = codes "change"
keyword_of (form.Plain name said) = word_of name

abbrev pub words_after : Form → List (List ℕ)
words_after (form.Set mode servers) = mode_text mode ∷ numeral servers ∷ []
words_after (form.Items items queue oldest) = numeral items ∷ codes "queue" ∷ numeral queue ∷ rule_words oldest
words_after (form.Change item time pico value) = numeral item ∷ stamp_numeral time pico ∷ signed_numeral value ∷ []
words_after (form.Plain name said) = number_words said

words_are : (f : Form) → form_words f ≡ keyword_of f ∷ words_after f
words_are (form.Set mode servers) = refl
words_are (form.Items items queue oldest) = refl
words_are (form.Change item time pico value) = refl
words_are (form.Plain name said) = refl

no_spaces : (f : Form) → AllSolid (keyword_of f ∷ words_after f)
no_spaces (form.Set mode servers) = (search rules, (mode_solid mode, (numeral_solid servers, tt)))
no_spaces (form.Items items queue oldest) = (search rules, (numeral_solid items, (search rules, (numeral_solid queue, rule_solid oldest))))
no_spaces (form.Change item time pico value) = (search rules, (numeral_solid item, (stamp_solid time pico, (signed_solid value, tt))))
no_spaces (form.Plain name said) = ((is_word name).solid, numbers_solid said)

-- each piece, as it is spelled, is read
number_spelled : (n : ℕ) (ws : List (List ℕ)) → number_at plain (numeral n ∷ ws) ≡ Some (n, ws)
number_spelled n ws = ap (λ o. o >>= λ m. Some (m, ws)) (number_by-numeral n)

-- a time and its picoseconds stand apart at the dot
dot_kept : (b : ℕ) (rest w : List ℕ) (more : Option (List ℕ)) → (b == 46) ≡ false → dotted rest ≡ (w, more) → dotted (b ∷ rest) ≡ (b ∷ w, more)
dot_kept b rest w more e h =
    ap (λ dot. dot_step dot b rest) e ∙ ap (λ d. (b ∷ d.0, d.1)) h

no_dot : (c : ℕ) → 48 ≤ c → (c == 46) ≡ false
no_dot c low = grind (arith, nat_tests)

dotted_alone : (w : List ℕ) → AreDigits w → dotted w ≡ (w, None)
dotted_alone [] h = refl
dotted_alone (c ∷ cs) h = dot_kept c cs cs None (no_dot c h.0) (dotted_alone cs h.2)

dotted_before : (w t : List ℕ) → AreDigits w → dotted (w ++ 46 ∷ t) ≡ (w, Some t)
dotted_before [] t h = refl
dotted_before (c ∷ cs) t h = dot_kept c (cs ++ 46 ∷ t) cs (Some t) (no_dot c h.0) (dotted_before cs t h.2)

abbrev stamp_of : List ℕ × Option (List ℕ) → Option (ℕ × Option ℕ)
stamp_of d = number_by plain d.0 >>= λ time. pico_by plain d.1 >>= λ pico. Some (time, pico)

pico_spelled : (pico : ℕ) → pico_by plain (Some (numeral pico)) ≡ Some (Some pico)
pico_spelled pico = ap (λ o. o >>= λ p. Some (Some p)) (number_by-numeral pico)

stamp_spelled : (time : ℕ) (pico : Option ℕ) → stamp_by plain (stamp_numeral time pico) ≡ Some (time, pico)
stamp_spelled time None =
    ap stamp_of (dotted_alone (numeral time) (numeral_digits time))
    ∙ ap (λ o. o >>= λ t. pico_by plain None >>= λ p. Some (t, p)) (number_by-numeral time)
stamp_spelled time (Some pico) =
    ap stamp_of (dotted_before (numeral time) (numeral pico) (numeral_digits time))
    ∙ ap (λ o. o >>= λ t. pico_by plain (Some (numeral pico)) >>= λ p. Some (t, p)) (number_by-numeral time)
    ∙ ap (λ o. o >>= λ p. Some (time, p)) (pico_spelled pico)

stamp_at_spelled : (time : ℕ) (pico : Option ℕ) (ws : List (List ℕ)) → stamp_at plain (stamp_numeral time pico ∷ ws) ≡ Some ((time, pico), ws)
stamp_at_spelled time pico ws = ap (λ o. o >>= λ s. Some (s, ws)) (stamp_spelled time pico)

rule_spelled : (oldest : Bool) → rule_at (rule_words oldest) ≡ Some oldest
rule_spelled true = refl
rule_spelled false = refl

integer_spelled : (z : ℤ) (ws : List (List ℕ)) → integer_at plain (signed_numeral z ∷ ws) ≡ Some (z, ws)
integer_spelled z ws = ap (λ o. o >>= λ m. Some (m, ws)) (integer_by-numeral z)

mode_spelled : (m : SetMode) (ws : List (List ℕ)) → mode_at (mode_text m ∷ ws) ≡ Some (m, ws)
mode_spelled Direct ws = refl
mode_spelled Hot ws = refl
mode_spelled Warm ws = refl
mode_spelled Cold ws = refl

one_spelled : (n : ℕ) → one_number plain (numeral n ∷ []) ≡ Some n
one_spelled n = ap (λ o. o >>= λ first. none_left first.1 >>= λ _. Some first.0) (number_spelled n [])

numbers_spelled : (said : Numbers) → numbers_at plain (number_words said) ≡ Some said
numbers_spelled numbers.Nothing = refl
numbers_spelled (numbers.One first) = ap (λ o. o >>= λ x. numbers_after plain x.0 x.1) (number_spelled first [])
numbers_spelled (numbers.Two first second) =
    ap (λ o. o >>= λ x. numbers_after plain x.0 x.1) (number_spelled first (numeral second ∷ []))
    ∙ ap (λ o. o >>= λ n. Some (numbers.Two first n)) (one_spelled second)

-- a word of the table is none of the first three keywords
plain_after : (name : Name) (ws : List (List ℕ)) → form_after plain (word_of name) ws ≡ plain_form plain (word_of name) ws
plain_after name ws =
    let w = is_word name in
    let rest = plain_form plain (word_of name) ws in
    ap (λ b. cond b (set_form plain ws) (cond (bytes_eq (word_of name) (codes "items")) (items_form plain ws) (cond (bytes_eq (word_of name) (codes "change")) (change_form plain ws) rest))) w.no_set
    ∙ ap (λ b. cond b (items_form plain ws) (cond (bytes_eq (word_of name) (codes "change")) (change_form plain ws) rest)) w.no_items
    ∙ ap (λ b. cond b (change_form plain ws) rest) w.no_change

after_spelled : (f : Form) → form_after plain (keyword_of f) (words_after f) ≡ Some f
after_spelled (form.Set mode servers) =
    ap (λ o. o >>= λ first. one_number plain first.1 >>= λ n. Some (form.Set first.0 n)) (mode_spelled mode (numeral servers ∷ []))
    ∙ ap (λ o. o >>= λ n. Some (form.Set mode n)) (one_spelled servers)
after_spelled (form.Items items queue oldest) =
    ap (λ o. o >>= λ first. name_at (codes "queue") first.1 >>= λ rest. number_at plain rest >>= λ q. rule_at q.1 >>= λ r. Some (form.Items first.0 q.0 r))
    (number_spelled items (codes "queue" ∷ numeral queue ∷ rule_words oldest))
    ∙ ap (λ o. o >>= λ q. rule_at q.1 >>= λ r. Some (form.Items items q.0 r)) (number_spelled queue (rule_words oldest))
    ∙ ap (λ o. o >>= λ r. Some (form.Items items queue r)) (rule_spelled oldest)
after_spelled (form.Change item time pico value) =
    ap (λ o. o >>= λ i. stamp_at plain i.1 >>= λ t. integer_at plain t.1 >>= λ v. none_left v.1 >>= λ _. Some (form.Change i.0 t.0.0 t.0.1 v.0))
    (number_spelled item (stamp_numeral time pico ∷ signed_numeral value ∷ []))
    ∙ ap (λ o. o >>= λ t. integer_at plain t.1 >>= λ v. none_left v.1 >>= λ _. Some (form.Change item t.0.0 t.0.1 v.0)) (stamp_at_spelled time pico (signed_numeral value ∷ []))
    ∙ ap (λ o. o >>= λ v. none_left v.1 >>= λ _. Some (form.Change item time pico v.0)) (integer_spelled value [])
after_spelled (form.Plain name said) =
    plain_after name (number_words said)
    ∙ ap (λ o. o >>= λ n. numbers_at plain (number_words said) >>= λ m. Some (form.Plain n m)) (is_word name).found
    ∙ ap (λ o. o >>= λ m. Some (form.Plain name m)) (numbers_spelled said)

pub words_of-form_text : (f : Form) → words_of (form_text f) ≡ keyword_of f ∷ words_after f
words_of-form_text f = ap (λ ws. words_of (spaced ws)) (words_are f) ∙ words_of-spaced (keyword_of f) (words_after f) (no_spaces f)

-- no line feed stands in a spelling
abbrev pub NoFeed : List ℕ → Type 0
NoFeed [] = Unit {0}
NoFeed (b ∷ rest) = ((b == 10) ≡ false) × NoFeed rest

no_feed_join : (v w : List ℕ) → Solid v → NoFeed w → NoFeed (v ++ w)
no_feed_join [] w h k = k
no_feed_join (b ∷ v) w h k = (no_feed b h.0, no_feed_join v w h.1 k)

after_no_feed : (ws : List (List ℕ)) → AllSolid ws → NoFeed (spaced_after ws)
after_no_feed [] h = tt
after_no_feed (w ∷ ws) h = (refl, no_feed_join w (spaced_after ws) h.0 (after_no_feed ws h.1))

pub form_no_feed : (f : Form) → NoFeed (form_text f)
form_no_feed f =
    let P : List (List ℕ) → Type 0 = λ ws. NoFeed (spaced ws) in
    subst P (sym (words_are f)) (no_feed_join (keyword_of f) (spaced_after (words_after f)) (no_spaces f).0 (after_no_feed (words_after f) (no_spaces f).1))

-- what is spelled is read
pub form_of-form_text : (f : Form) → form_of (form_text f) ≡ Some f
form_of-form_text f = ap (form_by plain) (words_of-form_text f) ∙ after_spelled f

-- what is read was spelled so: each piece
got : {A B : Type 0} (o : Option A) (k : A → Option B) (y : B) → (o >>= k) ≡ Some y → (x : A) × (o ≡ Some x) × (k x ≡ Some y)
got None k y h = absurd cc
got (Some x) k y h = (x, refl, h)

word_got : (ws : List (List ℕ)) (x : List ℕ × List (List ℕ)) → word_at ws ≡ Some x → ws ≡ x.0 ∷ x.1
word_got [] x h = absurd cc
word_got (w ∷ ws) x h = let e : (w, ws) ≡ x = cc in ap (λ p. p.0 ∷ p.1) e

last_got : (ws : List (List ℕ)) (u : Unit {0}) → none_left ws ≡ Some u → ws ≡ []
last_got [] u h = refl
last_got (w ∷ ws) u h = absurd cc

number_got : (ws : List (List ℕ)) (x : ℕ × List (List ℕ)) → number_at plain ws ≡ Some x → ws ≡ numeral x.0 ∷ x.1
number_got ws x h =
    let a = got (word_at ws) (λ first. number_by plain first.0 >>= λ n. Some (n, first.1)) x h in
    let b = got (number_by plain a.0.0) (λ n. Some (n, a.0.1)) x a.2 in
    let e : (b.0, a.0.1) ≡ x = cc in
    word_got ws a.0 a.1 ∙ ap (λ w. w ∷ a.0.1) (sym (numeral-number_by a.0.0 b.0 b.1)) ∙ ap (λ p. numeral p.0 ∷ p.1) e

-- a word is its parts with the dot between them
abbrev undotted : List ℕ → Option (List ℕ) → List ℕ
undotted w None = w
undotted w (Some t) = w ++ 46 ∷ t

undotted-first : (b : ℕ) (w : List ℕ) (more : Option (List ℕ)) → undotted (b ∷ w) more ≡ b ∷ undotted w more
undotted-first b w None = refl
undotted-first b w (Some t) = refl

undot_case : (b : ℕ) (rest : List ℕ) (dot : Bool) → (b == 46) ≡ dot → undotted (dotted rest).0 (dotted rest).1 ≡ rest
    → undotted (dot_step dot b rest).0 (dot_step dot b rest).1 ≡ b ∷ rest
undot_case b rest true e h = let is : 46 ≡ b = grind (arith, nat_tests) in ap (λ k. k ∷ rest) is
undot_case b rest false e h = undotted-first b (dotted rest).0 (dotted rest).1 ∙ ap (λ t. b ∷ t) h

undotted-dotted : (word : List ℕ) → undotted (dotted word).0 (dotted word).1 ≡ word
undotted-dotted [] = refl
undotted-dotted (b ∷ rest) = undot_case b rest (b == 46) refl (undotted-dotted rest)

pico_got : (w : List ℕ) (digits : Option (List ℕ)) (time : ℕ) (pico : Option ℕ) → numeral time ≡ w → pico_by plain digits ≡ Some pico
    → undotted w digits ≡ stamp_numeral time pico
pico_got w None time pico e h = let k : None ≡ pico = cc in sym e ∙ ap (stamp_numeral time) k
pico_got w (Some digits) time pico e h =
    let a = got (number_by plain digits) (λ p. Some (Some p)) pico h in
    let k : Some a.0 ≡ pico = cc in
    ap (λ v. v ++ 46 ∷ digits) (sym e) ∙ ap (λ v. numeral time ++ 46 ∷ v) (sym (numeral-number_by digits a.0 a.1)) ∙ ap (stamp_numeral time) k

stamp_word : (word : List ℕ) (x : ℕ × Option ℕ) → stamp_by plain word ≡ Some x → word ≡ stamp_numeral x.0 x.1
stamp_word word x h =
    let a = got (number_by plain (dotted word).0) (λ time. pico_by plain (dotted word).1 >>= λ pico. Some (time, pico)) x h in
    let b = got (pico_by plain (dotted word).1) (λ pico. Some (a.0, pico)) x a.2 in
    let e : (a.0, b.0) ≡ x = cc in
    sym (undotted-dotted word) ∙ pico_got (dotted word).0 (dotted word).1 a.0 b.0 (numeral-number_by (dotted word).0 a.0 a.1) b.1 ∙ ap (λ p. stamp_numeral p.0 p.1) e

stamp_got : (ws : List (List ℕ)) (x : (ℕ × Option ℕ) × List (List ℕ)) → stamp_at plain ws ≡ Some x → ws ≡ stamp_numeral x.0.0 x.0.1 ∷ x.1
stamp_got ws x h =
    let a = got (word_at ws) (λ first. stamp_by plain first.0 >>= λ s. Some (s, first.1)) x h in
    let b = got (stamp_by plain a.0.0) (λ s. Some (s, a.0.1)) x a.2 in
    let e : (b.0, a.0.1) ≡ x = cc in
    word_got ws a.0 a.1 ∙ ap (λ w. w ∷ a.0.1) (stamp_word a.0.0 b.0 b.1) ∙ ap (λ p. stamp_numeral p.0.0 p.0.1 ∷ p.1) e

integer_got : (ws : List (List ℕ)) (x : ℤ × List (List ℕ)) → integer_at plain ws ≡ Some x → ws ≡ signed_numeral x.0 ∷ x.1
integer_got ws x h =
    let a = got (word_at ws) (λ first. integer_by plain first.0 >>= λ n. Some (n, first.1)) x h in
    let b = got (integer_by plain a.0.0) (λ n. Some (n, a.0.1)) x a.2 in
    let e : (b.0, a.0.1) ≡ x = cc in
    word_got ws a.0 a.1 ∙ ap (λ w. w ∷ a.0.1) (sym (numeral-integer_by a.0.0 b.0 b.1)) ∙ ap (λ p. signed_numeral p.0 ∷ p.1) e

same_word : (word name : List ℕ) → bytes_eq word name ≡ true → word ≡ name
same_word word name h = (bytes_eq-Decides word name).0 h

chosen : {A : Type 0} (b : Bool) (x y : Option A) (z : A) → cond b x y ≡ Some z → ((b ≡ true) × (x ≡ Some z)) ⊎ ((b ≡ false) × (y ≡ Some z))
chosen true x y z h = inl (refl, h)
chosen false x y z h = inr (refl, h)

one_got : (ws : List (List ℕ)) (n : ℕ) → one_number plain ws ≡ Some n → ws ≡ numeral n ∷ []
one_got ws n h =
    let a = got (number_at plain ws) (λ first. none_left first.1 >>= λ _. Some first.0) n h in
    let b = got (none_left a.0.1) (λ _. Some a.0.0) n a.2 in
    let e : a.0.0 ≡ n = cc in
    number_got ws a.0 a.1 ∙ ap (λ more. numeral a.0.0 ∷ more) (last_got a.0.1 b.0 b.1) ∙ ap (λ m. numeral m ∷ []) e

mode_word : (word : List ℕ) (m : SetMode) → mode_of word ≡ Some m → word ≡ mode_text m
mode_word word m h =
    elim (chosen (bytes_eq word (codes "direct")) (Some Direct)
    (cond (bytes_eq word (codes "hot")) (Some Hot) (cond (bytes_eq word (codes "warm")) (Some Warm) (cond (bytes_eq word (codes "cold")) (Some Cold) None))) m h) [
      | inl a ↦ same_word word _ a.0 ∙ said Direct m a.1
      | inr a ↦ elim (chosen (bytes_eq word (codes "hot")) (Some Hot) (cond (bytes_eq word (codes "warm")) (Some Warm) (cond (bytes_eq word (codes "cold")) (Some Cold) None)) m a.1) [
        | inl b ↦ same_word word _ b.0 ∙ said Hot m b.1
        | inr b ↦ elim (chosen (bytes_eq word (codes "warm")) (Some Warm) (cond (bytes_eq word (codes "cold")) (Some Cold) None) m b.1) [
          | inl c ↦ same_word word _ c.0 ∙ said Warm m c.1
          | inr c ↦ elim (chosen (bytes_eq word (codes "cold")) (Some Cold) None m c.1) [
            | inl d ↦ same_word word _ d.0 ∙ said Cold m d.1
            | inr d ↦ absurd (none m d.1)
          ]
        ]
      ]
    ]
  where
    said : (k m : SetMode) → ◌≡◌ {A = Option SetMode} (Some k) (Some m) → mode_text k ≡ mode_text m
    said k m e = let f : k ≡ m = cc in ap mode_text f

    none : (m : SetMode) → ◌≡◌ {A = Option SetMode} None (Some m) → ⊥
    none m e = cc

mode_got : (ws : List (List ℕ)) (x : SetMode × List (List ℕ)) → mode_at ws ≡ Some x → ws ≡ mode_text x.0 ∷ x.1
mode_got ws x h =
    let a = got (word_at ws) (λ first. mode_of first.0 >>= λ m. Some (m, first.1)) x h in
    let b = got (mode_of a.0.0) (λ m. Some (m, a.0.1)) x a.2 in
    let e : (b.0, a.0.1) ≡ x = cc in
    word_got ws a.0 a.1 ∙ ap (λ w. w ∷ a.0.1) (mode_word a.0.0 b.0 b.1) ∙ ap (λ p. mode_text p.0 ∷ p.1) e

name_got : (name : List ℕ) (ws rest : List (List ℕ)) → name_at name ws ≡ Some rest → ws ≡ name ∷ rest
name_got name ws rest h =
    let a = got (word_at ws) (λ first. cond (bytes_eq first.0 name) (Some first.1) None) rest h in
    word_got ws a.0 a.1 ∙ elim (chosen (bytes_eq a.0.0 name) (Some a.0.1) None rest a.2) [
      | inl b ↦ let e : a.0.1 ≡ rest = is_rest a.0.1 rest b.1 in ap (λ w. w ∷ a.0.1) (same_word a.0.0 _ b.0) ∙ ap (λ more. name ∷ more) e
      | inr b ↦ absurd (none rest b.1)
    ]
  where
    is_rest : (u v : List (List ℕ)) → ◌≡◌ {A = Option (List (List ℕ))} (Some u) (Some v) → u ≡ v
    is_rest u v e = cc

    none : (v : List (List ℕ)) → ◌≡◌ {A = Option (List (List ℕ))} None (Some v) → ⊥
    none v e = cc

rule_got : (ws : List (List ℕ)) (oldest : Bool) → rule_at ws ≡ Some oldest → ws ≡ rule_words oldest
rule_got [] oldest h = let e : true ≡ oldest = cc in ap rule_words e
rule_got (w ∷ ws) oldest h =
    let a = got (name_at (codes "discard") (w ∷ ws)) (λ rest. name_at (codes "newest") rest >>= λ more. none_left more >>= λ _. Some false) oldest h in
    let b = got (name_at (codes "newest") a.0) (λ more. none_left more >>= λ _. Some false) oldest a.2 in
    let c = got (none_left b.0) (λ _. Some false) oldest b.2 in
    let e : false ≡ oldest = cc in
    name_got (codes "discard") (w ∷ ws) a.0 a.1 ∙ ap (λ more. codes "discard" ∷ more)
    (name_got (codes "newest") a.0 b.0 b.1 ∙ ap (λ more. codes "newest" ∷ more) (last_got b.0 c.0 c.1)) ∙ ap rule_words e

-- a form that is read after its keyword was spelled so
set_got : (ws : List (List ℕ)) (f : Form) → set_form plain ws ≡ Some f → codes "set" ∷ ws ≡ form_words f
set_got ws f h =
    let a = got (mode_at ws) (λ mode. one_number plain mode.1 >>= λ n. Some (form.Set mode.0 n)) f h in
    let b = got (one_number plain a.0.1) (λ n. Some (form.Set a.0.0 n)) f a.2 in
    let e : form.Set a.0.0 b.0 ≡ f = cc in
    ap (λ more. codes "set" ∷ more) (mode_got ws a.0 a.1 ∙ ap (λ more. mode_text a.0.0 ∷ more) (one_got a.0.1 b.0 b.1)) ∙ ap form_words e

items_joined : (ws us vs rest : List (List ℕ)) (n q : ℕ) (oldest : Bool) (f : Form) → ws ≡ numeral n ∷ us → us ≡ codes "queue" ∷ vs → vs ≡ numeral q ∷ rest
    → rest ≡ rule_words oldest → form.Items n q oldest ≡ f → codes "items" ∷ ws ≡ form_words f
items_joined ws us vs rest n q oldest f a b c d e =
    ap (λ more. codes "items" ∷ more) (a ∙ ap (λ more. numeral n ∷ more) (b ∙ ap (λ more. codes "queue" ∷ more) (c ∙ ap (λ more. numeral q ∷ more) d)))
    ∙ ap form_words e

items_got : (ws : List (List ℕ)) (f : Form) → items_form plain ws ≡ Some f → codes "items" ∷ ws ≡ form_words f
items_got ws f h =
    let a = got (number_at plain ws) (λ items. name_at (codes "queue") items.1 >>= λ rest. number_at plain rest >>= λ q. rule_at q.1 >>= λ r. Some (form.Items items.0 q.0 r)) f h in
    let b = got (name_at (codes "queue") a.0.1) (λ rest. number_at plain rest >>= λ q. rule_at q.1 >>= λ r. Some (form.Items a.0.0 q.0 r)) f a.2 in
    let c = got (number_at plain b.0) (λ q. rule_at q.1 >>= λ r. Some (form.Items a.0.0 q.0 r)) f b.2 in
    let d = got (rule_at c.0.1) (λ r. Some (form.Items a.0.0 c.0.0 r)) f c.2 in
    let e : form.Items a.0.0 c.0.0 d.0 ≡ f = cc in
    items_joined ws a.0.1 b.0 c.0.1 a.0.0 c.0.0 d.0 f (number_got ws a.0 a.1) (name_got (codes "queue") a.0.1 b.0 b.1) (number_got b.0 c.0 c.1) (rule_got c.0.1 d.0 d.1) e

change_joined : (ws us vs rest : List (List ℕ)) (i t : ℕ) (p : Option ℕ) (v : ℤ) (f : Form) → ws ≡ numeral i ∷ us → us ≡ stamp_numeral t p ∷ vs
    → vs ≡ signed_numeral v ∷ rest → rest ≡ [] → form.Change i t p v ≡ f → codes "change" ∷ ws ≡ form_words f
change_joined ws us vs rest i t p v f a b c d e =
    ap (λ more. codes "change" ∷ more) (a ∙ ap (λ more. numeral i ∷ more) (b ∙ ap (λ more. stamp_numeral t p ∷ more) (c ∙ ap (λ more. signed_numeral v ∷ more) d)))
    ∙ ap form_words e

change_got : (ws : List (List ℕ)) (f : Form) → change_form plain ws ≡ Some f → codes "change" ∷ ws ≡ form_words f
change_got ws f h =
    let a = got (number_at plain ws) (λ i. stamp_at plain i.1 >>= λ t. integer_at plain t.1 >>= λ v. none_left v.1 >>= λ _. Some (form.Change i.0 t.0.0 t.0.1 v.0)) f h in
    let b = got (stamp_at plain a.0.1) (λ t. integer_at plain t.1 >>= λ v. none_left v.1 >>= λ _. Some (form.Change a.0.0 t.0.0 t.0.1 v.0)) f a.2 in
    let c = got (integer_at plain b.0.1) (λ v. none_left v.1 >>= λ _. Some (form.Change a.0.0 b.0.0.0 b.0.0.1 v.0)) f b.2 in
    let d = got (none_left c.0.1) (λ _. Some (form.Change a.0.0 b.0.0.0 b.0.0.1 c.0.0)) f c.2 in
    let e : form.Change a.0.0 b.0.0.0 b.0.0.1 c.0.0 ≡ f = cc in
    change_joined ws a.0.1 b.0.1 c.0.1 a.0.0 b.0.0.0 b.0.0.1 c.0.0 f (number_got ws a.0 a.1) (stamp_got a.0.1 b.0 b.1) (integer_got b.0.1 c.0 c.1) (last_got c.0.1 d.0 d.1) e

numbers_after_got : (first : ℕ) (ws : List (List ℕ)) (said : Numbers) → numbers_after plain first ws ≡ Some said → numeral first ∷ ws ≡ number_words said
numbers_after_got first [] said h = let e : numbers.One first ≡ said = cc in ap number_words e
numbers_after_got first (w ∷ ws) said h =
    let a = got (one_number plain (w ∷ ws)) (λ second. Some (numbers.Two first second)) said h in
    let e : numbers.Two first a.0 ≡ said = cc in
    ap (λ more. numeral first ∷ more) (one_got (w ∷ ws) a.0 a.1) ∙ ap number_words e

numbers_got : (ws : List (List ℕ)) (said : Numbers) → numbers_at plain ws ≡ Some said → ws ≡ number_words said
numbers_got [] said h = let e : numbers.Nothing ≡ said = cc in ap number_words e
numbers_got (w ∷ ws) said h =
    let a = got (number_at plain (w ∷ ws)) (λ x. numbers_after plain x.0 x.1) said h in
    number_got (w ∷ ws) a.0 a.1 ∙ numbers_after_got a.0.0 a.0.1 said a.2

-- a name that is found has this word
found_case : (word : List ℕ) (n m : Name) (b : Bool) (rest : List Name) → bytes_eq (word_of n) word ≡ b → (find (λ other. bytes_eq (word_of other) word) rest ≡ Some m → word_of m ≡ word)
    → cond b (Some n) (find (λ other. bytes_eq (word_of other) word) rest) ≡ Some m → word_of m ≡ word
found_case word n m true rest e more h = let same : n ≡ m = cc in sym (ap word_of same) ∙ same_word (word_of n) word e
found_case word n m false rest e more h = more h

found_word : (word : List ℕ) (all : List Name) (m : Name) → find (λ other. bytes_eq (word_of other) word) all ≡ Some m → word_of m ≡ word
found_word word [] m h = absurd cc
found_word word (n ∷ rest) m h = found_case word n m (bytes_eq (word_of n) word) rest refl (found_word word rest m) h

plain_got : (keyword : List ℕ) (ws : List (List ℕ)) (f : Form) → plain_form plain keyword ws ≡ Some f → keyword ∷ ws ≡ form_words f
plain_got keyword ws f h =
    let a = got (name_of keyword) (λ n. numbers_at plain ws >>= λ m. Some (form.Plain n m)) f h in
    let b = got (numbers_at plain ws) (λ m. Some (form.Plain a.0 m)) f a.2 in
    let e : form.Plain a.0 b.0 ≡ f = cc in
    ap (λ w. w ∷ ws) (sym (found_word keyword names a.0 a.1)) ∙ ap (λ more. word_of a.0 ∷ more) (numbers_got ws b.0 b.1) ∙ ap form_words e

-- one keyword of the order: it stands there, or another one does
keyword_case : (keyword name : List ℕ) (ws : List (List ℕ)) (f : Form) (here others : Option Form) → (here ≡ Some f → name ∷ ws ≡ form_words f)
    → (others ≡ Some f → keyword ∷ ws ≡ form_words f) → cond (bytes_eq keyword name) here others ≡ Some f → keyword ∷ ws ≡ form_words f
keyword_case keyword name ws f here others g k h =
    elim (chosen (bytes_eq keyword name) here others f h) [
      | inl a ↦ ap (λ w. w ∷ ws) (same_word keyword name a.0) ∙ g a.1
      | inr b ↦ k b.1
    ]

abbrev from_change : List ℕ → List (List ℕ) → Option Form
from_change keyword ws = cond (bytes_eq keyword (codes "change")) (change_form plain ws) (plain_form plain keyword ws)

abbrev from_items : List ℕ → List (List ℕ) → Option Form
from_items keyword ws = cond (bytes_eq keyword (codes "items")) (items_form plain ws) (from_change keyword ws)

after_got : (keyword : List ℕ) (ws : List (List ℕ)) (f : Form) → form_after plain keyword ws ≡ Some f → keyword ∷ ws ≡ form_words f
after_got keyword ws f h =
    keyword_case keyword (codes "set") ws f (set_form plain ws) (from_items keyword ws) (set_got ws f) (
    keyword_case keyword (codes "items") ws f (items_form plain ws) (from_change keyword ws) (items_got ws f) (
    keyword_case keyword (codes "change") ws f (change_form plain ws) (plain_form plain keyword ws) (change_got ws f) (plain_got keyword ws f))) h

-- what has a form is that form's spelling
pub form_text-form_of : (text : List ℕ) (f : Form) → form_of text ≡ Some f → form_text f ≡ text
form_text-form_of text f h =
    let a = got (word_at (words_of text)) (λ first. form_after plain first.0 first.1) f h in
    ap spaced (sym (after_got a.0.0 a.0.1 f a.2) ∙ sym (word_got (words_of text) a.0 a.1)) ∙ spaced-words_of text
