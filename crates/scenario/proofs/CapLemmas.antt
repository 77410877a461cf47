-- To read numbers capped changes no verdict, since each range ends below the cap.
use Rattle.std.proofs.Common.{◌≡◌, ◌==◌, ℕ, ◌-◌, ◌^◌, ◌<◌, ◌≤◌, ◌≢◌, ◌⊎◌, inl, inr, min, zero, suc, ℤ, pos, negsuc, List, [], ◌∷◌, Bool, true, false, cond, not, Option, Some, None, Err, length, refl, sym, ◌∙◌, ap, arith}
use Rattle.std.specs.Prelude.{if◌then◌else◌, codes, nat_le, nat_lt, ◌&&◌}
use Rattle.std.specs.Str.{bytes_eq}
use Rattle.std.proofs.lemmas.Bool.Decides.{nat_tests}
use Rattle.std.proofs.lemmas.Bool.{cases_lt, and_left, and_right, and_parts}
use Rattle.scenario.specs.declared.form.Form.{Form}
use Rattle.scenario.specs.declared.form.Form.TheVariants as form
use Rattle.scenario.specs.declared.line.Line.{Line}
use Rattle.scenario.specs.declared.fault.FaultKind.{FaultKind}
use Rattle.scenario.specs.declared.fault.FaultKind.TheVariants as kind
use Rattle.ua_base.specs.declared.modes.SetMode.{SetMode}
use Rattle.ua_base.specs.declared.modes.SetMode.TheVariants.{Direct, Hot, Warm, Cold}
use Rattle.scenario.specs.declared.rules.Rules.{Rules}
use Rattle.scenario.specs.declared.rules.Sets.{Sets}
use Rattle.scenario.specs.declared.rules.Sets.TheVariants as sets
use Rattle.scenario.specs.declared.table.Name.{Name}
use Rattle.scenario.specs.declared.table.Numbers.{Numbers}
use Rattle.scenario.specs.declared.table.Numbers.TheVariants as numbers
use Rattle.scenario.specs.declared.table.Argument.{Argument}
use Rattle.scenario.specs.declared.table.Argument.TheVariants as argument
use Rattle.scenario.specs.declared.table.Arguments.{Arguments}
use Rattle.scenario.specs.declared.table.Arguments.TheVariants as arguments
use Rattle.scenario.specs.Table.{name_of, row_of, first_of, counts, all_pass}
use Rattle.scenario.specs.Rules.{allows, allows_set}
use Rattle.scenario.specs.Words.{◌>>=◌, words_of, dotted, number_of, number_by, read_by, pico_by, stamp_by, integer_by, below_zero, capped}
use Rattle.scenario.specs.Grammar.{word_at, none_left, number_at, numbers_after, numbers_at, stamp_at, integer_at, mode_at, one_number, rule_at, name_at, plain_form, set_form, items_form, change_form, form_after, form_of, form_read}
use Rattle.scenario.specs.Past.{is_direct_in, servers_in, items_in}
use Rattle.scenario.specs.Faults.{misses_set, is_in_place, is_between, fits_mode, is_within, in_bounds, is_server, is_item, fits_value, is_in_range, has_item, has_its_server, has_its_item, needs_running, starts_running, starts_too_often, need_fault, source_fault, listener_fault, or_fault, set_fault, content_fault, any_form_fault, verdict, content_verdict, line_or_fault}
use Rattle.scenario.proofs.TableLemmas.{AreBelow, all_below, all_suit, bounds_low, low_bound, low_bounds}
use Rattle.scenario.proofs.FaultLemmas.{placed_row}

-- an answer, if there is one, seen through h
abbrev pub mapped : {A B : Type 0} → (A → B) → Option A → Option B
mapped h None = None
mapped h (Some x) = Some (h x)

through : {A B C D : Type 0} (f : A → B) (o : Option A) (k : B → Option D) (j : A → Option C) (h : C → D)
    → ((x : A) → k (f x) ≡ mapped h (j x)) → (mapped f o >>= k) ≡ mapped h (o >>= j)
through f None k j h same = refl
through f (Some x) k j h same = same x

-- one step of a reading, capped and plain
step : {A B C D : Type 0} (f : A → B) (p : Option B) (o : Option A) → p ≡ mapped f o → (k : B → Option D) (j : A → Option C) (h : C → D)
    → ((x : A) → k (f x) ≡ mapped h (j x)) → (p >>= k) ≡ mapped h (o >>= j)
step f p o e k j h same = ap (λ v. v >>= k) e ∙ through f o k j h same

-- one step that reads no number
along : {A C D : Type 0} (o : Option A) (k : A → Option D) (j : A → Option C) (h : C → D) → ((x : A) → k x ≡ mapped h (j x)) → (o >>= k) ≡ mapped h (o >>= j)
along None k j h same = refl
along (Some x) k j h same = same x

branch : {C D : Type 0} (b : Bool) (x y : Option D) (x' y' : Option C) (h : C → D) → x ≡ mapped h x' → y ≡ mapped h y' → cond b x y ≡ mapped h (cond b x' y')
branch true x y x' y' h p q = p
branch false x y x' y' h p q = q

abbrev plain : ℕ → ℕ
plain n = n

abbrev pub capped_integer : ℤ → ℤ
capped_integer (pos n) = pos (capped n)
capped_integer (negsuc n) = negsuc (min n (2 ^ 64 - 2))

abbrev pub capped_numbers : Numbers → Numbers
capped_numbers numbers.Nothing = numbers.Nothing
capped_numbers (numbers.One first) = numbers.One (capped first)
capped_numbers (numbers.Two first second) = numbers.Two (capped first) (capped second)

abbrev pub capped_form : Form → Form
capped_form (form.Set mode servers) = form.Set mode (capped servers)
capped_form (form.Items items queue oldest) = form.Items (capped items) (capped queue) oldest
capped_form (form.Change item time pico value) = form.Change (capped item) (capped time) (mapped capped pico) (capped_integer value)
capped_form (form.Plain name said) = form.Plain name (capped_numbers said)

abbrev capped_first : ℕ × List (List ℕ) → ℕ × List (List ℕ)
capped_first x = (capped x.0, x.1)

abbrev capped_stamp : ℕ × Option ℕ → ℕ × Option ℕ
capped_stamp x = (capped x.0, mapped capped x.1)

abbrev capped_stamp_first : (ℕ × Option ℕ) × List (List ℕ) → (ℕ × Option ℕ) × List (List ℕ)
capped_stamp_first x = (capped_stamp x.0, x.1)

abbrev capped_value : ℤ × List (List ℕ) → ℤ × List (List ℕ)
capped_value x = (capped_integer x.0, x.1)

number_by-capped : (word : List ℕ) → number_by capped word ≡ mapped capped (number_by plain word)
number_by-capped word = read_capped (number_of word) where
  read_capped : (o : Option ℕ) → read_by capped o ≡ mapped capped (read_by plain o)
  read_capped None = refl
  read_capped (Some n) = refl

pico_by-capped : (digits : Option (List ℕ)) → pico_by capped digits ≡ mapped (mapped capped) (pico_by plain digits)
pico_by-capped None = refl
pico_by-capped (Some digits) =
    step capped (number_by capped digits) (number_by plain digits) (number_by-capped digits) (λ n. Some (Some n)) (λ n. Some (Some n)) (mapped capped) (λ n. refl)

stamp_by-capped : (word : List ℕ) → stamp_by capped word ≡ mapped capped_stamp (stamp_by plain word)
stamp_by-capped word =
    step capped (number_by capped (dotted word).0) (number_by plain (dotted word).0) (number_by-capped (dotted word).0)
    (λ time. pico_by capped (dotted word).1 >>= λ pico. Some (time, pico)) (λ time. pico_by plain (dotted word).1 >>= λ pico. Some (time, pico)) capped_stamp
    (λ time. step (mapped capped) (pico_by capped (dotted word).1) (pico_by plain (dotted word).1) (pico_by-capped (dotted word).1)
    (λ pico. Some (capped time, pico)) (λ pico. Some (time, pico)) capped_stamp (λ pico. refl))

below_capped : (n : ℕ) → below_zero (capped n) ≡ mapped capped_integer (below_zero n)
below_capped zero = refl
below_capped (suc n) = let e : capped (suc n) ≡ suc (min n (2 ^ 64 - 2)) = omega arith in ap below_zero e

integer_by-capped : (word : List ℕ) → integer_by capped word ≡ mapped capped_integer (integer_by plain word)
integer_by-capped [] = refl
integer_by-capped (first ∷ rest) =
    branch (first == 45) (number_by capped rest >>= below_zero) (number_by capped (first ∷ rest) >>= λ n. Some (pos n))
    (number_by plain rest >>= below_zero) (number_by plain (first ∷ rest) >>= λ n. Some (pos n)) capped_integer
    (step capped (number_by capped rest) (number_by plain rest) (number_by-capped rest) below_zero below_zero capped_integer below_capped)
    (step capped (number_by capped (first ∷ rest)) (number_by plain (first ∷ rest)) (number_by-capped (first ∷ rest)) (λ n. Some (pos n)) (λ n. Some (pos n)) capped_integer (λ n. refl))

number_at-capped : (words : List (List ℕ)) → number_at capped words ≡ mapped capped_first (number_at plain words)
number_at-capped words = along (word_at words) _ _ capped_first
    (λ x. step capped (number_by capped x.0) (number_by plain x.0) (number_by-capped x.0) (λ n. Some (n, x.1)) (λ n. Some (n, x.1)) capped_first (λ n. refl))

stamp_at-capped : (words : List (List ℕ)) → stamp_at capped words ≡ mapped capped_stamp_first (stamp_at plain words)
stamp_at-capped words = along (word_at words) _ _ capped_stamp_first
    (λ x. step capped_stamp (stamp_by capped x.0) (stamp_by plain x.0) (stamp_by-capped x.0) (λ s. Some (s, x.1)) (λ s. Some (s, x.1)) capped_stamp_first (λ s. refl))

integer_at-capped : (words : List (List ℕ)) → integer_at capped words ≡ mapped capped_value (integer_at plain words)
integer_at-capped words = along (word_at words) _ _ capped_value
    (λ x. step capped_integer (integer_by capped x.0) (integer_by plain x.0) (integer_by-capped x.0) (λ n. Some (n, x.1)) (λ n. Some (n, x.1)) capped_value (λ n. refl))

one_number-capped : (words : List (List ℕ)) → one_number capped words ≡ mapped capped (one_number plain words)
one_number-capped words = step capped_first (number_at capped words) (number_at plain words) (number_at-capped words)
    (λ x. none_left x.1 >>= λ _. Some x.0) (λ x. none_left x.1 >>= λ _. Some x.0) capped
    (λ x. along (none_left x.1) (λ _. Some (capped x.0)) (λ _. Some x.0) capped (λ _. refl))

numbers_after-capped : (first : ℕ) (words : List (List ℕ)) → numbers_after capped (capped first) words ≡ mapped capped_numbers (numbers_after plain first words)
numbers_after-capped first [] = refl
numbers_after-capped first (word ∷ words) =
    step capped (one_number capped (word ∷ words)) (one_number plain (word ∷ words)) (one_number-capped (word ∷ words))
    (λ second. Some (numbers.Two (capped first) second)) (λ second. Some (numbers.Two first second)) capped_numbers (λ second. refl)

numbers_at-capped : (words : List (List ℕ)) → numbers_at capped words ≡ mapped capped_numbers (numbers_at plain words)
numbers_at-capped [] = refl
numbers_at-capped (word ∷ words) =
    step capped_first (number_at capped (word ∷ words)) (number_at plain (word ∷ words)) (number_at-capped (word ∷ words))
    (λ x. numbers_after capped x.0 x.1) (λ x. numbers_after plain x.0 x.1) capped_numbers (λ x. numbers_after-capped x.0 x.1)

set_form-capped : (words : List (List ℕ)) → set_form capped words ≡ mapped capped_form (set_form plain words)
set_form-capped words = along (mode_at words)
    (λ mode. one_number capped mode.1 >>= λ n. Some (form.Set mode.0 n)) (λ mode. one_number plain mode.1 >>= λ n. Some (form.Set mode.0 n)) capped_form
    (λ mode. step capped (one_number capped mode.1) (one_number plain mode.1) (one_number-capped mode.1) (λ n. Some (form.Set mode.0 n)) (λ n. Some (form.Set mode.0 n)) capped_form (λ n. refl))

items_form-capped : (words : List (List ℕ)) → items_form capped words ≡ mapped capped_form (items_form plain words)
items_form-capped words = step capped_first (number_at capped words) (number_at plain words) (number_at-capped words)
    _ _ capped_form
    (λ x. along (name_at (codes "queue") x.1) _ _ capped_form
    (λ rest. step capped_first (number_at capped rest) (number_at plain rest) (number_at-capped rest) _ _ capped_form
    (λ q. along (rule_at q.1) (λ oldest. Some (form.Items (capped x.0) (capped q.0) oldest)) (λ oldest. Some (form.Items x.0 q.0 oldest)) capped_form (λ oldest. refl))))

change_form-capped : (words : List (List ℕ)) → change_form capped words ≡ mapped capped_form (change_form plain words)
change_form-capped words = step capped_first (number_at capped words) (number_at plain words) (number_at-capped words) _ _ capped_form
    (λ i. step capped_stamp_first (stamp_at capped i.1) (stamp_at plain i.1) (stamp_at-capped i.1) _ _ capped_form
    (λ t. step capped_value (integer_at capped t.1) (integer_at plain t.1) (integer_at-capped t.1) _ _ capped_form
    (λ v. along (none_left v.1) (λ _. Some (form.Change (capped i.0) (capped t.0.0) (mapped capped t.0.1) (capped_integer v.0)))
    (λ _. Some (form.Change i.0 t.0.0 t.0.1 v.0)) capped_form (λ _. refl))))

plain_form-capped : (keyword : List ℕ) (words : List (List ℕ)) → plain_form capped keyword words ≡ mapped capped_form (plain_form plain keyword words)
plain_form-capped keyword words = along (name_of keyword)
    (λ name. numbers_at capped words >>= λ said. Some (form.Plain name said)) (λ name. numbers_at plain words >>= λ said. Some (form.Plain name said)) capped_form
    (λ name. step capped_numbers (numbers_at capped words) (numbers_at plain words) (numbers_at-capped words)
    (λ said. Some (form.Plain name said)) (λ said. Some (form.Plain name said)) capped_form (λ said. refl))

form_after-capped : (keyword : List ℕ) (words : List (List ℕ)) → form_after capped keyword words ≡ mapped capped_form (form_after plain keyword words)
form_after-capped keyword words =
    branch (bytes_eq keyword (codes "set")) _ _ _ _ capped_form (set_form-capped words)
    (branch (bytes_eq keyword (codes "items")) _ _ _ _ capped_form (items_form-capped words)
    (branch (bytes_eq keyword (codes "change")) _ _ _ _ capped_form (change_form-capped words)
    (plain_form-capped keyword words)))

-- the form that is read is the form of the text, capped
pub form_read-capped : (text : List ℕ) → form_read text ≡ mapped capped_form (form_of text)
form_read-capped text = along (word_at (words_of text)) (λ x. form_after capped x.0 x.1) (λ x. form_after plain x.0 x.1) capped_form (λ x. form_after-capped x.0 x.1)

-- the order after the server's and after the item's test
abbrev pub item_rest : Rules → List Line → Form → Option FaultKind
item_rest rules before f =
    if needs_running before f then Some kind.NotRunning
    else if starts_running before f then Some kind.AlreadyRunning
    else if starts_too_often before f then Some kind.TooManyStarts
    else or_fault (source_fault rules before f) (listener_fault rules before f)

abbrev pub server_rest : Rules → List Line → Form → Option FaultKind
server_rest rules before f = if not (has_its_item before f) then Some kind.NoSuchItem else item_rest rules before f

out : (rules : Rules) (before : List Line) (f : Form) → is_in_range f ≡ false → content_verdict rules before f ≡ Err kind.OutOfRange
out rules before f h = ap (λ b. verdict (cond (not b) (Some kind.OutOfRange) (set_fault rules before f)) (Some f)) h

ranged : (r : Bool) (rest : Option FaultKind) (k : FaultKind) (f : Form) → rest ≡ Some k → verdict (cond (not r) (Some kind.OutOfRange) rest) (Some f) ≡ Err (cond r k kind.OutOfRange)
ranged true rest k f h = ap (λ v. verdict v (Some f)) h
ranged false rest k f h = refl

no_item : (rules : Rules) (before : List Line) (f : Form) → has_its_server before f ≡ true → has_its_item before f ≡ false
    → content_verdict rules before f ≡ Err (cond (is_in_range f) kind.NoSuchItem kind.OutOfRange)
no_item rules before f s i = ranged (is_in_range f) (set_fault rules before f) kind.NoSuchItem f
    (ap (λ x. cond (not x) (Some kind.NoSuchServer) (server_rest rules before f)) s
    ∙ ap (λ x. cond (not x) (Some kind.NoSuchItem) (item_rest rules before f)) i)

-- a number is as it was, or within no bounds below the cap, capped or not
same_number : (low high n : ℕ) → high < 2 ^ 64 - 1 → ((is_within low high (capped n) ≡ false) × (is_within low high n ≡ false)) ⊎ (capped n ≡ n)
same_number low high n h =
    elim (cases_lt n (2 ^ 64 - 1)) [
      | inl l ↦ inr (omega arith)
      | inr l ↦ inl (above low high (capped n) (omega arith), above low high n (omega arith))
    ]
  where
    above : (a b m : ℕ) → b < m → is_within a b m ≡ false
    above a b m g = grind (arith, nat_tests)

same_value : (v : ℤ) → ((fits_value (capped_integer v) ≡ false) × (fits_value v ≡ false)) ⊎ (capped_integer v ≡ v)
same_value (pos n) =
    elim (cases_lt n (2 ^ 64 - 1)) [
      | inl l ↦ inr (let e : capped n ≡ n = omega arith in ap pos e)
      | inr l ↦ inl (beyond (capped n) (omega arith), beyond n (omega arith))
    ]
  where
    beyond : (m : ℕ) → 2 ^ 63 ≤ m → nat_lt m (2 ^ 63) ≡ false
    beyond m g = grind (arith, nat_tests)
same_value (negsuc n) =
    elim (cases_lt n (2 ^ 64 - 2)) [
      | inl l ↦ inr (let e : min n (2 ^ 64 - 2) ≡ n = omega arith in ap negsuc e)
      | inr l ↦ inl (beyond (min n (2 ^ 64 - 2)) (omega arith), beyond n (omega arith))
    ]
  where
    beyond : (m : ℕ) → 2 ^ 63 ≤ m → nat_lt m (2 ^ 63) ≡ false
    beyond m g = grind (arith, nat_tests)

-- one number of a form, capped: one with a range, a server, an item
range_hole : (rules : Rules) (before : List Line) (F : ℕ → Form) (low high n : ℕ) → high < 2 ^ 64 - 1
    → ((m : ℕ) → is_within low high m ≡ false → is_in_range (F m) ≡ false) → content_verdict rules before (F (capped n)) ≡ content_verdict rules before (F n)
range_hole rules before F low high n h f =
    elim (same_number low high n h) [
      | inl both ↦ out rules before (F (capped n)) (f (capped n) both.0) ∙ sym (out rules before (F n) (f n both.1))
      | inr e ↦ ap (λ m. content_verdict rules before (F m)) e
    ]

item_hole : (rules : Rules) (before : List Line) (F : ℕ → Form) (n : ℕ) → items_in before < 2 ^ 64 - 1
    → ((m : ℕ) → has_its_server before (F m) ≡ true) → ((m : ℕ) → has_its_item before (F m) ≡ has_item before m)
    → ((m k : ℕ) → is_in_range (F m) ≡ is_in_range (F k))
    → content_verdict rules before (F (capped n)) ≡ content_verdict rules before (F n)
item_hole rules before F n h s i r =
    elim (same_number 1 (items_in before) n h) [
      | inl both ↦ no_item rules before (F (capped n)) (s (capped n)) (i (capped n) ∙ both.0)
          ∙ ap (λ x. Err (cond x kind.NoSuchItem kind.OutOfRange)) (r (capped n) n)
          ∙ sym (no_item rules before (F n) (s n) (i n ∙ both.1))
      | inr e ↦ ap (λ m. content_verdict rules before (F m)) e
    ]

pico_hole : (rules : Rules) (before : List Line) (item time : ℕ) (pico : Option ℕ) (v : ℤ)
    → content_verdict rules before (form.Change item time (mapped capped pico) v) ≡ content_verdict rules before (form.Change item time pico v)
pico_hole rules before item time None v = refl
pico_hole rules before item time (Some pico) v =
    range_hole rules before (λ n. form.Change item time (Some n) v) 0 9999 pico (omega arith) (λ m h. and_left _ _ (and_right _ _ h))

value_hole : (rules : Rules) (before : List Line) (item time : ℕ) (pico : Option ℕ) (v : ℤ)
    → content_verdict rules before (form.Change item time pico (capped_integer v)) ≡ content_verdict rules before (form.Change item time pico v)
value_hole rules before item time pico v =
    elim (same_value v) [
      | inl both ↦ out rules before (form.Change item time pico (capped_integer v)) (and_right _ _ both.0) ∙ sym (out rules before (form.Change item time pico v) (and_right _ _ both.1))
      | inr e ↦ ap (λ z. content_verdict rules before (form.Change item time pico z)) e
    ]

-- a test that tells no number from a larger one than it passes tells no number from its capped one
abbrev IsKept : (Argument → ℕ → Bool) → Argument → Type 0
IsKept test a = (n : ℕ) → test a (capped n) ≡ test a n

both_kept : (a b c d : Bool) → a ≡ c → b ≡ d → (a && b) ≡ (c && d)
both_kept a b c d h k = ap (λ x. x && b) h ∙ ap (λ x. c && x) k

all_kept : (test : Argument → ℕ → Bool) (args : Arguments) (said : Numbers) → ((a : Argument) → low_bound a ≡ true → IsKept test a) → low_bounds args ≡ true
    → all_pass test args (capped_numbers said) ≡ all_pass test args said
all_kept test arguments.Nothing numbers.Nothing kept low = refl
all_kept test arguments.Nothing (numbers.One m) kept low = refl
all_kept test arguments.Nothing (numbers.Two m n) kept low = refl
all_kept test (arguments.One a) numbers.Nothing kept low = refl
all_kept test (arguments.One a) (numbers.One m) kept low = kept a low m
all_kept test (arguments.One a) (numbers.Two m n) kept low = refl
all_kept test (arguments.Two a b) numbers.Nothing kept low = refl
all_kept test (arguments.Two a b) (numbers.One m) kept low = refl
all_kept test (arguments.Two a b) (numbers.Two m n) kept low =
    let parts = and_parts (low_bound a) (low_bound b) low in
    both_kept (test a (capped m)) (test b (capped n)) (test a m) (test b n) (kept a parts.0 m) (kept b parts.1 n)

within_kept : (low high n : ℕ) → high < 2 ^ 64 - 1 → is_within low high (capped n) ≡ is_within low high n
within_kept low high n h =
    elim (same_number low high n h) [
      | inl both ↦ both.0 ∙ sym both.1
      | inr e ↦ ap (λ m. is_within low high m) e
    ]

range_kept : (a : Argument) → low_bound a ≡ true → IsKept in_bounds a
range_kept argument.Server low n = refl
range_kept argument.Item low n = refl
range_kept (argument.From least most) low n =
    let bound : most ≤ 4294967295 = grind (arith, nat_tests) in within_kept least most n (omega arith)

server_kept : (servers : ℕ) → servers < 2 ^ 64 - 1 → (a : Argument) → low_bound a ≡ true → IsKept (is_server servers) a
server_kept servers few argument.Server low n = within_kept 1 servers n few
server_kept servers few argument.Item low n = refl
server_kept servers few (argument.From least most) low n = refl

item_kept : (items : ℕ) → items < 2 ^ 64 - 1 → (a : Argument) → low_bound a ≡ true → IsKept (is_item items) a
item_kept items few argument.Server low n = refl
item_kept items few argument.Item low n = within_kept 1 items n few
item_kept items few (argument.From least most) low n = refl

small_kept : (said : Numbers) → AreBelow (2 ^ 64 - 1) said → capped_numbers said ≡ said
small_kept numbers.Nothing h = refl
small_kept (numbers.One m) h = let e : capped m ≡ m = omega arith in ap numbers.One e
small_kept (numbers.Two m n) h =
    let few : m < 2 ^ 64 - 1 = h.0 in
    let small : n < 2 ^ 64 - 1 = h.1 in
    let d : capped m ≡ m = omega arith in
    let e : capped n ≡ n = omega arith in
    ap (λ k. numbers.Two k (capped n)) d ∙ ap (λ k. numbers.Two m k) e

-- the verdict on a line of the table, by its tests; only where all pass its numbers say more
abbrev pub by_tests : Bool → Bool → Bool → Option FaultKind → Option FaultKind
by_tests r s i more =
    cond (not r) (Some kind.OutOfRange) (cond (not s) (Some kind.NoSuchServer) (cond (not i) (Some kind.NoSuchItem) more))

tests_kept : (r s i : Bool) (more other : Option FaultKind) (f g : Form)
    → (r ≡ true → s ≡ true → i ≡ true → verdict more (Some f) ≡ verdict other (Some g))
    → verdict (by_tests r s i more) (Some f) ≡ verdict (by_tests r s i other) (Some g)
tests_kept false s i more other f g h = refl
tests_kept true false i more other f g h = refl
tests_kept true true false more other f g h = refl
tests_kept true true true more other f g h = h refl refl refl

plain_capped : (rules : Rules) (before : List Line) (n : Name) (said : Numbers) → servers_in before < 2 ^ 64 - 1 → items_in before < 2 ^ 64 - 1 → counts (row_of n).arguments said ≡ true
    → content_verdict rules before (form.Plain n (capped_numbers said)) ≡ content_verdict rules before (form.Plain n said)
plain_capped rules before n said s i c =
    let args : Arguments = (row_of n).arguments in
    let low = bounds_low n in
    let more : Numbers → Option FaultKind = λ u. need_fault rules before (row_of n).need (first_of u) in
    let r = all_kept in_bounds args said range_kept low in
    let v = all_kept (is_server (servers_in before)) args said (server_kept (servers_in before) s) low in
    let t = all_kept (is_item (items_in before)) args said (item_kept (items_in before) i) low in
    let f : Form = form.Plain n (capped_numbers said) in
    let g : Form = form.Plain n said in
    ap (λ b. verdict (by_tests b (all_pass (is_server (servers_in before)) args (capped_numbers said)) (all_pass (is_item (items_in before)) args (capped_numbers said)) (more (capped_numbers said))) (Some f)) r
    ∙ ap (λ b. verdict (by_tests (all_pass in_bounds args said) b (all_pass (is_item (items_in before)) args (capped_numbers said)) (more (capped_numbers said))) (Some f)) v
    ∙ ap (λ b. verdict (by_tests (all_pass in_bounds args said) (all_pass (is_server (servers_in before)) args said) b (more (capped_numbers said))) (Some f)) t
    ∙ tests_kept (all_pass in_bounds args said) (all_pass (is_server (servers_in before)) args said) (all_pass (is_item (items_in before)) args said)
    (more (capped_numbers said)) (more said) f g
    (λ range server item. ap (λ u. verdict (more u) (Some (form.Plain n u)))
    (small_kept said (all_below (servers_in before) (items_in before) args said s i low
    (all_suit (servers_in before) (items_in before) args said (record { count = c; range = range; server = server; item = item })))))

content_capped : (rules : Rules) (before : List Line) (f : Form) → servers_in before < 2 ^ 64 - 1 → items_in before < 2 ^ 64 - 1 → is_in_place rules before f ≡ true
    → content_verdict rules before (capped_form f) ≡ content_verdict rules before f
content_capped rules before (form.Set mode servers) s i p = range_hole rules before (λ n. form.Set mode n) 1 8 servers (omega arith) (λ m h. h)
content_capped rules before (form.Items items queue oldest) s i p =
    range_hole rules before (λ n. form.Items n (capped queue) oldest) 1 64 items (omega arith) (λ m h. and_left _ _ h)
    ∙ range_hole rules before (λ n. form.Items items n oldest) 2 1000 queue (omega arith) (λ m h. and_right _ _ h)
content_capped rules before (form.Change item time pico value) s i p =
    item_hole rules before (λ n. form.Change n (capped time) (mapped capped pico) (capped_integer value)) item i (λ _. refl) (λ _. refl) (λ _ _. refl)
    ∙ range_hole rules before (λ n. form.Change item n (mapped capped pico) (capped_integer value)) 1 (10 ^ 18) time (omega arith) (λ m h. and_left _ _ (and_left _ _ h))
    ∙ pico_hole rules before item time pico (capped_integer value)
    ∙ value_hole rules before item time pico value
content_capped rules before (form.Plain n said) s i p = plain_capped rules before n said s i (placed_row rules before (row_of n) said p).count

counts_capped : (args : Arguments) (said : Numbers) → counts args (capped_numbers said) ≡ counts args said
counts_capped arguments.Nothing numbers.Nothing = refl
counts_capped arguments.Nothing (numbers.One m) = refl
counts_capped arguments.Nothing (numbers.Two m n) = refl
counts_capped (arguments.One a) numbers.Nothing = refl
counts_capped (arguments.One a) (numbers.One m) = refl
counts_capped (arguments.One a) (numbers.Two m n) = refl
counts_capped (arguments.Two a b) numbers.Nothing = refl
counts_capped (arguments.Two a b) (numbers.One m) = refl
counts_capped (arguments.Two a b) (numbers.Two m n) = refl

one_kept : (n : ℕ) → (capped n == 1) ≡ (n == 1)
one_kept n = either (n == 1) (capped n == 1) refl refl
  where
    either : (a b : Bool) → (n == 1) ≡ a → (capped n == 1) ≡ b → b ≡ a
    either true true d e = refl
    either false false d e = refl
    either true false d e = absurd (let one : n ≡ 1 = grind (arith, nat_tests) in let other : capped n ≢ 1 = grind (arith, nat_tests) in other (omega arith))
    either false true d e = absurd (let other : n ≢ 1 = grind (arith, nat_tests) in let one : capped n ≡ 1 = grind (arith, nat_tests) in other (omega arith))

set_capped : (allowed : Sets) (mode : SetMode) (servers : ℕ) → allows_set allowed mode (capped servers) ≡ allows_set allowed mode servers
set_capped sets.Any mode servers = refl
set_capped sets.OverBytes mode servers = refl
set_capped sets.OneHot Hot servers = one_kept servers
set_capped sets.OneHot Direct servers = refl
set_capped sets.OneHot Warm servers = refl
set_capped sets.OneHot Cold servers = refl

place_capped : (rules : Rules) (before : List Line) (f : Form) → is_in_place rules before (capped_form f) ≡ is_in_place rules before f
place_capped rules before (form.Set mode servers) = ap (λ b. (length before == 0) && b) (set_capped rules.sets mode servers)
place_capped rules before (form.Items items queue oldest) = refl
place_capped rules before (form.Change item time pico value) = refl
place_capped rules before (form.Plain n said) =
    ap (λ b. is_between before && (allows rules.allowed (row_of n).group && fits_mode (row_of n).modes (is_direct_in before) && b)) (counts_capped (row_of n).arguments said)

placed : (b : Bool) (c d : Option FaultKind) (f g : Form) → (b ≡ true → verdict c (Some f) ≡ verdict d (Some g))
    → verdict (cond (not b) (Some kind.BadLine) c) (Some f) ≡ verdict (cond (not b) (Some kind.BadLine) d) (Some g)
placed true c d f g h = h refl
placed false c d f g h = refl

verdict_capped : (rules : Rules) (before : List Line) (o : Option Form) → servers_in before < 2 ^ 64 - 1 → items_in before < 2 ^ 64 - 1
    → verdict (any_form_fault rules before (mapped capped_form o)) (mapped capped_form o) ≡ verdict (any_form_fault rules before o) o
verdict_capped rules before None s i = refl
verdict_capped rules before (Some f) s i =
    ap (λ b. verdict (cond (not b) (Some kind.BadLine) (content_fault rules before (capped_form f))) (Some (capped_form f))) (place_capped rules before f)
    ∙ placed (is_in_place rules before f) (content_fault rules before (capped_form f)) (content_fault rules before f) (capped_form f) f (content_capped rules before f s i)

pub placed_late : (m t : Bool) (c : Option FaultKind) (o : Option Form) → m ≡ false → t ≡ false
    → verdict c o ≡ verdict (cond m (Some kind.MissingSet) (cond t (Some kind.TooLong) c)) o
placed_late true t c o m l = absurd cc
placed_late false true c o m l = absurd cc
placed_late false false c o m l = refl

-- the verdict on the form that is read, where the line is neither out of place nor one too many
pub line_read : (rules : Rules) (before : List Line) (text : List ℕ) (o : Option Form) → misses_set (length before) (words_of text) ≡ false → length before < rules.lines
    → servers_in before < 2 ^ 64 - 1 → items_in before < 2 ^ 64 - 1 → o ≡ form_read text
    → verdict (any_form_fault rules before o) o ≡ line_or_fault rules before text
line_read rules before text o m t s i e =
    let late : nat_le rules.lines (length before) ≡ false = grind (arith, nat_tests) in
    ap (λ p. verdict (any_form_fault rules before p) p) (e ∙ form_read-capped text)
    ∙ verdict_capped rules before (form_of text) s i
    ∙ placed_late (misses_set (length before) (words_of text)) (nat_le rules.lines (length before)) (any_form_fault rules before (form_of text)) (form_of text) m late
