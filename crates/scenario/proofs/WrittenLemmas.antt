-- What is written is read again, and what is read was written so.
use Rattle.std.proofs.Common.{◌≡◌, ◌==◌, ℕ, ◌+◌, ◌-◌, ◌<◌, ◌≤◌, ◌^◌, ◌⊎◌, inl, inr, List, [], ◌∷◌, ◌++◌, Bool, true, false, cond, Option, Some, None, Ok, length, refl, sym, ◌∙◌, ap, subst, arith}
use Rattle.std.specs.Prelude.{codes, map, ◌&&◌}
use Rattle.std.specs.List.{flat_map}
use Rattle.std.specs.Fmt.{decimal, signed_decimal}
use Rattle.std.proofs.lemmas.Bool.Decides.{nat_tests}
use Rattle.std.proofs.lemmas.Bool.{and_parts}
use Rattle.std.proofs.lemmas.List.{append_assoc, append-nil}
use Rattle.scenario.specs.declared.form.Form.{Form}
use Rattle.scenario.specs.declared.form.Form.TheVariants as form
use Rattle.scenario.specs.declared.line.Line.{Line}
use Rattle.scenario.specs.declared.rules.Rules.{Rules}
use Rattle.scenario.specs.declared.table.Name.{Name}
use Rattle.scenario.specs.declared.table.Name.TheVariants as name
use Rattle.scenario.specs.declared.table.Numbers.{Numbers}
use Rattle.scenario.specs.declared.table.Numbers.TheVariants as numbers
use Rattle.scenario.specs.Table.{row_of, word_of, line_with, first_of, second_of}
use Rattle.scenario.proofs.TableLemmas.{AreBelow, all_below, all_suit, bounds_low, shaped, within_range}
use Rattle.scenario.specs.Texts.{mode_text, line_text, numbers_text, rule_text, shape_text, written}
use Rattle.set_model.specs.Stamp.{pico_text}
use Rattle.scenario.specs.Words.{with_first, lines_of, spaced_after, numeral, signed_numeral, stamp_numeral}
use Rattle.scenario.specs.Grammar.{none_left, as_written, form_of, form_text, rule_words, number_words, written_as, written_form, written_pico}
use Rattle.scenario.specs.Past.{servers_of, items_of, servers_in, items_in, has_ended}
use Rattle.scenario.specs.Faults.{is_within, fits_value, pico_of, fault_of, line_of, line_or_fault}
use Rattle.scenario.specs.Scenario.{kind_at_end, valid_from, scenario_of}
use Rattle.scenario.specs.Valid.{AllAllowed}
use Rattle.scenario.proofs.FaultLemmas.{Passes, taken, numbers_passed, verdict_ok}
use Rattle.scenario.proofs.NumeralLemmas.{numeral-decimal, signed_numeral-decimal}
use Rattle.scenario.proofs.ReadLemmas.{IsRead, AllRead, read_by_form, line_of-written, fault-written, lines_of-written, read_written}
use Rattle.scenario.proofs.ValidLemmas.{ended_ok, go_on_ok}

-- words with spaces between them, joined from either side
join2 : (a b : List ℕ) → (a ++ 32 ∷ []) ++ b ≡ a ++ (32 ∷ (b ++ []))
join2 a b = append_assoc a (32 ∷ []) b ∙ ap (λ r. a ++ (32 ∷ r)) (sym (append-nil b))

join3 : (a b c : List ℕ) → (((a ++ 32 ∷ []) ++ b) ++ 32 ∷ []) ++ c ≡ a ++ (32 ∷ (b ++ (32 ∷ (c ++ []))))
join3 a b c =
    append_assoc ((a ++ 32 ∷ []) ++ b) (32 ∷ []) c ∙ append_assoc (a ++ 32 ∷ []) b (32 ∷ c) ∙ append_assoc a (32 ∷ []) (b ++ 32 ∷ c)
    ∙ ap (λ r. a ++ (32 ∷ (b ++ (32 ∷ r)))) (sym (append-nil c))

-- the set is small enough that its numbers are printed as they are spelled
pub record Small (before : List Line) : Type 0 where
  pub servers : servers_in before < 2 ^ 64 - 1
  pub items : items_in before < 2 ^ 64 - 1

joined_after : (a q b c : List ℕ) → ((a ++ q) ++ b) ++ c ≡ a ++ (q ++ (b ++ c))
joined_after a q b c = append_assoc (a ++ q) b c ∙ append_assoc a q (b ++ c)

rule_written : (oldest : Bool) → rule_text oldest ≡ spaced_after (rule_words oldest)
rule_written true = refl
rule_written false = refl

stamp_case : (time pico : ℕ) (b : Bool) → time < 2 ^ 64 → pico < 2 ^ 64 → decimal time ++ cond b [] (46 ∷ decimal pico) ≡ stamp_numeral time (cond b None (Some pico))
stamp_case time pico true small few = append-nil (decimal time) ∙ sym (numeral-decimal time small)
stamp_case time pico false small few =
    ap (λ d. d ++ 46 ∷ decimal pico) (sym (numeral-decimal time small)) ∙ ap (λ d. numeral time ++ 46 ∷ d) (sym (numeral-decimal pico few))

-- a stamp is printed as it is spelled without picoseconds of 0
stamp_written : (time : ℕ) (pico : Option ℕ) → time < 2 ^ 64 → pico_of pico < 2 ^ 64 → decimal time ++ pico_text (pico_of pico) ≡ stamp_numeral time (written_pico pico)
stamp_written time None small few = append-nil (decimal time) ∙ sym (numeral-decimal time small)
stamp_written time (Some pico) small few = stamp_case time pico (pico == 0) small few

-- numbers are printed as they are spelled
numbers_written : (said : Numbers) → AreBelow (2 ^ 64 - 1) said → numbers_text said ≡ spaced_after (number_words said)
numbers_written numbers.Nothing h = refl
numbers_written (numbers.One m) h =
    let few : m < 2 ^ 64 = omega arith in
    ap (λ d. 32 ∷ d) (sym (numeral-decimal m few) ∙ sym (append-nil (numeral m)))
numbers_written (numbers.Two m n) h =
    let first : m < 2 ^ 64 - 1 = h.0 in
    let second : n < 2 ^ 64 - 1 = h.1 in
    let few : m < 2 ^ 64 = omega arith in
    let small : n < 2 ^ 64 = omega arith in
    ap (λ d. codes " " ++ d ++ codes " " ++ decimal n) (sym (numeral-decimal m few))
    ∙ ap (λ d. codes " " ++ numeral m ++ codes " " ++ d) (sym (numeral-decimal n small))
    ∙ ap (λ r. 32 ∷ r) (join2 (numeral m) (numeral n))

-- a line that was taken is printed as its form is spelled, without picoseconds of 0
pub text_of : (rules : Rules) (before : List Line) (f : Form) → Small before → Passes rules before f → line_text (line_of f) ≡ form_text (written_form f)
text_of rules before (form.Set mode servers) small p =
    let w = within_range 1 8 servers p.range in
    let n : servers < 2 ^ 64 = omega arith in
    ap (λ d. codes "set " ++ mode_text mode ++ codes " " ++ d) (sym (numeral-decimal servers n)) ∙ ap (λ r. codes "set " ++ r) (join2 (mode_text mode) (numeral servers))
text_of rules before (form.Items items queue oldest) small p =
    let parts = and_parts (is_within 1 64 items) (is_within 2 1000 queue) p.range in
    let a = within_range 1 64 items parts.0 in
    let b = within_range 2 1000 queue parts.1 in
    let m : items < 2 ^ 64 = omega arith in
    let n : queue < 2 ^ 64 = omega arith in
    ap (λ d. codes "items " ++ d ++ codes " queue " ++ decimal queue ++ rule_text oldest) (sym (numeral-decimal items m))
    ∙ ap (λ d. codes "items " ++ numeral items ++ codes " queue " ++ d ++ rule_text oldest) (sym (numeral-decimal queue n))
    ∙ ap (λ r. codes "items " ++ numeral items ++ codes " queue " ++ numeral queue ++ r) (rule_written oldest)
    ∙ ap (λ r. codes "items " ++ r) (joined_after (numeral items) (codes " queue ") (numeral queue) (spaced_after (rule_words oldest)))
text_of rules before (form.Change item time pico value) small p =
    let parts = and_parts (is_within 1 (10 ^ 18) time && is_within 0 9999 (pico_of pico)) (fits_value value) p.range in
    let stamp = and_parts (is_within 1 (10 ^ 18) time) (is_within 0 9999 (pico_of pico)) parts.0 in
    let a = within_range 1 (10 ^ 18) time stamp.0 in
    let b = within_range 0 9999 (pico_of pico) stamp.1 in
    let k : pico_of pico < 2 ^ 64 = omega arith in
    let i = within_range 1 (items_in before) item p.item in
    let few : items_in before < 2 ^ 64 - 1 = small.items in
    let m : item < 2 ^ 64 = omega arith in
    let n : time < 2 ^ 64 = omega arith in
    ap (λ d. codes "change " ++ d ++ codes " " ++ (decimal time ++ pico_text (pico_of pico)) ++ codes " " ++ signed_decimal value) (sym (numeral-decimal item m))
    ∙ ap (λ d. codes "change " ++ numeral item ++ codes " " ++ d ++ codes " " ++ signed_decimal value) (stamp_written time pico n k)
    ∙ ap (λ d. codes "change " ++ numeral item ++ codes " " ++ stamp_numeral time (written_pico pico) ++ codes " " ++ d) (sym (signed_numeral-decimal value parts.1))
    ∙ ap (λ r. codes "change " ++ r) (join3 (numeral item) (stamp_numeral time (written_pico pico)) (signed_numeral value))
text_of rules before (form.Plain n said) small p =
    let passed = numbers_passed rules before n said p in
    let suit = all_suit (servers_in before) (items_in before) (row_of n).arguments said passed in
    let below = all_below (servers_in before) (items_in before) (row_of n).arguments said small.servers small.items (bounds_low n) suit in
    ap shape_text (shaped n said passed.count) ∙ ap (λ r. word_of n ++ r) (numbers_written said below)

-- one line more keeps the set small
servers_either : (ls : List Line) (l : Line) → (servers_in (ls ++ l ∷ []) ≡ servers_in ls) ⊎ (servers_in (ls ++ l ∷ []) ≡ servers_of l)
servers_either [] l = inr refl
servers_either (m ∷ ls) l = inl refl

items_either : (ls : List Line) (l : Line) → (items_in (ls ++ l ∷ []) ≡ items_in ls) ⊎ (items_in (ls ++ l ∷ []) ≡ items_of l)
items_either [] l = inl refl
items_either (m ∷ []) l = inr refl
items_either (m ∷ (n ∷ ls)) l = inl refl

table_few : (n : Name) (first second : ℕ) → (servers_of (line_with n first second) ≤ 8) × (items_of (line_with n first second) ≤ 64)
table_few name.End first second = (omega arith, omega arith)
table_few _ first second = (omega arith, omega arith)

pub few_of : (rules : Rules) (before : List Line) (f : Form) → Passes rules before f → (servers_of (line_of f) ≤ 8) × (items_of (line_of f) ≤ 64)
few_of rules before (form.Set mode servers) p = let w = within_range 1 8 servers p.range in (omega arith, omega arith)
few_of rules before (form.Items items queue oldest) p =
    let parts = and_parts (is_within 1 64 items) (is_within 2 1000 queue) p.range in
    let a = within_range 1 64 items parts.0 in (omega arith, omega arith)
few_of rules before (form.Plain n said) p = table_few n (first_of said) (second_of said)
few_of rules before _ p = (omega arith, omega arith)

pub small_more : (before : List Line) (l : Line) → Small before → (servers_of l ≤ 8) × (items_of l ≤ 64) → Small (before ++ l ∷ [])
small_more before l small few =
    let s : servers_in before < 2 ^ 64 - 1 = small.servers in
    let i : items_in before < 2 ^ 64 - 1 = small.items in
    let m : servers_of l ≤ 8 = few.0 in
    let n : items_of l ≤ 64 = few.1 in
    record {
      servers = elim (servers_either before l) [ inl e ↦ omega arith | inr e ↦ omega arith ];
      items = elim (items_either before l) [ inl e ↦ omega arith | inr e ↦ omega arith ];
    }

-- the texts of a valid text are its lines' texts, and nothing is wrong with any
record Spelled (rules : Rules) (before lines : List Line) (texts : List (List ℕ)) : Type 0 where
  more : List Line
  lines_are : lines ≡ before ++ more
  texts_are : map as_written texts ≡ map line_text more
  read : AllRead rules before more
  at_end : has_ended lines ≡ true

spelled : (rules : Rules) (before : List Line) (texts : List (List ℕ)) (lines : List Line) → Small before → valid_from rules before texts ≡ Ok lines → Spelled rules before lines texts
spelled rules before [] lines small h =
    let e = ended_ok (has_ended before) before lines (record { line = length before + 1; kind = kind_at_end before }) refl h in
    record { more = []; lines_are = sym e.1 ∙ sym (append-nil before); texts_are = refl; read = tt; at_end = ap has_ended (sym e.1) ∙ e.0 }
spelled rules before (text ∷ texts) lines small h =
    let g = go_on_ok before lines (λ l. valid_from rules (before ++ l ∷ []) texts) (line_or_fault rules before text) h in
    let t = taken rules before text g.0 g.1 in
    let P : Line → Type 0 = λ l. (servers_of l ≤ 8) × (items_of l ≤ 64) in
    let s = spelled rules (before ++ g.0 ∷ []) texts lines (small_more before g.0 small (subst P t.line_is (few_of rules before t.f t.passes))) g.2 in
    let printed : line_text g.0 ≡ form_text (written_form t.f) = ap line_text (sym t.line_is) ∙ text_of rules before t.f small t.passes in
    let same : as_written text ≡ line_text g.0 = ap (written_as text) t.is ∙ sym printed in
    let read : IsRead rules before g.0 =
    read_by_form rules before (written_form t.f) g.0 t.few (fault-written rules before t.f ∙ t.sound) (line_of-written t.f ∙ t.line_is) printed in
    record {
      more = g.0 ∷ s.more;
      lines_are = s.lines_are ∙ append_assoc before (g.0 ∷ []) s.more;
      texts_are = ap (λ first. first ∷ map as_written texts) same ∙ ap (λ rest. line_text g.0 ∷ rest) s.texts_are;
      read = (read, s.read);
      at_end = s.at_end;
    }

-- texts, each with a line feed
abbrev joined : List (List ℕ) → List ℕ
joined texts = flat_map (λ t. t ++ codes "\n") texts

joined-texts : (lines : List Line) → joined (map line_text lines) ≡ written lines
joined-texts [] = refl
joined-texts (l ∷ ls) = ap (λ rest. line_text l ++ codes "\n" ++ rest) (joined-texts ls)

first_some : (b : ℕ) (ws : List (List ℕ)) → none_left (with_first b ws) ≡ None
first_some b [] = refl
first_some b (w ∷ ws) = refl

some_line : (b : ℕ) (rest : List ℕ) (feed : Bool) → none_left (cond feed ([] ∷ lines_of rest) (with_first b (lines_of rest))) ≡ None
some_line b rest true = refl
some_line b rest false = first_some b (lines_of rest)

joined-first : (b : ℕ) (ws : List (List ℕ)) → none_left ws ≡ None → joined (with_first b ws) ≡ b ∷ joined ws
joined-first b [] h = absurd cc
joined-first b (w ∷ ws) h = refl

-- the lines of a text, joined, are the text, or the text and the line feed that it lacks
record Lacks (bytes : List ℕ) : Type 0 where
  joined_is : joined (lines_of bytes) ≡ bytes ++ 10 ∷ []
  same_lines : lines_of (bytes ++ 10 ∷ []) ≡ lines_of bytes

feed_case : (b : ℕ) (rest : List ℕ) (feed : Bool) → (b == 10) ≡ feed
    → lines_of (b ∷ rest) ≡ cond feed ([] ∷ lines_of rest) (with_first b (lines_of rest))
feed_case b rest feed e = ap (λ s. cond s ([] ∷ lines_of rest) (with_first b (lines_of rest))) e

join_case : (b : ℕ) (rest : List ℕ) (feed : Bool) → (b == 10) ≡ feed → (joined (lines_of rest) ≡ rest) ⊎ Lacks rest → (joined (lines_of (b ∷ rest)) ≡ b ∷ rest) ⊎ Lacks (b ∷ rest)
join_case b rest true e (inl h) =
    let is : 10 ≡ b = grind (arith, nat_tests) in
    inl (ap joined (feed_case b rest true e) ∙ ap (λ t. 10 ∷ t) h ∙ ap (λ k. k ∷ rest) is)
join_case b rest true e (inr h) =
    let is : 10 ≡ b = grind (arith, nat_tests) in
    inr (record {
      joined_is = ap joined (feed_case b rest true e) ∙ ap (λ t. 10 ∷ t) h.joined_is ∙ ap (λ k. k ∷ (rest ++ 10 ∷ [])) is;
      same_lines = feed_case b (rest ++ 10 ∷ []) true e ∙ ap (λ ls. [] ∷ ls) h.same_lines ∙ sym (feed_case b rest true e);
    })
join_case b [] false e h = inr (record {
  joined_is = ap joined (feed_case b [] false e);
  same_lines = feed_case b (10 ∷ []) false e ∙ sym (feed_case b [] false e);
})
join_case b (c ∷ cs) false e (inl h) =
    inl (ap joined (feed_case b (c ∷ cs) false e) ∙ joined-first b (lines_of (c ∷ cs)) (some_line c cs (c == 10)) ∙ ap (λ t. b ∷ t) h)
join_case b (c ∷ cs) false e (inr h) = inr (record {
  joined_is = ap joined (feed_case b (c ∷ cs) false e) ∙ joined-first b (lines_of (c ∷ cs)) (some_line c cs (c == 10)) ∙ ap (λ t. b ∷ t) h.joined_is;
  same_lines = feed_case b (c ∷ cs ++ 10 ∷ []) false e ∙ ap (with_first b) h.same_lines ∙ sym (feed_case b (c ∷ cs) false e);
})

joined-lines_of : (bytes : List ℕ) → (joined (lines_of bytes) ≡ bytes) ⊎ Lacks bytes
joined-lines_of [] = inl refl
joined-lines_of (b ∷ rest) = join_case b rest (b == 10) refl (joined-lines_of rest)

spelled_all : (rules : Rules) (bytes : List ℕ) (lines : List Line) → scenario_of rules bytes ≡ Ok lines → Spelled rules [] lines (lines_of bytes)
spelled_all rules bytes lines h = spelled rules [] (lines_of bytes) lines (record { servers = omega arith; items = omega arith }) h

all_read : (rules : Rules) (bytes : List ℕ) (lines : List Line) → scenario_of rules bytes ≡ Ok lines → AllRead rules [] lines
all_read rules bytes lines h =
    let s = spelled_all rules bytes lines h in
    let P : List Line → Type 0 = λ all. AllRead rules [] all in
    subst P (sym s.lines_are) s.read

-- line by line, what is written is what was read, without picoseconds of 0
pub written_lines : (rules : Rules) (bytes : List ℕ) (lines : List Line) → scenario_of rules bytes ≡ Ok lines → lines_of (written lines) ≡ map as_written (lines_of bytes)
written_lines rules bytes lines h =
    let s = spelled_all rules bytes lines h in
    lines_of-written rules [] lines (all_read rules bytes lines h) ∙ ap (map line_text) s.lines_are ∙ sym s.texts_are

written_is : (rules : Rules) (bytes : List ℕ) (lines : List Line) → scenario_of rules bytes ≡ Ok lines → map as_written (lines_of bytes) ≡ lines_of bytes
    → joined (lines_of bytes) ≡ written lines
written_is rules bytes lines h plain =
    let s = spelled_all rules bytes lines h in
    ap joined (sym plain ∙ s.texts_are) ∙ joined-texts s.more ∙ ap written (sym s.lines_are)

-- what was read is what would be written, but for the last line feed, where no line says picoseconds of 0
pub written_again : (rules : Rules) (bytes : List ℕ) (lines : List Line) → scenario_of rules bytes ≡ Ok lines → map as_written (lines_of bytes) ≡ lines_of bytes
    → (bytes ≡ written lines) ⊎ (bytes ++ 10 ∷ [] ≡ written lines)
written_again rules bytes lines h plain =
    elim (joined-lines_of bytes) [
      | inl e ↦ inl (sym e ∙ written_is rules bytes lines h plain)
      | inr l ↦ inr (sym l.joined_is ∙ written_is rules bytes lines h plain)
    ]

-- what is written of a scenario is read as the same lines
pub reads_again : (rules : Rules) (bytes : List ℕ) (lines : List Line) → scenario_of rules bytes ≡ Ok lines → scenario_of rules (written lines) ≡ Ok lines
reads_again rules bytes lines h = read_written rules lines (all_read rules bytes lines h) (spelled_all rules bytes lines h).at_end

-- nothing is wrong with a line that is read
none_wrong : (rules : Rules) (before ls : List Line) → AllRead rules before ls → AllAllowed rules before ls
none_wrong rules before [] h = tt
none_wrong rules before (l ∷ ls) h =
    ((verdict_ok (fault_of rules before (line_text l)) (form_of (line_text l)) l h.0.again).0, none_wrong rules (before ++ l ∷ []) ls h.1)

-- nothing is wrong with any line of a valid text after those before it
pub all_allowed : (rules : Rules) (bytes : List ℕ) (lines : List Line) → scenario_of rules bytes ≡ Ok lines → AllAllowed rules [] lines
all_allowed rules bytes lines h = none_wrong rules [] lines (all_read rules bytes lines h)
