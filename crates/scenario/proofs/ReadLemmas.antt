-- What is spelled of a form with which nothing is wrong is read as its line, and lines so spelled are read as these lines.
use Rattle.std.proofs.Common.{◌≡◌, ◌==◌, ℕ, ◌+◌, ◌<◌, ◌≤◌, List, [], ◌∷◌, ◌++◌, Bool, true, false, cond, not, Option, Some, None, Ok, Err, length, refl, sym, ◌∙◌, ap, subst, arith}
use Rattle.std.specs.Prelude.{codes, map, nat_le}
use Rattle.std.specs.Str.{bytes_eq}
use Rattle.std.proofs.lemmas.Bool.Decides.{nat_tests}
use Rattle.std.proofs.lemmas.List.{append_assoc, append-nil}
use Rattle.scenario.specs.declared.form.Form.{Form}
use Rattle.scenario.specs.declared.form.Form.TheVariants as form
use Rattle.scenario.specs.declared.line.Line.{Line}
use Rattle.scenario.specs.declared.rules.Rules.{Rules}
use Rattle.scenario.specs.Table.{row_of}
use Rattle.scenario.specs.Rules.{allows_rule, allows_set}
use Rattle.scenario.specs.Texts.{line_text, written}
use Rattle.scenario.specs.Words.{with_first, lines_of, words_of}
use Rattle.scenario.specs.Grammar.{form_text, written_pico, written_form}
use Rattle.scenario.specs.Past.{has_ended}
use Rattle.scenario.specs.Faults.{first_is, misses_set, is_in_place, pico_of, form_fault, fault_with, line_of, verdict, line_or_fault}
use Rattle.scenario.specs.declared.fault.ScenarioFault.{ScenarioFault}
use Rattle.scenario.specs.Scenario.{kind_at_end, ended, go_on, valid_from, scenario_of}
use Rattle.scenario.proofs.CapLemmas.{placed_late}
use Rattle.scenario.proofs.FaultLemmas.{passes, items_place, placed_row, set_place}
use Rattle.scenario.proofs.ValidLemmas.{between_is}
use Rattle.scenario.proofs.GrammarLemmas.{words_of-form_text, NoFeed, form_no_feed, form_of-form_text}

is_first : (n : ℕ) → n ≡ 0 → (n == 0) ≡ true
is_first n h = grind (arith, nat_tests)

is_second : (n : ℕ) → n ≡ 1 → ((n == 0) ≡ false) × ((n == 1) ≡ true)
is_second n h = (grind (arith, nat_tests), grind (arith, nat_tests))

is_later : (n : ℕ) → 2 ≤ n → ((n == 0) ≡ false) × ((n == 1) ≡ false)
is_later n h = (grind (arith, nat_tests), grind (arith, nat_tests))

-- a line at the third place or later is no first line
later_none : (n : ℕ) (words : List (List ℕ)) → 2 ≤ n → misses_set n words ≡ false
later_none n words long =
    ap (λ b. cond b (not (first_is words (codes "set"))) (cond (n == 1) (not (first_is words (codes "items"))) false)) (is_later n long).0
    ∙ ap (λ b. cond b (not (first_is words (codes "items"))) false) (is_later n long).1

-- a form at its place has its first word
misses_none : (rules : Rules) (before : List Line) (f : Form) → is_in_place rules before f ≡ true → misses_set (length before) (words_of (form_text f)) ≡ false
misses_none rules before (form.Set mode servers) h =
    let first = is_first (length before) (set_place (length before) (allows_set rules.sets mode servers) h).0 in
    ap (misses_set (length before)) (words_of-form_text (form.Set mode servers))
    ∙ ap (λ b. cond b false (cond (length before == 1) (not (bytes_eq (codes "set") (codes "items"))) false)) first
misses_none rules before (form.Items items queue oldest) h =
    let second = is_second (length before) (items_place (length before) (allows_rule rules.allowed oldest) h).0 in
    ap (misses_set (length before)) (words_of-form_text (form.Items items queue oldest))
    ∙ ap (λ b. cond b (not (bytes_eq (codes "items") (codes "set"))) (cond (length before == 1) false false)) second.0
    ∙ ap (λ b. cond b false false) second.1
misses_none rules before (form.Change item time pico value) h = later_none (length before) (words_of (form_text (form.Change item time pico value))) (between_is before h).0
misses_none rules before (form.Plain n said) h = later_none (length before) (words_of (form_text (form.Plain n said))) (between_is before (placed_row rules before (row_of n) said h).between).0

-- a form with which nothing is wrong is read from its spelling
pub form_read_again : (rules : Rules) (before : List Line) (f : Form) → length before < rules.lines → form_fault rules before f ≡ None → line_or_fault rules before (form_text f) ≡ Ok (line_of f)
form_read_again rules before f few h =
    let late : nat_le rules.lines (length before) ≡ false = grind (arith, nat_tests) in
    ap (λ o. verdict (fault_with rules before (form_text f) o) o) (form_of-form_text f)
    ∙ sym (placed_late (misses_set (length before) (words_of (form_text f))) (nat_le rules.lines (length before)) (form_fault rules before f) (Some f)
    (misses_none rules before f (passes rules before f h).place) late)
    ∙ ap (λ o. verdict o (Some f)) h

-- picoseconds of 0 are picoseconds that are not said
zero_case : (pico : ℕ) (b : Bool) → (pico == 0) ≡ b → pico_of (cond b None (Some pico)) ≡ pico
zero_case pico true e = grind (arith, nat_tests)
zero_case pico false e = refl

pico_of-written : (pico : Option ℕ) → pico_of (written_pico pico) ≡ pico_of pico
pico_of-written None = refl
pico_of-written (Some pico) = zero_case pico (pico == 0) refl

pub line_of-written : (f : Form) → line_of (written_form f) ≡ line_of f
line_of-written (form.Change item time pico value) = ap (λ p. line_of (form.Change item time (Some p) value)) (pico_of-written pico)
line_of-written (form.Set mode servers) = refl
line_of-written (form.Items items queue oldest) = refl
line_of-written (form.Plain n said) = refl

pub fault-written : (rules : Rules) (before : List Line) (f : Form) → form_fault rules before (written_form f) ≡ form_fault rules before f
fault-written rules before (form.Change item time pico value) = ap (λ p. form_fault rules before (form.Change item time (Some p) value)) (pico_of-written pico)
fault-written rules before (form.Set mode servers) = refl
fault-written rules before (form.Items items queue oldest) = refl
fault-written rules before (form.Plain n said) = refl

-- a line is read from its own text
pub record IsRead (rules : Rules) (before : List Line) (l : Line) : Type 0 where
  pub again : line_or_fault rules before (line_text l) ≡ Ok l
  pub one_line : NoFeed (line_text l)

-- a line whose text is its form's spelling
pub read_by_form : (rules : Rules) (before : List Line) (f : Form) (l : Line) → length before < rules.lines → form_fault rules before f ≡ None → line_of f ≡ l
    → line_text l ≡ form_text f → IsRead rules before l
read_by_form rules before f l few h is text =
    let P : List ℕ → Type 0 = NoFeed in
    record { again = ap (line_or_fault rules before) text ∙ form_read_again rules before f few h ∙ ap Ok is; one_line = subst P (sym text) (form_no_feed f) }

abbrev pub AllRead : Rules → List Line → List Line → Type 0
AllRead rules before [] = Unit {0}
AllRead rules before (l ∷ ls) = IsRead rules before l × AllRead rules (before ++ l ∷ []) ls

line_kept : (b : ℕ) (rest w : List ℕ) (ws : List (List ℕ)) → (b == 10) ≡ false → lines_of rest ≡ w ∷ ws → lines_of (b ∷ rest) ≡ (b ∷ w) ∷ ws
line_kept b rest w ws e h = ap (λ s. cond s ([] ∷ lines_of rest) (with_first b (lines_of rest))) e ∙ ap (with_first b) h

line_before : (w t : List ℕ) → NoFeed w → lines_of (w ++ 10 ∷ t) ≡ w ∷ lines_of t
line_before [] t h = refl
line_before (b ∷ rest) t h = line_kept b (rest ++ 10 ∷ t) rest (lines_of t) h.0 (line_before rest t h.1)

-- the lines of what is written are the lines' texts
pub lines_of-written : (rules : Rules) (before ls : List Line) → AllRead rules before ls → lines_of (written ls) ≡ map line_text ls
lines_of-written rules before [] h = refl
lines_of-written rules before (l ∷ ls) h =
    ap lines_of (append_assoc (line_text l) (10 ∷ []) (written ls)) ∙ line_before (line_text l) (written ls) h.0.one_line
    ∙ ap (λ rest. line_text l ∷ rest) (lines_of-written rules (before ++ l ∷ []) ls h.1)

valid_read : (rules : Rules) (before ls : List Line) → AllRead rules before ls → valid_from rules before (map line_text ls) ≡ ended (before ++ ls)
valid_read rules before [] h = ap ended (sym (append-nil before))
valid_read rules before (l ∷ ls) h =
    ap (go_on before (λ m. valid_from rules (before ++ m ∷ []) (map line_text ls))) h.0.again
    ∙ valid_read rules (before ++ l ∷ []) ls h.1 ∙ ap ended (append_assoc before (l ∷ []) ls)

ended_yes : (lines : List Line) → has_ended lines ≡ true → ended lines ≡ Ok lines
ended_yes lines e =
    let fault : ScenarioFault = record { line = length lines + 1; kind = kind_at_end lines } in
    ap (λ b. cond b (Ok lines) (Err fault)) e

-- lines of which each is read from its own text, up to `end`, are read from what is written of them
pub read_written : (rules : Rules) (lines : List Line) → AllRead rules [] lines → has_ended lines ≡ true → scenario_of rules (written lines) ≡ Ok lines
read_written rules lines h e =
    ap (valid_from rules []) (lines_of-written rules [] lines h) ∙ valid_read rules [] lines h ∙ ended_yes lines e
