-- The lines of a valid text are a scenario.
use Rattle.std.proofs.Common.{◌≡◌, ◌==◌, ℕ, ◌+◌, ◌<◌, ◌≤◌, ◌^◌, ◌⊎◌, inl, inr, List, [], ◌∷◌, ◌++◌, Bool, true, false, cond, not, Option, Some, None, Result, Ok, Err, length, refl, sym, ◌∙◌, ap, subst, arith}
use Rattle.std.specs.Prelude.{nat_le}
use Rattle.std.specs.Ordering.{int_eq}
use Rattle.std.proofs.lemmas.Bool.Decides.{nat_tests}
use Rattle.std.proofs.lemmas.Bool.{and_parts}
use Rattle.std.proofs.lemmas.List.{append_assoc, append-nil, length-append}
use Rattle.ua_base.specs.declared.modes.SetMode.{SetMode}
use Rattle.set_model.specs.declared.source.Change.{Change}
use Rattle.set_model.specs.declared.source.SourceFault.{SourceFault}
use Rattle.set_model.specs.declared.source.SourceFault.TheVariants as source
use Rattle.set_model.specs.declared.stamp.Stamp.{Stamp}
use Rattle.set_model.specs.Stamp.{is_before}
use Rattle.set_model.specs.Source.{IsSource, refusal, refusal_after, last_of, stamp_of}
use Rattle.set_model.proofs.SourceLemmas.{allowed_after, source_more}
use Rattle.scenario.specs.declared.form.Form.{Form}
use Rattle.scenario.specs.declared.form.Form.TheVariants as form
use Rattle.scenario.specs.declared.line.Line.{Line}
use Rattle.scenario.specs.declared.line.Line.TheVariants as line
use Rattle.scenario.specs.declared.fault.FaultKind.{FaultKind}
use Rattle.scenario.specs.declared.fault.FaultKind.TheVariants as kind
use Rattle.scenario.specs.declared.fault.ScenarioFault.{ScenarioFault}
use Rattle.scenario.specs.declared.rules.Rules.{Rules}
use Rattle.scenario.specs.declared.shape.Shape.{Shape}
use Rattle.scenario.specs.declared.table.Name.{Name}
use Rattle.scenario.specs.declared.table.Name.TheVariants as name
use Rattle.scenario.specs.declared.table.Numbers.{Numbers}
use Rattle.scenario.specs.Table.{row_of, line_with, shape_of, first_of, second_of}
use Rattle.scenario.specs.Rules.{allows_rule, allows_set}
use Rattle.scenario.specs.Words.{lines_of}
use Rattle.scenario.specs.Past.{servers_of, items_of, servers_in, items_in, change_of, changes_in, ends, has_ended, starts, boot_of, listens, listens_in, attached_in}
use Rattle.scenario.specs.Faults.{is_within, is_between, fits_value, kind_of_refusal, change_fault, pico_of, the_change, line_of, line_or_fault}
use Rattle.scenario.specs.Scenario.{kind_at_end, go_on, valid_from, scenario_of}
use Rattle.scenario.specs.Valid.{IsFrom, AllSuit, ShapeFits, Fits, AllFit, IsScenario}
use Rattle.scenario.proofs.PastLemmas.{changes_in-more, servers_in-more, items_in-more, has_ended-more, boot_of-more, listens_in-more}
use Rattle.scenario.proofs.TableLemmas.{all_suit, false_true, shaped, within_range}
use Rattle.scenario.proofs.FaultLemmas.{Passes, taken, change_passed, few_listens, items_place, numbers_passed, placed_row, set_place, test_passed}

-- a line was taken after these, from some text
pub record Allowed (rules : Rules) (before : List Line) (l : Line) : Type 0 where
  pub text : List ℕ
  pub is : line_or_fault rules before text ≡ Ok l

-- lines of which each was taken after those before it, up to `end`
abbrev pub Follow : Rules → List Line → List Line → Type 0
Follow rules before [] = has_ended before ≡ true
Follow rules before (l ∷ ls) = Allowed rules before l × Follow rules (before ++ l ∷ []) ls

pub record Followed (rules : Rules) (before lines : List Line) : Type 0 where
  pub more : List Line
  pub lines_are : lines ≡ before ++ more
  pub follow : Follow rules before more

pub ended_ok : (b : Bool) (before lines : List Line) (fault : ScenarioFault) → has_ended before ≡ b → cond b (Ok before) (Err fault) ≡ Ok lines
    → (has_ended before ≡ true) × (before ≡ lines)
ended_ok true before lines fault e h = (e, cc)
ended_ok false before lines fault e h = absurd cc

pub go_on_ok : (before lines : List Line) (more : Line → Result (List Line) ScenarioFault) (j : Result Line FaultKind) → go_on before more j ≡ Ok lines
    → (l : Line) × (j ≡ Ok l) × (more l ≡ Ok lines)
go_on_ok before lines more (Ok l) h = (l, refl, h)
go_on_ok before lines more (Err k) h = absurd cc

pub followed : (rules : Rules) (before : List Line) (texts : List (List ℕ)) (lines : List Line) → valid_from rules before texts ≡ Ok lines → Followed rules before lines
followed rules before [] lines h =
    let e = ended_ok (has_ended before) before lines (record { line = length before + 1; kind = kind_at_end before }) refl h in
    record { more = []; lines_are = sym e.1 ∙ sym (append-nil before); follow = e.0 }
followed rules before (text ∷ texts) lines h =
    let g = go_on_ok before lines (λ l. valid_from rules (before ++ l ∷ []) texts) (line_or_fault rules before text) h in
    let f = followed rules (before ++ g.0 ∷ []) texts lines g.2 in
    record {
      more = g.0 ∷ f.more;
      lines_are = f.lines_are ∙ append_assoc before (g.0 ∷ []) f.more;
      follow = (record { text = text; is = g.1 }, f.follow);
    }

-- the length, the listens and the source along lines that follow
pub few_follow : (rules : Rules) (before more : List Line) → length before ≤ rules.lines → Follow rules before more → length (before ++ more) ≤ rules.lines
few_follow rules before [] few h = rw (append-nil before) few
few_follow rules before (l ∷ ls) few h =
    let t : length before < rules.lines = (taken rules before h.0.text l h.0.is).few in
    let e : length (before ++ l ∷ []) ≡ length before + 1 = length-append before (l ∷ []) in
    let P : List Line → Type 0 = λ all. length all ≤ rules.lines in
    subst P (append_assoc before (l ∷ []) ls) (few_follow rules (before ++ l ∷ []) ls (omega arith) h.1)

-- a listen that is taken finds a listener
listen_left : (rules : Rules) (before : List Line) (n : Name) (said : Numbers) → Passes rules before (form.Plain n said) → listens_in before ≤ rules.pool
    → listens_in before + cond (listens (line_with n (first_of said) (second_of said))) 1 0 ≤ rules.pool
listen_left rules before name.Listen said h few =
    let left : listens_in before < rules.pool = (few_listens rules.pool (listens_in before) (length (attached_in before)) (test_passed _ kind.NoListener _ h.listener)).0 in
    omega arith
listen_left rules before _ said h few = omega arith

listens_left : (rules : Rules) (before : List Line) (f : Form) → Passes rules before f → listens_in before ≤ rules.pool
    → listens_in before + cond (listens (line_of f)) 1 0 ≤ rules.pool
listens_left rules before (form.Plain n said) h few = listen_left rules before n said h few
listens_left rules before _ h few = omega arith

pub listens_follow : (rules : Rules) (before more : List Line) → listens_in before ≤ rules.pool → Follow rules before more → listens_in (before ++ more) ≤ rules.pool
listens_follow rules before [] few h = rw (append-nil before) few
listens_follow rules before (l ∷ ls) few h =
    let t = taken rules before h.0.text l h.0.is in
    let P : List Line → Type 0 = λ all. listens_in all ≤ rules.pool in
    let Q : Line → Type 0 = λ m. listens_in before + cond (listens m) 1 0 ≤ rules.pool in
    let left : listens_in before + cond (listens l) 1 0 ≤ rules.pool = subst Q t.line_is (listens_left rules before t.f t.passes few) in
    let e : listens_in (before ++ l ∷ []) ≡ listens_in before + cond (listens l) 1 0 = listens_in-more before l in
    subst P (append_assoc before (l ∷ []) ls) (listens_follow rules (before ++ l ∷ []) ls (omega arith) h.1)

start_left : (other server : ℕ) (before : List Line) (b : Bool) → (other == server) ≡ b → nat_le 65535 (boot_of other before) ≡ false
    → boot_of server before ≤ 65535 → boot_of server before + cond b 1 0 ≤ 65535
start_left other server before false is less few = omega arith
start_left other server before true is less few =
    let same : other ≡ server = grind (arith, nat_tests) in
    let boots : boot_of other before ≡ boot_of server before = ap (λ s. boot_of s before) same in
    let under : boot_of other before < 65535 = grind (arith, nat_tests) in
    omega arith

-- a start that is taken finds a boot number
boot_left : (rules : Rules) (server : ℕ) (before : List Line) (n : Name) (said : Numbers) → Passes rules before (form.Plain n said) → boot_of server before ≤ 65535
    → boot_of server before + cond (starts server (line_with n (first_of said) (second_of said))) 1 0 ≤ 65535
boot_left rules server before name.Start said h few = start_left (first_of said) server before _ refl h.boots few
boot_left rules server before _ said h few = omega arith

boots_left : (rules : Rules) (server : ℕ) (before : List Line) (f : Form) → Passes rules before f → boot_of server before ≤ 65535
    → boot_of server before + cond (starts server (line_of f)) 1 0 ≤ 65535
boots_left rules server before (form.Plain n said) h few = boot_left rules server before n said h few
boots_left rules server before _ h few = omega arith

pub boots_follow : (rules : Rules) (server : ℕ) (before more : List Line) → boot_of server before ≤ 65535 → Follow rules before more → boot_of server (before ++ more) ≤ 65535
boots_follow rules server before [] few h = rw (append-nil before) few
boots_follow rules server before (l ∷ ls) few h =
    let t = taken rules before h.0.text l h.0.is in
    let P : List Line → Type 0 = λ all. boot_of server all ≤ 65535 in
    let Q : Line → Type 0 = λ m. boot_of server before + cond (starts server m) 1 0 ≤ 65535 in
    let left : boot_of server before + cond (starts server l) 1 0 ≤ 65535 = subst Q t.line_is (boots_left rules server before t.f t.passes few) in
    let e : boot_of server (before ++ l ∷ []) ≡ boot_of server before + cond (starts server l) 1 0 = boot_of-more server before l in
    subst P (append_assoc before (l ∷ []) ls) (boots_follow rules server (before ++ l ∷ []) ls (omega arith) h.1)

-- a change of which the source has no fault is not refused
none_after : (late same : Bool) (last : Stamp) → kind_of_refusal (cond late (Some (source.TimeNotRising last)) (cond same (Some source.SameValue) None)) ≡ None
    → cond late (Some (source.TimeNotRising last)) (cond same (Some source.SameValue) None) ≡ None
none_after true same last h = absurd cc
none_after false true last h = absurd cc
none_after false false last h = refl

none_last : (last : Option Change) (change : Change) → kind_of_refusal (refusal_after last change) ≡ None → refusal_after last change ≡ None
none_last None change h = refl
none_last (Some last) change h = none_after (not (is_before (stamp_of last) (stamp_of change))) (int_eq change.value last.value) (stamp_of last) h

none_full : (full : Bool) (o : Option SourceFault) → (kind_of_refusal o ≡ None → o ≡ None) → kind_of_refusal (cond full (Some source.Full) o) ≡ None → cond full (Some source.Full) o ≡ None
none_full true o f h = absurd cc
none_full false o f h = f h

pub not_refused : (changes : List Change) (change : Change) → kind_of_refusal (refusal changes change) ≡ None → refusal changes change ≡ None
not_refused changes change h = none_full (nat_le 200000 (length changes)) (refusal_after (last_of change.item changes) change) (none_last (last_of change.item changes) change) h

-- a line of the table is no change
pub no_change : (n : Name) (first second : ℕ) → change_of (line_with n first second) ≡ []
no_change name.End first second = refl
no_change _ first second = refl

same_changes : (n : Name) (said : Numbers) (cs : List Change) → cs ++ change_of (line_with n (first_of said) (second_of said)) ≡ cs
same_changes n said cs = ap (λ more. cs ++ more) (no_change n (first_of said) (second_of said)) ∙ append-nil cs

same_source : (n : Name) (said : Numbers) (before : List Line) → IsSource (changes_in before) → IsSource (changes_in before ++ change_of (line_with n (first_of said) (second_of said)))
same_source n said before s =
    let P : List Change → Type 0 = λ cs. IsSource cs in subst P (sym (same_changes n said (changes_in before))) s

source_step : (rules : Rules) (before : List Line) (f : Form) → Passes rules before f → IsSource (changes_in before) → IsSource (changes_in before ++ change_of (line_of f))
source_step rules before (form.Change item time pico value) h s =
    source_more (changes_in before) (the_change item time pico value)
    (within_range 0 9999 (pico_of pico) (and_parts (is_within 1 (10 ^ 18) time) (is_within 0 9999 (pico_of pico)) (and_parts _ (fits_value value) h.range).0).1).1 s
    (allowed_after (changes_in before) (the_change item time pico value) (not_refused (changes_in before) (the_change item time pico value) (change_passed rules before (the_change item time pico value) h.source).1))
source_step rules before (form.Plain n said) h s = same_source n said before s
source_step rules before _ h s = rw (append-nil (changes_in before)) s

pub source_follow : (rules : Rules) (before more : List Line) → IsSource (changes_in before) → Follow rules before more → IsSource (changes_in (before ++ more))
source_follow rules before [] s h = rw (append-nil before) s
source_follow rules before (l ∷ ls) s h =
    let t = taken rules before h.0.text l h.0.is in
    let P : List Line → Type 0 = λ all. IsSource (changes_in all) in
    let Q : Line → Type 0 = λ m. IsSource (changes_in before ++ change_of m) in
    let R : List Change → Type 0 = λ all. IsSource all in
    let now : IsSource (changes_in (before ++ l ∷ [])) = subst R (sym (changes_in-more before l)) (subst Q t.line_is (source_step rules before t.f t.passes s)) in
    subst P (append_assoc before (l ∷ []) ls) (source_follow rules (before ++ l ∷ []) ls now h.1)

none_is_room : (full : Bool) (o : Option SourceFault) → cond full (Some source.Full) o ≡ None → full ≡ false
none_is_room true o h = absurd cc
none_is_room false o h = refl

-- a change that is not refused finds room
pub room_left : (changes : List Change) (change : Change) → refusal changes change ≡ None → length changes < 200000
room_left changes change h =
    let b : nat_le 200000 (length changes) ≡ false = none_is_room (nat_le 200000 (length changes)) (refusal_after (last_of change.item changes) change) h in
    grind (arith, nat_tests)

-- a change that is taken finds room below each limit
room_step : (rules : Rules) (most : ℕ) (before : List Line) (f : Form)
    → ((c : Change) → change_fault rules before c ≡ None → length (changes_in before) < most) → Passes rules before f → length (changes_in before) ≤ most
    → length (changes_in before ++ change_of (line_of f)) ≤ most
room_step rules most before (form.Change item time pico value) room h few =
    let left : length (changes_in before) < most = room (the_change item time pico value) h.source in
    omega (arith, length-append (changes_in before) (the_change item time pico value ∷ []))
room_step rules most before (form.Plain n said) room h few =
    let e : length (changes_in before ++ change_of (line_with n (first_of said) (second_of said))) ≡ length (changes_in before) = ap length (same_changes n said (changes_in before)) in
    omega arith
room_step rules most before _ room h few = rw (append-nil (changes_in before)) few

pub changes_follow : (rules : Rules) (most : ℕ) (before more : List Line) → ((past : List Line) (c : Change) → change_fault rules past c ≡ None → length (changes_in past) < most)
    → length (changes_in before) ≤ most → Follow rules before more → length (changes_in (before ++ more)) ≤ most
changes_follow rules most before [] room few h = rw (append-nil before) few
changes_follow rules most before (l ∷ ls) room few h =
    let t = taken rules before h.0.text l h.0.is in
    let P : List Line → Type 0 = λ all. length (changes_in all) ≤ most in
    let Q : Line → Type 0 = λ m. length (changes_in before ++ change_of m) ≤ most in
    let R : List Change → Type 0 = λ all. length all ≤ most in
    let now : length (changes_in (before ++ l ∷ [])) ≤ most = subst R (sym (changes_in-more before l)) (subst Q t.line_is (room_step rules most before t.f (room before) t.passes few)) in
    subst P (append_assoc before (l ∷ []) ls) (changes_follow rules most (before ++ l ∷ []) ls room now h.1)

-- a change with which nothing is wrong finds room in a source, and by the rules
room_in_source : (rules : Rules) (past : List Line) (c : Change) → change_fault rules past c ≡ None → length (changes_in past) < 200000
room_in_source rules past c h = room_left (changes_in past) c (not_refused (changes_in past) c (change_passed rules past c h).1)

room_by_rules : (rules : Rules) (past : List Line) (c : Change) → change_fault rules past c ≡ None → length (changes_in past) < rules.changes
room_by_rules rules past c h = (change_passed rules past c h).0

both : (b : Bool) → b ≡ true → b ≡ false → ⊥
both b p q = cc

-- what stands between the second line and the last
pub between_is : (before : List Line) → is_between before ≡ true → (2 ≤ length before) × (has_ended before ≡ false)
between_is before h =
    let parts = and_parts (nat_le 2 (length before)) (not (has_ended before)) h in
    let long : nat_le 2 (length before) ≡ true = parts.0 in
    (grind (arith, nat_tests), not_true (has_ended before) parts.1)
  where
    not_true : (b : Bool) → not b ≡ true → b ≡ false
    not_true false e = refl
    not_true true e = absurd cc

pub between : (rules : Rules) (before : List Line) (f : Form) → 2 ≤ length before → Passes rules before f → (2 ≤ length before) × (has_ended before ≡ false)
between rules before (form.Set mode servers) long h =
    let none : length before ≡ 0 = (set_place (length before) (allows_set rules.sets mode servers) h.place).0 in absurd (omega arith)
between rules before (form.Items items queue oldest) long h =
    let one : length before ≡ 1 = (items_place (length before) (allows_rule rules.allowed oldest) h.place).0 in absurd (omega arith)
between rules before (form.Change item time pico value) long h = between_is before h.place
between rules before (form.Plain n said) long h = between_is before (placed_row rules before (row_of n) said h.place).between

-- the lines after the second: those that fit, and `end`
record Body (servers items : ℕ) (rest : List Line) : Type 0 where
  body : List Line
  rest_is : rest ≡ body ++ line.End ∷ []
  fits : AllFit servers items body

-- lines of a set with so many servers and items, at least two, and not yet at the end
record Open (servers items : ℕ) (before : List Line) : Type 0 where
  long : 2 ≤ length before
  servers_are : servers_in before ≡ servers
  items_are : items_in before ≡ items
  open_still : has_ended before ≡ false

stays_open : (servers items : ℕ) (before : List Line) (l : Line) → Open servers items before → servers_of l ≡ 0 → items_of l ≡ 0 → ends l ≡ false → Open servers items (before ++ l ∷ [])
stays_open servers items before l o s i e = record {
  long = let k : length (before ++ l ∷ []) ≡ length before + 1 = length-append before (l ∷ []) in let m : 2 ≤ length before = o.long in omega arith;
  servers_are = servers_in-more before l s ∙ o.servers_are;
  items_are = items_in-more before l i ∙ o.items_are;
  open_still = has_ended-more before l ∙ ap (λ b. cond b true (has_ended before)) e ∙ o.open_still;
}

-- after `end` no line is taken
closed : (rules : Rules) (before ls : List Line) → 2 ≤ length before → has_ended before ≡ true → Follow rules before ls → ls ≡ []
closed rules before [] long e h = refl
closed rules before (l ∷ ls) long e h =
    let t = taken rules before h.0.text l h.0.is in
    absurd (both (has_ended before) e (between rules before t.f long t.passes).1)

-- one line that fits, or `end`
abbrev Next : ℕ → ℕ → List Line → Line → Type 0
Next servers items before l = (l ≡ line.End) ⊎ (Fits servers items l × Open servers items (before ++ l ∷ []))

wide : (a b n : ℕ) → a ≡ b → IsFrom 1 a n → IsFrom 1 b n
wide a b n e h = (h.0, omega arith)

-- a line of the table says nothing of how wide the set is, and is `end` or doesn't end
record IsQuiet (l : Line) : Type 0 where
  servers : servers_of l ≡ 0
  items : items_of l ≡ 0
  last : (l ≡ line.End) ⊎ (ends l ≡ false)

quiet : (n : Name) (first second : ℕ) → IsQuiet (line_with n first second)
quiet name.End first second = record { servers = refl; items = refl; last = inl refl }
quiet _ first second = record { servers = refl; items = refl; last = inr refl }

plain_next : (rules : Rules) (servers items : ℕ) (before : List Line) (n : Name) (said : Numbers) → Open servers items before → Passes rules before (form.Plain n said)
    → Next servers items before (line_with n (first_of said) (second_of said))
plain_next rules servers items before n said o p =
    let l : Line = line_with n (first_of said) (second_of said) in
    let q = quiet n (first_of said) (second_of said) in
    let passed = numbers_passed rules before n said p in
    let A : ℕ → ℕ → Type 0 = λ s i. AllSuit s i (row_of n).arguments said in
    let B : ℕ → Type 0 = λ i. A servers i in
    let C : ℕ → Type 0 = λ s. A s (items_in before) in
    let suit : A servers items = subst B o.items_are (subst C o.servers_are (all_suit (servers_in before) (items_in before) (row_of n).arguments said passed)) in
    let S : Shape → Type 0 = λ x. ShapeFits servers items x in
    let shape_fits : S (shape_of l) = subst S (sym (shaped n said passed.count)) suit in
    elim q.last [
      | inl e ↦ inl e
      | inr e ↦ inr ((e, shape_fits), stays_open servers items before l o q.servers q.items e)
    ]

next : (rules : Rules) (servers items : ℕ) (before : List Line) (f : Form) → Open servers items before → Passes rules before f → Next servers items before (line_of f)
next rules servers items before (form.Set mode count) o p =
    let none : length before ≡ 0 = (set_place (length before) (allows_set rules.sets mode count) p.place).0 in
    let long : 2 ≤ length before = o.long in absurd (omega arith)
next rules servers items before (form.Items count queue oldest) o p =
    let one : length before ≡ 1 = (items_place (length before) (allows_rule rules.allowed oldest) p.place).0 in
    let long : 2 ≤ length before = o.long in absurd (omega arith)
next rules servers items before (form.Change item time pico value) o p =
    inr ((refl, wide _ _ item o.items_are (within_range 1 (items_in before) item p.item)), stays_open servers items before (line.Change (the_change item time pico value)) o refl refl refl)
next rules servers items before (form.Plain n said) o p = plain_next rules servers items before n said o p

with_line : (servers items : ℕ) (l : Line) (ls : List Line) → Fits servers items l → Body servers items ls → Body servers items (l ∷ ls)
with_line servers items l ls fit b = record { body = l ∷ b.body; rest_is = ap (λ more. l ∷ more) b.rest_is; fits = (fit, b.fits) }

body_step : (rules : Rules) (servers items : ℕ) (before : List Line) (l : Line) (ls : List Line) → 2 ≤ length before → Next servers items before l → Follow rules (before ++ l ∷ []) ls
    → (Open servers items (before ++ l ∷ []) → Body servers items ls) → Body servers items (l ∷ ls)
body_step rules servers items before l ls long (inl last) h more =
    let e : length (before ++ l ∷ []) ≡ length before + 1 = length-append before (l ∷ []) in
    let over : has_ended (before ++ l ∷ []) ≡ true = has_ended-more before l ∙ ap (λ m. cond (ends m) true (has_ended before)) last in
    let none : ls ≡ [] = closed rules (before ++ l ∷ []) ls (omega arith) over h in
    record { body = []; rest_is = ap (λ rest. l ∷ rest) none ∙ ap (λ m. m ∷ []) last; fits = tt }
body_step rules servers items before l ls long (inr n) h more = with_line servers items l ls n.0 (more n.1)

body_of : (rules : Rules) (servers items : ℕ) (before rest : List Line) → Open servers items before → Follow rules before rest → Body servers items rest
body_of rules servers items before [] o h = absurd (both (has_ended before) h o.open_still)
body_of rules servers items before (l ∷ ls) o h =
    let t = taken rules before h.0.text l h.0.is in
    let P : Line → Type 0 = λ m. Next servers items before m in
    body_step rules servers items before l ls o.long (subst P t.line_is (next rules servers items before t.f o t.passes)) h.1
    (λ still. body_of rules servers items (before ++ l ∷ []) ls still h.1)

-- the first line, and the second
record First (rules : Rules) (l : Line) : Type 0 where
  mode : SetMode
  servers : ℕ
  is : l ≡ line.Set mode servers
  allowed : allows_set rules.sets mode servers ≡ true
  fits : IsFrom 1 8 servers

record Second (rules : Rules) (l : Line) : Type 0 where
  items : ℕ
  queue : ℕ
  oldest : Bool
  is : l ≡ line.Items items queue oldest
  allowed : allows_rule rules.allowed oldest ≡ true
  items_fit : IsFrom 1 64 items
  queue_fits : IsFrom 2 1000 queue

-- a line of the table stands after the second
late : (rules : Rules) (before : List Line) (n : Name) (said : Numbers) → length before ≤ 1 → Passes rules before (form.Plain n said) → ⊥
late rules before n said few p =
    let long : 2 ≤ length before = (between_is before (placed_row rules before (row_of n) said p.place).between).0 in
    too_late (length before) few long
  where
    too_late : (m : ℕ) → m ≤ 1 → 2 ≤ m → ⊥
    too_late m a b = omega arith

first_form : (rules : Rules) (f : Form) → Passes rules [] f → First rules (line_of f)
first_form rules (form.Set mode servers) p = record {
  mode = mode;
  servers = servers;
  is = refl;
  allowed = (set_place 0 (allows_set rules.sets mode servers) p.place).1;
  fits = within_range 1 8 servers p.range;
}
first_form rules (form.Items items queue oldest) p = absurd (false_true p.place)
first_form rules (form.Change item time pico value) p = absurd (false_true p.place)
first_form rules (form.Plain n said) p = absurd (late rules [] n said (omega arith) p)

second_form : (rules : Rules) (first : Line) (f : Form) → Passes rules (first ∷ []) f → Second rules (line_of f)
second_form rules first (form.Items items queue oldest) p =
    let parts = and_parts (is_within 1 64 items) (is_within 2 1000 queue) p.range in
    record { items = items; queue = queue; oldest = oldest; is = refl; allowed = p.place; items_fit = within_range 1 64 items parts.0; queue_fits = within_range 2 1000 queue parts.1 }
second_form rules first (form.Set mode servers) p = absurd (false_true p.place)
second_form rules first (form.Change item time pico value) p = absurd (false_true p.place)
second_form rules first (form.Plain n said) p = absurd (late rules (first ∷ []) n said (omega arith) p)

first_of_all : (rules : Rules) (l : Line) → Allowed rules [] l → First rules l
first_of_all rules l h =
    let t = taken rules [] h.text l h.is in
    let P : Line → Type 0 = λ m. First rules m in
    subst P t.line_is (first_form rules t.f t.passes)

second_of_all : (rules : Rules) (first l : Line) → Allowed rules (first ∷ []) l → Second rules l
second_of_all rules first l h =
    let t = taken rules (first ∷ []) h.text l h.is in
    let P : Line → Type 0 = λ m. Second rules m in
    subst P t.line_is (second_form rules first t.f t.passes)

open_set : (mode : SetMode) (servers items queue : ℕ) (oldest : Bool) (l m : Line) → l ≡ line.Set mode servers → m ≡ line.Items items queue oldest → Open servers items (l ∷ (m ∷ []))
open_set mode servers items queue oldest l m e f =
    let P : Line → Type 0 = λ x. Open servers items (x ∷ (m ∷ [])) in
    let Q : Line → Type 0 = λ x. Open servers items (line.Set mode servers ∷ (x ∷ [])) in
    subst P (sym e) (subst Q (sym f) (record { long = omega arith; servers_are = refl; items_are = refl; open_still = refl }))

no_end : (rules : Rules) (l : Line) → First rules l → has_ended (l ∷ []) ≡ true → ⊥
no_end rules l f h =
    let P : Line → Type 0 = λ x. has_ended (x ∷ []) ≡ true in
    false_true (subst P f.is h)

-- what holds of all lines that follow one another from the first on
record IsKept (rules : Rules) (lines : List Line) : Type 0 where
  source : IsSource (changes_in lines)
  few_changes : length (changes_in lines) ≤ 200000
  changes_allowed : length (changes_in lines) ≤ rules.changes
  few_lines : length lines ≤ rules.lines
  few_listens : listens_in lines ≤ rules.pool
  few_boots : (server : ℕ) → boot_of server lines ≤ 65535

kept : (rules : Rules) (lines : List Line) → Follow rules [] lines → IsKept rules lines
kept rules lines h = record {
  source = source_follow rules [] lines (record { rises = λ _. tt; picos = tt }) h;
  few_changes = changes_follow rules 200000 [] lines (room_in_source rules) (omega arith) h;
  changes_allowed = changes_follow rules rules.changes [] lines (room_by_rules rules) (omega arith) h;
  few_lines = few_follow rules [] lines (omega arith) h;
  few_listens = listens_follow rules [] lines (omega arith) h;
  few_boots = λ server. boots_follow rules server [] lines (omega arith) h;
}

-- lines that follow one another from the first on are a scenario
scenario_from : (rules : Rules) (lines : List Line) → Follow rules [] lines → IsKept rules lines → IsScenario rules lines
scenario_from rules [] h k = absurd (false_true h)
scenario_from rules (l ∷ []) h k = absurd (no_end rules l (first_of_all rules l h.0) h.1)
scenario_from rules (l ∷ (m ∷ rest)) h k =
    let a = first_of_all rules l h.0 in
    let b = second_of_all rules l m h.1.0 in
    let c = body_of rules a.servers b.items (l ∷ (m ∷ [])) rest (open_set a.mode a.servers b.items b.queue b.oldest l m a.is b.is) h.1.1 in
    record {
      mode = a.mode;
      servers = a.servers;
      items = b.items;
      queue = b.queue;
      oldest = b.oldest;
      body = c.body;
      lines_are = ap (λ x. x ∷ (m ∷ rest)) a.is ∙ ap (λ x. line.Set a.mode a.servers ∷ (x ∷ rest)) b.is
          ∙ ap (λ x. line.Set a.mode a.servers ∷ (line.Items b.items b.queue b.oldest ∷ x)) c.rest_is;
      set_allowed = a.allowed;
      rule_allowed = b.allowed;
      servers_fit = a.fits;
      items_fit = b.items_fit;
      queue_fits = b.queue_fits;
      body_fits = c.fits;
      source = k.source;
      few_changes = k.few_changes;
      changes_allowed = k.changes_allowed;
      few_lines = k.few_lines;
      few_listens = k.few_listens;
      few_boots = k.few_boots;
    }

pub valid_lines : (rules : Rules) (bytes : List ℕ) (lines : List Line) → scenario_of rules bytes ≡ Ok lines → IsScenario rules lines
valid_lines rules bytes lines h =
    let f = followed rules [] (lines_of bytes) lines h in
    let P : List Line → Type 0 = λ all. IsScenario rules all in
    subst P (sym f.lines_are) (scenario_from rules f.more f.follow (kept rules f.more f.follow))
