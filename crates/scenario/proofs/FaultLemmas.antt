-- A line that is taken passed each test.
use Rattle.std.proofs.Common.{◌≡◌, ◌==◌, ℕ, ◌<◌, List, Bool, true, false, cond, not, Option, Some, None, Ok, length, refl, sym, ◌∙◌, ap, subst, arith}
use Rattle.std.specs.Prelude.{nat_le, ◌||◌, ◌&&◌}
use Rattle.std.proofs.lemmas.Bool.Decides.{nat_tests}
use Rattle.std.proofs.lemmas.Bool.{and_parts}
use Rattle.set_model.specs.declared.source.SourceFault.{SourceFault}
use Rattle.set_model.specs.declared.source.SourceFault.TheVariants.{Full}
use Rattle.set_model.specs.Source.{last_of, refusal, refusal_after}
use Rattle.scenario.specs.declared.form.Form.{Form}
use Rattle.scenario.specs.declared.form.Form.TheVariants as form
use Rattle.scenario.specs.declared.line.Line.{Line}
use Rattle.scenario.specs.declared.fault.FaultKind.{FaultKind}
use Rattle.scenario.specs.declared.fault.FaultKind.TheVariants as kind
use Rattle.scenario.specs.declared.rules.Rules.{Rules}
use Rattle.scenario.specs.declared.table.Name.{Name}
use Rattle.scenario.specs.declared.table.Name.TheVariants as name
use Rattle.scenario.specs.declared.table.Numbers.{Numbers}
use Rattle.scenario.specs.declared.table.Row.{Row}
use Rattle.set_model.specs.declared.source.Change.{Change}
use Rattle.scenario.specs.Table.{row_of, line_with, first_of, second_of, counts}
use Rattle.scenario.specs.Rules.{allows, allows_rule, allows_set}
use Rattle.scenario.specs.Words.{words_of}
use Rattle.scenario.specs.Grammar.{form_of}
use Rattle.scenario.specs.Past.{is_direct_in, servers_in, items_in, changes_in, boot_of, listens_in, attached_in}
use Rattle.scenario.specs.Faults.{misses_set, is_in_place, is_between, is_plain, fits_mode, is_within, is_in_range, has_its_server, has_its_item, needs_running, starts_running, starts_too_often, the_change, kind_of_refusal, change_fault, source_fault, listener_fault, or_fault, form_fault, any_form_fault, fault_of, line_of, verdict, line_or_fault}
use Rattle.scenario.specs.Reading.{MayFollow}
use Rattle.scenario.proofs.TableLemmas.{AllPassed, within_range, names_server}

pub passed : (b : Bool) (k : FaultKind) (r : Option FaultKind) → cond b (Some k) r ≡ None → (b ≡ false) × (r ≡ None)
passed true k r h = absurd cc
passed false k r h = (refl, h)

pub passed_not : (b : Bool) (k : FaultKind) (r : Option FaultKind) → cond (not b) (Some k) r ≡ None → (b ≡ true) × (r ≡ None)
passed_not true k r h = (refl, h)
passed_not false k r h = absurd cc

or_none : (o p : Option FaultKind) → or_fault o p ≡ None → (o ≡ None) × (p ≡ None)
or_none None p h = (refl, h)
or_none (Some k) p h = absurd cc

-- a form passed each test of the order
pub record Passes (rules : Rules) (before : List Line) (f : Form) : Type 0 where
  pub place : is_in_place rules before f ≡ true
  pub range : is_in_range f ≡ true
  pub server : has_its_server before f ≡ true
  pub item : has_its_item before f ≡ true
  pub running : needs_running before f ≡ false
  pub stopped : starts_running before f ≡ false
  pub boots : starts_too_often before f ≡ false
  pub source : source_fault rules before f ≡ None
  pub listener : listener_fault rules before f ≡ None

record Tests (p r s i n a t : Bool) (src lis : Option FaultKind) : Type 0 where
  place : p ≡ true
  range : r ≡ true
  server : s ≡ true
  item : i ≡ true
  running : n ≡ false
  stopped : a ≡ false
  boots : t ≡ false
  source : src ≡ None
  listener : lis ≡ None

tests : (p r s i n a t : Bool) (src lis : Option FaultKind)
    → cond (not p) (Some kind.BadLine) (cond (not r) (Some kind.OutOfRange) (cond (not s) (Some kind.NoSuchServer)
    (cond (not i) (Some kind.NoSuchItem) (cond n (Some kind.NotRunning) (cond a (Some kind.AlreadyRunning) (cond t (Some kind.TooManyStarts) (or_fault src lis))))))) ≡ None
    → Tests p r s i n a t src lis
tests p r s i n a t src lis h =
    let h1 = passed_not p _ (cond (not r) (Some kind.OutOfRange) (cond (not s) (Some kind.NoSuchServer)
    (cond (not i) (Some kind.NoSuchItem) (cond n (Some kind.NotRunning) (cond a (Some kind.AlreadyRunning) (cond t (Some kind.TooManyStarts) (or_fault src lis))))))) h in
    let h2 = passed_not r _ (cond (not s) (Some kind.NoSuchServer)
    (cond (not i) (Some kind.NoSuchItem) (cond n (Some kind.NotRunning) (cond a (Some kind.AlreadyRunning) (cond t (Some kind.TooManyStarts) (or_fault src lis)))))) h1.1 in
    let h4 = passed_not s _ (cond (not i) (Some kind.NoSuchItem) (cond n (Some kind.NotRunning) (cond a (Some kind.AlreadyRunning) (cond t (Some kind.TooManyStarts) (or_fault src lis))))) h2.1 in
    let h5 = passed_not i _ (cond n (Some kind.NotRunning) (cond a (Some kind.AlreadyRunning) (cond t (Some kind.TooManyStarts) (or_fault src lis)))) h4.1 in
    let h6 = passed n _ (cond a (Some kind.AlreadyRunning) (cond t (Some kind.TooManyStarts) (or_fault src lis))) h5.1 in
    let h7 = passed a _ (cond t (Some kind.TooManyStarts) (or_fault src lis)) h6.1 in
    let h8 = passed t _ (or_fault src lis) h7.1 in
    let h9 = or_none src lis h8.1 in
    record { place = h1.0; range = h2.0; server = h4.0; item = h5.0; running = h6.0; stopped = h7.0; boots = h8.0; source = h9.0; listener = h9.1 }

pub passes : (rules : Rules) (before : List Line) (f : Form) → form_fault rules before f ≡ None → Passes rules before f
passes rules before f h =
    let all = tests (is_in_place rules before f) (is_in_range f) (has_its_server before f) (has_its_item before f) (needs_running before f)
    (starts_running before f) (starts_too_often before f) (source_fault rules before f) (listener_fault rules before f) h in
    record { place = all.place; range = all.range; server = all.server; item = all.item; running = all.running; stopped = all.stopped; boots = all.boots; source = all.source; listener = all.listener }

pub verdict_ok : (o : Option FaultKind) (g : Option Form) (l : Line) → verdict o g ≡ Ok l → (o ≡ None) × (f : Form) × (g ≡ Some f) × (line_of f ≡ l)
verdict_ok (Some k) g l h = absurd cc
verdict_ok None None l h = absurd cc
verdict_ok None (Some f) l h = (refl, f, refl, cc)

-- what stands behind a line that was taken
pub record Taken (rules : Rules) (before : List Line) (text : List ℕ) (l : Line) : Type 0 where
  pub f : Form
  pub is : form_of text ≡ Some f
  pub line_is : line_of f ≡ l
  pub few : length before < rules.lines
  pub sound : form_fault rules before f ≡ None
  pub passes : Passes rules before f

pub taken : (rules : Rules) (before : List Line) (text : List ℕ) (l : Line) → line_or_fault rules before text ≡ Ok l → Taken rules before text l
taken rules before text l h =
    let v = verdict_ok (fault_of rules before text) (form_of text) l h in
    let a = passed (misses_set (length before) (words_of text)) kind.MissingSet
    (cond (nat_le rules.lines (length before)) (Some kind.TooLong) (any_form_fault rules before (form_of text))) v.0 in
    let b = passed (nat_le rules.lines (length before)) kind.TooLong (any_form_fault rules before (form_of text)) a.1 in
    let few : nat_le rules.lines (length before) ≡ false = b.0 in
    let none : form_fault rules before v.1 ≡ None = sym (ap (any_form_fault rules before) v.2) ∙ b.1 in
    record { f = v.1; is = v.2; line_is = v.3; few = grind (arith, nat_tests); sound = none; passes = passes rules before v.1 none }

-- a form at its place
pub set_place : (n : ℕ) (b : Bool) → ((n == 0) && b) ≡ true → (n ≡ 0) × (b ≡ true)
set_place n b h =
    let parts = and_parts (n == 0) b h in
    (is_zero n parts.0, parts.1)
  where
    is_zero : (m : ℕ) → (m == 0) ≡ true → m ≡ 0
    is_zero m e = grind (arith, nat_tests)

pub items_place : (n : ℕ) (b : Bool) → ((n == 1) && b) ≡ true → (n ≡ 1) × (b ≡ true)
items_place n b h =
    let parts = and_parts (n == 1) b h in
    (is_one n parts.0, parts.1)
  where
    is_one : (m : ℕ) → (m == 1) ≡ true → m ≡ 1
    is_one m e = grind (arith, nat_tests)

-- a form of the table at its place
pub record Placed (rules : Rules) (before : List Line) (row : Row) (said : Numbers) : Type 0 where
  pub between : is_between before ≡ true
  pub allowed : allows rules.allowed row.group ≡ true
  pub of_mode : fits_mode row.modes (is_direct_in before) ≡ true
  pub count : counts row.arguments said ≡ true

pub placed_row : (rules : Rules) (before : List Line) (row : Row) (said : Numbers) → (is_between before && is_plain rules before row said) ≡ true → Placed rules before row said
placed_row rules before row said h =
    let a = and_parts (is_between before) (is_plain rules before row said) h in
    let b = and_parts (allows rules.allowed row.group && fits_mode row.modes (is_direct_in before)) (counts row.arguments said) a.1 in
    let c = and_parts (allows rules.allowed row.group) (fits_mode row.modes (is_direct_in before)) b.0 in
    record { between = a.0; allowed = c.0; of_mode = c.1; count = b.1 }

-- the numbers of a form of the table that passed each test
pub numbers_passed : (rules : Rules) (before : List Line) (n : Name) (said : Numbers) → Passes rules before (form.Plain n said)
    → AllPassed (servers_in before) (items_in before) (row_of n).arguments said
numbers_passed rules before n said h =
    record { count = (placed_row rules before (row_of n) said h.place).count; range = h.range; server = h.server; item = h.item }

pub under : (low n : ℕ) → nat_le low n ≡ false → n < low
under low n h = grind (arith, nat_tests)

pub few_listens : (pool n m : ℕ) → (nat_le pool n || nat_le 16 m || nat_le 255 n) ≡ false → (n < pool) × (n < 255) × (m < 16)
few_listens pool n m h = (grind (arith, nat_tests), grind (arith, nat_tests), grind (arith, nat_tests))

pub test_passed : (b : Bool) (k : FaultKind) (o : Option FaultKind) → cond b (Some k) o ≡ None → b ≡ false
test_passed true k o h = absurd cc
test_passed false k o h = refl

-- a source that is full refuses each change
not_full : (full : Bool) (n : ℕ) (r : Option SourceFault) → nat_le 200000 n ≡ full → kind_of_refusal (cond full (Some Full) r) ≡ None → n < 200000
not_full true n r is h = absurd cc
not_full false n r is h = grind (arith, nat_tests)

-- a change with which nothing is wrong: the rules allow one more, and the source doesn't refuse it
pub change_passed : (rules : Rules) (before : List Line) (c : Change) → change_fault rules before c ≡ None
    → (length (changes_in before) < rules.changes) × (kind_of_refusal (refusal (changes_in before) c) ≡ None)
change_passed rules before c h =
    let p = passed (nat_le rules.changes (length (changes_in before))) kind.TooMany (kind_of_refusal (refusal (changes_in before) c)) h in
    (under rules.changes (length (changes_in before)) p.0, p.1)

may_plain : (rules : Rules) (before : List Line) (n : Name) (said : Numbers) → Passes rules before (form.Plain n said) → counts (row_of n).arguments said ≡ true
    → MayFollow before (line_with n (first_of said) (second_of said))
may_plain rules before name.Stop said h c =
    within_range 1 (servers_in before) (first_of said) (names_server before name.Stop said c h.server)
may_plain rules before name.Start said h c =
    let w = within_range 1 (servers_in before) (first_of said) (names_server before name.Start said c h.server) in
    (w.0, w.1, under 65535 (boot_of (first_of said) before) h.boots)
may_plain rules before name.Listen said h c =
    (few_listens rules.pool (listens_in before) (length (attached_in before)) (test_passed _ kind.NoListener _ h.listener)).1
may_plain rules before _ said h c = tt

pub may : (rules : Rules) (before : List Line) (f : Form) → Passes rules before f → MayFollow before (line_of f)
may rules before (form.Set mode servers) h = ((set_place _ (allows_set rules.sets mode servers) h.place).0, (within_range 1 8 servers h.range).1)
may rules before (form.Items items queue oldest) h =
    ((items_place _ (allows_rule rules.allowed oldest) h.place).0, (within_range 1 64 items (and_parts (is_within 1 64 items) (is_within 2 1000 queue) h.range).0).1)
may rules before (form.Change item time pico value) h =
    not_full _ (length (changes_in before)) (refusal_after (last_of item (changes_in before)) (the_change item time pico value)) refl
    (change_passed rules before (the_change item time pico value) h.source).1
may rules before (form.Plain n said) h = may_plain rules before n said h (placed_row rules before (row_of n) said h.place).count

-- a line that is taken may follow
pub may_follow : (rules : Rules) (before : List Line) (text : List ℕ) (l : Line) → line_or_fault rules before text ≡ Ok l → MayFollow before l
may_follow rules before text l h =
    let t = taken rules before text l h in
    let P : Line → Type 0 = λ m. MayFollow before m in
    subst P t.line_is (may rules before t.f t.passes)
