-- Lines of which each may stand after those before it are read from what is written of them, and no others are read.
use Rattle.std.proofs.Common.{◌≡◌, ◌==◌, ℕ, ◌+◌, ◌<◌, ◌≤◌, ◌^◌, ◌≢◌, ℤ, pos, List, [], ◌∷◌, ◌++◌, Bool, true, false, cond, not, Option, Some, None, Ok, length, refl, sym, ◌∙◌, ap, subst, arith}
use Rattle.std.specs.Prelude.{nat_le, ◌||◌, ◌&&◌}
use Rattle.std.specs.Ordering.{int_eq}
use Rattle.std.proofs.lemmas.Bool.Decides.{nat_tests, Decides-int_eq}
use Rattle.std.proofs.lemmas.Bool.{and_parts}
use Rattle.std.proofs.lemmas.List.{append_assoc, length-append}
use Rattle.set_model.specs.declared.source.Change.{Change}
use Rattle.set_model.specs.declared.source.SourceFault.{SourceFault}
use Rattle.set_model.specs.declared.source.SourceFault.TheVariants as source
use Rattle.set_model.specs.Stamp.{is_before}
use Rattle.set_model.specs.Source.{Follows, last_of, refusal, refusal_after, stamp_of}
use Rattle.set_model.proofs.SourceLemmas.{allowed_after, follows_last}
use Rattle.scenario.specs.declared.form.Form.{Form}
use Rattle.scenario.specs.declared.form.Form.TheVariants as form
use Rattle.scenario.specs.declared.line.Line.{Line}
use Rattle.scenario.specs.declared.line.Line.TheVariants as line
use Rattle.scenario.specs.declared.fault.FaultKind.{FaultKind}
use Rattle.scenario.specs.declared.fault.FaultKind.TheVariants as kind
use Rattle.scenario.specs.declared.rules.Rules.{Rules}
use Rattle.scenario.specs.declared.shape.Shape.{Shape}
use Rattle.scenario.specs.declared.shape.Shape.TheVariants as shape
use Rattle.scenario.specs.declared.table.Name.{Name}
use Rattle.scenario.specs.declared.table.Need.{Need}
use Rattle.scenario.specs.declared.table.Need.TheVariants as need
use Rattle.scenario.specs.declared.table.Numbers.{Numbers}
use Rattle.scenario.specs.Table.{row_of, shape_of, first_of}
use Rattle.scenario.specs.Rules.{allows_rule, allows_set}
use Rattle.scenario.specs.Texts.{line_text, written}
use Rattle.scenario.specs.Grammar.{written_form}
use Rattle.scenario.specs.Past.{servers_of, items_of, servers_in, items_in, changes_in, is_running, boot_of, listens_in, attached_in}
use Rattle.scenario.specs.Faults.{is_in_place, is_between, is_within, is_in_range, fits_value, pico_of, the_change, kind_of_refusal, change_fault, has_its_server, has_its_item, needs_running, starts_running, starts_too_often, lacks_running, runs_already, lacks_boot, finds_no_listener, is_attached, is_unattached, source_fault, listener_fault, or_fault, form_fault, line_of}
use Rattle.scenario.specs.Scenario.{scenario_of}
use Rattle.scenario.specs.Words.{lines_of}
use Rattle.scenario.specs.Valid.{IsBetween, MayCome, Meets, RowStands, ShapeStands, Stands, AllStand}
use Rattle.scenario.proofs.PastLemmas.{has_ended-more}
use Rattle.scenario.specs.Reading.{MayFollow}
use Rattle.scenario.proofs.TableLemmas.{IsLineOf, all_suit, all_suited, made, shaped, within_is, within_range}
use Rattle.scenario.proofs.FaultLemmas.{Passes, may, taken, change_passed, few_listens, items_place, numbers_passed, placed_row, set_place, under}
use Rattle.scenario.proofs.ValidLemmas.{Follow, between_is, followed, not_refused, room_left}
use Rattle.scenario.proofs.ReadLemmas.{AllRead, IsRead, read_by_form, line_of-written, fault-written, read_written}
use Rattle.scenario.proofs.WrittenLemmas.{Small, small_more, few_of, text_of}

-- a form that passes each test has no fault
untested : (p r s i n a t : Bool) (src lis : Option FaultKind)
    → p ≡ true → r ≡ true → s ≡ true → i ≡ true → n ≡ false → a ≡ false → t ≡ false → src ≡ None → lis ≡ None
    → cond (not p) (Some kind.BadLine) (cond (not r) (Some kind.OutOfRange) (cond (not s) (Some kind.NoSuchServer)
    (cond (not i) (Some kind.NoSuchItem) (cond n (Some kind.NotRunning) (cond a (Some kind.AlreadyRunning) (cond t (Some kind.TooManyStarts) (or_fault src lis))))))) ≡ None
untested p r s i n a t src lis h1 h2 h3 h4 h5 h6 h7 h8 h9 = rw (h1, h2, h3, h4, h5, h6, h7, h8, h9) refl

sound : (rules : Rules) (before : List Line) (f : Form) → Passes rules before f → form_fault rules before f ≡ None
sound rules before f h =
    untested (is_in_place rules before f) (is_in_range f) (has_its_server before f) (has_its_item before f) (needs_running before f)
    (starts_running before f) (starts_too_often before f) (source_fault rules before f) (listener_fault rules before f)
    h.place h.range h.server h.item h.running h.stopped h.boots h.source h.listener

-- a form that passes each test, of a line
record FormOf (rules : Rules) (before : List Line) (l : Line) : Type 0 where
  f : Form
  is : line_of f ≡ l
  passes : Passes rules before f

between_test : (before : List Line) → IsBetween before → is_between before ≡ true
between_test before h =
    let long : nat_le 2 (length before) ≡ true = at_least (length before) h.0 in
    rw (long, h.1) refl
  where
    at_least : (m : ℕ) → 2 ≤ m → nat_le 2 m ≡ true
    at_least m e = grind (arith, nat_tests)

first_place : (n : ℕ) (b : Bool) → n ≡ 0 → b ≡ true → ((n == 0) && b) ≡ true
first_place n b h k =
    let first : (n == 0) ≡ true = grind (arith, nat_tests) in rw (first, k) refl

second_place : (n : ℕ) (b : Bool) → n ≡ 1 → b ≡ true → ((n == 1) && b) ≡ true
second_place n b h k =
    let second : (n == 1) ≡ true = grind (arith, nat_tests) in rw (second, k) refl

both_true : (a b : Bool) → a ≡ true → b ≡ true → (a && b) ≡ true
both_true a b h k = rw (h, k) refl

no_boots : (low n : ℕ) → n < low → nat_le low n ≡ false
no_boots low n h = grind (arith, nat_tests)

not_same : (b : Bool) (x y : ℤ) → int_eq x y ≡ b → (y ≢ x) → b ≡ false
not_same false x y e h = refl
not_same true x y e h = absurd (h (sym ((Decides-int_eq x y).0 e)))

-- a change that follows is not refused
follows_test : (later same : Bool) (a b : SourceFault) → later ≡ true → same ≡ false → cond (not later) (Some a) (cond same (Some b) None) ≡ None
follows_test later same a b h k = rw (h, k) refl

none_refused : (o : Option Change) (c : Change) → ((last : Change) → o ≡ Some last → Follows last c) → refusal_after o c ≡ None
none_refused None c h = refl
none_refused (Some last) c h =
    let f = h last refl in
    follows_test (is_before (stamp_of last) (stamp_of c)) (int_eq c.value last.value) _ _ f.later (not_same _ c.value last.value refl f.differs)

room_test : (n : ℕ) (r : Option SourceFault) → n < 200000 → r ≡ None → cond (nat_le 200000 n) (Some source.Full) r ≡ None
room_test n r few h =
    let room : nat_le 200000 n ≡ false = grind (arith, nat_tests) in rw (room, h) refl

not_refused_of : (rules : Rules) (changes : List Change) (c : Change) → MayCome rules changes c → kind_of_refusal (refusal changes c) ≡ None
not_refused_of rules changes c h =
    ap kind_of_refusal (room_test (length changes) (refusal_after (last_of c.item changes) c) h.room (none_refused (last_of c.item changes) c h.follows))

may_come : (rules : Rules) (before : List Line) (c : Change) → MayCome rules (changes_in before) c → change_fault rules before c ≡ None
may_come rules before c h =
    let allowed : nat_le rules.changes (length (changes_in before)) ≡ false = no_boots rules.changes (length (changes_in before)) h.allowed in
    ap (λ b. cond b (Some kind.TooMany) (kind_of_refusal (refusal (changes_in before) c))) allowed ∙ not_refused_of rules (changes_in before) c h

some_listener : (pool n m : ℕ) → n < pool → n < 255 → m < 16 → (nat_le pool n || nat_le 16 m || nat_le 255 n) ≡ false
some_listener pool n m h k l = grind (arith, nat_tests)

change_is : (time : ℕ) (c : Change) → c.time ≡ pos time → the_change c.item time (Some c.pico) c.value ≡ c
change_is time c e =
    let f : ℤ → Change = λ t. record { item = c.item; time = t; pico = c.pico; value = c.value } in ap f (sym e)

not_running : (b : Bool) → b ≡ true → not b ≡ false
not_running b h = rw h refl

-- what a line needs, as the tests of the order say it
record Needs (rules : Rules) (before : List Line) (needed : Need) (number : ℕ) : Type 0 where
  running : lacks_running before needed number ≡ false
  stopped : runs_already before needed number ≡ false
  boots : lacks_boot before needed number ≡ false
  listener : finds_no_listener rules before needed ≡ false
  attached : is_unattached before needed number ≡ false

finds : (rules : Rules) (before : List Line) (needed : Need) (number : ℕ) → Meets rules before needed number → Needs rules before needed number
finds rules before need.Nothing number h = record { running = refl; stopped = refl; boots = refl; listener = refl; attached = refl }
finds rules before need.Running number h =
    record { running = not_running (is_running number before) h; stopped = refl; boots = refl; listener = refl; attached = refl }
finds rules before need.Stopped number h =
    record { running = refl; stopped = h.0; boots = no_boots 65535 (boot_of number before) h.1; listener = refl; attached = refl }
finds rules before need.Listener number h =
    record { running = refl; stopped = refl; boots = refl; listener = some_listener rules.pool (listens_in before) (length (attached_in before)) h.in_pool h.has_id h.few; attached = refl }
finds rules before need.Attached number h =
    record { running = refl; stopped = refl; boots = refl; listener = refl; attached = not_running (is_attached before number) h }

neither : (a b : Bool) → a ≡ false → b ≡ false → cond a (Some kind.NoListener) (cond b (Some kind.NoSuchListener) None) ≡ None
neither a b h k = rw (h, k) refl

row_passes : (rules : Rules) (before : List Line) (n : Name) (said : Numbers) → RowStands rules before (row_of n) said → Passes rules before (form.Plain n said)
row_passes rules before n said h =
    let p = all_suited (servers_in before) (items_in before) (row_of n).arguments said h.suit in
    let q = finds rules before (row_of n).need (first_of said) h.needs in
    record {
      place = both_true _ _ (between_test before h.between) (both_true _ _ (both_true _ _ h.allowed h.of_mode) p.count);
      range = p.range;
      server = p.server;
      item = p.item;
      running = q.running;
      stopped = q.stopped;
      boots = q.boots;
      source = refl;
      listener = neither _ _ q.listener q.attached;
    }

form_of_shape : (rules : Rules) (before : List Line) (s : Shape) (l : Line) → ShapeStands rules before s → IsLineOf s l → FormOf rules before l
form_of_shape rules before (shape.Set mode servers) l h is = record {
  f = form.Set mode servers;
  is = is;
  passes = record {
    place = first_place (length before) (allows_set rules.sets mode servers) h.0 h.1;
    range = within_is 1 8 servers h.2;
    server = refl;
    item = refl;
    running = refl;
    stopped = refl;
    boots = refl;
    source = refl;
    listener = refl;
  };
}
form_of_shape rules before (shape.Items items queue oldest) l h is = record {
  f = form.Items items queue oldest;
  is = is;
  passes = record {
    place = second_place (length before) (allows_rule rules.allowed oldest) h.0 h.1;
    range = both_true _ _ (within_is 1 64 items h.2) (within_is 2 1000 queue h.3);
    server = refl;
    item = refl;
    running = refl;
    stopped = refl;
    boots = refl;
    source = refl;
    listener = refl;
  };
}
form_of_shape rules before (shape.Change c) l h is = record {
  f = form.Change c.item h.1.time (Some c.pico) c.value;
  is = ap line.Change (change_is h.1.time c h.1.time_is) ∙ is;
  passes = record {
    place = between_test before h.0;
    range = both_true _ _ (both_true _ _ (within_is 1 (10 ^ 18) h.1.time h.1.time_fits) (within_is 0 9999 c.pico (omega arith, h.1.pico_fits))) h.1.value_fits;
    item = within_is 1 (items_in before) c.item h.1.item_fits;
    source = ap (change_fault rules before) (change_is h.1.time c h.1.time_is) ∙ may_come rules before c h.2;
    server = refl;
    running = refl;
    stopped = refl;
    boots = refl;
    listener = refl;
  };
}
form_of_shape rules before (shape.Plain n said) l h is = record { f = form.Plain n said; is = is; passes = row_passes rules before n said h }

form_of_line : (rules : Rules) (before : List Line) (l : Line) → Stands rules before l → FormOf rules before l
form_of_line rules before l h = form_of_shape rules before (shape_of l) l h (made l)

-- a line that may stand may follow
pub stands_may : (rules : Rules) (before : List Line) (l : Line) → Stands rules before l → MayFollow before l
stands_may rules before l h =
    let a = form_of_line rules before l h in
    let P : Line → Type 0 = λ m. MayFollow before m in
    subst P a.is (may rules before a.f a.passes)

-- lines that may stand are each read from their own text
all_read : (rules : Rules) (before ls : List Line) → Small before → length (before ++ ls) ≤ rules.lines → AllStand rules before ls → AllRead rules before ls
all_read rules before [] small few h = tt
all_read rules before (l ∷ ls) small few h =
    let a = form_of_line rules before l h.0 in
    let long : length (before ++ l ∷ ls) ≡ length before + length (l ∷ ls) = length-append before (l ∷ ls) in
    let P : Line → Type 0 = λ m. (servers_of m ≤ 8) × (items_of m ≤ 64) in
    let printed : line_text l ≡ _ = ap line_text (sym a.is) ∙ text_of rules before a.f small a.passes in
    let read : IsRead rules before l =
    read_by_form rules before (written_form a.f) l (omega arith) (fault-written rules before a.f ∙ sound rules before a.f a.passes) (line_of-written a.f ∙ a.is) printed in
    let Q : List Line → Type 0 = λ all. length all ≤ rules.lines in (
      read,
      all_read rules (before ++ l ∷ []) ls (small_more before l small (subst P a.is (few_of rules before a.f a.passes)))
          (subst Q (sym (append_assoc before (l ∷ []) ls)) few) h.1,
    )

pub standing_read : (rules : Rules) (body : List Line) → AllStand rules [] (body ++ line.End ∷ []) → length (body ++ line.End ∷ []) ≤ rules.lines
    → scenario_of rules (written (body ++ line.End ∷ [])) ≡ Ok (body ++ line.End ∷ [])
standing_read rules body h few =
    read_written rules (body ++ line.End ∷ []) (all_read rules [] (body ++ line.End ∷ []) (record { servers = omega arith; items = omega arith }) few h) (has_ended-more body line.End)

-- a line that was taken may stand
running_is : (b : Bool) → not b ≡ false → b ≡ true
running_is true h = refl
running_is false h = absurd cc

neither_is : (a b : Bool) → cond a (Some kind.NoListener) (cond b (Some kind.NoSuchListener) None) ≡ None → (a ≡ false) × (b ≡ false)
neither_is true b h = absurd cc
neither_is false true h = absurd cc
neither_is false false h = (refl, refl)

found : (rules : Rules) (before : List Line) (needed : Need) (number : ℕ) → Needs rules before needed number → Meets rules before needed number
found rules before need.Nothing number h = tt
found rules before need.Running number h = running_is (is_running number before) h.running
found rules before need.Stopped number h = (h.stopped, under 65535 (boot_of number before) h.boots)
found rules before need.Listener number h =
    let left = few_listens rules.pool (listens_in before) (length (attached_in before)) h.listener in
    record { in_pool = left.0; has_id = left.1; few = left.2 }
found rules before need.Attached number h = running_is (is_attached before number) h.attached

row_stands : (rules : Rules) (before : List Line) (n : Name) (said : Numbers) → Passes rules before (form.Plain n said) → RowStands rules before (row_of n) said
row_stands rules before n said h =
    let p = placed_row rules before (row_of n) said h.place in
    let q = neither_is (finds_no_listener rules before (row_of n).need) (is_unattached before (row_of n).need (first_of said)) h.listener in
    record {
      between = between_is before p.between;
      allowed = p.allowed;
      of_mode = p.of_mode;
      suit = all_suit (servers_in before) (items_in before) (row_of n).arguments said (numbers_passed rules before n said h);
      needs = found rules before (row_of n).need (first_of said) (record { running = h.running; stopped = h.stopped; boots = h.boots; listener = q.0; attached = q.1 });
    }

stands : (rules : Rules) (before : List Line) (f : Form) → Passes rules before f → Stands rules before (line_of f)
stands rules before (form.Set mode servers) h =
    let p = set_place (length before) (allows_set rules.sets mode servers) h.place in
    (p.0, p.1, within_range 1 8 servers h.range)
stands rules before (form.Items items queue oldest) h =
    let parts = and_parts (is_within 1 64 items) (is_within 2 1000 queue) h.range in
    let p = items_place (length before) (allows_rule rules.allowed oldest) h.place in
    (p.0, p.1, within_range 1 64 items parts.0, within_range 2 1000 queue parts.1)
stands rules before (form.Change item time pico value) h =
    let parts = and_parts (is_within 1 (10 ^ 18) time && is_within 0 9999 (pico_of pico)) (fits_value value) h.range in
    let stamp = and_parts (is_within 1 (10 ^ 18) time) (is_within 0 9999 (pico_of pico)) parts.0 in
    let c : Change = the_change item time pico value in
    let free = change_passed rules before c h.source in
    let none : refusal (changes_in before) c ≡ None = not_refused (changes_in before) c free.1 in (
      between_is before h.place,
      record {
        time = time;
        item_fits = within_range 1 (items_in before) item h.item;
        time_is = refl;
        time_fits = within_range 1 (10 ^ 18) time stamp.0;
        pico_fits = (within_range 0 9999 (pico_of pico) stamp.1).1;
        value_fits = parts.1;
      },
      record {
        room = room_left (changes_in before) c none;
        allowed = free.0;
        follows = λ last e. follows_last last c (ap (λ o. refusal_after o c) (sym e) ∙ allowed_after (changes_in before) c none);
      },
    )
stands rules before (form.Plain n said) h =
    let S : Shape → Type 0 = λ s. ShapeStands rules before s in
    subst S (sym (shaped n said (placed_row rules before (row_of n) said h.place).count)) (row_stands rules before n said h)

all_stand : (rules : Rules) (before ls : List Line) → Follow rules before ls → AllStand rules before ls
all_stand rules before [] h = tt
all_stand rules before (l ∷ ls) h =
    let t = taken rules before h.0.text l h.0.is in
    let P : Line → Type 0 = λ m. Stands rules before m in
    (subst P t.line_is (stands rules before t.f t.passes), all_stand rules (before ++ l ∷ []) ls h.1)

-- the lines of each valid text may stand
pub lines_stand : (rules : Rules) (bytes : List ℕ) (lines : List Line) → scenario_of rules bytes ≡ Ok lines → AllStand rules [] lines
lines_stand rules bytes lines h =
    let f = followed rules [] (lines_of bytes) lines h in
    let P : List Line → Type 0 = λ all. AllStand rules [] all in
    subst P (sym f.lines_are) (all_stand rules [] f.more f.follow)
