-- The table's words, rows and lines fit each other.
use Rattle.std.proofs.Common.{◌≡◌, ℕ, ◌-◌, ◌<◌, ◌≤◌, ◌^◌, List, [], ◌∷◌, Bool, true, false, Some, refl, arith, rules}
use Rattle.std.specs.Prelude.{codes, nat_le, ◌&&◌}
use Rattle.std.specs.Str.{bytes_eq}
use Rattle.std.proofs.lemmas.Bool.Decides.{nat_tests}
use Rattle.std.proofs.lemmas.Bool.{and_parts}
use Rattle.scenario.specs.declared.line.Line.{Line}
use Rattle.scenario.specs.declared.line.Line.TheVariants as line
use Rattle.scenario.specs.declared.shape.Shape.{Shape}
use Rattle.scenario.specs.declared.shape.Shape.TheVariants as shape
use Rattle.scenario.specs.declared.table.Name.{Name}
use Rattle.scenario.specs.declared.table.Name.TheVariants as name
use Rattle.scenario.specs.declared.table.Numbers.{Numbers}
use Rattle.scenario.specs.declared.table.Numbers.TheVariants as numbers
use Rattle.scenario.specs.declared.table.Argument.{Argument}
use Rattle.scenario.specs.declared.table.Argument.TheVariants as argument
use Rattle.scenario.specs.declared.table.Arguments.{Arguments}
use Rattle.scenario.specs.declared.table.Arguments.TheVariants as arguments
use Rattle.scenario.specs.declared.table.Need.{Need}
use Rattle.scenario.specs.declared.table.Need.TheVariants as need
use Rattle.scenario.specs.Valid.{IsFrom, Suits, AllSuit}
use Rattle.scenario.specs.Table.{word_of, row_of, name_of, first_of, second_of, line_with, shape_of, counts, all_pass}
use Rattle.scenario.specs.Past.{servers_in}
use Rattle.scenario.specs.Faults.{is_within, in_bounds, is_server, is_item}
use Rattle.scenario.specs.Reading.{IsSmall, AreSmall, NamesServer}

-- no byte of a word is below 45: no space and no line feed stands in it
abbrev pub Solid : List ℕ → Type 0
Solid [] = Unit {0}
Solid (b ∷ rest) = (nat_le 45 b ≡ true) × Solid rest

-- the word is found, has no space, and is none of the three words of other lines
pub record IsWord (n : Name) : Type 0 where
  pub found : name_of (word_of n) ≡ Some n
  pub solid : Solid (word_of n)
  pub no_set : bytes_eq (word_of n) (codes "set") ≡ false
  pub no_items : bytes_eq (word_of n) (codes "items") ≡ false
  pub no_change : bytes_eq (word_of n) (codes "change") ≡ false

pub is_word : (n : Name) → IsWord n
is_word name.End = record { found = refl; solid = search rules; no_set = refl; no_items = refl; no_change = refl }
is_word _ = record { found = refl; solid = search rules; no_set = refl; no_items = refl; no_change = refl }

-- the shape of the line that is made of a name and as many numbers as it has
pub shaped : (n : Name) (said : Numbers) → counts (row_of n).arguments said ≡ true → shape_of (line_with n (first_of said) (second_of said)) ≡ shape.Plain n said
shaped name.End numbers.Nothing h = refl
shaped _ numbers.Nothing h = cc
shaped name.End (numbers.One a) h = cc
shaped _ (numbers.One a) h = cc
shaped name.End (numbers.Two a b) h = cc
shaped _ (numbers.Two a b) h = cc

-- a line is the one of its shape
abbrev pub IsLineOf : Shape → Line → Type 0
IsLineOf (shape.Set mode servers) l = line.Set mode servers ≡ l
IsLineOf (shape.Items items queue oldest) l = line.Items items queue oldest ≡ l
IsLineOf (shape.Change change) l = line.Change change ≡ l
IsLineOf (shape.Plain n said) l = line_with n (first_of said) (second_of said) ≡ l

pub made : (l : Line) → IsLineOf (shape_of l) l
made line.End = refl
made _ = refl

-- the first number is a server's
abbrev first_server : Arguments → Bool
first_server (arguments.One argument.Server) = true
first_server (arguments.Two argument.Server b) = true
first_server _ = false

abbrev serves : Need → Arguments → Bool
serves need.Running args = first_server args
serves need.Stopped args = first_server args
serves _ args = true

abbrev pub low_bound : Argument → Bool
low_bound (argument.From low high) = nat_le high 4294967295
low_bound _ = true

abbrev pub low_bounds : Arguments → Bool
low_bounds arguments.Nothing = true
low_bounds (arguments.One a) = low_bound a
low_bounds (arguments.Two a b) = low_bound a && low_bound b

-- each row names a server where it needs one, and its bounds have 32 bits
record IsRow (n : Name) : Type 0 where
  serving : serves (row_of n).need (row_of n).arguments ≡ true
  low : low_bounds (row_of n).arguments ≡ true

is_row : (n : Name) → IsRow n
is_row name.End = record { serving = refl; low = refl }
is_row _ = record { serving = refl; low = refl }

pub bounds_low : (n : Name) → low_bounds (row_of n).arguments ≡ true
bounds_low n = (is_row n).low

first_is_server : (servers : ℕ) (args : Arguments) (said : Numbers) → first_server args ≡ true → counts args said ≡ true → all_pass (is_server servers) args said ≡ true
    → is_within 1 servers (first_of said) ≡ true
first_is_server servers arguments.Nothing said f c h = absurd cc
first_is_server servers (arguments.One argument.Server) (numbers.One first) f c h = h
first_is_server servers (arguments.One argument.Server) numbers.Nothing f c h = absurd cc
first_is_server servers (arguments.One argument.Server) (numbers.Two first second) f c h = absurd cc
first_is_server servers (arguments.One argument.Item) said f c h = absurd cc
first_is_server servers (arguments.One (argument.From low high)) said f c h = absurd cc
first_is_server servers (arguments.Two argument.Server b) (numbers.Two first second) f c h = (and_parts (is_within 1 servers first) (is_server servers b second) h).0
first_is_server servers (arguments.Two argument.Server b) numbers.Nothing f c h = absurd cc
first_is_server servers (arguments.Two argument.Server b) (numbers.One first) f c h = absurd cc
first_is_server servers (arguments.Two argument.Item b) said f c h = absurd cc
first_is_server servers (arguments.Two (argument.From low high) b) said f c h = absurd cc

needs_server : (before : List Line) (needed : Need) (args : Arguments) (said : Numbers) → serves needed args ≡ true → counts args said ≡ true
    → all_pass (is_server (servers_in before)) args said ≡ true → NamesServer before needed (first_of said)
needs_server before need.Running args said f c h = first_is_server (servers_in before) args said f c h
needs_server before need.Stopped args said f c h = first_is_server (servers_in before) args said f c h
needs_server before _ args said f c h = tt

pub names_server : (before : List Line) (n : Name) (said : Numbers) → counts (row_of n).arguments said ≡ true
    → all_pass (is_server (servers_in before)) (row_of n).arguments said ≡ true → NamesServer before (row_of n).need (first_of said)
names_server before n said c h = needs_server before (row_of n).need (row_of n).arguments said (is_row n).serving c h

pub within_range : (low high n : ℕ) → is_within low high n ≡ true → (low ≤ n) × (n ≤ high)
within_range low high n h = (grind (arith, nat_tests), grind (arith, nat_tests))

pub within_is : (low high n : ℕ) → IsFrom low high n → is_within low high n ≡ true
within_is low high n h =
    let low_is : low ≤ n = h.0 in
    let high_is : n ≤ high = h.1 in grind (arith, nat_tests)

-- a number passes the tests exactly where it suits
pub record Passed (servers items : ℕ) (a : Argument) (n : ℕ) : Type 0 where
  pub range : in_bounds a n ≡ true
  pub server : is_server servers a n ≡ true
  pub item : is_item items a n ≡ true

pub record AllPassed (servers items : ℕ) (args : Arguments) (said : Numbers) : Type 0 where
  pub count : counts args said ≡ true
  pub range : all_pass in_bounds args said ≡ true
  pub server : all_pass (is_server servers) args said ≡ true
  pub item : all_pass (is_item items) args said ≡ true

suits : (servers items : ℕ) (a : Argument) (n : ℕ) → Passed servers items a n → Suits servers items a n
suits servers items argument.Server n h = within_range 1 servers n h.server
suits servers items argument.Item n h = within_range 1 items n h.item
suits servers items (argument.From low high) n h = within_range low high n h.range

suited : (servers items : ℕ) (a : Argument) (n : ℕ) → Suits servers items a n → Passed servers items a n
suited servers items argument.Server n h = record { range = refl; server = within_is 1 servers n h; item = refl }
suited servers items argument.Item n h = record { range = refl; server = refl; item = within_is 1 items n h }
suited servers items (argument.From low high) n h = record { range = within_is low high n h; server = refl; item = refl }

passed_first : (servers items : ℕ) (a b : Argument) (m n : ℕ) → AllPassed servers items (arguments.Two a b) (numbers.Two m n) → Passed servers items a m
passed_first servers items a b m n h = record {
  range = (and_parts (in_bounds a m) (in_bounds b n) h.range).0;
  server = (and_parts (is_server servers a m) (is_server servers b n) h.server).0;
  item = (and_parts (is_item items a m) (is_item items b n) h.item).0;
}

passed_second : (servers items : ℕ) (a b : Argument) (m n : ℕ) → AllPassed servers items (arguments.Two a b) (numbers.Two m n) → Passed servers items b n
passed_second servers items a b m n h = record {
  range = (and_parts (in_bounds a m) (in_bounds b n) h.range).1;
  server = (and_parts (is_server servers a m) (is_server servers b n) h.server).1;
  item = (and_parts (is_item items a m) (is_item items b n) h.item).1;
}

pub false_true : false ≡ true → ⊥
false_true h = cc

pub all_suit : (servers items : ℕ) (args : Arguments) (said : Numbers) → AllPassed servers items args said → AllSuit servers items args said
all_suit servers items arguments.Nothing numbers.Nothing h = tt
all_suit servers items arguments.Nothing (numbers.One m) h = false_true h.count
all_suit servers items arguments.Nothing (numbers.Two m n) h = false_true h.count
all_suit servers items (arguments.One a) numbers.Nothing h = false_true h.count
all_suit servers items (arguments.One a) (numbers.One m) h = suits servers items a m (record { range = h.range; server = h.server; item = h.item })
all_suit servers items (arguments.One a) (numbers.Two m n) h = false_true h.count
all_suit servers items (arguments.Two a b) numbers.Nothing h = false_true h.count
all_suit servers items (arguments.Two a b) (numbers.One m) h = false_true h.count
all_suit servers items (arguments.Two a b) (numbers.Two m n) h =
    (suits servers items a m (passed_first servers items a b m n h), suits servers items b n (passed_second servers items a b m n h))

both_true : (a b : Bool) → a ≡ true → b ≡ true → (a && b) ≡ true
both_true a b h k = rw (h, k) refl

pub all_suited : (servers items : ℕ) (args : Arguments) (said : Numbers) → AllSuit servers items args said → AllPassed servers items args said
all_suited servers items arguments.Nothing numbers.Nothing h = record { count = refl; range = refl; server = refl; item = refl }
all_suited servers items arguments.Nothing (numbers.One m) h = absurd h
all_suited servers items arguments.Nothing (numbers.Two m n) h = absurd h
all_suited servers items (arguments.One a) numbers.Nothing h = absurd h
all_suited servers items (arguments.One a) (numbers.One m) h =
    let p = suited servers items a m h in record { count = refl; range = p.range; server = p.server; item = p.item }
all_suited servers items (arguments.One a) (numbers.Two m n) h = absurd h
all_suited servers items (arguments.Two a b) numbers.Nothing h = absurd h
all_suited servers items (arguments.Two a b) (numbers.One m) h = absurd h
all_suited servers items (arguments.Two a b) (numbers.Two m n) h =
    let p = suited servers items a m h.0 in
    let q = suited servers items b n h.1 in record {
      count = refl;
      range = both_true _ _ p.range q.range;
      server = both_true _ _ p.server q.server;
      item = both_true _ _ p.item q.item;
    }

-- numbers that suit are small
is_small : (servers items : ℕ) (a : Argument) (n : ℕ) → servers ≤ 255 → items ≤ 255 → Suits servers items a n → IsSmall a n
is_small servers items argument.Server n s i h = let most : n ≤ servers = h.1 in omega arith
is_small servers items argument.Item n s i h = let most : n ≤ items = h.1 in omega arith
is_small servers items (argument.From low high) n s i h = h.1

pub are_small : (servers items : ℕ) (args : Arguments) (said : Numbers) → servers ≤ 255 → items ≤ 255 → AllSuit servers items args said
    → AreSmall args (first_of said) (second_of said)
are_small servers items arguments.Nothing said s i h = tt
are_small servers items (arguments.One a) numbers.Nothing s i h = absurd h
are_small servers items (arguments.One a) (numbers.One m) s i h = is_small servers items a m s i h
are_small servers items (arguments.One a) (numbers.Two m n) s i h = absurd h
are_small servers items (arguments.Two a b) numbers.Nothing s i h = absurd h
are_small servers items (arguments.Two a b) (numbers.One m) s i h = absurd h
are_small servers items (arguments.Two a b) (numbers.Two m n) s i h = (is_small servers items a m s i h.0, is_small servers items b n s i h.1)

-- numbers that suit are no larger than those that are read
abbrev pub AreBelow : ℕ → Numbers → Type 0
AreBelow most numbers.Nothing = Unit {0}
AreBelow most (numbers.One m) = m < most
AreBelow most (numbers.Two m n) = (m < most) × (n < most)

below : (servers items : ℕ) (a : Argument) (n : ℕ) → servers < 2 ^ 64 - 1 → items < 2 ^ 64 - 1 → low_bound a ≡ true → Suits servers items a n → n < 2 ^ 64 - 1
below servers items argument.Server n s i l h = let most : n ≤ servers = h.1 in omega arith
below servers items argument.Item n s i l h = let most : n ≤ items = h.1 in omega arith
below servers items (argument.From low high) n s i l h =
    let most : n ≤ high = h.1 in
    let bound : high ≤ 4294967295 = grind (arith, nat_tests) in omega arith

pub all_below : (servers items : ℕ) (args : Arguments) (said : Numbers) → servers < 2 ^ 64 - 1 → items < 2 ^ 64 - 1 → low_bounds args ≡ true → AllSuit servers items args said
    → AreBelow (2 ^ 64 - 1) said
all_below servers items args numbers.Nothing s i l h = tt
all_below servers items arguments.Nothing (numbers.One m) s i l h = absurd h
all_below servers items (arguments.One a) (numbers.One m) s i l h = below servers items a m s i l h
all_below servers items (arguments.Two a b) (numbers.One m) s i l h = absurd h
all_below servers items arguments.Nothing (numbers.Two m n) s i l h = absurd h
all_below servers items (arguments.One a) (numbers.Two m n) s i l h = absurd h
all_below servers items (arguments.Two a b) (numbers.Two m n) s i l h =
    let parts = and_parts (low_bound a) (low_bound b) l in
    (below servers items a m s i parts.0 h.0, below servers items b n s i parts.1 h.1)
