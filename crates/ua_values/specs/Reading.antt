-- Readers of values at the front of bytes, with the place of the first fault.
use Rattle.std.specs.Prelude.{◌≡◌, ◌≢◌, ℕ, ◌+◌, nat_lt, List, length, take, drop, Result, Ok, Err, if◌then◌else◌}
use Rattle.byteorder.specs.Endian.{little_number}
use Rattle.ua_values.specs.declared.fault.ValueFault.{ValueFault}
use Rattle.ua_values.specs.declared.fault.ValueFault.TheVariants as faults

-- the bytes that are left, and the place of the first of them
pub record Input : Type 0 where
  pub place : ℕ
  pub rest : List ℕ

abbrev pub input : ℕ → List ℕ → Input
input place rest = record { place = place; rest = rest }

-- the bytes end inside a value, or the field at a place breaks a rule
pub data Fault : Type 0 where
  Short : Fault
  Bad : ℕ → ℕ → Fault

-- gives a value and what is left after it
abbrev pub Reader : Type 0 → Type 0
Reader A = Input → Result (A × Input) Fault

abbrev pub passed : {A B : Type 0} → Result (A × Input) Fault → (A → Reader B) → Result (B × Input) Fault
passed (Ok x) next = next x.0 x.1
passed (Err f) next = Err f

infixl 10 ◌>>=◌
abbrev pub ◌>>=◌ : {A B : Type 0} → Reader A → (A → Reader B) → Reader B
(at >>= next) from = passed (at from) next

-- reads nothing
abbrev pub give : {A : Type 0} → A → Reader A
give a from = Ok (a, from)

-- so many bytes
abbrev pub run_at : ℕ → Reader (List ℕ)
run_at n from =
    if nat_lt (length from.rest) n then Err Short
    else Ok (take n from.rest, input (from.place + n) (drop n from.rest))

-- what a number says, or the code of the rule that it breaks
abbrev pub judged : {A : Type 0} → Result A ℕ → ℕ → Reader A
judged (Ok a) place from = Ok (a, from)
judged (Err code) place from = Err (Bad place code)

-- a number of so many bytes, the lowest first, and what it says
abbrev pub field_at : {A : Type 0} → ℕ → (ℕ → Result A ℕ) → Reader A
field_at w meaning from = passed (run_at w from) (λ bytes. judged (meaning (little_number w bytes)) from.place)

abbrev pub any : ℕ → Result ℕ ℕ
any n = Ok n

abbrev pub number_at : ℕ → Reader ℕ
number_at w = field_at w any

-- what a call answered is what reading gives, unless memory was refused
abbrev pub Fails : {Y : Type 0} → ValueFault → Result Y Fault → Type 0
Fails faults.OutOfMemory read = Unit {0}
Fails faults.Short read = read ≡ Err Short
Fails (faults.Bad place code) read = read ≡ Err (Bad place code)

abbrev pub Moves : {X Y : Type 0} → (X → Y) → Result X ValueFault → Input → Result (Y × Input) Fault → Type 0
Moves view (Ok x) after read = read ≡ Ok (view x, after)
Moves view (Err e) after read = Fails e read

-- want of memory is never what is answered
abbrev pub TakesNoMemory : {X : Type 0} → Result X ValueFault → Type 0
TakesNoMemory result = result ≢ Err faults.OutOfMemory

-- a value, and where the next one begins
abbrev pub with_place : {A E : Type 0} → Result A E → ℕ → Result (A × ℕ) E
with_place (Ok a) place = Ok (a, place)
with_place (Err e) place = Err e

-- the value, and how many bytes it took
abbrev pub sized : {A : Type 0} → Result (A × Input) Fault → Result (A × ℕ) Fault
sized (Ok x) = Ok (x.0, x.1.place)
sized (Err f) = Err f

abbrev pub Gives : {X : Type 0} → Result X ValueFault → Result X Fault → Type 0
Gives (Ok x) read = read ≡ Ok x
Gives (Err e) read = Fails e read
