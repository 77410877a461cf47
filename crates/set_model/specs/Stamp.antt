-- Source times: a DateTime and, within its 100 ns, picoseconds in steps of ten (OPC 10000-4, 7.7.3).
use Rattle.std.specs.Prelude.{◌≡◌, ◌==◌, ◌||◌, ◌&&◌, ℕ, List, [], ◌++◌, Bool, true, false, codes, if◌then◌else◌, int_lt, nat_lt}
use Rattle.std.specs.Ordering.{int_eq}
use Rattle.std.specs.Fmt.{decimal, signed_decimal}
use Rattle.set_model.specs.declared.stamp.Stamp.{Stamp}

-- which of two stamps is earlier: by time, and by picoseconds where the times are one
abbrev pub is_before : Stamp → Stamp → Bool
is_before a b = int_lt a.time b.time || (int_eq a.time b.time && nat_lt a.pico b.pico)

-- what is earlier than what is a total order: nothing is earlier than itself, earlier goes on, and of two things that
-- aren't one, one is earlier
pub record IsOrder {A : Type 0} (before : A → A → Bool) : Type 0 where
  pub apart : (a : A) → before a a ≡ false
  pub goes_on : (a b c : A) → before a b ≡ true → before b c ≡ true → before a c ≡ true
  pub total : (a b : A) → before a b ≡ false → before b a ≡ false → a ≡ b

-- no picoseconds are not written
abbrev pub pico_text : ℕ → List ℕ
pico_text pico = if pico == 0 then [] else codes "." ++ decimal pico

-- the time, and behind a dot the picoseconds where there are any
abbrev pub stamp_text : Stamp → List ℕ
stamp_text stamp = signed_decimal stamp.time ++ pico_text stamp.pico
