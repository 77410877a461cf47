-- The numbers of a subscription's messages, which tell what is missing (OPC 10000-4, 5.13.1.1).
use Rattle.std.specs.Prelude.{ℕ, ◌+◌, ◌-◌, ◌%◌, ◌^◌, ◌==◌, ◌&&◌, nat_le, List, Bool, filter, ◌||◌}

-- how far a number is ahead of the next one, around the ring of 2^32 - 1 numbers
abbrev pub ahead : ℕ → ℕ → ℕ
ahead next number = (number + (2 ^ 32 - 1) - next) % (2 ^ 32 - 1)

abbrev pub is_next : ℕ → ℕ → Bool
is_next next number = number == next

-- messages are missing before it: it is ahead, by less than half of the ring
abbrev pub is_jump : ℕ → ℕ → Bool
is_jump next number = nat_le 1 (ahead next number) && nat_le (ahead next number) (2 ^ 31 - 1)

-- what isn't behind
abbrev pub is_new : ℕ → ℕ → Bool
is_new next number = is_next next number || is_jump next number

-- which kept messages are asked for again, in the order in which they were sent (OPC 10000-4, 5.13.6)
abbrev pub wanted_of : ℕ → List ℕ → List ℕ
wanted_of next numbers = filter (is_new next) numbers
