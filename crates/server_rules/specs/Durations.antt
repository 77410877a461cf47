-- What a server makes of the durations, counts and sizes that it is asked for.
use Rattle.std.specs.Prelude.{ℕ, ℤ, pos, negsuc, ◌*◌, ◌==◌, max, min, if◌then◌else◌}
use Rattle.std.specs.Float.Ieee.{binary64, of_int, to_bits}
use Rattle.ua_base.specs.Duration.{ms_of}

abbrev pub within : ℕ → ℕ → ℕ → ℕ
within least most n = max least (min most n)

-- whole milliseconds within these limits
abbrev pub ms_within : ℕ → ℕ → ℤ → ℕ
ms_within least most (pos ms) = within least most ms
ms_within least most (negsuc ms) = least

-- the milliseconds of a Duration, which is the bits of a Double (OPC 10000-3, 8.13)
unfoldable pub revised_duration : ℕ → ℕ → ℕ → ℕ
revised_duration least most bits = ms_within least most (ms_of bits)

-- the Duration of so many milliseconds
unfoldable pub duration_bits : ℕ → ℕ
duration_bits ms = to_bits binary64 (of_int binary64 (pos ms))

-- ---- of a subscription (OPC 10000-4, 5.13.2)

abbrev pub revised_keep_alive : ℕ → ℕ
revised_keep_alive count = within 1 10000 count

-- at least three times the keep-alive count
abbrev pub revised_lifetime : ℕ → ℕ → ℕ
revised_lifetime keep_alive count = max (3 * keep_alive) (min 100000 count)

-- 0 asks for no limit
abbrev pub revised_most : ℕ → ℕ
revised_most count = if count == 0 then 1000 else min 1000 count

-- ---- of a monitored item (OPC 10000-4, 7.21)

abbrev pub revised_queue : ℕ → ℕ
revised_queue size = within 1 1000 size
