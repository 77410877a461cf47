-- Which number comes after which.
use Rattle.std.specs.Prelude.{ℕ, ◌+◌, ◌-◌, ◌^◌, ◌==◌, if◌then◌else◌}

-- messages are numbered by 1 to 2 ^ 32 - 1, in a ring
abbrev pub after_message : ℕ → ℕ
after_message number = if number == 2 ^ 32 - 1 then 1 else number + 1

-- the numbers of chunks go on at 1 where 1023 numbers are left
abbrev pub after_chunk : ℕ → ℕ
after_chunk number = if number == 2 ^ 32 - 1024 then 1 else number + 1
