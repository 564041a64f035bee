-- The counter of calls.
use Rattle.std.specs.Prelude.{ℕ, ◌+◌, ◌-◌, ◌^◌, min}

-- the count after one more call; it stops at the greatest number
abbrev pub count_after : ℕ → ℕ
count_after made = min (made + 1) (2 ^ 64 - 1)
