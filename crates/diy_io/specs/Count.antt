-- Counts of 64 bits, which stay at their maximum once they reach it.
use Rattle.std.specs.Prelude.{ℕ, ◌+◌, ◌-◌, ◌^◌, ◌≤◌, ◌==◌, min, if◌then◌else◌}

-- the maximum of a count
abbrev pub last_count : ℕ
last_count = 2 ^ 64 - 1

-- a number as a count keeps it
abbrev pub count_of : ℕ → ℕ
count_of n = min n last_count

-- a count after one more is counted
abbrev pub next_count : ℕ → ℕ
next_count n = count_of (n + 1)

-- a count of ends after a read of this many bytes into space for `room`: one more if there was space and nothing was read
abbrev pub ends_after : ℕ → ℕ → ℕ → ℕ
ends_after ends room count = if count == 0 then (if room == 0 then ends else next_count ends) else ends

-- a count rose by at least one, or is at its maximum
abbrev pub Rose : ℕ → ℕ → Type 0
Rose old new = next_count old ≤ new
