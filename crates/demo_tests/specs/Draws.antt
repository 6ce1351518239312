-- The numbers that are drawn, from a sequence of seeds that begins anew with each run.
-- Source: own; the factors are those of many C libraries' `rand`.
use Rattle.std.specs.Prelude.{ℕ, ◌+◌, ◌*◌, ◌/◌, ◌%◌, ◌^◌}

-- the seed that the sequence begins with
abbrev pub first_seed : ℕ
first_seed = 1

-- the next seed of the sequence
abbrev pub next_seed : ℕ → ℕ
next_seed seed = (1103515245 * seed + 12345) % 2 ^ 31

-- the number that is drawn with a seed
abbrev pub drawn : ℕ → ℕ
drawn seed = seed / 65536
