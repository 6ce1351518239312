-- The program of a test: what its threads and locations mean, without its condition.
-- Source: own.
use Rattle.std.specs.Prelude.{ℕ, List, map, length}
use Rattle.program_meaning.specs.Programs.{Program, Thread}
use Rattle.arch_trait.specs.{Taking.initial_values, Threads.ThreadCode, SeenTests.TestSeen}

-- a thread, from its code: its address registers begin with the addresses of their locations
abbrev pub thread_from : ThreadCode → Thread
thread_from code = record { init = initial_values code.links; code = code.instrs }

-- the program of some threads, over this many locations
abbrev pub program_of : List ThreadCode → ℕ → Program
program_of threads places = record { places = places; threads = map thread_from threads }

-- the program of a test
abbrev pub test_program : TestSeen → Program
test_program test = program_of test.threads (length test.places)
