-- The program of a test that was read.
-- Source: own.
use Rattle.std.specs.Prelude.{length, map}
use Rattle.litmus_text.specs.TestReading.{ThreadRead, TestRead}
use Rattle.program_meaning.specs.Programs.{Program, Thread}

-- a thread as it was read: the values with which registers begin, and its code
abbrev pub thread_read : ThreadRead → Thread
thread_read t = record { init = t.init; code = t.code }

-- the program of a test that was read: as many locations as it names, and its threads
abbrev pub program_read : TestRead → Program
program_read test = record { places = length test.places; threads = map thread_read test.threads }
