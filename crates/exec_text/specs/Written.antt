-- The text of an execution as it is written: a line for each thread with its reads in program order, and then a line for each
-- location with its writes in coherence order. Numbers are decimal, there is one blank between the words of a line, and each line
-- ends with a line feed.
-- Source: own.
use Rattle.std.specs.{Prelude.{ℕ, List, ◌∷◌, ◌++◌, map, codes, Option, Some, None}, Fmt.decimal, List.{enumerate_from, flat_map, join_by, zip}}
use Rattle.litmus_text.specs.TestText.{with_line_feed}
use Rattle.program_meaning.specs.{declared.WriteAt.WriteAt, Executions.Execution}
use Rattle.exec_text.specs.ExecutionText.{thread_head, place_head}

-- the word for an access, `T.N`: its thread and its number there
unfoldable pub access_word : WriteAt → List ℕ
access_word w = decimal w.thread ++ (codes "." ++ decimal w.access)

-- the word for what a read reads: `init`, the initial value, or an access
unfoldable pub source_word : Option WriteAt → List ℕ
source_word None = codes "init"
source_word (Some w) = access_word w

-- the word for a read, `VALUE@init` or `VALUE@T.N`: its value and what it reads
unfoldable pub read_word : ℕ × Option WriteAt → List ℕ
read_word r = decimal r.0 ++ (codes "@" ++ source_word r.1)

-- a line of these words, with one blank between neighbours
abbrev pub line_of : List (List ℕ) → List ℕ
line_of words = join_by (λ word. word) (codes " ") words

-- the line of a thread by its number and its reads
abbrev pub thread_line : ℕ × List (ℕ × Option WriteAt) → List ℕ
thread_line thread = line_of (thread_head thread.0 ∷ map read_word thread.1)

-- the line of a location by its name and its writes
abbrev pub place_line : List ℕ × List WriteAt → List ℕ
place_line place = line_of (place_head place.0 ∷ map access_word place.1)

-- the lines of an execution over locations with these names: first those of the threads, then those of the locations
abbrev pub execution_lines : List (List ℕ) → Execution → List (List ℕ)
execution_lines places x = map thread_line (enumerate_from 0 x.reads) ++ map place_line (zip places x.orders)

-- the text of an execution over locations with these names: location k has name k
unfoldable pub text_of_execution : List (List ℕ) → Execution → List ℕ
text_of_execution places x = flat_map with_line_feed (execution_lines places x)
