-- A candidate whose writes are to the program's locations is sequentially consistent exactly when it goes along an interleaving.
use Rattle.std.specs.Prelude.{List}
use Rattle.program_meaning.specs.{declared.WriteAt.WriteAt, Executions.Execution, Programs.{Program, IsCandidate, accesses_in}, Interleavings.IsInterleavingOf}
use Rattle.sc_and_interleavings.specs.{CoherenceLaws.WritesWithin, Sequential.IsSequential, Along.{values_in, IsAlong}}

-- a candidate goes along an interleaving of the program, whose reads take the same values
pub record GoesAlong (p : Program) (x : Execution) (line : List WriteAt) : Type 0 where
  pub interleaving : IsInterleavingOf p (values_in x) line
  pub along : IsAlong (accesses_in p x) p.places x line

-- each sequentially consistent candidate whose writes are to the program's locations goes along an interleaving
abbrev pub SequentialGoesAlong : Type 0
SequentialGoesAlong =
    (p : Program) (x : Execution) → IsCandidate p x → WritesWithin (accesses_in p x) p.places → IsSequential (accesses_in p x) x →
    (line : List WriteAt) × GoesAlong p x line

-- and each candidate that goes along one is sequentially consistent
abbrev pub AlongIsSequential : Type 0
AlongIsSequential = (p : Program) (x : Execution) (line : List WriteAt) → IsCandidate p x → GoesAlong p x line → IsSequential (accesses_in p x) x
