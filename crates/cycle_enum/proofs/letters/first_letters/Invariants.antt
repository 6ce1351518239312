-- The table has the first letter from each rank passed on.
use Rattle.cycle_enum.specs.{LetterMarks.IsMarked, Letters.HasLettersFrom}
use Rattle.cycle_enum.proofs.letters.first_letters.Given as goal

abbrev pub invariant-loop-rank : goal.invariant-loop-rank
invariant-loop-rank l = HasLettersFrom (IsMarked l.marks) l.rank l.letters
