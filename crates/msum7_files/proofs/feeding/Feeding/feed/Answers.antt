-- `Feeding::feed` answers an error that a piece shows, or that the log goes past 2^40 bytes.
use Rattle.std.proofs.Common.{◌++◌, take, sym, subst, arith}
use Rattle.msum7_files.specs.FileFeeding.{IsFaultOfLogs}
use Rattle.msum7_files.proofs.FeedingLaws.{piece_refused, piece_full}
use Rattle.msum7_files.proofs.feeding.Feeding.feed.Goals as goal

pub returns-in-Err-clause-fed : goal.returns-in-Err-clause-fed
returns-in-Err-clause-fed c = λ logs bytes reads.
    subst (IsFaultOfLogs logs (bytes ++ c.args.piece.now)) (sym c.fault_of.ensures)
    (piece_refused c.feed.new.self logs bytes c.args.piece.now c.min-fitting.result c.in-Err.error
    (omega (arith, c.min-fitting.ensures, reads.read)) (omega (arith, c.min-fitting.ensures)) (c.in-Err.ensures.fed logs bytes reads.represents))

pub returns-then-fitting-piece-clause-fed : goal.returns-then-fitting-piece-clause-fed
returns-then-fitting-piece-clause-fed c = λ logs bytes reads.
    piece_full c.feed.new.self logs bytes c.args.piece.now c.min-fitting.result _
    (omega (arith, c.min-fitting.ensures, reads.read, c.if-fitting-piece.true)) c.if-fitting-piece.true
    (c.in_default.ensures.fed logs bytes reads.represents)
    (c.line.ensures logs (bytes ++ take c.min-fitting.result c.args.piece.now) (c.in_default.ensures.fed logs bytes reads.represents))
