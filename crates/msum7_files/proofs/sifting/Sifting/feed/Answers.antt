-- `Sifting::feed` answers that the log goes past 2^40 bytes, or that there was no memory.
use Rattle.std.proofs.Common.{◌++◌, take, arith}
use Rattle.msum7_files.proofs.SkipLaws.{piece_over}
use Rattle.msum7_files.proofs.sifting.Sifting.feed.Goals as goal

pub returns-then-fitting-piece-clause-fed : goal.returns-then-fitting-piece-clause-fed
returns-then-fitting-piece-clause-fed c = λ logs bytes reads.
    piece_over c.feed.new.self logs bytes c.args.piece.now c.min-fitting.result _
    (omega (arith, c.min-fitting.ensures, reads.read, c.if-fitting-piece.true)) c.if-fitting-piece.true
    (c.line.ensures logs (bytes ++ take c.min-fitting.result c.args.piece.now) (c.in_ok-feed.ensures logs bytes reads.represents))
