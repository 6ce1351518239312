-- The loop of `send_pieces`: what is sent so far.
use Rattle.std.proofs.Common.{take}
use Rattle.diy_io.specs.{Page.SentAll, Pieces.joined_text}
use Rattle.diy_io.proofs.page.Page.send_pieces.Given as goal

-- the pieces so far are sent
abbrev pub invariant-loop-piece : goal.invariant-loop-piece
invariant-loop-piece g l = SentAll (g.O.Sink.seen l.fn.out) l.fn.self (g.O.Sink.seen l.out) l.self (joined_text (take l.piece-index l.pieces))
