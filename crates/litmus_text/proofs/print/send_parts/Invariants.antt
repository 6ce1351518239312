-- The walk over the parts of a text sends each, and fewer are left.
use Rattle.litmus_text.proofs.{Vocabulary.{parts_left, test_seen}, SendLaws.SentTo}
use Rattle.litmus_text.proofs.print.send_parts.Given as goal

-- the text is sent up to the next part
abbrev pub invariant-loop-next : goal.invariant-loop-next
invariant-loop-next g l = SentTo g.A.Arch.writing (test_seen l.test) (g.O.Sink.seen l.fn.out) (g.O.Sink.seen l.out) l.fn.page l.page l.next

abbrev pub decreases-loop-next : goal.decreases-loop-next
decreases-loop-next g l = parts_left g.A.Arch.writing (test_seen l.test) l.next
