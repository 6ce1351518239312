-- That `next_line` finds the first line and the lines after it.
use Rattle.lines_to_files.proofs.FirstLines.{cut_lines}
use Rattle.lines_to_files.proofs.text_lines.next_line.Goals as goal

pub returns-in-Some-clause-lines : goal.returns-in-Some-clause-lines
returns-in-Some-clause-lines c = cut_lines c.args.last c.args.text.now _ _ _ c.in-Some.ensures.parts c.without_return.ensures
