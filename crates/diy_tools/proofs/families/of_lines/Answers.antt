-- That `of_lines` answers as classify7 does over the input's lines.
use Rattle.diy_tools.proofs.families.of_lines.Goals as goal

pub returns-clause-answers : goal.returns-clause-answers
returns-clause-answers g c = record {
  result = c.classify_lines.result;
  classifies = c.classify_lines.ensures;
  status_is = c.lines_end.ensures.status;
}
