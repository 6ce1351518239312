-- The law is its lemma.
use Rattle.lines_to_files.proofs.ListedLines as listed_lines
use Rattle.lines_to_files.proofs.listed_lines_read_back.Goals as goal

pub returns : goal.returns
returns c = listed_lines.listed_lines_read_back
