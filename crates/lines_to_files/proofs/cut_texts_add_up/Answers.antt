-- The law is its lemma.
use Rattle.lines_to_files.proofs.CutTexts as cut_texts
use Rattle.lines_to_files.proofs.cut_texts_add_up.Goals as goal

pub returns : goal.returns
returns c = cut_texts.cut_texts_add_up
