-- That `of_files` answers as classify7 does over files.
use Rattle.diy_tools.proofs.families.of_files.Goals as goal

pub returns-clause-answers : goal.returns-clause-answers
returns-clause-answers g c = record {
  end = c.classify_on.result;
  ends = record { classified = c.classify_on.ensures.classified; stay = c.classify_on.ensures.stay };
  status_is = c.files_end.ensures.status;
}
