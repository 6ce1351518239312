-- That `check` answers as mcheck7 does.
use Rattle.diy_tools.proofs.checking.check.Goals as goal

pub returns-clause-answers : goal.returns-clause-answers
returns-clause-answers g c = record {
  end = c.check_on.result;
  ends = record { checked = c.check_on.ensures.checked; stay = c.check_on.ensures.stay };
  status_is = c.check_end.ensures.status;
}
