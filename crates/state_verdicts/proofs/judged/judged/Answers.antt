-- The verdict is that of the candidate.
use Rattle.state_verdicts.proofs.judged.judged.Goals as goal

pub returns : goal.returns
returns g c = record { verdict = c.judged_candidate.ensures.verdict; decided = c.judged_candidate.ensures.decided; coherent = c.judged_candidate.ensures.coherent }
