use Rattle.arch_trait.specs.PlaceNames.{number_in}
use Rattle.check_callers.proofs.Shown.{outcome_shown}
use Rattle.check_callers.proofs.executions.shows_outcome.Goals as goal

-- the verdict says that the execution is coherent
pub returns-then-verdict : goal.returns-then-verdict
returns-then-verdict g c =
    let judged = c.in_ok-verdict.ensures in (
      judged.execution,
      judged.read,
      outcome_shown g.A.Arch.NAME (number_in g.A.Arch.writing.registers) c.args.test.now judged.execution c.in_ok-verdict.verdict judged.verdict c.if-verdict.true,
    )
