use Rattle.check_callers.proofs.executions.is_coherent_text.Goals as goal

-- both calls said it of the execution that was read
pub returns-in-Ok : goal.returns-in-Ok
returns-in-Ok g c = (
  c.in_ok-execution.execution,
  rw (← c.threads.ensures, ← c.places.ensures) c.in_ok-execution.ensures.read,
  λ coherent. (c.in-Ok-true.ensures.0 c.in-Ok-true.field-0-test, c.in-Ok.ensures.0 coherent),
)
