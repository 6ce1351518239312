-- That the executions that the test of a cycle asks for are the outcomes of its program.
use Rattle.tests_force_cycles.proofs.Headline.{tests_ask_law}
use Rattle.tests_force_cycles.proofs.tests_ask.Goals as goal

pub returns : goal.returns
returns c = tests_ask_law
