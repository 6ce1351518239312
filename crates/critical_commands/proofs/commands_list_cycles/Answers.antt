-- The command lists the edges of each critical cycle: the law is its lemma.
use Rattle.critical_commands.proofs.Written.{commands_list_cycles}
use Rattle.critical_commands.proofs.commands_list_cycles.Goals as goal

pub returns : goal.returns
returns c = commands_list_cycles
