-- That `send_refusal` sends the line of a refusal.
use Rattle.run_status.proofs.line.send_refusal.Goals as goal

pub returns-in-DoesNotCompose : goal.returns-in-DoesNotCompose
returns-in-DoesNotCompose g c = rw c.in-DoesNotCompose.is c.send_numbered-in-DoesNotCompose.ensures

pub returns-in-TooFewThreads : goal.returns-in-TooFewThreads
returns-in-TooFewThreads g c = rw c.in-TooFewThreads.is c.send_name-in-TooFewThreads.ensures

pub returns-in-NotCoherence : goal.returns-in-NotCoherence
returns-in-NotCoherence g c = rw c.in-NotCoherence.is c.send_name-in-NotCoherence.ensures

pub returns-in-TooManyRegisters : goal.returns-in-TooManyRegisters
returns-in-TooManyRegisters g c = rw c.in-TooManyRegisters.is c.send_numbered-in-TooManyRegisters.ensures
