-- How the state grows by the registers of one thread.
use Rattle.exec_meaning.proofs.FinalLaws.{threads_more}
use Rattle.exec_meaning.proofs.final_state.add_threads.Goals as goal

pub loop-thread-preserved : goal.loop-thread-preserved
loop-thread-preserved g c =
    threads_more g.A.Arch.writing.registers c.loop-thread.thread c.args.traces.now c.index-traces-thread.result c.loop-thread.state c.add_registers.new.state c.args.state.now
    c.loop-thread-test.true c.index-traces-thread.is c.loop-thread.invariant c.in_ok-add_registers.ensures
