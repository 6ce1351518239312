-- Each column gives a thread.
use Rattle.litmus_text.proofs.{Vocabulary.{Begun, [], arith, length-append, ◌∷◌}, PartLoops.thread_step, RunnableRead.{registers_of, runnable_at}}
use Rattle.litmus_text.proofs.reading.whole.threads_of.Goals as goal

pub loop-thread-preserved : goal.loop-thread-preserved
loop-thread-preserved c =
    let begun : Begun = record { names = []; values = c.args.values.now } in
    let k = c.in_ok-push.ensures.items in
    record {
      threads = rw k (thread_step begun c.args.columns.now c.loop-thread.thread c.index-columns-thread.result c.loop-thread.threads.items c.in_ok-thread_of.field-0 c.loop-thread-test.true c.index-columns-thread.is c.in_ok-thread_of.ensures c.loop-thread.invariant.threads);
      count = let e = c.loop-thread.invariant.count in rw k (omega (arith, length-append c.loop-thread.threads.items (c.in_ok-thread_of.field-0 ∷ [])));
    }

pub thread_of-requires-clause-registers : goal.thread_of-requires-clause-registers
thread_of-requires-clause-registers c = registers_of c.loop-thread.thread c.args.values.now c.requires.registers

pub thread_of-requires-clause-runnable : goal.thread_of-requires-clause-runnable
thread_of-requires-clause-runnable c =
    runnable_at c.args.columns.now c.loop-thread.thread c.index-columns-thread.result c.requires.runnable c.loop-thread-test.true c.index-columns-thread.is
