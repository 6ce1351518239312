-- A short item is put in one piece.
use Rattle.litmus_text.proofs.{Vocabulary.arith, ItemText.short_link}
use Rattle.litmus_text.proofs.initial.put_link.Goals as goal

pub returns-then-thread-lt10 : goal.returns-then-thread-lt10
returns-then-thread-lt10 c =
    short_link c.args.thread c.args.register.now c.args.place.now c.args.page.now c.put_fixed.new.self c.if-thread-lt10.true (omega arith) (omega arith) c.put_fixed.ensures
