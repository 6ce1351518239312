-- With each column its width is added and its cells are kept.
use Rattle.litmus_text.proofs.{Vocabulary.arith, TableLaws.{widths_more, widths_whole}, KeptLaws.{column_more, columns_whole, kept_few}, ElementLaws.short_more}
use Rattle.litmus_text.proofs.column.set_widths.Goals as goal

pub loop-thread-preserved : goal.loop-thread-preserved
loop-thread-preserved g c = record {
  widths =
      widths_more g.A.Arch.writing c.args.places.now c.args.threads.now c.loop-thread.thread c.index-threads-thread.result c.width_of.result c.loop-thread.widths.items c.push.new.self.items
      (omega arith) c.index-threads-thread.is c.width_of.ensures.width c.loop-thread.invariant.widths c.push.ensures.items;
  kept =
      column_more 128 g.A.Arch.writing c.args.places.now c.args.threads.now c.loop-thread.thread c.index-threads-thread.result c.loop-thread.cells c.width_of.new.cells
      (omega arith) c.index-threads-thread.is c.loop-thread.invariant.kept c.width_of.ensures.kept;
  short = short_more 40 c.loop-thread.widths.items c.push.new.self.items c.width_of.result c.push.ensures.items c.loop-thread.invariant.short c.width_of.ensures.short;
}

pub returns-clause-widths : goal.returns-clause-widths
returns-clause-widths g c = widths_whole g.A.Arch.writing c.args.places.now c.args.threads.now c.loop-thread.thread c.loop-thread.widths.items (omega arith) c.loop-thread.invariant.widths

pub returns-clause-kept : goal.returns-clause-kept
returns-clause-kept g c = columns_whole 128 g.A.Arch.writing c.args.places.now c.args.threads.now c.loop-thread.thread c.loop-thread.cells (omega arith) c.loop-thread.invariant.kept

pub width_of-requires-clause-few : goal.width_of-requires-clause-few
width_of-requires-clause-few g c = kept_few 128 c.loop-thread.cells _ c.loop-thread.invariant.kept
