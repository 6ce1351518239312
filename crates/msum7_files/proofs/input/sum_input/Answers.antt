-- `sum_input` sums the input and writes its sum.
use Rattle.std.proofs.Common.{◌≡◌, [], ◌∷◌, None, Err, sym, ap, subst, ◌∙◌}
use Rattle.diy_io.specs.{Taken.SourceSeen, Wrote.SinkSeen}
use Rattle.msum7_files.specs.{declared.sum_end.SumEnd.SumEnd, FileFaults.sum_end_at, SumEnds.InputSummed}
use Rattle.msum7_files.proofs.{LogLaws.summed_refused, EndLaws.{input_said, input_faulty}}
use Rattle.msum7_files.proofs.input.sum_input.Goals as goal

pub write_sum-requires : goal.write_sum-requires
write_sum-requires g c =
    let summed = c.in-Ok-sum_source.ensures [] c.in-Ok.ensures in record { files = summed.log ∷ []; represents = summed.reads.represents }

pub returns-in-Ok-write_sum : goal.returns-in-Ok-write_sum
returns-in-Ok-write_sum g c =
    let summed = c.in-Ok-sum_source.ensures [] c.in-Ok.ensures in
    let w = c.in-Ok-write_sum.ensures _ summed.reads in
    input_said c.args.form _ _ _ c.sum_source.new.feeding summed w.sum w.is w.wrote.ok

pub returns-in-Ok-sum_source : goal.returns-in-Ok-sum_source
returns-in-Ok-sum_source g c =
    let summed = c.in-Ok-sum_source.ensures [] c.in-Ok.ensures in
    let w = c.in-Err.ensures _ summed.reads in
    input_said c.args.form _ _ _ c.sum_source.new.feeding summed w.sum w.is w.wrote.failed

pub returns-in-Err-Log : goal.returns-in-Err-Log
returns-in-Err-Log g c =
    let old : SourceSeen = g.I.Source.seen c.args.input.now in
    let new : SourceSeen = g.I.Source.seen c.sum_source.new.input in
    let out : SinkSeen = g.O.Sink.seen c.args.out.now in
    let P : SumEnd → Type 0 = λ end. InputSummed c.args.form old new out out end in
    let is : c.end_at.result ≡ sum_end_at None c.in-Err-Log.fault = cc (c.end_at.ensures, c.in-Err-Log.fault-is) in
    subst P (sym is)
    (input_faulty c.args.form old new out c.in-Err-Log.fault
    (summed_refused old new c.sum_source.new.feeding [] _ c.in-Err-Log.fault (c.sum_source.ensures [] c.in-Ok.ensures) (c.in-Err-Log.is ∙ ap Err c.in-Err-Log.field-0-is)))
