-- `skip_input` sums the input and writes its sum.
use Rattle.std.proofs.Common.{◌≡◌, [], ◌∷◌, None, Err, sym, ap, subst, ◌∙◌}
use Rattle.diy_io.specs.{Taken.SourceSeen, Wrote.SinkSeen}
use Rattle.msum7_files.specs.{declared.sum_end.SumEnd.SumEnd, FileFaults.sum_end_at, SkipEnds.InputSkipped}
use Rattle.msum7_files.proofs.SkipLaws.{sifted_refused, input_kept, input_over}
use Rattle.msum7_files.proofs.sift_input.skip_input.Goals as goal

pub write_sum-requires : goal.write_sum-requires
write_sum-requires g c =
    let summed = c.in-Ok-sift_source.ensures [] c.in-Ok.ensures in record { logs = summed.log ∷ []; represents = summed.reads.represents }

pub returns-in-Ok-write_sum : goal.returns-in-Ok-write_sum
returns-in-Ok-write_sum g c =
    let summed = c.in-Ok-sift_source.ensures [] c.in-Ok.ensures in
    let w = c.in-Ok-write_sum.ensures _ summed.reads in
    input_kept c.args.form _ _ _ _ c.sift_source.new.sifting summed w

pub returns-in-Ok-sift_source : goal.returns-in-Ok-sift_source
returns-in-Ok-sift_source g c =
    let summed = c.in-Ok-sift_source.ensures [] c.in-Ok.ensures in
    let w = c.in-Err.ensures _ summed.reads in
    (w.0, input_kept c.args.form _ _ _ _ c.sift_source.new.sifting summed w.1)

pub returns-in-Err-Log : goal.returns-in-Err-Log
returns-in-Err-Log g c =
    let old : SourceSeen = g.I.Source.seen c.args.input.now in
    let new : SourceSeen = g.I.Source.seen c.sift_source.new.input in
    let out : SinkSeen = g.O.Sink.seen c.args.out.now in
    let P : SumEnd → Type 0 = λ end. InputSkipped c.args.form old new out out (Err end) in
    let is : c.end_at.result ≡ sum_end_at None c.in-Err-Log.fault = cc (c.end_at.ensures, c.in-Err-Log.fault-is) in
    subst P (sym is)
    (input_over c.args.form old new out c.in-Err-Log.fault
    (sifted_refused old new c.sift_source.new.sifting [] _ c.in-Err-Log.fault (c.sift_source.ensures [] c.in-Ok.ensures) (c.in-Err-Log.is ∙ ap Err c.in-Err-Log.field-0-is)))
