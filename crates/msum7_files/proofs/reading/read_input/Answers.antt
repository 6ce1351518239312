-- `read_input` feeds the input.
use Rattle.std.proofs.Common.{[], sym, subst}
use Rattle.msum7_files.specs.{declared.logs_fault.LogsFault.LogsFault, LogsFed.LogInputUnread}
use Rattle.msum7_files.proofs.LogsFedLaws.{input_fed, input_unread}
use Rattle.msum7_files.proofs.reading.read_input.Goals as goal

pub returns-in-Ok-sum_source : goal.returns-in-Ok-sum_source
returns-in-Ok-sum_source g c = input_fed _ _ c.sum_source.new.feeding (c.in-Ok-sum_source.ensures [] c.in-Ok.ensures)

pub returns-in-Err : goal.returns-in-Err
returns-in-Err g c =
    let P : LogsFault → Type 0 = λ fault. LogInputUnread (g.I.Source.seen c.args.input.now) (g.I.Source.seen c.sum_source.new.input) fault in
    subst P (sym c.fault_in_input.ensures) (input_unread _ _ c.sum_source.new.feeding c.in-Err.fault (c.in-Err.ensures [] c.in-Ok.ensures))
