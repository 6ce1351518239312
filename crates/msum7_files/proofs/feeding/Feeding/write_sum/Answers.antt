-- `Feeding::write_sum` writes the sum of the logs that were ended, in a form.
use Rattle.std.proofs.Common.{ap, ◌∙◌}
use Rattle.log_sum_laws.proofs.Represented.{represented_text, represented_table}
use Rattle.msum7_files.specs.{declared.sum_form.SumForm.SumForm, SumForms.form_text}
use Rattle.msum7_files.proofs.feeding.Feeding.write_sum.Goals as goal

pub returns-in-Log : goal.returns-in-Log
returns-in-Log g c = λ logs reads. record {
  sum = _;
  is = ap (λ (form : SumForm). form_text form logs) c.in-Log.is ∙ represented_text c.args.self.now.summer logs reads.represents;
  wrote = c.write_sum.ensures;
}

pub returns-in-Table : goal.returns-in-Table
returns-in-Table g c = λ logs reads. record {
  sum = _;
  is = ap (λ (form : SumForm). form_text form logs) c.in-Table.is ∙ represented_table c.args.self.now.summer logs reads.represents;
  wrote = c.write_table.ensures;
}
