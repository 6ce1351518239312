-- What is printed of logs.
-- Source: own.
use Rattle.std.specs.Prelude.{ℕ, List, Result}
use Rattle.log_sum.specs.{declared.errors.LogError.LogError, Representing.{logs_text, logs_table}}
use Rattle.msum7_files.specs.declared.sum_form.SumForm.{SumForm}
use Rattle.msum7_files.specs.declared.sum_form.SumForm.TheVariants as forms

-- what is printed of whole logs in a form, or their first error
abbrev pub form_text : SumForm → List (List ℕ) → Result (List ℕ) LogError
form_text forms.Log logs = logs_text logs
form_text forms.Table logs = logs_table logs
