-- How a call that sums logs ended.
use Rattle.std.proofs.Common.{◌≡◌, ℕ, List, [], ◌∷◌, refl, None}
use Rattle.std.specs.Prelude.{Ok}
use Rattle.diy_io.specs.{Taken.SourceSeen, Wrote.SinkSeen}
use Rattle.msum7_files.specs.{declared.sum_form.SumForm.SumForm, SumForms.{form_text}}
use Rattle.msum7_files.specs.{declared.feeding.Feeding.Feeding, declared.feeding.LogFault.LogFault}
use Rattle.msum7_files.specs.{declared.feeding.LogFault.TheVariants.{Wrong, TooMuch, NoMemory}, FileFaults.sum_end_at}
use Rattle.msum7_files.specs.{FileFeeding.{IsFaulty, LogSummed, LogFaulty}, SumEnds.{InputSaid, InputStopped, InputSummed}}

-- this was done with the sum of an input
pub input_said : (form : SumForm) (old new : SourceSeen) (done : List ℕ → Type 0) (feeding : Feeding)
    → (s : LogSummed old new feeding []) → (sum : List ℕ) → form_text form (s.log ∷ []) ≡ Ok sum → done sum → InputSaid form old new done
input_said form old new done feeding s sum is wrote = record {
  sum = sum;
  read = record { log = s.log; text = s.text; at_end = s.at_end; once = s.once; short = s.short; taken = s.taken; no_fault = s.no_fault; is = is };
  wrote = wrote;
}

-- an input is at an error
input_stopped : (old new : SourceSeen) (fault : LogFault) → LogFaulty old new [] fault × (new.faults ≡ old.faults) → InputStopped old new (λ log bytes. IsFaulty [] log bytes fault)
input_stopped old new fault f = record { log = f.0.log; text = f.0.text; bytes = f.0.bytes; taken = f.0.taken; ends = f.0.ends; is = f.0.is; no_fault = f.1 }

-- an input with an error
pub input_faulty : (form : SumForm) (old new : SourceSeen) (a : SinkSeen) (fault : LogFault) → LogFaulty old new [] fault × (new.faults ≡ old.faults)
    → InputSummed form old new a a (sum_end_at None fault)
input_faulty form old new a (Wrong error) f = (input_stopped old new (Wrong error) f, refl)
input_faulty form old new a (TooMuch line) f = (input_stopped old new (TooMuch line) f, refl)
input_faulty form old new a NoMemory f = refl
