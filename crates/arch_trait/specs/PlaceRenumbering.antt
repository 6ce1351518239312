-- Accesses and code of a thread whose locations have other numbers.
-- Source: own.
use Rattle.std.specs.Prelude.{ℕ, map}
use Rattle.micro_ops.specs.Renumbering.{op_at}
use Rattle.arch_trait.specs.{declared.step.Step.Step, Threads.ThreadCode}

-- an access, its location under the number that `number` gives it
abbrev pub step_at : (ℕ → ℕ) → Step → Step
step_at number s = record { dir = s.dir; mark = s.mark; place = number s.place; value = s.value; link = s.link }

-- the code of a thread, its locations under the numbers that `number` gives them
abbrev pub renumbered : (ℕ → ℕ) → ThreadCode → ThreadCode
renumbered number code = record {
  instrs = map (op_at number) code.instrs;
  links = map (λ link. (link.0, number link.1)) code.links;
  loads = code.loads;
}
