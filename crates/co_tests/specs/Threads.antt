-- How a coherence test grows thread by thread: for clauses of private functions.
use Rattle.std.specs.Prelude.{ℕ, ◌≡◌, List, ◌++◌, map, Some, None, Result, Ok, Err}
use Rattle.arrayvec.specs.ArrayVec.{ArrayVec}
use Rattle.relax_edges.specs.declared.edge.Edge.{Edge}
use Rattle.final_cond.specs.{declared.cond.Cond.Cond, Conditions.term_view}
use Rattle.arch_trait.specs.{declared.code.Code.Code, Codes.thread_code_of, Threads.{Puts, compiled}}
use Rattle.tests_force_cycles.specs.TestOf.{load_terms}
use Rattle.co_tests.specs.{declared.refusal.CoRefusal.CoRefusal, CoherenceTests.coherence_steps, CoRefusals.{co_refusal, crowded_thread}}

-- a call makes the code of all threads and appends the terms of their loads, or refuses the first that needs too many registers
abbrev pub PutsThreads : Puts → (ℕ → List ℕ) → List Edge → ArrayVec Code → Cond → Cond → Result (Unit {0}) CoRefusal → Type 0
PutsThreads a register_name es threads cond cond' (Ok _) =
    (crowded_thread a es ≡ None) × (map thread_code_of threads.items ≡ map (compiled a) (coherence_steps es)) ×
    (cond'.quantifier ≡ cond.quantifier) ×
    (map term_view cond'.terms.items ≡ map term_view cond.terms.items ++ load_terms a register_name 0 (coherence_steps es))
PutsThreads a register_name es threads cond cond' (Err refusal) = crowded_thread a es ≡ Some (co_refusal refusal)
