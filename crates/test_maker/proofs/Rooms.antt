-- That there is room for the next thread of a cycle's test and for its terms.
use Rattle.std.proofs.Common.{◌≡◌, ℕ, ◌+◌, ◌<◌, ◌≤◌, List, ◌++◌, length, take, map, Some, sym, ◌∙◌, ap, arith, slice_get, length-take}
use Rattle.std.proofs.{lemmas.Option.{get_or_from_slice_get, slice_get_within}, lemmas.List.length-map}
use Rattle.arrayvec.specs.ArrayVec.{ArrayVec}
use Rattle.relax_edges.specs.{declared.TheConstants.MAX_EDGES, declared.kinds.ObsMode.ObsMode, declared.edge.Edge.Edge}
use Rattle.cycle_events.specs.Resolution.{IsResolved}
use Rattle.final_cond.specs.{declared.cond.Cond.Cond, declared.cond.TheConstants.MAX_TERMS, Conditions.term_view}
use Rattle.arch_trait.specs.{declared.code.Code.Code, declared.step.Step.Step, Codes.thread_code_of, Threads.{Puts, compiled}}
use Rattle.tests_force_cycles.specs.{CycleSteps.{cycle_steps, numbers_read}, TestOf.{plain, last_terms, load_terms, thread_terms}}
use Rattle.tests_force_cycles.proofs.{StepsAt.steps_few, Terms.{reads-count, terms_room, thread_terms-count}}
use Rattle.test_maker.proofs.Growing.{Grown}

-- the first k threads of a cycle's test are made
abbrev pub GrownTo : Puts → (ℕ → List ℕ) → List Edge → ObsMode → ℕ → ArrayVec Code → Cond → Cond → Type 0
GrownTo a name es mode k threads cond cond' =
    Grown a name (cycle_steps es mode plain) k (map thread_code_of threads.items) (map term_view cond.terms.items) (map term_view cond'.terms.items)

-- there is room for a thread
pub thread_room : (a : Puts) (name : ℕ → List ℕ) (es : List Edge) (mode : ObsMode) (k : ℕ) (threads : ArrayVec Code) (cond cond' : Cond) →
    IsResolved es → GrownTo a name es mode k threads cond cond' → k < length (cycle_steps es mode plain) → length threads.items < MAX_EDGES
thread_room a name es mode k threads cond cond' r g h =
    let long : length threads.items ≡ length (take k (cycle_steps es mode plain)) =
    sym (length-map threads.items thread_code_of) ∙ ap length g.codes_are ∙ length-map (take k (cycle_steps es mode plain)) (compiled a) in
    omega (arith, long, length-take k (cycle_steps es mode plain), h, steps_few es mode plain, r.composes.few)

-- there is room for its terms
pub load_room : (a : Puts) (name : ℕ → List ℕ) (es : List Edge) (mode : ObsMode) (k : ℕ) (steps : List Step) (threads : ArrayVec Code) (cond cond' : Cond) →
    IsResolved es → GrownTo a name es mode k threads cond cond' → slice_get (cycle_steps es mode plain) k ≡ Some steps →
    map term_view cond.terms.items ≡ last_terms es mode → length cond'.terms.items + length (numbers_read steps) ≤ MAX_TERMS
load_room a name es mode k steps threads cond cond' r g got last =
    let prefix = load_terms a name 0 (take k (cycle_steps es mode plain)) in
    let long : length cond'.terms.items ≡ length (last_terms es mode ++ prefix) =
    sym (length-map cond'.terms.items term_view) ∙ ap length (g.terms_are ∙ ap (λ terms. terms ++ prefix) last) in
    let room = terms_room a name es mode plain k steps r (slice_get_within (cycle_steps es mode plain) k steps got) in
    let here = ap (λ s. length (thread_terms a name k s)) (get_or_from_slice_get (cycle_steps es mode plain) k steps steps got) in
    omega (arith, long, room, here, thread_terms-count a name k steps, reads-count steps, r.composes.few)
