-- Where an edge doesn't join its events, it doesn't stand in the execution of a program that makes them.
use Rattle.std.proofs.Common.{◌≡◌, ℕ, ◌<◌, List, length, ◌∙◌, ap, subst}
use Rattle.relax_edges.specs.declared.{kinds.ObsMode.ObsMode, edge.Edge.Edge}
use Rattle.cycle_events.specs.Resolution.{edge_at, event_after, event_before}
use Rattle.cycle_events.proofs.CycleRound.{after_below, before_below, after_before}
use Rattle.program_meaning.specs.{Accesses.Access, Executions.Execution, Programs.Program, Programs.accesses_in, Standing.AccessAt, Standing.Joins}
use Rattle.program_meaning.specs.{Standing.{EdgeStands, access_at}, Intended.cycle_accesses, Intended.event_at}
use Rattle.accesses_force_cycles.proofs.{AllStand.is_event_at, Resolves.Resolves}

-- the edge into an event that it doesn't join with the one before doesn't stand in the execution
pub edge_breaks : (es : List Edge) (mode : ObsMode) (number : ℕ → ℕ) (p : Program) (x : Execution) (event : ℕ) → Resolves es → accesses_in p x ≡ cycle_accesses es mode number → event < length es → (Joins (cycle_accesses es mode number) x (edge_at es (event_before es event)) (event_at es number (event_before es event)) (event_at es number event) → ⊥) → EdgeStands es p x (event_before es event) → ⊥
edge_breaks es mode number p x event r made below breaks s =
    breaks (subst (λ (z : AccessAt × AccessAt × List (List Access)). Joins z.2 x (edge_at es (event_before es event)) z.0 z.1)
    (λ t. (source t, target t, made t)) s.stands.joins)
  where
    before : event_before es event < length es
    before = before_below es event below

    source : access_at s.source ≡ event_at es number (event_before es event)
    source = is_event_at es mode number p x (event_before es event) s.source r made before s.leaves

    target : access_at s.target ≡ event_at es number event
    target =
        is_event_at es mode number p x (event_after es (event_before es event)) s.target r made (after_below es (event_before es event) before) s.enters
        ∙ ap (event_at es number) (after_before es event below)
