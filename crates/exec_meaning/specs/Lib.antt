pub mod EndedRuns
pub mod StandingEdges
pub mod Finals
