pub mod Critical
pub mod CycleEdges
pub mod TwoThreads
pub mod Links
pub mod Listed
pub mod CriticalLaws
