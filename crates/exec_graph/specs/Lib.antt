pub mod Ties
pub mod JudgedCycles
pub mod Graphs
pub mod GraphLaws
pub mod Drawing
