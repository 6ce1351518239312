pub mod Names
pub mod ElementTests
pub mod Runs
pub mod Candidates
pub mod CoherenceLaws
pub mod KeptLists
