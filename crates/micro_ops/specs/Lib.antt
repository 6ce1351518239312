pub mod Machine
pub mod Machines
pub mod Running
pub mod RunThreads
pub mod Runners
pub mod Renumbering
pub mod RunLaws
