pub mod Needs
pub mod NeedLaws
