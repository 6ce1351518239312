pub mod StateLaws
pub mod LoadLists
pub mod Judging
pub mod Deciding
pub mod Results
