pub mod Table
pub mod Clear
pub mod Puts
pub mod Laws
pub mod ReadsBack
pub mod InCells
