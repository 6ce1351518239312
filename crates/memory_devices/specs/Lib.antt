pub mod MemSink
pub mod MemSource
pub mod SureSource
pub mod MemFiles
pub mod MemEntries
pub mod MemShelf
