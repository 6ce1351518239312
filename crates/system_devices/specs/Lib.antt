pub mod DirShelf
pub mod StdSink
pub mod StdSource
