pub mod Ranks
pub mod Spellings
pub mod WordBounds
pub mod EdgeList
pub mod HashedNames
pub mod EachKind
pub mod WordTable
