mod ReadingRows
pub mod LeftLaws
pub mod TermLaws
pub mod WithinLaws
pub mod StateLaws
pub mod BackLaws
pub mod PrintLaws
pub mod KnownLaws
pub mod TextLaws
pub mod TermText
