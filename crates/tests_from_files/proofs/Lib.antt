pub mod TextLaws
pub mod FileLaws
pub mod QuotedCycleLaws
pub mod ClassifiedFileLaws
pub mod FilesLaws
pub mod FewLaws
