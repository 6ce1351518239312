pub mod FeedingLaws
pub mod FileLaws
pub mod LogLaws
pub mod EndLaws
pub mod FilesLaws
mod LogsFedLaws
pub mod SkipLaws
pub mod SkipFilesLaws
