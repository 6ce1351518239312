pub mod SureSourceLemmas
pub mod FilesLaws
pub mod EntriesLaws
pub mod ShelfLaws
