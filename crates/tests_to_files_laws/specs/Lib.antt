pub mod OwnFiles
