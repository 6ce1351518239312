pub mod NamesUnder
