pub mod StdSinkLemmas
