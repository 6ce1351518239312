pub mod Arc
pub mod KeptValues
