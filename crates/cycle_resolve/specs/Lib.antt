pub mod KeptEvents
