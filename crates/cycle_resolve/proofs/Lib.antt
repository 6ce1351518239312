pub mod EventsAfter
