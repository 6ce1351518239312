pub mod Premises
pub mod Joining
pub mod Exchange
pub mod Laws
