pub mod WriteOrders
pub mod OrderLaws
