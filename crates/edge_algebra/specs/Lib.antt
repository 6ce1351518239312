pub mod Compose
pub mod Laws
pub mod ComposingLaws
