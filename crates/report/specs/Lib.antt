pub mod Words
pub mod Window
pub mod Node
pub mod Policy
pub mod Refusal
pub mod Report
pub mod Laws
