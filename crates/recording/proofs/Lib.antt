pub mod Laws
pub mod Events
mod Turns
mod Cases
