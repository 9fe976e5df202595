pub mod Laws
pub mod Computing
mod Cases
