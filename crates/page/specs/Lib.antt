pub mod Page
pub mod Laws
