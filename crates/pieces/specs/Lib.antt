pub mod Pieces
pub mod Laws
