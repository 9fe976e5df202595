pub mod Bytes
pub mod Fields
pub mod Input
pub mod Texts
pub mod Laws
