pub mod Parts
pub mod Walks
pub mod Passes
pub mod Prints
