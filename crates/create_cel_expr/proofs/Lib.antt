pub mod Lists
pub mod Faults
pub mod Sizes
pub mod Judgings
pub mod Writing
