pub mod Set
pub mod Run
pub mod Kinds
pub mod Faults
pub mod Steps
pub mod Rows
pub mod Found
