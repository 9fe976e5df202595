pub mod Given
pub mod Judged
