pub mod View
pub mod Steps
pub mod Spans
