pub mod Records
pub mod Recorded
pub mod Event
pub mod Lengths
pub mod Turn
pub mod Run
