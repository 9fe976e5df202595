pub mod Replay
pub mod Window
pub mod Turn
pub mod Steps
