pub mod Byte
pub mod Tree
pub mod Abstract
pub mod Grammar
pub mod Reading
pub mod Resume
pub mod Table
pub mod Answer
