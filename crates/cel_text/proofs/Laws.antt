-- What is true of the definitions. A reader who believes the checker need not read on.
pub mod Class
pub mod Part
pub mod Admit
pub mod Run
pub mod Complete
pub mod Trace
pub mod Sound
pub mod Move
pub mod Place
pub mod Limit
pub mod Exact
pub mod Find
pub mod Table
