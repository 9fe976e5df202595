-- Lemmas that the proofs of several functions cite.
mod Classes
mod Eights
pub mod Runs
mod Machine
pub mod Rows
mod Values
mod Lists
mod Handed
pub mod Answers
