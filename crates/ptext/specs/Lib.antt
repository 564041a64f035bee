-- The definitions of this crate: the postcondition of `perform`.
pub mod Perform
