-- The list of the modules of definitions of this crate.
pub mod Args
pub mod Commands
pub mod Faults
pub mod Laws
pub mod Private
pub mod Syntax
pub mod View
