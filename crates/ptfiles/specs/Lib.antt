-- The definitions of this crate: the model of `Files`, the state of a closed sink, the contract of a run over files
-- (`Shell`), the contracts of other public calls, and those of private functions.
pub mod Calls
pub mod Files
pub mod Outputs
pub mod Private
pub mod Shell
