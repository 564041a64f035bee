-- The modules of the definitions: the output of `comm` and `join`, the merge that both are, the contracts of their
-- calls, and the laws.
pub mod Calls
pub mod Comm
pub mod Join
pub mod Laws
pub mod MergeSpec
pub mod Orders
pub mod Private
