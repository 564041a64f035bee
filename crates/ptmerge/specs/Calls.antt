-- The contracts of public calls: of `comm` and `join`, of a merge and its steps, and of the cursor of one input.
pub mod Comm
pub mod Cursor
pub mod Join
pub mod KeySpan
pub mod MergeCall
pub mod MergeSlots
pub mod MergeSpec
pub mod MergeSteps
pub mod Sides
