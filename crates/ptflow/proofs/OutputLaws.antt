-- The proofs of the laws of the output for a whole input, for each tool that has some: `cut`, `paste`, `tr` and
-- `uniq`.
pub mod Cuts
pub mod Pastes
pub mod Trs
pub mod Uniqs
