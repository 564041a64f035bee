-- The modules with definitions that only private functions and proofs use: for each tool, for the loops over one
-- input, and for vector code.
pub mod Cut
pub mod Passes
pub mod Paste
pub mod PasteCall
pub mod Tr
pub mod Uniq
pub mod Vectors
