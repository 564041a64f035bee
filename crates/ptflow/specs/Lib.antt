-- The modules with the definitions of this crate: the output of each tool (`Cuts`, `PasteText`, `TrOutput`, `Uniqs`),
-- the tools as engines, the contracts of public calls, laws of the output, and what only private functions use.
pub mod Calls
pub mod Cuts
pub mod Laws
pub mod Passes
pub mod PasteCall
pub mod PasteText
pub mod Private
pub mod ToolSpec
pub mod TrOutput
pub mod Uniqs
