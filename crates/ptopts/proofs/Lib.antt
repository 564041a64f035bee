-- The list of the modules of lemmas in this folder, which the proofs of the functions use.
pub mod Common
pub mod CommandGrammar
pub mod EachTool
pub mod GroupInvariant
pub mod CheckedCommand
pub mod CutOptions
pub mod ParsedIsSpelled
pub mod ArgsInvariant
pub mod OptionViews
pub mod ReadWords
pub mod SameFaults
pub mod InputCounts
pub mod SpelledIsParsed
