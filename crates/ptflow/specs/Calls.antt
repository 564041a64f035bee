-- The modules with the contracts of public calls: of the engines on one input, and of `paste` without `-s`.
pub mod Passes
pub mod PasteCall
