-- The lemmas of this crate: what `perform` returns.
mod Performed
