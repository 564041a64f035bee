-- The lemmas of this crate: runs over streams and over named files of which all bytes are known.
pub mod KnownLemmas
pub mod NamedLemmas
