-- The definitions of this crate: streams whose bytes are known, files in memory, and what runs over these have to
-- do.
pub mod KnownStreams
pub mod NamedFiles
