-- The contracts of public calls: bytes in memory as a source, and runs over streams.
pub mod Bytes
pub mod Streams
