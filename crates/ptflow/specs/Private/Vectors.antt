-- The modules with definitions for the vector code in `simd`: for sets of bytes, compression, searches, and byte
-- maps.
pub mod ByteSets
pub mod Compress
pub mod Shift
pub mod Tables
