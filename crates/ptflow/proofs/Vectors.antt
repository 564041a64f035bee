-- The modules with facts about the vector code in `simd`.
pub mod Compress
pub mod Equal
pub mod Lanes
pub mod NextTerminator
pub mod Removal
