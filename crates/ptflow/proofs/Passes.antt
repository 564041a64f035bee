-- Facts about the loops over one input, by blocks and by lines.
pub mod LineLoop
pub mod Exits
