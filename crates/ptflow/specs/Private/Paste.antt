-- The modules with definitions for the contracts of the private functions and types of `paste`: for its rows, by
-- buffers, slots or segments, for rows that share one input, and for `paste -s`.
pub mod BufferedRows
pub mod FillRow
pub mod Replaced
pub mod RowCells
pub mod SerialRest
pub mod SharedInput
pub mod TakenLines
pub mod Unrolled
pub mod Segments
