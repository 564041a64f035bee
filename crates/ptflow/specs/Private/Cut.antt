-- The modules with definitions for the contracts of the private functions and types of `cut`: for the bytes and the
-- fields of lines, and for byte shuffles.
pub mod CutFrom
pub mod FieldOffsets
pub mod FieldSlices
pub mod ShortLines
