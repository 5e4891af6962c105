pub mod Groups
pub mod PackedSamples
pub mod Rows
