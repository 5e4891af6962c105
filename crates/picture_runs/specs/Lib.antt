pub mod Asked
pub mod Conversions
pub mod Picturing
