pub mod Numbers
pub mod Units
pub mod Values
pub mod Blocks
pub mod GroupLemmas
pub mod Marking
pub mod Rasters
pub mod Parts
