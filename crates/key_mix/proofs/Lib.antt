pub mod InRow
mod Inputs
pub mod Mixed
pub mod Parts
pub mod Pictures
pub mod Resampled
pub mod Sent
pub mod Refused
pub mod Steps
pub mod Alone
pub mod MadeParts
pub mod MadePictures
pub mod Prepared
