pub mod Fills
pub mod Pictures
pub mod Sinks
pub mod Files
