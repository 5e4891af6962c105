pub mod FramesRead
pub mod Sendings
pub mod SentParts
pub mod Readings
pub mod Written
pub mod Histories
