pub mod Received
pub mod Merged
pub mod Scripts
pub mod Sent
pub mod Processed
pub mod Exported
pub mod Streams
pub mod Told
