pub mod Streams
pub mod Reading
pub mod Sent
pub mod SentPart
