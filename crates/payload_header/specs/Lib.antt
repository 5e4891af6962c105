pub mod Payload
pub mod Reading
pub mod Faults
pub mod View
pub mod Writing
