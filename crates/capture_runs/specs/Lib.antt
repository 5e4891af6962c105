pub mod Replaying
pub mod Replayed
pub mod Opened
pub mod Window
pub mod Refused
pub mod Looked
