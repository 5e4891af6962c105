pub mod Views
pub mod Shown
pub mod Refused
