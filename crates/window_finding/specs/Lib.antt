pub mod Words
pub mod First
pub mod Turns
pub mod Finding
