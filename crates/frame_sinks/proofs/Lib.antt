pub mod Written
pub mod Streams
pub mod Shown
pub mod Filed
