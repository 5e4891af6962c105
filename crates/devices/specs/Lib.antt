pub mod Held
pub mod Passed
pub mod Written
pub mod Filed
