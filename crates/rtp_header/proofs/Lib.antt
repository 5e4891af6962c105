pub mod Steps
pub mod Taken
pub mod Again
pub mod Faulted
pub mod Written
