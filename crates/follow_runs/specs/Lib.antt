pub mod Followed
pub mod Pictured
pub mod Outputs
