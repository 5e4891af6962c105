pub mod Files
pub mod Telling
