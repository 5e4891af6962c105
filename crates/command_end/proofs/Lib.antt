pub mod Outcomes
pub mod Quiet
