pub mod Inputs
pub mod Converting
