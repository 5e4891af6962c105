pub mod Faults
pub mod Operations
pub mod Thinned
