pub mod Arrivals
pub mod Inspected
pub mod Told
