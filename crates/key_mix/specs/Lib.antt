pub mod Faults
pub mod Jobs
pub mod Sending
pub mod Rows
pub mod Made
pub mod Preparing
