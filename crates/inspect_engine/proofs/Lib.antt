pub mod Noting
pub mod Reasons
