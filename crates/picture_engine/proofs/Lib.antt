mod Fills
mod Forms
pub mod Settled
pub mod Reasons
