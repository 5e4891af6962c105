mod Contents
mod Passing
pub mod Saying
pub mod Refusals
