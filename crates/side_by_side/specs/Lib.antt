pub mod Steering
pub mod Going
pub mod Strands
pub mod Steps
pub mod InOrder
pub mod Side
pub mod Sides
pub mod Oldest
