pub mod Plan
pub mod Greedy
pub mod Faults
pub mod Sent
pub mod Sender
pub mod Text
pub mod Sending
