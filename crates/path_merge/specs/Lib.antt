pub mod Stays
pub mod Reached
pub mod Sent
pub mod Admitted
pub mod Played
pub mod Steps
pub mod Stage
pub mod Unfit
