pub mod Ended
pub mod Untouched
pub mod InTurn
