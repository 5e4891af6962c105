pub mod Firsts
pub mod InTurn
pub mod Made
pub mod Numbers
pub mod Part
pub mod Pixels
pub mod Ranges
pub mod Thinned
