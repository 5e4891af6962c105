pub mod Follows
mod FileUnder
mod Stops
