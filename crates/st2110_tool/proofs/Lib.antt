pub mod ReadScripts
pub mod Unfinished
