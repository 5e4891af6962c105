pub mod Gone
pub mod InOrder
pub mod Chosen
pub mod Reading
pub mod Told
pub mod Sound
pub mod Oldest
pub mod Whole
