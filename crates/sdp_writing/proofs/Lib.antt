pub mod Splits
pub mod Alphabets
pub mod Connections
pub mod OneLines
pub mod Sections
pub mod ReadAgain
