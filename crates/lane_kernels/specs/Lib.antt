pub mod Differences
pub mod Formulas
pub mod Lanes
pub mod Marks
pub mod Octets
pub mod Pixels
