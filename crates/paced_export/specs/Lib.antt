pub mod Pacing
pub mod Counts
pub mod Paced
pub mod PacedExported
pub mod PacedRefused
