pub mod Faults
pub mod Gathers
pub mod Opening
pub mod Missing
pub mod Contested
pub mod Report
