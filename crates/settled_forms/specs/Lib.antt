pub mod Settled
pub mod Pieces
pub mod Packed
