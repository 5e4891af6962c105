pub mod Different
pub mod Tables
mod RunLaws
mod TreeLaws
pub mod CountLaws
pub mod Keys
mod BothLaws
pub mod StreamLaws
pub mod Kept
pub mod Said
pub mod Texts
pub mod Omissions
