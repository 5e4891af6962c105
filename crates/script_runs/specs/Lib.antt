pub mod StreamWords
pub mod Announced
