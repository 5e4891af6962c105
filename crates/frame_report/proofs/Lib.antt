pub mod Gathering
pub mod Ranges
pub mod ContestedTexts
pub mod MissingTexts
pub mod FrameTexts
