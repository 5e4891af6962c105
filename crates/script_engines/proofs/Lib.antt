mod MaskLemmas
mod LaneLemmas
mod DigitLemmas
mod RestLemmas
mod LineLemmas
mod FrameLemmas
pub mod FormLemmas
pub mod OctetLemmas
pub mod WindowLemmas
mod RehearsalLemmas
mod FaultLemmas
mod RehearsalReading
mod RehearsedLemmas
pub mod TraceLemmas
mod UntracedLemmas
pub mod LinesOnce
pub mod LinesFollowed
