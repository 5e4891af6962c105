pub mod CommaLemmas
pub mod Ended
pub mod Printed
pub mod Refusals
pub mod SetSums
pub mod SaidTexts
pub mod Blaming
pub mod Splits
