pub mod BitLemmas
pub mod Runs
pub mod NumberSets
pub mod NumberLaws
