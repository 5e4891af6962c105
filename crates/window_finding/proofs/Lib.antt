pub mod Spelling
pub mod Distinct
pub mod Noted
pub mod Found
pub mod InOrder
