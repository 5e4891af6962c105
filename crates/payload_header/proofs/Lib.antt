pub mod HeaderLists
pub mod Grammar
pub mod Taken
pub mod Again
pub mod Tests
pub mod Refused
pub mod Both
pub mod Written
