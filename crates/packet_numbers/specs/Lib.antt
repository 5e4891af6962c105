pub mod BitList
pub mod Numbers
