pub mod Flow
pub mod FlowText
