pub mod Form
pub mod Files
