pub mod PaceLaws
pub mod PacedLists
pub mod CountLemmas
pub mod PacedLoops
pub mod PacedRecordings
pub mod PacedRefusals
