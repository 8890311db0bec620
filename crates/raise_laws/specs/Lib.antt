pub mod Next
pub mod Spans
