pub mod Brought
pub mod Gathered
pub mod History
pub mod Laws
pub mod Spans
