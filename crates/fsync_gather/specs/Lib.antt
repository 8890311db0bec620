pub mod Next
pub mod Gathers
