pub mod Fsyncs
pub mod Stamped
pub mod Waiting
pub mod Copies
