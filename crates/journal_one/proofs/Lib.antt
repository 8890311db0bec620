pub mod Apart
pub mod Bodies
pub mod Kept
pub mod Packing
pub mod Places
pub mod Spans
pub mod Steps
