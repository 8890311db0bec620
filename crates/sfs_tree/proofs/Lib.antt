pub mod Counted
pub mod FileBytes
pub mod Founded
pub mod JoinedChanged
pub mod Moved
pub mod Numbered
pub mod StoreKept
pub mod Stored
