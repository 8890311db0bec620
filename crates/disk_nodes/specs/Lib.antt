pub mod Indexed
pub mod Names
pub mod Nodes
pub mod OldKept
pub mod Rooms
