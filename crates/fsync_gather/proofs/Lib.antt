pub mod Rising
pub mod Following
pub mod Directories
pub mod Nodes
