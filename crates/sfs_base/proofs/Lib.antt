pub mod BasicLists
pub mod BasicNumbers
pub mod BasicOptions
pub mod BasicTruth
pub mod Bytes
pub mod Causes
pub mod Moves
pub mod Steps
