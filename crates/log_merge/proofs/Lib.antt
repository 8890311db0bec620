pub mod OneMerge
pub mod Owned
pub mod Taking
