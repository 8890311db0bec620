pub mod FileDisk
pub mod FileDiskLaws
