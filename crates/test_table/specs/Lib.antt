pub mod Mirrored
