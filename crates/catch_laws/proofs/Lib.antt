pub mod Caught
