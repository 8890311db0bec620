pub mod Catch
