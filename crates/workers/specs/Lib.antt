pub mod Keeping
pub mod Phases
pub mod Serving
pub mod Works
