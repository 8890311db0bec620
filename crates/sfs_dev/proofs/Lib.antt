mod Draws
mod Drawing
pub mod Held
mod Moments
pub mod ReadRuns
pub mod Runs
pub mod Torn
mod Writes
