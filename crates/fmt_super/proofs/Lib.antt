pub mod SuperRead
pub mod SuperWritten
