pub mod RecordRead
pub mod RecordWritten
