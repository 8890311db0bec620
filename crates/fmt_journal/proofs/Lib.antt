pub mod HeadWritten
