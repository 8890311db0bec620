pub mod RowWritten
pub mod SlotsSoFar
pub mod SlotsWritten
