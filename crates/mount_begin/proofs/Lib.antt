pub mod EntriesAscend
pub mod Shared
