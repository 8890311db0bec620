pub mod Lending
pub mod Renewing
