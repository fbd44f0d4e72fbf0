pub mod Accounts
pub mod Reserve
