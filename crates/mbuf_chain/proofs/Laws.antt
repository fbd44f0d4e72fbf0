-- The laws for crates above: pools after a step, owners, accounts, iterators, and trains. A file for each subject.
pub mod Steps
pub mod Owners
pub mod Accounts
pub mod Trains
pub mod Iterators
pub mod Maps
pub mod Lists
pub mod Two
