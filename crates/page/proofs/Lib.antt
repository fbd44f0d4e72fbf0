mod Entries
mod Lines
