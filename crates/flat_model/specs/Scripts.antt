-- The script: its lines, what they request, and what is printed.
pub mod Errnos
pub mod Lines
pub mod Grammar
pub mod Texts
pub mod Script
