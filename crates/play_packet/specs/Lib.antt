pub mod Numbers
pub mod Marks
pub mod Ends
pub mod Forms
pub mod Builds
pub mod Reads
