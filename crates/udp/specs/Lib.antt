pub mod Datagrams
pub mod Checked
pub mod Inside
