pub mod Buffers
pub mod Fronts
pub mod Answers
pub mod Expired
pub mod Replies
pub mod Plain
pub mod Inside
pub mod View
