pub mod Topics
pub mod Changes
