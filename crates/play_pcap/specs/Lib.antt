pub mod Acts
pub mod Asks
pub mod Events
pub mod Files
pub mod Results
pub mod Traces
