pub mod Overlays
pub mod Trail
pub mod Wire
pub mod Queue
pub mod Age
pub mod Ever
pub mod Progress
pub mod Places
