pub mod Points
pub mod Frames
pub mod Entries
pub mod Steps
pub mod Determined
pub mod Worked
pub mod Apart
