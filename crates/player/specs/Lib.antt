pub mod Faults
pub mod Steps
pub mod Sent
pub mod Play
