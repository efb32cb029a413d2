pub mod Faults
pub mod Calls
pub mod Table
pub mod Replay
